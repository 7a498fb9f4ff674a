use Rattle.std.proofs.Common.{ℕ, List, subst, sym}
use Rattle.md_streams.specs.Sink.{Puts}
use Rattle.md_streams.proofs.Puts.{puts_then}
use Rattle.md_examine_commands.proofs.PlainWords.{quoted_word}
use Rattle.md_examine_commands.proofs.scan.refused_list.put_quoted_word.Goals as goal

pub returns : goal.returns
returns g c =
    let P : List ℕ → Type 0 = λ t. Puts g.S.Sink.contents g.S.Sink.failed c.args.out.now c.put-2.new.self t in
    subst P (sym (quoted_word c.args.fault.now))
    (puts_then g.S.Sink.contents g.S.Sink.failed (puts_then g.S.Sink.contents g.S.Sink.failed c.in_ok-put.ensures c.in_ok-put_word.ensures) c.in_ok-put-2.ensures)
