use Rattle.std.proofs.Common.{List, ℕ, subst}
use Rattle.md_streams.proofs.Puts.{puts_then}
use Rattle.md_streams.specs.Sink.{Puts}
use Rattle.md_messages.specs.RefusedLines.{perhaps_listed_text}
use Rattle.md_messages.proofs.refused_lines.perhaps_listed_line.Goals as goal

pub returns : goal.returns
unfolding perhaps_listed_text
returns g c =
    let P : List ℕ → Type 0 = λ t. Puts g.S.Sink.contents g.S.Sink.failed c.number_after.new.out c.put-2.new.self t in
    let named = puts_then g.S.Sink.contents g.S.Sink.failed c.in_ok-put.ensures c.in_ok-put_name.ensures in
    let counted = puts_then g.S.Sink.contents g.S.Sink.failed named c.in_ok-number_after.ensures in
    let which = puts_then g.S.Sink.contents g.S.Sink.failed counted (subst P c.good_ones.ensures c.in_ok-put-2.ensures) in
    puts_then g.S.Sink.contents g.S.Sink.failed which c.in_ok-put-3.ensures
