use Rattle.std.proofs.Common.{◌++◌, List, ℕ, subst}
use Rattle.md_streams.specs.Sink.{Puts}
use Rattle.md_streams.proofs.Puts.{puts_then}
use Rattle.md_messages.specs.Missing.{between_text}
use Rattle.md_messages.proofs.missing.sectors_line.Goals as goal

pub returns : goal.returns
returns g c =
    subst (λ (t : List ℕ). Puts g.S.Sink.contents g.S.Sink.failed c.args.out.now c.put.new.self (between_text c.args.first c.args.last ++ t)) c.after_several.ensures
    (puts_then g.S.Sink.contents g.S.Sink.failed c.in_ok-first_to_last.ensures c.in_ok-put.ensures)
