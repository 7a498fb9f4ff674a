use Rattle.std.proofs.Common.{◌++◌, List, ℕ, subst}
use Rattle.std.specs.Prelude.{codes, decimal}
use Rattle.md_streams.specs.Sink.{Puts}
use Rattle.md_streams.proofs.Puts.{puts_then}
use Rattle.md_messages.proofs.missing.put_count.Goals as goal

pub returns : goal.returns
returns g c =
    subst (λ (t : List ℕ). Puts g.S.Sink.contents g.S.Sink.failed c.args.out.now c.put.new.self ((codes "mdcli: " ++ decimal c.args.sectors) ++ (codes " sectors in " ++ decimal c.args.runs) ++ t)) c.after_count.ensures
    (puts_then g.S.Sink.contents g.S.Sink.failed (puts_then g.S.Sink.contents g.S.Sink.failed c.in_ok-number_after.ensures c.in_ok-number_after-2.ensures) c.in_ok-put.ensures)
