use Rattle.std.proofs.Common.{◌∙◌, ap, sym, Some}
use Rattle.md_report.proofs.Recoveries.{is_nowhere, is_so_far, state_at}
use Rattle.md_report.proofs.recovery.recovery_at.Goals as goal

pub returns-then-is_recovering : goal.returns-then-is_recovering
returns-then-is_recovering g c m at =
    let a = c.args.mirror.now.array in
    let same = state_at a.members c.args.k m c.state.result at c.state.ensures in
    ap Some (c.recovery_of.ensures m at) ∙ is_so_far a c.args.k m c.state.result same (sym c.is_recovering.ensures ∙ c.if-is_recovering.true)

pub returns-else-is_recovering : goal.returns-else-is_recovering
returns-else-is_recovering g c m at =
    let a = c.args.mirror.now.array in
    let same = state_at a.members c.args.k m c.state.result at c.state.ensures in
    is_nowhere a c.args.k m c.state.result same (sym c.is_recovering.ensures ∙ c.if-is_recovering.false)
