use Rattle.std.proofs.Common.{◌≡◌, ◌∙◌, ℕ, ◌+◌, ◌&&◌, Bool, true, sym, ap}
use Rattle.md_kept_members.specs.SectorLists.{in_runs}
use Rattle.md_notices.proofs.LostLists.{in_sync_more, out_of_sync_more}
use Rattle.md_notices.proofs.lost_sectors.stretch_with.Goals as goal

pub returns-else-is_in_sync-clause-alike : goal.returns-else-is_in_sync-clause-alike
returns-else-is_in_sync-clause-alike g c s low high before =
    let members = c.args.mirror.now.array.members in
    out_of_sync_more members c.args.k c.state.result c.requires.within c.state.ensures (sym c.is_in_sync.ensures ∙ c.if-is_in_sync.false) s ∙ before

pub returns-then-is_in_sync-clause-alike : goal.returns-then-is_in_sync-clause-alike
returns-then-is_in_sync-clause-alike g c s low high before =
    let members = c.args.mirror.now.array.members in
    in_sync_more members c.args.k c.state.result c.own.result.now c.bad.result.now c.requires.within c.state.ensures c.own.ensures c.bad.ensures (sym c.is_in_sync.ensures ∙ c.if-is_in_sync.true) s
    ∙ ap (λ (b : Bool). b && in_runs c.bad.result.now (c.own.result.now.data_offset + s)) before
    ∙ ap (λ (b : Bool). c.args.before.0 && b) (c.stretch_in-own.ensures.alike s low high)
    ∙ sym c.both.ensures
