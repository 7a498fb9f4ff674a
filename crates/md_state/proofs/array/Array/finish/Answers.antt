use Rattle.std.proofs.Common.{◌≡◌, refl}
use Rattle.md_inflight.specs.Inflight.{InflightList, entries_without}
use Rattle.md_inflight.specs.Requests.Pending.{PendingView}
use Rattle.md_inflight.specs.declared.requests.extent.Extent.{Extent}
use Rattle.md_state.specs.View.{ArrayView}
use Rattle.md_state.specs.Steps.Finish.{Finishes, MayFinish}
use Rattle.md_state.proofs.array.Array.finish.Goals as goal

finished : (a : ArrayView) (p : PendingView) (left : InflightList Extent) (disks : _) → MayFinish a p → left.name ≡ a.requests.name → left.entries ≡ entries_without a.requests.entries p.ticket.number → left.next ≡ a.requests.next
    → Finishes (record { disks = disks; array = a }) (record { disks = disks; array = record a { requests = left } }) p
finished a p left disks may name entries next = record { may = may; disks = refl; array = rw (name, entries, next) refl }

pub returns : goal.returns
returns c disks =
    let may = c.in_default.ensures disks in
    rw (← c.self.view_is) (finished _ c.args.pending c.remove.new.self disks (rw c.self.view_is may) c.remove.ensures.name (rw c.ticket_of.ensures at c.remove.ensures.entries) c.remove.ensures.next)
