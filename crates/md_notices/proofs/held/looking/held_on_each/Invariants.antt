use Rattle.std.proofs.Common.{◌≤◌, length, map, vec_capacity}
use Rattle.md_state.specs.View.{disk_of}
use Rattle.md_notices.proofs.HeldLemmas.Looked.{AreLookedAt}
use Rattle.md_notices.proofs.held.looking.held_on_each.Given as goal

abbrev pub invariant-loop-place : goal.invariant-loop-place
invariant-loop-place g l = record {
  looked : AreLookedAt (map (disk_of g.D.Device) l.fn.devices) (map (disk_of g.D.Device) l.devices) l.held.items l.place;
  room : length l.fn.devices ≤ vec_capacity l.held;
}
