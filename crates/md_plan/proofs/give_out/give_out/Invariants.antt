use Rattle.std.proofs.Common.{◌≡◌, take}
use Rattle.md_cert.specs.Tables.{orphans_of}
use Rattle.md_plan.specs.Slots.{AreCountsLeft, IsSlotting}
use Rattle.md_plan.proofs.give_out.give_out.Given as goal

abbrev pub invariant-loop-i : goal.invariant-loop-i
invariant-loop-i l = record {
  left : AreCountsLeft l.rows l.i l.fn.cells.items l.cells.items l.used;
  slotting : IsSlotting l.rows l.i l.slots.items l.used;
  orphans_are : l.orphans.items ≡ orphans_of (take l.i l.rows);
}
