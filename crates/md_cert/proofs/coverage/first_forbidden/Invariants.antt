use Rattle.std.proofs.Common.{◌≡◌, ◌≤◌, true, length}
use Rattle.std.specs.List.{AllWithin}
use Rattle.md_cert.specs.Sources.{has}
use Rattle.md_cert.specs.Tables.{mask_of_chunk}
use Rattle.md_cert.proofs.SideBySide.{AreBelow}
use Rattle.md_cert.proofs.coverage.first_forbidden.Given as goal

abbrev pub invariant-loop-slot : goal.invariant-loop-slot
invariant-loop-slot l = record {
  within : l.at ≤ length l.rows;
  front : AreBelow (λ r. r.chunk) (λ s. s.chunk) l.rows l.at l.slots l.slot-index;
  allowed : AllWithin (λ s. has (mask_of_chunk l.rows s.chunk) s.source ≡ true) l.slots 0 l.slot-index;
}
