use Rattle.std.proofs.Common.{◌≢◌, ◌≤◌, length}
use Rattle.std.specs.List.{AllWithin}
use Rattle.md_cert.specs.Plans.{IsPlanned}
use Rattle.md_cert.proofs.SideBySide.{AreBelow}
use Rattle.md_cert.proofs.coverage.first_uncovered.Given as goal

abbrev pub invariant-loop-row : goal.invariant-loop-row
invariant-loop-row l = record {
  within : l.at ≤ length l.slots;
  front : AreBelow (λ s. s.chunk) (λ r. r.chunk) l.slots l.at l.rows l.row-index;
  covered : AllWithin (λ r. r.mask ≢ 0 → IsPlanned l.slots r.chunk) l.rows 0 l.row-index;
}
