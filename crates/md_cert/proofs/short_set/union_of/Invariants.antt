use Rattle.std.proofs.Common.{◌≡◌, ◌≢◌, ◌≤◌, ℕ, length, take}
use Rattle.std.specs.List.{AllWithin}
use Rattle.md_cert.specs.Assignments.{gives_any}
use Rattle.md_cert.specs.Sources.{has}
use Rattle.md_cert.specs.Tables.{mask_of_chunk}
use Rattle.md_cert.proofs.SideBySide.{AreBelow}
use Rattle.md_cert.proofs.short_set.union_of.Given as goal

abbrev pub invariant-loop-chunk : goal.invariant-loop-chunk
invariant-loop-chunk l = record {
  within : l.at ≤ length l.rows;
  front : AreBelow (λ r. r.chunk) (λ n. n) l.rows l.at l.chunks l.chunk-index;
  given : AllWithin (λ chunk. mask_of_chunk l.rows chunk ≢ 0) l.chunks 0 l.chunk-index;
  sources : (s : ℕ) → has l.union s ≡ gives_any l.rows (take l.chunk-index l.chunks) s;
}
