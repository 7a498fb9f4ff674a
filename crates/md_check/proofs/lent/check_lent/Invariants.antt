use Rattle.std.proofs.Common.{◌≡◌, ◌+◌, ◌-◌, ◌*◌, ◌<◌, ◌≤◌, ℕ, length, min, slice_index_or, take}
use Rattle.std.specs.List.{All}
use Rattle.md_check.specs.Differences.{AreCompared, KeepsPairs}
use Rattle.md_check.specs.Readings.{IsLead}
use Rattle.md_check.specs.Readers.{AreReadersHonest, AreReadersRead, HaveNotFailed, ReaderShows, on_device}
use Rattle.md_check.specs.Told.{IsToldOfReader}
use Rattle.md_check.proofs.lent.check_lent.Given as goal

abbrev pub decreases-loop-from : goal.decreases-loop-from
decreases-loop-from g l = 2 * (l.chunks.size - l.from) - l.sectors

abbrev pub invariant-loop-from : goal.invariant-loop-from
invariant-loop-from g l = record {
  few : l.from + l.sectors ≤ l.chunks.size;
  short : l.sectors ≤ 4096;
  read : AreReadersRead g.D.Device l.fn.readers.items l.readers.items;
  unfailing : HaveNotFailed g.D.Device (length l.fn.readers.items) l.fn.readers.items l.readers.items;
  room : All (λ reader. 512 * min 4096 l.chunks.size ≤ length reader.bytes.items) l.readers.items;
  lead_room : 512 * min 4096 l.chunks.size ≤ length l.lead.items;
  lead : (k : ℕ) (d : _) → k < length l.readers.items → k ≡ l.first → IsLead g.D.Device l.from (take (512 * l.sectors) l.lead.items) (slice_index_or l.readers.items k d);
  kept : KeepsPairs l.fn.found l.found;
  compared : AreReadersHonest g.D.Device l.fn.readers.items → AreCompared (ReaderShows (on_device g.D.Device) l.fn.readers.items) l.chunks l.from l.found;
  told : All (λ reader. IsToldOfReader g.G.Gate l.gate l.chunks 0 l.from reader) l.fn.readers.items;
  told_ahead : (k : ℕ) (d : _) → k < length l.fn.readers.items → k ≡ l.first → IsToldOfReader g.G.Gate l.gate l.chunks 0 (l.from + l.sectors) (slice_index_or l.fn.readers.items k d);
}
