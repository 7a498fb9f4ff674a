use Rattle.std.proofs.Common.{◌≡◌, ◌≤◌, ◌<◌, ℕ, max}
use Rattle.md_bitmap.specs.Marks.{is_set}
use Rattle.md_array.proofs.mirror.is_alike.Given as goal

abbrev pub invariant-loop-chunk : goal.invariant-loop-chunk
invariant-loop-chunk l =
    record {
      alike : (c : ℕ) → l.first ≤ c → c < l.chunk → is_set l.stored.bytes c ≡ is_set l.marks.bytes c;
      last : l.chunk ≤ max l.first l.chunk-end;
    }
