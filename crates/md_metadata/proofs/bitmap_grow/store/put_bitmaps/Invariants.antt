use Rattle.std.proofs.Common.{◌≡◌, length, map}
use Rattle.md_state.specs.View.{disk_of}
use Rattle.md_metadata.specs.Grow.Stored.{GetsBitmap}
use Rattle.md_metadata.proofs.GrowLemmas.StoredEach.{AreDoneTo}
use Rattle.md_metadata.proofs.bitmap_grow.store.put_bitmaps.Given as goal

abbrev pub invariant-loop-k : goal.invariant-loop-k
invariant-loop-k g l =
    let disks = map (disk_of g.D.Device) in
    record {
      done : AreDoneTo (λ k. GetsBitmap l.growth) (disks l.fn.devices) (disks l.devices) l.k;
      size : length l.devices ≡ length l.fn.devices;
    }
