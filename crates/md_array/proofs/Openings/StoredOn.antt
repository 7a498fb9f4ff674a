-- A member's marks are stored by the writes of its bitmap.
use Rattle.std.proofs.Common.{◌≡◌, ℕ, ◌*◌, List, length, Result, Ok, Err, OnOk, OnErr, refl}
use Rattle.md_device.specs.declared.device.Device.{Ghosts}
use Rattle.md_device.specs.Failing.{failed_write}
use Rattle.md_device.specs.Splice.{SameOutside}
use Rattle.md_device.proofs.Failing.{fails_just}
use Rattle.md_bitmap.specs.declared.header.BitmapHeader.{BitmapHeader}
use Rattle.md_members.specs.Areas.{bitmap_sectors}
use Rattle.md_members.specs.Reading.{BitmapStartsAt}
use Rattle.md_members.specs.DeviceWrites.Bitmaps.{bitmap_writes}
use Rattle.md_members.specs.DeviceWrites.Writes.{MakesWrites, Write}
use Rattle.md_state.specs.DeviceChanges.{StaysHonest}
use Rattle.md_state.proofs.Stays.{stays_written}
use Rattle.md_kept_members.specs.View.{MemberView}
use Rattle.md_state.specs.View.{ArrayView, disk_of}
use Rattle.md_state.specs.Headers.{IsHeaderFor}
use Rattle.md_array.specs.Open.Marks.{AreMarkWrites, FailsToStore, StoresMarksOn}

module _ {D : Type 0} (g : Ghosts D) (a : ArrayView) (m : MemberView) (start : ℕ) (h : BitmapHeader) (old new : D) (at : BitmapStartsAt m.superblock start) (is : IsHeaderFor a m h)
    (outside : SameOutside (512 * start) (512 * bitmap_sectors m.stored.chunks) (g.content old) (g.content new)) where
  writes_are : AreMarkWrites a m start (bitmap_writes start h m.stored (bitmap_sectors m.stored.chunks))
  writes_are = record { at = at; header = h; header_is = is; writes_are = refl }

  pub stores : {T E : Type 0} (result : Result T E) → MakesWrites g (bitmap_writes start h m.stored (bitmap_sectors m.stored.chunks)) old new result
      → OnOk result (StoresMarksOn a m (disk_of g old) (disk_of g new))
  stores (Ok x) does = record { start = start; writes = bitmap_writes start h m.stored (bitmap_sectors m.stored.chunks); are = writes_are; done = does.all_done; within = does.within; outside = outside }
  stores (Err e) stops = tt

  pub fails_to_store : {T E : Type 0} (result : Result T E) → MakesWrites g (bitmap_writes start h m.stored (bitmap_sectors m.stored.chunks)) old new result
      → OnErr result (FailsToStore a m (disk_of g old) (disk_of g new))
  fails_to_store (Ok x) does = tt
  fails_to_store (Err e) stops = record {
    start = start;
    writes = bitmap_writes start h m.stored (bitmap_sectors m.stored.chunks);
    are = writes_are;
    failed = stops.failed;
    made = stops.done;
    tried = stops.tried;
    rest = stops.rest;
    order = stops.order;
    there = fails_just (g.faults old) (g.faults new) (failed_write stops.tried.sector (length stops.tried.bytes)) (λ f. f ≡ failed_write stops.tried.sector (length stops.tried.bytes)) stops.tried_alone_failed refl;
    stopped = stops.outside;
    within = stops.within;
    outside = outside;
  }

-- whatever came of its writes
pub stays_made : {D : Type 0} (g : Ghosts D) (writes : List Write) (old new : D) {T E : Type 0} (result : Result T E) → MakesWrites g writes old new result → StaysHonest (disk_of g old) (disk_of g new)
stays_made g writes old new (Ok x) does = stays_written g old new does.kept
stays_made g writes old new (Err e) stops = stays_written g old new stops.kept
