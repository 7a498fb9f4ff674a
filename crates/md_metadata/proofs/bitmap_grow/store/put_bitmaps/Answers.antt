use Rattle.std.proofs.Common.{arith, ◌≡◌, ◌∙◌, ◌+◌, ◌<◌, sym, map, length, List, refl, subst, get_or, length-set}
use Rattle.std.proofs.lemmas.List.{length-map, map-set}
use Rattle.md_state.specs.View.{Disk, disk_of}
use Rattle.md_metadata.specs.Grow.Growing.{EndsInBitmaps}
use Rattle.md_metadata.specs.Grow.Stored.{FailsInPart, GetsBitmap, bitmap_part}
use Rattle.md_array.proofs.General.Answered.{err_gives, ok_gives}
use Rattle.md_array.proofs.Openings.DevicesInTurn.{disk_at}
use Rattle.md_metadata.proofs.GrowLemmas.StoredEach.{AreDoneTo, done_all, done_more, done_none, ends_at_device}
use Rattle.md_metadata.proofs.bitmap_grow.store.put_bitmaps.Goals as goal

pub put_bitmap-requires-clause-room : goal.put_bitmap-requires-clause-room
put_bitmap-requires-clause-room g c =
    let disk = disk_of g.D.Device in
    let d = disk (get_or c.loop-k.devices c.loop-k.k c.index-devices-k.result) in
    let here = disk_at disk c.loop-k.devices c.loop-k.k c.index-devices-k.result (omega arith) in
    c.requires.room c.loop-k.k d (c.loop-k.invariant.done.rest c.loop-k.k d (omega arith) here)

pub returns-then-is_err : goal.returns-then-is_err
returns-then-is_err g c =
    let disk = disk_of g.D.Device in
    let w = c.args.growth.now in
    let d = disk (get_or c.loop-k.devices c.loop-k.k c.index-devices-k.result) in
    let e = disk c.put_bitmap.new.device in
    let here = disk_at disk c.loop-k.devices c.loop-k.k c.index-devices-k.result (omega arith) in
    subst (λ (after : List Disk). EndsInBitmaps w (map disk c.args.devices.now) after c.loop-k.k) (sym (map-set disk c.loop-k.devices c.loop-k.k c.put_bitmap.new.device))
    (ends_at_device (λ k. GetsBitmap w) (map disk c.args.devices.now) (map disk c.loop-k.devices) c.loop-k.k d e c.loop-k.invariant.done here c.put_bitmap.ensures.stays
    (λ k. FailsInPart w (bitmap_part w)) (err_gives c.put_bitmap.result (FailsInPart w (bitmap_part w) d e) c.if-is_err.ensures.value c.put_bitmap.ensures.fails))

pub loop-k-preserved : goal.loop-k-preserved
loop-k-preserved g c =
    let disk = disk_of g.D.Device in
    let w = c.args.growth.now in
    let d = disk (get_or c.loop-k.devices c.loop-k.k c.index-devices-k.result) in
    let e = disk c.put_bitmap.new.device in
    let here = disk_at disk c.loop-k.devices c.loop-k.k c.index-devices-k.result (omega arith) in
    record {
      done = subst (λ (after : List Disk). AreDoneTo (λ k. GetsBitmap w) (map disk c.args.devices.now) after (c.loop-k.k + 1)) (sym (map-set disk c.loop-k.devices c.loop-k.k c.put_bitmap.new.device))
          (done_more (λ k. GetsBitmap w) (map disk c.args.devices.now) (map disk c.loop-k.devices) c.loop-k.k d e c.loop-k.invariant.done here c.put_bitmap.ensures.stays
          (ok_gives c.put_bitmap.result (GetsBitmap w d e) c.if-is_err.ensures.value c.put_bitmap.ensures.ok));
      size = length-set c.loop-k.devices c.loop-k.k c.put_bitmap.new.device ∙ c.loop-k.invariant.size;
    }

pub loop-k-init : goal.loop-k-init
loop-k-init g c = record { done = done_none (λ k. GetsBitmap c.args.growth.now) (map (disk_of g.D.Device) c.args.devices.now); size = refl }

pub returns : goal.returns
returns g c =
    let disk = disk_of g.D.Device in
    done_all (λ k. GetsBitmap c.args.growth.now) (map disk c.args.devices.now) (map disk c.loop-k.devices) c.loop-k.k c.loop-k.invariant.done (omega (arith, length-map c.loop-k.devices disk))
