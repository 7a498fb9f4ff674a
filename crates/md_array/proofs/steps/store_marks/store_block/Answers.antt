use Rattle.std.proofs.Common.{◌≡◌, ◌*◌, ◌+◌, sym, ap, subst}
use Rattle.md_device.specs.Splice.{SameOutside}
use Rattle.md_members.specs.Reading.{BitmapStartsAt}
use Rattle.md_members.specs.DeviceWrites.Bitmaps.{bitmap_write}
use Rattle.md_bitmap.proofs.Blocks.{length-bitmap_sector}
use Rattle.md_kept_members.specs.View.{MemberView}
use Rattle.md_state.specs.View.{ArrayView}
use Rattle.md_array.proofs.steps.store_marks.store_block.Goals as goal

pub returns : goal.returns
returns g c =
    let start = c.bitmap_start-start.result in
    let h = c.header_for-header.result in
    let marks = c.array.inside.marks in
    let same : marks ≡ c.args.array.now.marks = ap (λ (a : ArrayView). a.marks) c.array.view_is in (
      bitmap_write start h marks c.args.block,
      record {
        start = start;
        starts = subst (λ (m : MemberView). BitmapStartsAt m.superblock start) c.member.view_is c.bitmap_start-start.ensures;
        header = h;
        header_is = c.header_for-header.ensures;
        is = ap (λ marks. bitmap_write start h marks c.args.block) same;
      },
      c.store_bitmap_sector.ensures.writes,
      subst (λ n. SameOutside (512 * (start + c.args.block)) n (g.D.Device.content c.args.device.now) (g.D.Device.content c.store_bitmap_sector.new.device)) (sym (length-bitmap_sector h marks c.args.block))
          c.store_bitmap_sector.ensures.outside,
    )
