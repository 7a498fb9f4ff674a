use Rattle.std.proofs.Common.{sym}
use Rattle.std.proofs.lemmas.List.{map_push}
use Rattle.md_metadata.specs.Grow.Growth.{with_bitmap}
use Rattle.md_metadata.proofs.bitmap_grow.growth.with_bitmaps.Goals as goal

pub loop-info-preserved : goal.loop-info-preserved
loop-info-preserved c =
    rw (c.in_ok-push.ensures.items, c.loop-info.invariant, c.with_bitmap.ensures) (sym (map_push (with_bitmap c.args.header.now c.args.start) c.loop-info.yielded c.in-Some.info))
