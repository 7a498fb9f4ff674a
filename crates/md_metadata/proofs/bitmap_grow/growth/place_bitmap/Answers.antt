use Rattle.md_metadata.specs.Grow.Growth.{with_bitmap-supported}
use Rattle.md_metadata.proofs.bitmap_grow.growth.place_bitmap.Goals as goal

pub invariant_of-own : goal.invariant_of-own
invariant_of-own c =
    let was = c.args.own.now.in_profile in
    record {
      in_profile = record {
        features = with_bitmap-supported c.args.own.now.feature_map was.features;
        level_is = was.level_is;
        some_disks = was.some_disks;
        few_disks = was.few_disks;
        super_offset_is = was.super_offset_is;
      };
    }
