use Rattle.md_kept_members.specs.TakingBack.{recovering-supported}
use Rattle.md_kept_members.proofs.taking_back.recovering.Goals as goal

pub invariant_of-next : goal.invariant_of-next
invariant_of-next c =
    let v = c.args.v in
    record {
      in_profile = record {
        features = recovering-supported v.feature_map v.in_profile.features;
        level_is = v.in_profile.level_is;
        some_disks = v.in_profile.some_disks;
        few_disks = v.in_profile.few_disks;
        super_offset_is = v.in_profile.super_offset_is;
      };
    }
