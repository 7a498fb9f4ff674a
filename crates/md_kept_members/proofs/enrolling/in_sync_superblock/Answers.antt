use Rattle.std.proofs.Common.{◌≡◌, ℕ, bit_and, sym, subst}
use Rattle.md_super.specs.Profile.{unsupported_features}
use Rattle.md_kept_members.specs.Enrolling.{whole-supported}
use Rattle.md_kept_members.specs.OwnFields.{with_list-supported}
use Rattle.md_kept_members.proofs.enrolling.in_sync_superblock.Goals as goal

pub invariant_of-next : goal.invariant_of-next
invariant_of-next c =
    let v = c.args.v in
    record {
      in_profile = record {
        features = subst (λ (n : ℕ). unsupported_features n ≡ 0) (sym c.with_list.ensures)
            (with_list-supported c.args.list.now (bit_and v.feature_map 0xffff_fffd) (whole-supported v.feature_map v.in_profile.features));
        level_is = v.in_profile.level_is;
        some_disks = v.in_profile.some_disks;
        few_disks = v.in_profile.few_disks;
        super_offset_is = v.in_profile.super_offset_is;
      };
    }
