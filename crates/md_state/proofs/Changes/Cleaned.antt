-- An array that is made clean, in memory.
use Rattle.std.proofs.Common.{◌≡◌, ap, ◌∙◌}
use Rattle.md_super.specs.Profile.{IsProfile}
use Rattle.md_super.specs.declared.superblock.Superblock.{Superblock}
use Rattle.md_state.specs.View.{ArrayView}
use Rattle.md_state.specs.Members.{clean_offset}
use Rattle.md_state.specs.Steps.MakeClean.{with_clean}
use Rattle.md_kept_members.proofs.MembershipLemmas.Profiles.{same_profile}

-- the array that is written is the one that was risen, but for its offset
pub cleaned : (b a : ArrayView) (p : IsProfile b.shared.feature_map b.shared.level b.shared.raid_disks b.shared.super_offset) → b ≡ a
    → record b { shared = record b.shared { resync_offset = clean_offset; in_profile = p } } ≡ with_clean a
cleaned b a p is = ap (λ (v : Superblock). record b { shared = v }) (same_profile (record b.shared { resync_offset = clean_offset }) p) ∙ ap with_clean is
