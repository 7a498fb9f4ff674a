-- A member's own fields of its superblock, as they are stored next: those that were read, but for what they say of the
-- bad block log. That is this project's own.
use Rattle.std.specs.Prelude.{◌≡◌, ◌==◌, ℕ, Bool, not, bit_and, bit_or, List, [], ◌∷◌, if◌then◌else◌, refl}
use Rattle.std.proofs.Common.{◌∙◌}
use Rattle.std.proofs.lemmas.Nat.{and_assoc, and_or_apart}
use Rattle.md_super.specs.declared.superblock.Superblock.{Superblock}
use Rattle.md_super.specs.Profile.{unsupported_features}
use Rattle.md_badblocks.specs.declared.run.Run.{Run}
use Rattle.md_members.specs.declared.info.MemberInfo.{MemberInfo}
use Rattle.md_members.specs.Members.{reads_log}

-- The feature map beside this list of bad blocks: it has BAD_BLOCKS exactly where the list is not empty.
abbrev pub with_list : List Run → ℕ → ℕ
with_list [] feature_map = bit_and feature_map 0xffff_fff7
with_list (run ∷ runs) feature_map = bit_or feature_map 8

pub with_list-supported : (bad : List Run) (feature_map : ℕ) → unsupported_features feature_map ≡ 0 → unsupported_features (with_list bad feature_map) ≡ 0
with_list-supported [] feature_map none = and_assoc 0xffff_fff4 feature_map 0xffff_fff7 ∙ none
with_list-supported (run ∷ runs) feature_map none = and_or_apart 0xffff_fff4 feature_map 8 refl ∙ none

-- the shift of a log that was read, until the log is stored; 0 where none was
abbrev pub kept_shift : Superblock → ℕ
kept_shift v = if reads_log v then v.bblog_shift else 0

-- a superblock beside which this list was read, as it is stored next
abbrev pub stored_next : List Run → Superblock → Superblock
stored_next bad v = record v {
  feature_map = with_list bad v.feature_map;
  bblog_shift = kept_shift v;
  in_profile = record {
    features = with_list-supported bad v.feature_map v.in_profile.features;
    level_is = v.in_profile.level_is;
    some_disks = v.in_profile.some_disks;
    few_disks = v.in_profile.few_disks;
    super_offset_is = v.in_profile.super_offset_is;
  };
}

-- the superblock that is kept of a member that was read
abbrev pub kept_superblock : MemberInfo → Superblock
kept_superblock info = stored_next info.bad info.superblock

-- the member is read only where no other can serve (WriteMostly1 of md_p.h, "mask for writemostly flag in above")
abbrev pub is_write_mostly : Superblock → Bool
is_write_mostly v = not (bit_and v.devflags 1 == 0)
