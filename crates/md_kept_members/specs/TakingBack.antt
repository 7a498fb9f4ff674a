-- What is kept in memory of a device that left, and is taken back.
use Rattle.std.specs.Prelude.{◌≡◌, ℕ, Bool, false, bit_or, cond, ◌&&◌, ◌||◌, min, nat_lt, Some, refl}
use Rattle.std.proofs.Common.{◌∙◌}
use Rattle.std.proofs.lemmas.Nat.{and_or_apart}
use Rattle.md_super.specs.declared.superblock.Superblock.{Superblock}
use Rattle.md_super.specs.Profile.{unsupported_features}
use Rattle.md_members.specs.declared.info.MemberInfo.{MemberInfo}
use Rattle.md_assembly.specs.declared.state.MemberState.TheVariants.{Recovering}
use Rattle.md_assembly.specs.States.{is_recovering, role_in}
use Rattle.md_kept_members.specs.View.{MemberView}
use Rattle.md_kept_members.specs.OwnFields.{kept_superblock}

pub recovering-supported : (feature_map : ℕ) → unsupported_features feature_map ≡ 0 → unsupported_features (bit_or feature_map 2) ≡ 0
recovering-supported feature_map none = and_or_apart 0xffff_fff4 feature_map 2 refl ∙ none

-- the superblock of a member that is rebuilt, which is known to be done up to this sector of the array (RECOVERY_OFFSET of md_p.h)
abbrev pub recovering : ℕ → Superblock → Superblock
recovering offset v = record v {
  feature_map = bit_or v.feature_map 2;
  recovery_offset = offset;
  in_profile = record {
    features = recovering-supported v.feature_map v.in_profile.features;
    level_is = v.in_profile.level_is;
    some_disks = v.in_profile.some_disks;
    few_disks = v.in_profile.few_disks;
    super_offset_is = v.in_profile.super_offset_is;
  };
}

-- the role that its own superblock gives it
abbrev pub own_role : Superblock → ℕ
own_role v = role_in v v.dev_number

-- What is kept of it: its bitmap and its log as they were read, and of its superblock what is written next. That is what is done
-- first, so that its superblock is not due. It says that the member has nothing: a kernel goes by it also where the others were written
-- to before they tell of this member.
pub record IsKeptTakenBack (offset : ℕ) (info : MemberInfo) (m : MemberView) : Type 0 where
  pub superblock : m.superblock ≡ recovering 0 (kept_superblock info)
  pub header : info.header ≡ Some m.header
  pub stored : info.marks ≡ Some m.stored
  pub bad : m.bad ≡ info.bad
  pub state : m.state ≡ Recovering (own_role info.superblock)
  pub due : m.due ≡ false
  pub offset_is : m.offset ≡ offset
  pub stored_offset : m.stored_offset ≡ 0

-- ---- a spare that is admitted, and how far it is rebuilt
-- A spare is recovering in a role from now on, and nothing of it is done. Its superblock is written first, so
-- that it is not due.
abbrev pub admitted_member : ℕ → MemberView → MemberView
admitted_member role m = record m { superblock = recovering 0 m.superblock; state = Recovering role; due = false; offset = 0; stored_offset = 0 }

-- A member is rebuilt up to the one sector, and surely has all before the other: its superblock is to say so, with RECOVERY_OFFSET as
-- it is kept.
abbrev pub with_offsets : (offset sure : ℕ) → MemberView → MemberView
with_offsets offset sure m = record m { superblock = record m.superblock { recovery_offset = sure }; offset = offset }

-- ---- data are about to change
-- A member is recovering, and its superblock says that it has this sector.
abbrev pub member_says_of : ℕ → MemberView → Bool
member_says_of sector m = is_recovering m.state && nat_lt sector m.stored_offset

-- Data are about to change from a sector on: a recovering member surely has no more than what is before it. Where its superblock says
-- more, that is due.
abbrev pub lowered_member : ℕ → MemberView → MemberView
lowered_member sector m =
    record m {
      superblock = record m.superblock { recovery_offset = cond (is_recovering m.state) (min m.superblock.recovery_offset sector) m.superblock.recovery_offset };
      due = member_says_of sector m || m.due;
    }
