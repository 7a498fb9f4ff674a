-- What is kept in memory of a member that was read.
use Rattle.std.specs.Prelude.{◌≡◌, ℕ, cond, ◌&&◌, nat_lt, Some}
use Rattle.md_super.specs.declared.superblock.Superblock.{Superblock}
use Rattle.md_bitmap.specs.Marks.{is_set}
use Rattle.md_bitmap.specs.Sound.{chunk_count}
use Rattle.md_members.specs.declared.info.MemberInfo.{MemberInfo}
use Rattle.md_assembly.specs.declared.state.MemberState.{MemberState}
use Rattle.md_kept_members.specs.View.{MemberView}
use Rattle.md_assembly.specs.States.{is_recorded, is_recovering}
use Rattle.md_kept_members.specs.Members.{NeedsMarks}
use Rattle.md_kept_members.specs.OwnFields.{kept_superblock}

-- The recovery_offset of a recovering member counts only where its superblock is as new as the last clearing of marks: an older
-- one may not know of marks that are gone. (This project's own.)
abbrev pub known_offset : ℕ → MemberState → Superblock → ℕ
known_offset cleared state v = cond (is_recovering state && nat_lt v.events cleared) 0 v.recovery_offset

abbrev pub with_known_offset : ℕ → MemberView → MemberView
with_known_offset cleared m =
    record m {
      superblock = record m.superblock { recovery_offset = known_offset cleared m.state m.superblock };
      offset = known_offset cleared m.state m.superblock;
    }

-- What is kept of a member in this state, of an array at these events, in which marks were last cleared at those. Where its bitmap
-- counts as all marks, all are stored.
pub record IsKept (events cleared : ℕ) (info : MemberInfo) (state : MemberState) (m : MemberView) : Type 0 where
  pub superblock : m.superblock ≡ record (kept_superblock info) { recovery_offset = known_offset cleared state info.superblock }
  pub header : info.header ≡ Some m.header
  pub bad : m.bad ≡ info.bad
  pub state_is : m.state ≡ state
  pub due : m.due ≡ is_recorded state && nat_lt info.superblock.events events
  pub offset : m.offset ≡ known_offset cleared state info.superblock
  pub stored_offset : m.stored_offset ≡ info.superblock.recovery_offset
  pub chunks : m.stored.chunks ≡ chunk_count info.superblock.size m.header.chunksize
  pub all_marks : NeedsMarks m → (c : ℕ) → is_set m.stored.bytes c ≡ nat_lt c m.stored.chunks
  pub its_marks : (NeedsMarks m → ⊥) → info.marks ≡ Some m.stored
