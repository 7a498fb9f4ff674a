-- What is kept in memory of a member that was rebuilt, and comes into sync: its list, and its own fields (this project's own).
use Rattle.std.specs.Prelude.{◌≡◌, ◌⊎◌, ◌↔◌, ℕ, ◌+◌, ◌*◌, ◌^◌, ◌<◌, ◌≤◌, true, false, bit_and, cond, List}
use Rattle.std.proofs.Common.{◌∙◌}
use Rattle.std.proofs.lemmas.Nat.{and_assoc}
use Rattle.md_super.specs.declared.superblock.Superblock.{Superblock}
use Rattle.md_super.specs.Log.{has_bad_block_log}
use Rattle.md_super.specs.Profile.{unsupported_features}
use Rattle.md_bitmap.specs.declared.chunks.Chunks.{Chunks}
use Rattle.md_bitmap.specs.Chunks.{InChunk}
use Rattle.md_bitmap.specs.Marks.{Bitmap, is_set}
use Rattle.md_badblocks.specs.declared.run.Run.{Run}
use Rattle.md_badblocks.specs.Runs.{IsBad, IsCanonical, entries_needed}
use Rattle.md_assembly.specs.declared.state.MemberState.TheVariants.{InSync}
use Rattle.md_kept_members.specs.OwnFields.{with_list, with_list-supported}
use Rattle.md_kept_members.specs.View.{MemberView}

-- ---- its list
-- a chunk has this sector of a device on which the array's sectors begin at an offset
pub record IsOfChunk (chunks : Chunks) (offset chunk sector : ℕ) : Type 0 where
  pub at : ℕ
  pub inside : InChunk chunks.sectors chunks.size chunk at
  pub is : sector ≡ offset + at

-- One of the first n chunks of the set has the sector.
pub record IsOfFirst (n : ℕ) (chunks : Chunks) (offset : ℕ) (set : Bitmap) (sector : ℕ) : Type 0 where
  pub chunk : ℕ
  pub early : chunk < n
  pub in_set : is_set set.bytes chunk ≡ true
  pub of_chunk : IsOfChunk chunks offset chunk sector

-- A chunk of the set has the sector.
abbrev pub IsOf : Chunks → ℕ → Bitmap → ℕ → Type 0
IsOf chunks offset set sector = IsOfFirst set.chunks chunks offset set sector

-- The sectors of the first n of these chunks are taken from a list.
pub record AreRemovedTo (n : ℕ) (chunks : Chunks) (offset : ℕ) (set : Bitmap) (old new : List Run) : Type 0 where
  pub canonical : IsCanonical new
  pub bad : (sector : ℕ) → IsBad new sector ↔ (IsBad old sector × (IsOfFirst n chunks offset set sector → ⊥))

abbrev pub AreRemoved : Chunks → ℕ → Bitmap → List Run → List Run → Type 0
AreRemoved chunks offset set old new = AreRemovedTo set.chunks chunks offset set old new

-- The sectors of the first n chunks of a set are added to a list. No list has sectors from 2^54 on, and no
-- device.
pub record AreAddedTo (n : ℕ) (chunks : Chunks) (offset : ℕ) (set : Bitmap) (old new : List Run) : Type 0 where
  pub canonical : IsCanonical new
  pub bad : (sector : ℕ) → IsBad new sector ↔ (IsBad old sector ⊎ (IsOfFirst n chunks offset set sector × (sector < 2 ^ 54)))

abbrev pub AreAdded : Chunks → ℕ → Bitmap → List Run → List Run → Type 0
AreAdded chunks offset set old new = AreAddedTo set.chunks chunks offset set old new

-- The list of a member of which these chunks were copied, and those, the orphans, nobody had: its list before, less the sectors of
-- the former, and with those of the latter. A list is that of the maximal runs of its sectors, so that no other is such.
pub record IsListAfter (chunks : Chunks) (m : MemberView) (copied orphans : Bitmap) (list : List Run) : Type 0 where
  pub canonical : IsCanonical list
  pub bad : (sector : ℕ) → IsBad list sector
      ↔ ((IsBad m.bad sector × (IsOf chunks m.superblock.data_offset copied sector → ⊥)) ⊎ (IsOf chunks m.superblock.data_offset orphans sector × (sector < 2 ^ 54)))

-- The list of a member with the sectors of a chunk. Again no other is such.
pub record IsListWith (chunks : Chunks) (chunk : ℕ) (m : MemberView) (list : List Run) : Type 0 where
  pub canonical : IsCanonical list
  pub bad : (sector : ℕ) → IsBad list sector ↔ (IsBad m.bad sector ⊎ (IsOfChunk chunks m.superblock.data_offset chunk sector × (sector < 2 ^ 54)))

-- how many entries its log has room for: 64 a sector, and none where there is no log
abbrev pub log_room : Superblock → ℕ
log_room v = cond (has_bad_block_log v) (64 * v.bblog_size) 0

-- the log has room for the list
abbrev pub HasRoomFor : Superblock → List Run → Type 0
HasRoomFor v list = entries_needed list ≤ log_room v

-- ---- its own fields
pub whole-supported : (feature_map : ℕ) → unsupported_features feature_map ≡ 0 → unsupported_features (bit_and feature_map 0xffff_fffd) ≡ 0
whole-supported feature_map none = and_assoc 0xffff_fff4 feature_map 0xffff_fffd ∙ none

-- The superblock of a member that holds all of the array but for what this list says. Its feature map has no
-- RECOVERY_OFFSET, and BAD_BLOCKS exactly where the list is not empty. The log is stored without a shift.
abbrev pub in_sync_superblock : List Run → Superblock → Superblock
in_sync_superblock list v = record v {
  feature_map = with_list list (bit_and v.feature_map 0xffff_fffd);
  recovery_offset = 0;
  bblog_shift = 0;
  in_profile = record {
    features = with_list-supported list (bit_and v.feature_map 0xffff_fffd) (whole-supported v.feature_map v.in_profile.features);
    level_is = v.in_profile.level_is;
    some_disks = v.in_profile.some_disks;
    few_disks = v.in_profile.few_disks;
    super_offset_is = v.in_profile.super_offset_is;
  };
}

-- The superblock of a member in sync beside which its log is stored: BAD_BLOCKS in the feature map tells of
-- the log, which has no shift.
abbrev pub logged_superblock : List Run → Superblock → Superblock
logged_superblock list v = record v {
  feature_map = with_list list v.feature_map;
  bblog_shift = 0;
  in_profile = record {
    features = with_list-supported list v.feature_map v.in_profile.features;
    level_is = v.in_profile.level_is;
    some_disks = v.in_profile.some_disks;
    few_disks = v.in_profile.few_disks;
    super_offset_is = v.in_profile.super_offset_is;
  };
}

-- ---- what is kept of it
-- a bitmap has the same marks as another, and none past the last chunk
pub record HasEqualMarks (marks stored : Bitmap) : Type 0 where
  pub chunks : stored.chunks ≡ marks.chunks
  pub bits : (c : ℕ) → c < marks.chunks → is_set stored.bytes c ≡ is_set marks.bytes c
  pub none_past : (c : ℕ) → marks.chunks ≤ c → is_set stored.bytes c ≡ false

-- A member that comes into sync in a role, with this list and these marks. All is stored first, so that its superblock is not due.
pub record ComesIntoSync (role : ℕ) (list : List Run) (marks : Bitmap) (m n : MemberView) : Type 0 where
  pub superblock : n.superblock ≡ in_sync_superblock list m.superblock
  pub header : n.header ≡ m.header
  pub stored : HasEqualMarks marks n.stored
  pub bad : n.bad ≡ list
  pub state : n.state ≡ InSync role
  pub due : n.due ≡ false
  pub offset : n.offset ≡ 0
  pub stored_offset : n.stored_offset ≡ 0
