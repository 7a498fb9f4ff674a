-- What a member lacks, and where it may be read.
use Rattle.std.specs.Prelude.{◌≡◌, ◌⊎◌, ◌↔◌, ℕ, ◌<◌, Bool, true, false, List, filter, All}
use Rattle.std.specs.Int.{bit_at, div_ceil}
use Rattle.std.specs.List.{range_with_len}
use Rattle.md_bitmap.specs.Marks.{Bitmap, is_set}
use Rattle.md_cert.specs.declared.table.Row.{Row}
use Rattle.md_cert.specs.Tables.{chunks_of_rows}
use Rattle.md_kept_members.specs.OwnFields.{is_write_mostly}
use Rattle.md_kept_members.specs.View.{MemberView}
use Rattle.md_assembly.specs.States.{is_in_sync_as}
use Rattle.md_state.specs.Members.{IsMember, IsPermitted}
pub use Rattle.md_state.specs.Missing.{is_missing}
use Rattle.md_state.specs.View.{ArrayView}

abbrev pub missing_chunks : ArrayView → MemberView → List ℕ
missing_chunks a m = filter (is_missing a m) (range_with_len 0 (div_ceil a.chunks.size a.chunks.sectors))

-- the row's mask has the roles in which its chunk may be read
abbrev pub HasSources : ArrayView → Row → Type 0
HasSources a row = (role : ℕ) → role < 32 → (bit_at row.mask role ≡ 1) ↔ IsPermitted a row.chunk role

-- the rows are the chunks that the member lacks, rising, each with its sources
pub record IsTableOf (a : ArrayView) (m : MemberView) (rows : List Row) : Type 0 where
  pub chunks : chunks_of_rows rows ≡ missing_chunks a m
  pub sources : All (HasSources a) rows

-- the member lacks the chunk
pub record LacksChunk (a : ArrayView) (m : MemberView) (c : ℕ) : Type 0 where
  pub low : c < div_ceil a.chunks.size a.chunks.sectors
  pub missing : is_missing a m c ≡ true

-- the rows are chunks that the member lacks, if not all of them, each with its sources
pub record IsTableIn (a : ArrayView) (m : MemberView) (rows : List Row) : Type 0 where
  pub lacking : All (λ row. LacksChunk a m row.chunk) rows
  pub sources : All (HasSources a) rows

-- A member is in sync in the role.
abbrev pub IsInSyncAs : ArrayView → ℕ → Type 0
IsInSyncAs a role = (k : ℕ) × (m : MemberView) × IsMember a k m × (is_in_sync_as role m.state ≡ true)

-- A member is in sync in the role, and write-mostly or not, as it is asked.
abbrev pub IsInSyncWith : ArrayView → Bool → ℕ → Type 0
IsInSyncWith a mostly role = (k : ℕ) × (m : MemberView) × IsMember a k m × (is_in_sync_as role m.state ≡ true) × (is_write_mostly m.superblock ≡ mostly)

-- a chunk of which nobody lists a sector may be read in the role
abbrev pub IsReadInRole : ArrayView → ℕ → Type 0
IsReadInRole a role = IsInSyncWith a false role ⊎ (IsInSyncWith a true role × ((other : ℕ) → other < 32 → IsInSyncWith a false other → ⊥))

-- what was marked stays so
pub record KeepsMarks (old new : Bitmap) : Type 0 where
  pub chunks : new.chunks ≡ old.chunks
  pub marked : (c : ℕ) → is_set old.bytes c ≡ true → is_set new.bytes c ≡ true
