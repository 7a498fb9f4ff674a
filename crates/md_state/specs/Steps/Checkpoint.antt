-- A recovering member records how far it is rebuilt (md_do_sync and super_1_sync in the kernel's md driver, which keep recovery_offset; where
-- it ends, and that it never falls, are this project's own).
use Rattle.std.specs.Prelude.{◌≡◌, ◌⊎◌, ℕ, ◌*◌, ◌<◌, true, false, max, set}
use Rattle.md_bitmap.specs.Marks.{Bitmap, is_set}
use Rattle.md_kept_members.specs.Permitting.{ListsAny}
use Rattle.md_kept_members.specs.TakingBack.{with_offsets}
use Rattle.md_kept_members.specs.View.{MemberView}
use Rattle.md_state.specs.Missing.{is_missing}
use Rattle.md_state.specs.View.{ArrayView}

-- a chunk stops a checkpoint: the member lacks it and it was not copied, whether it is marked or not; or the member lists a sector of it
abbrev pub EndsCheckpoint : ArrayView → MemberView → Bitmap → ℕ → Type 0
EndsCheckpoint a m copied c =
    ((is_missing a m c ≡ true) × (is_set copied.bytes c ≡ false))
    ⊎ ListsAny a.chunks c m

-- the start of the first such chunk, or the array's size where there is none
abbrev pub IsFirstEnd : ArrayView → MemberView → Bitmap → ℕ → Type 0
IsFirstEnd a m copied offset =
    ((c : ℕ) × (c < a.marks.chunks) × EndsCheckpoint a m copied c × ((b : ℕ) → b < c → EndsCheckpoint a m copied b → ⊥) × (offset ≡ c * a.chunks.sectors))
    ⊎ (((c : ℕ) → c < a.marks.chunks → EndsCheckpoint a m copied c → ⊥) × (offset ≡ a.chunks.size))

-- Member k surely has what is before this sector. Its offset never falls.
abbrev pub checked : ℕ → MemberView → MemberView
checked sure m = with_offsets (max m.offset sure) sure m

-- member k is this one
abbrev pub with_member_at : ArrayView → ℕ → MemberView → ArrayView
with_member_at a k m = record a { members = set a.members k m }
