-- What a member lacks of the array (this project's own).
use Rattle.std.specs.Prelude.{◌≡◌, ℕ, ◌<◌, Bool, true, false, ◌&&◌, leb}
use Rattle.md_model.specs.Sectors.{is_passed}
use Rattle.md_model.specs.Rebuilding.{lacks}
use Rattle.md_assembly.specs.declared.state.MemberState.{MemberState}
use Rattle.md_assembly.specs.declared.state.MemberState.TheVariants.{InSync, Recovering, Stale, Spare, Faulty}
use Rattle.md_assembly.specs.States.{is_in_sync, is_recovering}
use Rattle.md_bitmap.specs.Marks.{Bitmap, is_set}
use Rattle.md_kept_members.specs.View.{MemberView}
use Rattle.md_state.specs.View.{ArrayView, geometry_of}

-- the offset of a member has passed a chunk: none of its sectors is at the offset or past it
abbrev pub has_passed : ArrayView → MemberView → ℕ → Bool
has_passed a m chunk = is_passed (geometry_of a) m.offset chunk

-- Of a recovering member those that are marked, and those that its offset has not passed. Of the others, one in sync lacks none, and any
-- other lacks each chunk.
abbrev pub is_missing : ArrayView → MemberView → ℕ → Bool
is_missing a m chunk = lacks (is_in_sync m.state) (is_recovering m.state) (is_set a.marks.bytes chunk) (has_passed a m chunk)

-- A member is recovering, and lacks the marked chunks alone: it was taken back, or is rebuilt up to the end.
abbrev pub is_re_added : ArrayView → MemberView → Bool
is_re_added a m = is_recovering m.state && leb a.chunks.size m.offset

-- these are the chunks that it lacks
pub record AreMissing (a : ArrayView) (m : MemberView) (missing : Bitmap) : Type 0 where
  pub chunks : missing.chunks ≡ a.marks.chunks
  pub bits : (c : ℕ) → c < missing.chunks → is_set missing.bytes c ≡ is_missing a m c

-- a member in this state may be rebuilt: a spare, or one that is recovering
abbrev pub is_rebuilt : MemberState → Bool
is_rebuilt (InSync role) = false
is_rebuilt (Recovering role) = true
is_rebuilt (Stale role) = false
is_rebuilt Spare = true
is_rebuilt Faulty = false
