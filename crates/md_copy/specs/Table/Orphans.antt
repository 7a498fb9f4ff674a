-- Sets of chunks, and those that a member lacks and that were not copied: the orphans.
use Rattle.std.specs.Prelude.{◌≡◌, ℕ, ◌==◌, ◌<◌, Bool, true, not, List, filter}
use Rattle.std.specs.List.{list_any}
use Rattle.md_bitmap.specs.Marks.{Bitmap, is_set}
use Rattle.md_kept_members.specs.View.{MemberView}
use Rattle.md_state.specs.View.{ArrayView}
use Rattle.md_copy.specs.Table.Sources.{missing_chunks}

-- a list has the chunk
abbrev pub is_in : List ℕ → ℕ → Bool
is_in chunks c = list_any (λ chunk. chunk == c) chunks

-- each chunk of the one set is in the other
abbrev pub IsSubset : Bitmap → Bitmap → Type 0
IsSubset set other = (c : ℕ) → c < set.chunks → is_set set.bytes c ≡ true → is_set other.bytes c ≡ true

-- as many chunks as the array has, of which exactly these are in the set
pub record IsSetOf (a : ArrayView) (has : ℕ → Bool) (set : Bitmap) : Type 0 where
  pub chunks : set.chunks ≡ a.marks.chunks
  pub bits : (c : ℕ) → is_set set.bytes c ≡ has c

-- the chunks that the member lacks and that were not copied, rising: the orphans
abbrev pub uncopied_chunks : ArrayView → MemberView → Bitmap → List ℕ
uncopied_chunks a m copied = filter (λ c. not (is_set copied.bytes c)) (missing_chunks a m)
