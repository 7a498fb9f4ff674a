-- The rows of what failed, slot by slot.
use Rattle.std.proofs.Common.{◌≡◌, ◌∙◌, ℕ, ◌+◌, ◌<◌, true, false, not, cond, List, [], ◌∷◌, ◌++◌, length, append-nil, get_or, map, take, sym, ap, arith}
use Rattle.std.proofs.lemmas.List.{map-append}
use Rattle.std.proofs.lemmas.List.Elements.{filter_more}
use Rattle.md_bitmap.specs.Marks.{Bitmap, is_set}
use Rattle.md_cert.specs.declared.slots.Slot.{Slot}
use Rattle.md_cert.specs.declared.table.Row.{Row}
use Rattle.md_cert.specs.Plans.{SlotsRise}
use Rattle.md_cert.specs.Tables.{chunks_of_rows}
use Rattle.md_pass.specs.Copied.{failed_slots, is_failed_slot}

abbrev pub failed_below : List Slot → Bitmap → ℕ → List ℕ
failed_below slots copied i = map (λ (s : Slot). s.chunk) (failed_slots (take i slots) copied)

module _ (slots : List Slot) (copied : Bitmap) (i : ℕ) (d : Slot) (low : i < length slots) (rows : List Row) (before : chunks_of_rows rows ≡ failed_below slots copied i) where
  abbrev slot : Slot
  slot = get_or slots i d

  below_more : failed_below slots copied (i + 1) ≡ failed_below slots copied i ++ map (λ (s : Slot). s.chunk) (cond (is_failed_slot copied slot) (slot ∷ []) [])
  below_more =
      ap (map (λ (s : Slot). s.chunk)) (filter_more (is_failed_slot copied) slots i d low)
      ∙ map-append (λ (s : Slot). s.chunk) (failed_slots (take i slots) copied) (cond (is_failed_slot copied slot) (slot ∷ []) [])

  pub row_failed : (row : Row) → row.chunk ≡ slot.chunk → is_set copied.bytes slot.chunk ≡ false → chunks_of_rows (rows ++ row ∷ []) ≡ failed_below slots copied (i + 1)
  row_failed row same clear =
      map-append (λ (r : Row). r.chunk) rows (row ∷ [])
      ∙ ap (λ n. chunks_of_rows rows ++ n ∷ []) same
      ∙ ap (λ xs. xs ++ slot.chunk ∷ []) before
      ∙ sym (below_more ∙ ap (λ b. failed_below slots copied i ++ map (λ (s : Slot). s.chunk) (cond (not b) (slot ∷ []) [])) clear)

  pub row_copied : is_set copied.bytes slot.chunk ≡ true → chunks_of_rows rows ≡ failed_below slots copied (i + 1)
  row_copied set =
      before ∙ sym (below_more ∙ ap (λ b. failed_below slots copied i ++ map (λ (s : Slot). s.chunk) (cond (not b) (slot ∷ []) [])) set ∙ append-nil (failed_below slots copied i))

-- the next slot lies above
pub rise_next : (slots : List Slot) (i : ℕ) (d : Slot) → SlotsRise slots → i + 1 < length slots → (get_or slots i d).chunk < (get_or slots (i + 1) d).chunk
rise_next slots i d rise low = rise i (i + 1) d (omega arith) low
