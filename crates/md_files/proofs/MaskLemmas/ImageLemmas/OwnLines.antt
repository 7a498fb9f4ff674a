-- Maps that are their own images', one after another.
use Rattle.std.proofs.Common.{◌≡◌, ◌∙◌, ◌+◌, ℕ, List, Some, None, inl, inr, ap, arith, sym}
use Rattle.std.specs.Borrow.{Bor}
use Rattle.std.specs.Prelude.{slice_get}
use Rattle.md_images.specs.Taking.{Text}
use Rattle.md_files.specs.Masks.Images.OwnLines.{AreOwn, other_of}
use Rattle.md_files.specs.declared.masks.images.copies.MapText.{MapText}
use Rattle.md_files.proofs.MaskLemmas.ImageLemmas.Named.{below_next, same_some}

pub none_other : (names : List (Bor Text)) (maps : List MapText) → AreOwn names maps 0
none_other names maps place map lt at = absurd (omega (arith, lt))

-- one more map
pub own_next : (names : List (Bor Text)) (maps : List MapText) (n : ℕ) (map : MapText) → slice_get maps n ≡ Some map → other_of names map ≡ None → AreOwn names maps n → AreOwn names maps (n + 1)
own_next names maps n map at none own place other lt here = elim (below_next place n lt) [
  | inl less ↦ own place other less here
  | inr same ↦
      let is : map ≡ other = same_some map other (sym at ∙ ap (λ (i : ℕ). slice_get maps i) (sym same) ∙ here) in ap (other_of names) (sym is) ∙ none
]
