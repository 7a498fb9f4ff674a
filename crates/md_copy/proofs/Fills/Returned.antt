-- An element that left its list and came back to its place.
use Rattle.std.proofs.Common.{◌≡◌, ◌∙◌, ℕ, ◌<◌, ◌≤◌, zero, suc, List, [], ◌∷◌, drop, length, get_or, insert, remove, refl, ap, arith}
use Rattle.md_state.specs.View.{ArrayView, Disk, MirrorView}

pub removed_again : {X : Type 0} (xs : List X) (i : ℕ) (y : X) → i ≤ length xs → remove (insert xs i y) i ≡ xs
removed_again xs zero y within = refl
removed_again [] (suc i) y within = absurd (omega arith)
removed_again (x ∷ xs) (suc i) y within = ap (λ zs. x ∷ zs) (removed_again xs i y (omega arith))

-- lists that are the same beside a place and there
pub same_with : {X : Type 0} (xs ys : List X) (k : ℕ) (d : X) → k < length xs → k < length ys → remove xs k ≡ remove ys k → get_or xs k d ≡ get_or ys k d → xs ≡ ys
same_with [] ys k d within low rest here = absurd (omega (arith, within))
same_with (x ∷ xs) [] k d within low rest here = absurd (omega (arith, low))
same_with (x ∷ xs) (y ∷ ys) zero d within low rest here = cc
same_with (x ∷ xs) (y ∷ ys) (suc k) d within low rest here =
    let heads : x ≡ y = ap (λ zs. get_or zs 0 x) rest in
    let tails = same_with xs ys k d (omega (arith, within)) (omega (arith, low)) (ap (λ zs. drop 1 zs) rest) here in
    cc

-- mirrors with the same devices and the same in memory
pub same_mirror : (v w : MirrorView) → v.array ≡ w.array → v.disks ≡ w.disks → v ≡ w
same_mirror v w array disks = ap (λ (a : ArrayView). record v { array = a }) array ∙ ap (λ (ds : List Disk). record w { disks = ds }) disks
