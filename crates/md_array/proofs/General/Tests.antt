-- Tests that come out one way.
use Rattle.std.proofs.Common.{◌≡◌, ◌⊎◌, inl, inr, Bool, true, false, ◌&&◌, ◌||◌, refl}

pub and_same : (a x y : Bool) → (a ≡ true → x ≡ y) → (a && x) ≡ (a && y)
and_same true x y h = h refl
and_same false x y h = refl

pub true_unless_false : (b : Bool) → (b ≡ true → ⊥) → b ≡ false
true_unless_false true h = absurd (h refl)
true_unless_false false h = refl

pub one_is : (a b : Bool) → (a || b) ≡ true → (a ≡ true) ⊎ (b ≡ true)
one_is true b e = inl refl
one_is false b e = inr e
