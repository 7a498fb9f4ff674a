-- What may differ in a part of a content, when several writes were made.
use Rattle.std.proofs.Common.{◌≡◌, ℕ, ◌+◌, ◌-◌, ◌≤◌, List, take, drop, drop-drop, refl, ap, sym, ◌∙◌, arith}
use Rattle.std.proofs.lemmas.List.{take-take}
use Rattle.md_device.specs.Splice.{SameOutside}

pub outside_none : {X : Type 0} (at n : ℕ) (xs : List X) → SameOutside at n xs xs
outside_none at n xs = record { size = refl; before = refl; after = refl }

pub outside_then : {X : Type 0} {at n : ℕ} {xs ys zs : List X} → SameOutside at n xs ys → SameOutside at n ys zs → SameOutside at n xs zs
outside_then first second = record {
  size = second.size ∙ first.size;
  before = second.before ∙ first.before;
  after = second.after ∙ first.after;
}

-- what differs at most in a part differs at most in a larger one around it
pub outside_around : {X : Type 0} {at n : ℕ} {xs ys : List X} → SameOutside at n xs ys → (i m : ℕ) → i ≤ at → at + n ≤ i + m → SameOutside i m xs ys
outside_around {X = X} {at = at} {n = n} {xs = xs} {ys = ys} same i m from to =
    let cut : (zs : List X) → take i (take at zs) ≡ take i zs = λ zs. take-take i at zs from in
    let whole : at + n + (i + m - (at + n)) ≡ i + m = omega arith in
    let rest : (zs : List X) → drop (i + m - (at + n)) (drop (at + n) zs) ≡ drop (i + m) zs = λ zs. drop-drop (i + m - (at + n)) (at + n) zs ∙ ap (λ k. drop k zs) whole in
    record {
      size = same.size;
      before = sym (cut ys) ∙ ap (take i) same.before ∙ cut xs;
      after = sym (rest ys) ∙ ap (drop (i + m - (at + n))) same.after ∙ rest xs;
    }
