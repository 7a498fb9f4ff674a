-- What crashes leave over several calls, and within a write.
use Rattle.std.proofs.Common.{◌≡◌, ℕ, ◌*◌, ◌+◌, ⊎_elim, ◌⊎◌, inr, List, [], ◌++◌, append_assoc, length, subst, take, drop, drop-drop, refl, sym, ap, ◌∙◌, inl, arith, Result, Ok, Err}
use Rattle.std.proofs.lemmas.List.{append-nil, take_all, take-append-drop}
use Rattle.std.proofs.lemmas.List.Elements.{All-append}
use Rattle.md_device.specs.Splice.{SameOutside, part, spliced}
use Rattle.md_device.specs.Device.{held, written}
use Rattle.md_device.specs.Crashes.{IsMixed, LeavesMore, WithinWrite}

-- no call
pub leaves_none : (past : List (List ℕ)) (P : List ℕ → Type 0) → LeavesMore past past P
leaves_none past P = record { more = []; all = sym (append-nil past); each = λ k d below. absurd (omega (arith, below)) }

-- a call that leaves less
pub leaves_less : (past now : List (List ℕ)) (P Q : List ℕ → Type 0) → ((left : List ℕ) → P left → Q left) → LeavesMore past now P → LeavesMore past now Q
leaves_less past now P Q less leaves = record { more = leaves.more; all = leaves.all; each = λ k d below. less _ (leaves.each k d below) }

-- one call after another
pub leaves_then : (past mid now : List (List ℕ)) (P : List ℕ → Type 0) → LeavesMore past mid P → LeavesMore mid now P → LeavesMore past now P
leaves_then past mid now P first second = record {
  more = first.more ++ second.more;
  all = second.all ∙ ap (λ xs. xs ++ second.more) first.all ∙ append_assoc past first.more second.more;
  each = All-append P first.more second.more first.each second.each;
}

-- what a write leaves in any case
pub within_outside : {T E : Type 0} (result : Result T E) (sector : ℕ) (bytes old new : List ℕ) → WithinWrite result sector bytes old new → SameOutside (512 * sector) (length bytes) old new
within_outside (Ok x) sector bytes old new mixed = mixed.outside
within_outside (Err e) sector bytes old new outside = outside

-- a write of which nothing was done
pub mixed_none : (sector : ℕ) (bytes old : List ℕ) → IsMixed sector bytes old old
mixed_none sector bytes old = record { outside = record { size = refl; before = refl; after = refl }; each = λ i within. inl refl }

-- a content by its part before, in and after a range
pub in_three : (xs : List ℕ) (at n : ℕ) → xs ≡ take at xs ++ (part xs at n ++ drop (at + n) xs)
unfolding part
in_three xs at n = sym (take-append-drop at xs) ∙ ap (λ ys. take at xs ++ ys) (sym (take-append-drop n (drop at xs)) ∙ ap (λ zs. take n (drop at xs) ++ zs) (drop-drop n at xs))

pub three_same : (at n : ℕ) (xs ys : List ℕ) → SameOutside at n xs ys → (middle : List ℕ) → part ys at n ≡ middle → ys ≡ take at xs ++ (middle ++ drop (at + n) xs)
three_same at n xs ys same middle is = in_three ys at n ∙ rw (same.before, same.after, is) refl

-- a write of one sector is done or is not
pub mixed_one : (sector : ℕ) (bytes old left : List ℕ) → length bytes ≡ 512 → IsMixed sector bytes old left → (left ≡ old) ⊎ (left ≡ written old sector bytes)
unfolding spliced part
mixed_one sector bytes old left one mixed =
    let outside : SameOutside (512 * sector) 512 old left = subst (λ n. SameOutside (512 * sector) n old left) one mixed.outside in
    let here : sector + 0 ≡ sector = omega arith in
    let whole : part bytes (512 * 0) 512 ≡ bytes = take_all 512 bytes (omega (arith, one)) in
    ⊎_elim
    (λ same. inl (three_same (512 * sector) 512 old left outside _ (subst (λ n. held left n 512 ≡ held old n 512) here same) ∙ sym (in_three old (512 * sector) 512)))
    (λ new. inr (three_same (512 * sector) 512 old left outside bytes (subst (λ n. held left n 512 ≡ held bytes 0 512) here new ∙ whole) ∙ ap (λ n. take (512 * sector) old ++ (bytes ++ drop (512 * sector + n) old)) (sym one)))
    (mixed.each 0 (omega (arith, one)))
