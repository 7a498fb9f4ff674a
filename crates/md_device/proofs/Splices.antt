-- Lemmas on a list with a part of it replaced.
use Rattle.std.proofs.Common.{◌≡◌, ℕ, ◌+◌, ◌-◌, ◌<◌, ◌≤◌, List, ◌++◌, length, take, drop, slice_index, refl, ap, sym, ◌∙◌, arith, length-append, length-drop, drop-drop}
use Rattle.std.proofs.lemmas.List.{length-take, drop-take, take-take, take_at, drop_at, length-take-le, get_or-take, get_or-drop}
use Rattle.std.proofs.lemmas.Slice.{take-put_mid_below, drop-put_mid}
use borrow.Rule.Slice.PartMut.{put_mid}
use Rattle.md_device.specs.Splice.{spliced, part, SameOutside}

-- std's own word for it, which its lemmas are about
as_put_mid : {X : Type 0} (xs : List X) (at : ℕ) (ys : List X) → spliced xs at ys ≡ put_mid at (length ys) xs ys
unfolding spliced
as_put_mid xs at ys = ap (λ zs. take at xs ++ (ys ++ zs)) (sym (drop-drop (length ys) at xs))

pub length-spliced : {X : Type 0} (xs : List X) (at : ℕ) (ys : List X) → at + length ys ≤ length xs → length (spliced xs at ys) ≡ length xs
unfolding spliced
length-spliced xs at ys fits = simp (length-append, length-take, length-drop) (omega arith)

pub take-spliced : {X : Type 0} (xs : List X) (at : ℕ) (ys : List X) (n : ℕ) → n ≤ at → at ≤ length xs → take n (spliced xs at ys) ≡ take n xs
take-spliced xs at ys n below fits =
    ap (take n) (as_put_mid xs at ys) ∙ take-put_mid_below at (length ys) xs ys n below fits

pub drop-spliced : {X : Type 0} (xs : List X) (at : ℕ) (ys : List X) (n : ℕ) → at + length ys ≤ n → at ≤ length xs → drop n (spliced xs at ys) ≡ drop n xs
drop-spliced xs at ys n above fits =
    ap (drop n) (as_put_mid xs at ys) ∙ drop-put_mid at (length ys) xs ys n above fits refl

pub length-part : {X : Type 0} (xs : List X) (at n : ℕ) → at + n ≤ length xs → length (part xs at n) ≡ n
unfolding part
length-part xs at n fits = simp (length-take, length-drop) (omega arith)

-- what was written
pub part-spliced : {X : Type 0} (xs : List X) (at : ℕ) (ys : List X) (n : ℕ) → n ≡ length ys → at ≤ length xs → part (spliced xs at ys) at n ≡ ys
unfolding part spliced
part-spliced xs at ys n whole fits =
    ap (take n) (drop_at (take at xs) (ys ++ drop (at + length ys) xs) at (length-take-le at xs fits)) ∙ take_at ys (drop (at + length ys) xs) n (sym whole)

-- a part before what was written
pub part-spliced_before : {X : Type 0} (xs : List X) (at : ℕ) (ys : List X) (i n : ℕ) → i + n ≤ at → at ≤ length xs → part (spliced xs at ys) i n ≡ part xs i n
unfolding part
part-spliced_before xs at ys i n before fits =
    sym (drop-take i n (spliced xs at ys)) ∙ ap (drop i) (take-spliced xs at ys (i + n) before fits) ∙ drop-take i n xs

-- a part after what was written
pub part-spliced_after : {X : Type 0} (xs : List X) (at : ℕ) (ys : List X) (i n : ℕ) → at + length ys ≤ i → at ≤ length xs → part (spliced xs at ys) i n ≡ part xs i n
unfolding part
part-spliced_after xs at ys i n after fits = ap (take n) (drop-spliced xs at ys i after fits)

pub spliced_outside : {X : Type 0} (xs : List X) (at : ℕ) (ys : List X) (n : ℕ) → n ≡ length ys → at + n ≤ length xs → SameOutside at n xs (spliced xs at ys)
spliced_outside xs at ys n whole fits = record {
  size = length-spliced xs at ys (omega arith);
  before = take-spliced xs at ys at (omega arith) (omega arith);
  after = drop-spliced xs at ys (at + n) (omega arith) (omega arith);
}

-- a part before what may differ
pub part_before : {X : Type 0} {at n : ℕ} {xs ys : List X} → SameOutside at n xs ys → (i m : ℕ) → i + m ≤ at → part ys i m ≡ part xs i m
unfolding part
part_before {at = at} {xs = xs} {ys = ys} same i m below =
    let cut : (zs : List _) → drop i (take (i + m) (take at zs)) ≡ take m (drop i zs) = λ zs. ap (drop i) (take-take (i + m) at zs below) ∙ drop-take i m zs in
    sym (cut ys) ∙ ap (λ zs. drop i (take (i + m) zs)) same.before ∙ cut xs

-- a part after what may differ
pub part_after : {X : Type 0} {at n : ℕ} {xs ys : List X} → SameOutside at n xs ys → (i m : ℕ) → at + n ≤ i → part ys i m ≡ part xs i m
unfolding part
part_after {at = at} {n = n} {xs = xs} {ys = ys} same i m above =
    let whole : at + n + (i - (at + n)) ≡ i = omega arith in
    let cut : (zs : List _) → drop (i - (at + n)) (drop (at + n) zs) ≡ drop i zs = λ zs. drop-drop (i - (at + n)) (at + n) zs ∙ ap (λ k. drop k zs) whole in
    ap (take m) (sym (cut ys) ∙ ap (drop (i - (at + n))) same.after ∙ cut xs)

-- what differs at most in a part differs at most in a longer one
pub outside_more : {X : Type 0} {at n : ℕ} {xs ys : List X} → SameOutside at n xs ys → (m : ℕ) → n ≤ m → SameOutside at m xs ys
outside_more {at = at} {n = n} {xs = xs} {ys = ys} same m more =
    let whole : at + n + (m - n) ≡ at + m = omega arith in
    let cut : (zs : List _) → drop (m - n) (drop (at + n) zs) ≡ drop (at + m) zs = λ zs. drop-drop (m - n) (at + n) zs ∙ ap (λ k. drop k zs) whole in
    record { size = same.size; before = same.before; after = sym (cut ys) ∙ ap (drop (m - n)) same.after ∙ cut xs }

-- the lemmas for a call that writes a part of what it was given
pub ruleset outsides = (outside_more, length-take)

-- the lemmas for a caller that writes and then reads, to pass to `using`
pub ruleset splices = (length-spliced, length-part, part-spliced, part-spliced_before, part-spliced_after, part_before, part_after, spliced_outside)

-- ---- what stands in a part
pub slice_index-part : (xs : List ℕ) (at n i : ℕ) → i < n → slice_index (part xs at n) i ≡ slice_index xs (at + i)
unfolding part
slice_index-part xs at n i h = get_or-take n (drop at xs) i 0 h ∙ get_or-drop at xs i 0

pub part_part : (xs : List ℕ) (at long inner n : ℕ) → inner + n ≤ long → part (part xs at long) inner n ≡ part xs (at + inner) n
unfolding part
part_part xs at long inner n inside =
    let whole : inner + (long - inner) ≡ long = omega arith in
    ap (λ (m : ℕ). take n (drop inner (take m (drop at xs)))) (sym whole)
    ∙ ap (take n) (drop-take inner (long - inner) (drop at xs))
    ∙ take-take n (long - inner) (drop inner (drop at xs)) (omega arith)
    ∙ ap (take n) (drop-drop inner at xs)
