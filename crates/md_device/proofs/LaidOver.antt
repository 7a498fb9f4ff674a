-- Lemmas on sectors that are laid over a content.
use Rattle.std.proofs.Common.{◌≡◌, ℕ, ◌+◌, ◌-◌, ◌*◌, ◌/◌, ◌%◌, ◌<◌, ◌≤◌, ◌⊎◌, inl, inr, ⊎_elim, List, [], ◌++◌, length, take, drop, get_or, Some, refl, subst, ap, sym, ◌∙◌, arith, length-drop}
use Rattle.std.specs.Option.{option_map, unwrap_or}
use Rattle.std.specs.Ordering.{nat_cmp}
use Rattle.std.specs.BTreeMap.{BTreeMap, get}
use Rattle.std.proofs.lemmas.List.{length-take, get_or-take, get_or-drop, get_or_append_left, get_or-append_right}
use Rattle.std.proofs.lemmas.Bool.{cases_lt}
use Rattle.std.proofs.lemmas.List.FromFn.{length-map-range_with_len, get_or-map-range_with_len}
use Rattle.std.proofs.lemmas.Grind.{same_number_lists}
use Rattle.md_device.specs.Splice.{spliced, part, SameOutside}
use Rattle.md_device.specs.Device.{held, written}
use Rattle.md_device.specs.Overlay.{byte_over, laid_over}
use Rattle.md_device.proofs.Splices.{length-spliced}

-- ---- a part, and a list with a part of it replaced, by the index

pub get_or-part : (xs : List ℕ) (at n k : ℕ) → k < n → get_or (part xs at n) k 0 ≡ get_or xs (at + k) 0
unfolding part
get_or-part xs at n k below = get_or-take n (drop at xs) k 0 below ∙ get_or-drop at xs k 0

-- before the part, within it and after it
get_or-spliced_before : (xs : List ℕ) (at : ℕ) (ys : List ℕ) (k : ℕ) → at ≤ length xs → k < at → get_or (spliced xs at ys) k 0 ≡ get_or xs k 0
unfolding spliced
get_or-spliced_before xs at ys k fits before =
    let size : length (take at xs) ≡ at = simp (length-take) (omega arith) in
    get_or_append_left (take at xs) (ys ++ drop (at + length ys) xs) 0 k (omega (arith, size)) ∙ get_or-take at xs k 0 before

get_or-spliced_within : (xs : List ℕ) (at : ℕ) (ys : List ℕ) (j : ℕ) → at ≤ length xs → j < length ys → get_or (spliced xs at ys) (at + j) 0 ≡ get_or ys j 0
unfolding spliced
get_or-spliced_within xs at ys j fits within =
    let size : length (take at xs) ≡ at = simp (length-take) (omega arith) in
    let here : at + j - at ≡ j = omega arith in
    get_or-append_right (take at xs) (ys ++ drop (at + length ys) xs) at (at + j) 0 size (omega arith) ∙ ap (λ i. get_or (ys ++ drop (at + length ys) xs) i 0) here ∙ get_or_append_left ys (drop (at + length ys) xs) 0 j within

get_or-spliced_after : (xs : List ℕ) (at : ℕ) (ys : List ℕ) (k : ℕ) → at ≤ length xs → at + length ys ≤ k → get_or (spliced xs at ys) k 0 ≡ get_or xs k 0
unfolding spliced
get_or-spliced_after xs at ys k fits after =
    let size : length (take at xs) ≡ at = simp (length-take) (omega arith) in
    let here : at + length ys + (k - at - length ys) ≡ k = omega arith in
    get_or-append_right (take at xs) (ys ++ drop (at + length ys) xs) at k 0 size (omega arith) ∙ get_or-append_right ys (drop (at + length ys) xs) (length ys) (k - at) 0 refl (omega arith)
    ∙ get_or-drop (at + length ys) xs (k - at - length ys) 0 ∙ ap (λ i. get_or xs i 0) here

-- ---- the content that reads see

pub length-laid_over : (blocks : BTreeMap ℕ (List ℕ)) (below : List ℕ) → length (laid_over blocks below) ≡ length below
unfolding laid_over
length-laid_over blocks below = length-map-range_with_len (λ k. byte_over blocks k (get_or below k 0)) 0 (length below)

get_or-laid_over : (blocks : BTreeMap ℕ (List ℕ)) (below : List ℕ) (k : ℕ) → k < length below → get_or (laid_over blocks below) k 0 ≡ byte_over blocks k (get_or below k 0)
unfolding laid_over
get_or-laid_over blocks below k fits = get_or-map-range_with_len (λ i. byte_over blocks i (get_or below i 0)) 0 (length below) k k 0 fits (omega arith)

-- a byte that no block is over
byte_over_none : (blocks : BTreeMap ℕ (List ℕ)) (k b : ℕ) → blocks.entries ≡ [] → byte_over blocks k b ≡ b
byte_over_none blocks k b none = rw none refl

-- where nothing is kept
pub laid_over_none : (blocks : BTreeMap ℕ (List ℕ)) (below : List ℕ) → blocks.entries ≡ [] → laid_over blocks below ≡ below
laid_over_none blocks below none =
    same_number_lists (laid_over blocks below) below (length-laid_over blocks below)
    (λ k fits. get_or-laid_over blocks below k (omega (arith, fits, length-laid_over blocks below)) ∙ byte_over_none blocks k (get_or below k 0) none)

-- what is read from the device below, with what is kept laid over it
pub held_over : (blocks : BTreeMap ℕ (List ℕ)) (below : List ℕ) (sector : ℕ) (read bytes : List ℕ) → 512 * sector + length read ≤ length below → read ≡ held below sector (length read) → length bytes ≡ length read
    → ((k : ℕ) → k < length read → get_or bytes k 0 ≡ byte_over blocks (512 * sector + k) (get_or read k 0)) → bytes ≡ held (laid_over blocks below) sector (length read)
unfolding part
held_over blocks below sector read bytes fits is size each =
    let whole : length (held (laid_over blocks below) sector (length read)) ≡ length read = simp (length-take, length-drop, length-laid_over) (omega arith) in
    same_number_lists bytes (held (laid_over blocks below) sector (length read)) (size ∙ sym whole)
    (λ k inside.
    let k_fits : k < length read = omega (arith, inside, size) in
    each k k_fits
    ∙ ap (byte_over blocks (512 * sector + k)) (ap (λ xs. get_or xs k 0) is ∙ get_or-part below (512 * sector) (length read) k k_fits)
    ∙ sym (get_or-part (laid_over blocks below) (512 * sector) (length read) k k_fits ∙ get_or-laid_over blocks below (512 * sector + k) (omega (arith, k_fits, fits))))

-- ---- what a write leaves, by the look-ups

-- a byte whose sector was not written
same_byte : (old new : BTreeMap ℕ (List ℕ)) (k b : ℕ) → get nat_cmp new (k / 512) ≡ get nat_cmp old (k / 512) → byte_over new k b ≡ byte_over old k b
same_byte old new k b same = ap (λ o. unwrap_or (option_map (λ block. get_or block (k % 512) 0) o) b) same

-- a byte whose sector was written
new_byte : (new : BTreeMap ℕ (List ℕ)) (sector : ℕ) (bytes : List ℕ) (j b : ℕ) → get nat_cmp new (sector + j / 512) ≡ Some (part bytes (512 * (j / 512)) 512) → byte_over new (512 * sector + j) b ≡ get_or bytes j 0
new_byte new sector bytes j b kept =
    let place : (512 * sector + j) / 512 ≡ sector + j / 512 = omega arith in
    let rest : (512 * sector + j) % 512 ≡ j % 512 = omega arith in
    let here : 512 * (j / 512) + j % 512 ≡ j = omega arith in
    ap (λ n. unwrap_or (option_map (λ block. get_or block ((512 * sector + j) % 512) 0) (get nat_cmp new n)) b) place
    ∙ ap (λ o. unwrap_or (option_map (λ block. get_or block ((512 * sector + j) % 512) 0) o) b) kept
    ∙ ap (λ i. get_or (part bytes (512 * (j / 512)) 512) i 0) rest
    ∙ get_or-part bytes (512 * (j / 512)) 512 (j % 512) (omega arith)
    ∙ ap (λ i. get_or bytes i 0) here

module _ (old new : BTreeMap ℕ (List ℕ)) (below : List ℕ) (sector : ℕ) (bytes : List ℕ) (fits : 512 * sector + length bytes ≤ length below) (whole : length bytes % 512 ≡ 0) (apart : (n : ℕ) → (n < sector) ⊎ (sector + length bytes / 512 ≤ n) → get nat_cmp new n ≡ get nat_cmp old n) where
  apart_at : (k : ℕ) → k < length below → (k < 512 * sector) ⊎ (512 * sector + length bytes ≤ k) → get_or (laid_over new below) k 0 ≡ get_or (laid_over old below) k 0
  apart_at k k_fits outside =
      get_or-laid_over new below k k_fits
      ∙ same_byte old new k (get_or below k 0) (apart (k / 512) (⊎_elim (λ before. inl (omega (arith, before))) (λ after. inr (omega (arith, after, whole))) outside))
      ∙ sym (get_or-laid_over old below k k_fits)

  pub laid_outside : SameOutside (512 * sector) (length bytes) (laid_over old below) (laid_over new below)
  laid_outside = record {
    size = length-laid_over new below ∙ sym (length-laid_over old below);
    before = same_number_lists (take (512 * sector) (laid_over new below)) (take (512 * sector) (laid_over old below))
        (simp (length-take, length-laid_over) refl)
        (λ k inside.
        let k_fits : k < 512 * sector = let h : length (take (512 * sector) (laid_over new below)) ≡ 512 * sector = simp (length-take, length-laid_over) (omega (arith, fits)) in omega (arith, h, inside) in
        get_or-take (512 * sector) (laid_over new below) k 0 k_fits ∙ apart_at k (omega (arith, k_fits, fits)) (inl k_fits) ∙ sym (get_or-take (512 * sector) (laid_over old below) k 0 k_fits));
    after = same_number_lists (drop (512 * sector + length bytes) (laid_over new below)) (drop (512 * sector + length bytes) (laid_over old below))
        (simp (length-drop, length-laid_over) refl)
        (λ k inside.
        let k_fits : k + (512 * sector + length bytes) < length below = let h : length (drop (512 * sector + length bytes) (laid_over new below)) ≡ length below - (512 * sector + length bytes) = simp (length-drop, length-laid_over) refl in omega (arith, h, inside) in
        get_or-drop (512 * sector + length bytes) (laid_over new below) k 0 ∙ apart_at (512 * sector + length bytes + k) (omega (arith, k_fits)) (inr (omega arith)) ∙ sym (get_or-drop (512 * sector + length bytes) (laid_over old below) k 0));
  }

  pub laid_written : ((i : ℕ) → 512 * i < length bytes → get nat_cmp new (sector + i) ≡ Some (part bytes (512 * i) 512)) → laid_over new below ≡ written (laid_over old below) sector bytes
  laid_written kept =
      let at : ℕ = 512 * sector in
      let room : 512 * sector ≤ length (laid_over old below) = omega (arith, fits, length-laid_over old below) in
      let size : length (written (laid_over old below) sector bytes) ≡ length (laid_over old below) = length-spliced (laid_over old below) (512 * sector) bytes (omega (arith, fits, length-laid_over old below)) in
      same_number_lists (laid_over new below) (written (laid_over old below) sector bytes) (length-laid_over new below ∙ sym (size ∙ length-laid_over old below))
      (λ k inside.
      let k_fits : k < length below = omega (arith, inside, length-laid_over new below) in
      ⊎_elim
      (λ before. apart_at k k_fits (inl before) ∙ sym (get_or-spliced_before (laid_over old below) (512 * sector) bytes k room before))
      (λ rest. ⊎_elim
      (λ within.
      let here : 512 * sector + (k - 512 * sector) ≡ k = omega (arith, rest) in
      let j_fits : k - 512 * sector < length bytes = omega (arith, rest, within) in
      get_or-laid_over new below k k_fits
      ∙ ap (λ i. byte_over new i (get_or below k 0)) (sym here)
      ∙ new_byte new sector bytes (k - 512 * sector) (get_or below k 0) (kept ((k - 512 * sector) / 512) (omega (arith, j_fits)))
      ∙ sym (ap (λ i. get_or (written (laid_over old below) sector bytes) i 0) (sym here) ∙ get_or-spliced_within (laid_over old below) (512 * sector) bytes (k - 512 * sector) room j_fits))
      (λ after. apart_at k k_fits (inr after) ∙ sym (get_or-spliced_after (laid_over old below) (512 * sector) bytes k room after))
      (cases_lt k (512 * sector + length bytes)))
      (cases_lt k (512 * sector)))

-- the bytes that reads see, outside a write that may have failed
pub seen_outside : (old new : BTreeMap ℕ (List ℕ)) (below seen : List ℕ) (sector : ℕ) (bytes : List ℕ) → laid_over old below ≡ seen → 512 * sector + length bytes ≤ length seen → length bytes % 512 ≡ 0
    → ((n : ℕ) → (n < sector) ⊎ (sector + length bytes / 512 ≤ n) → get nat_cmp new n ≡ get nat_cmp old n) → SameOutside (512 * sector) (length bytes) seen (laid_over new below)
seen_outside old new below seen sector bytes is fits whole apart =
    subst (λ xs. SameOutside (512 * sector) (length bytes) xs (laid_over new below)) is
    (laid_outside old new below sector bytes (omega (arith, fits, ap length is, length-laid_over old below)) whole apart)

-- one more sector is laid over what was read
pub lay_step : (blocks : BTreeMap ℕ (List ℕ)) (sector i : ℕ) (start mid next : List ℕ)
    → ((k : ℕ) → k < 512 * i → get_or mid k 0 ≡ byte_over blocks (512 * sector + k) (get_or start k 0)) → ((k : ℕ) → 512 * i ≤ k → get_or mid k 0 ≡ get_or start k 0)
    → ((j : ℕ) → j < 512 → get_or next (512 * i + j) 0 ≡ unwrap_or (option_map (λ block. get_or block j 0) (get nat_cmp blocks (sector + i))) (get_or mid (512 * i + j) 0))
    → ((k : ℕ) → (k < 512 * i) ⊎ (512 * i + 512 ≤ k) → get_or next k 0 ≡ get_or mid k 0)
    → (k : ℕ) → k < 512 * (i + 1) → get_or next k 0 ≡ byte_over blocks (512 * sector + k) (get_or start k 0)
lay_step blocks sector i start mid next done rest inside outside k below =
    ⊎_elim
    (λ before. outside k (inl before) ∙ done k before)
    (λ here.
    let j : ℕ = k - 512 * i in
    let back : 512 * i + (k - 512 * i) ≡ k = omega (arith, here) in
    let place : (512 * sector + k) / 512 ≡ sector + i = omega (arith, here, below) in
    let offset : (512 * sector + k) % 512 ≡ k - 512 * i = omega (arith, here, below) in
    ap (λ n. get_or next n 0) (sym back)
    ∙ inside (k - 512 * i) (omega (arith, here, below))
    ∙ ap (λ b. unwrap_or (option_map (λ block. get_or block (k - 512 * i) 0) (get nat_cmp blocks (sector + i))) b) (ap (λ n. get_or mid n 0) back ∙ rest k here)
    ∙ ap (λ n. unwrap_or (option_map (λ block. get_or block (k - 512 * i) 0) (get nat_cmp blocks n)) (get_or start k 0)) (sym place)
    ∙ ap (λ n. unwrap_or (option_map (λ block. get_or block n 0) (get nat_cmp blocks ((512 * sector + k) / 512))) (get_or start k 0)) (sym offset))
    (cases_lt k (512 * i))

-- the lemmas for the device, to pass to `using`
pub ruleset overlays = (length-laid_over, laid_over_none, held_over, laid_written)
