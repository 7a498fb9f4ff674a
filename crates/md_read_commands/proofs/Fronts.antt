-- Lemmas on a device of which the first bytes stand in memory.
use Rattle.std.proofs.Common.{◌≡◌, ◌∙◌, ℕ, ◌+◌, ◌-◌, ◌<◌, ◌≤◌, ◌⊎◌, inl, inr, ⊎_elim, List, [], ◌++◌, length, take, drop, get_or, refl, ap, sym, arith, drop-drop, length-append, length-drop}
use Rattle.std.proofs.lemmas.List.{length-take, length-take-le, get_or-take, get_or-drop, get_or_append_left, get_or-append_right}
use Rattle.std.proofs.lemmas.Bool.{cases_lt}
use Rattle.std.proofs.lemmas.Grind.{same_number_lists}
use Rattle.md_device.specs.Splice.{SameOutside, part, spliced}
use Rattle.md_device.proofs.LaidOver.{get_or-part}
use Rattle.md_device.proofs.Splices.{length-part, length-spliced}
use Rattle.md_read_commands.specs.Fronted.{fronted}

-- ---- a list with a part of it replaced, by the index
get_or-spliced_before : (xs : List ℕ) (at : ℕ) (ys : List ℕ) (k : ℕ) → at ≤ length xs → k < at → get_or (spliced xs at ys) k 0 ≡ get_or xs k 0
unfolding spliced
get_or-spliced_before xs at ys k fits before =
    let size : length (take at xs) ≡ at = simp (length-take) (omega arith) in
    get_or_append_left (take at xs) (ys ++ drop (at + length ys) xs) 0 k (omega (arith, size)) ∙ get_or-take at xs k 0 before

get_or-spliced_within : (xs : List ℕ) (at : ℕ) (ys : List ℕ) (j : ℕ) → at ≤ length xs → j < length ys → get_or (spliced xs at ys) (at + j) 0 ≡ get_or ys j 0
unfolding spliced
get_or-spliced_within xs at ys j fits within =
    let size : length (take at xs) ≡ at = simp (length-take) (omega arith) in
    let here : at + j - at ≡ j = omega arith in
    get_or-append_right (take at xs) (ys ++ drop (at + length ys) xs) at (at + j) 0 size (omega arith)
    ∙ ap (λ i. get_or (ys ++ drop (at + length ys) xs) i 0) here
    ∙ get_or_append_left ys (drop (at + length ys) xs) 0 j within

get_or-spliced_after : (xs : List ℕ) (at : ℕ) (ys : List ℕ) (k : ℕ) → at ≤ length xs → at + length ys ≤ k → get_or (spliced xs at ys) k 0 ≡ get_or xs k 0
unfolding spliced
get_or-spliced_after xs at ys k fits after =
    let size : length (take at xs) ≡ at = simp (length-take) (omega arith) in
    let here : at + length ys + (k - at - length ys) ≡ k = omega arith in
    get_or-append_right (take at xs) (ys ++ drop (at + length ys) xs) at k 0 size (omega arith)
    ∙ get_or-append_right ys (drop (at + length ys) xs) (length ys) (k - at) 0 refl (omega arith)
    ∙ get_or-drop (at + length ys) xs (k - at - length ys) 0
    ∙ ap (λ i. get_or xs i 0) here

-- what may differ in a part alone is the same before it and after it
module _ (xs ys : List ℕ) (at n : ℕ) where
  same_outside : SameOutside at n xs ys → (k : ℕ) → (k < at) ⊎ (at + n ≤ k) → get_or ys k 0 ≡ get_or xs k 0
  same_outside same k outside = elim outside [
    | inl before ↦ sym (get_or-take at ys k 0 before) ∙ ap (λ zs. get_or zs k 0) same.before ∙ get_or-take at xs k 0 before
    | inr after ↦
        let here : at + n + (k - (at + n)) ≡ k = omega (arith, after) in
        ap (λ i. get_or ys i 0) (sym here) ∙ sym (get_or-drop (at + n) ys (k - (at + n)) 0)
        ∙ ap (λ zs. get_or zs (k - (at + n)) 0) same.after
        ∙ get_or-drop (at + n) xs (k - (at + n)) 0 ∙ ap (λ i. get_or xs i 0) here
  ]

  outside_by : length ys ≡ length xs → at + n ≤ length xs → ((k : ℕ) → k < length xs → (k < at) ⊎ (at + n ≤ k) → get_or ys k 0 ≡ get_or xs k 0) → SameOutside at n xs ys
  outside_by size fits each = record {
    size = size;
    before = same_number_lists (take at ys) (take at xs) (simp (length-take, size) refl)
        (λ k inside.
        let below : k < at = let h : length (take at ys) ≡ at = simp (length-take) (omega (arith, size, fits)) in omega (arith, h, inside) in
        get_or-take at ys k 0 below ∙ each k (omega (arith, below, fits)) (inl below) ∙ sym (get_or-take at xs k 0 below));
    after = same_number_lists (drop (at + n) ys) (drop (at + n) xs) (simp (length-drop, size) refl)
        (λ k inside.
        let below : k + (at + n) < length xs = let h : length (drop (at + n) ys) ≡ length ys - (at + n) = simp (length-drop) refl in omega (arith, h, inside, size) in
        get_or-drop (at + n) ys k 0 ∙ each (at + n + k) (omega (arith, below)) (inr (omega arith)) ∙ sym (get_or-drop (at + n) xs k 0));
  }

-- ---- what reads see
pub length-fronted : (front below : List ℕ) → length (fronted front below) ≡ length below
unfolding fronted
length-fronted front below = simp (length-append, length-take, length-drop) (omega arith)

get_or-in : (front below : List ℕ) (k : ℕ) → k < length below → k < length front → get_or (fronted front below) k 0 ≡ get_or front k 0
unfolding fronted
get_or-in front below k inside here =
    let size : k < length (take (length below) front) = simp (length-take) (omega (arith, inside, here)) in
    get_or_append_left (take (length below) front) (drop (length front) below) 0 k size ∙ get_or-take (length below) front k 0 inside

get_or-past : (front below : List ℕ) (k : ℕ) → k < length below → length front ≤ k → get_or (fronted front below) k 0 ≡ get_or below k 0
unfolding fronted
get_or-past front below k inside past =
    let size : length (take (length below) front) ≡ length front = simp (length-take) (omega (arith, inside, past)) in
    let here : length front + (k - length front) ≡ k = omega (arith, past) in
    get_or-append_right (take (length below) front) (drop (length front) below) (length front) k 0 size past
    ∙ get_or-drop (length front) below (k - length front) 0
    ∙ ap (λ i. get_or below i 0) here

-- nothing stands in memory
pub fronted_none : (below : List ℕ) → fronted [] below ≡ below
fronted_none below =
    same_number_lists (fronted [] below) below (length-fronted [] below)
    (λ k inside. get_or-past [] below k (omega (arith, inside, length-fronted [] below)) (omega arith))

-- ---- a read of n bytes, of which so many stand in memory
module _ (front below : List ℕ) (at n from kept : ℕ) (starts : from + kept ≡ length front) (is : kept ≡ length front - at) (fits : at + n ≤ length below) where
  long : length (part (fronted front below) at n) ≡ n
  long = length-part (fronted front below) at n (omega (arith, fits, length-fronted front below))

  -- all of them do
  pub read_in : n ≤ kept → part front (from) n ≡ part (fronted front below) at n
  read_in few =
      let size : length (part front (from) n) ≡ n = length-part front (from) n (omega (arith, starts, is, few)) in
      same_number_lists (part front (from) n) (part (fronted front below) at n) (size ∙ sym long)
      (λ k inside.
      let low : k < n = omega (arith, inside, size) in
      let here : from + k ≡ at + k = omega (arith, starts, is, few, low) in
      get_or-part front (from) n k low
      ∙ ap (λ i. get_or front i 0) here
      ∙ sym (get_or-part (fronted front below) at n k low ∙ get_or-in front below (at + k) (omega (arith, low, fits)) (omega (arith, starts, is, few, low))))

  -- not all of them: those are laid over what was read below
  pub read_over : kept < n → spliced (part below at n) 0 (drop (from) front) ≡ part (fronted front below) at n
  read_over more =
      let read = part below at n in
      let over = drop (from) front in
      let read_long : length read ≡ n = length-part below at n fits in
      let over_long : length over ≡ kept = simp (length-drop) (omega (arith, starts, is)) in
      let size : length (spliced read 0 over) ≡ n = length-spliced read 0 over (omega (arith, read_long, over_long, more)) ∙ read_long in
      same_number_lists (spliced read 0 over) (part (fronted front below) at n) (size ∙ sym long)
      (λ k inside.
      let low : k < n = omega (arith, inside, size) in
      ⊎_elim
      (λ kept_here.
      let here : from + k ≡ at + k = omega (arith, starts, is, kept_here) in
      let zero : 0 + k ≡ k = omega arith in
      ap (λ i. get_or (spliced read 0 over) i 0) (sym zero)
      ∙ get_or-spliced_within read 0 over k (omega arith) (omega (arith, kept_here, over_long))
      ∙ get_or-drop (from) front k 0
      ∙ ap (λ i. get_or front i 0) here
      ∙ sym (get_or-part (fronted front below) at n k low ∙ get_or-in front below (at + k) (omega (arith, low, fits)) (omega (arith, starts, is, kept_here))))
      (λ past.
      get_or-spliced_after read 0 over k (omega arith) (omega (arith, past, over_long))
      ∙ get_or-part below at n k low
      ∙ sym (get_or-part (fronted front below) at n k low ∙ get_or-past front below (at + k) (omega (arith, low, fits)) (omega (arith, starts, is, past))))
      (cases_lt k kept))

-- ---- what a write of n bytes leaves
module _ (front new below after : List ℕ) (at n : ℕ) (size : length new ≡ length front) (size_below : length after ≡ length below) (fits : at + n ≤ length below)
    (in_same : (k : ℕ) → k < length front → (k < at) ⊎ (at + n ≤ k) → get_or new k 0 ≡ get_or front k 0)
    (past_same : (k : ℕ) → k < length below → length front ≤ k → (k < at) ⊎ (at + n ≤ k) → get_or after k 0 ≡ get_or below k 0) where
  elsewhere : (k : ℕ) → k < length below → (k < at) ⊎ (at + n ≤ k) → get_or (fronted new after) k 0 ≡ get_or (fronted front below) k 0
  elsewhere k inside outside =
      ⊎_elim
      (λ here. get_or-in new after k (omega (arith, inside, size_below)) (omega (arith, here, size)) ∙ in_same k here outside ∙ sym (get_or-in front below k inside here))
      (λ past. get_or-past new after k (omega (arith, inside, size_below)) (omega (arith, past, size)) ∙ past_same k inside past outside ∙ sym (get_or-past front below k inside past))
      (cases_lt k (length front))

  pub written_outside : SameOutside at n (fronted front below) (fronted new after)
  written_outside =
      outside_by (fronted front below) (fronted new after) at n
      (length-fronted new after ∙ size_below ∙ sym (length-fronted front below))
      (omega (arith, fits, length-fronted front below))
      (λ k inside outside. elsewhere k (omega (arith, inside, length-fronted front below)) outside)

  pub written_as : (bytes : List ℕ) → length bytes ≡ n
      → ((j : ℕ) → j < n → at + j < length front → get_or new (at + j) 0 ≡ get_or bytes j 0)
      → ((j : ℕ) → j < n → length front ≤ at + j → get_or after (at + j) 0 ≡ get_or bytes j 0)
      → fronted new after ≡ spliced (fronted front below) at bytes
  written_as bytes many in_new past_new =
      let all = fronted front below in
      let whole : length all ≡ length below = length-fronted front below in
      let long : length (spliced all at bytes) ≡ length all = length-spliced all at bytes (omega (arith, whole, fits, many)) in
      let room : at ≤ length all = omega (arith, whole, fits) in
      same_number_lists (fronted new after) (spliced all at bytes) (length-fronted new after ∙ size_below ∙ sym (long ∙ whole))
      (λ k inside.
      let low : k < length below = omega (arith, inside, length-fronted new after, size_below) in
      ⊎_elim
      (λ before. elsewhere k low (inl before) ∙ sym (get_or-spliced_before all at bytes k room before))
      (λ rest. ⊎_elim
      (λ within.
      let j : ℕ = k - at in
      let here : at + (k - at) ≡ k = omega (arith, rest) in
      let j_low : k - at < n = omega (arith, rest, within) in
      ap (λ i. get_or (fronted new after) i 0) (sym here)
      ∙ ⊎_elim
      (λ in_front. get_or-in new after (at + (k - at)) (omega (arith, here, low, size_below)) (omega (arith, in_front, size)) ∙ in_new (k - at) j_low in_front)
      (λ past. get_or-past new after (at + (k - at)) (omega (arith, here, low, size_below)) (omega (arith, past, size)) ∙ past_new (k - at) j_low past)
      (cases_lt (at + (k - at)) (length front))
      ∙ sym (ap (λ i. get_or (spliced all at bytes) i 0) (sym here) ∙ get_or-spliced_within all at bytes (k - at) room (omega (arith, j_low, many))))
      (λ beyond. elsewhere k low (inr beyond) ∙ sym (get_or-spliced_after all at bytes k room (omega (arith, beyond, many))))
      (cases_lt k (at + n)))
      (cases_lt k at))

-- so many of the bytes stand in memory
module _ (front below : List ℕ) (at : ℕ) (bytes : List ℕ) (from kept : ℕ) (starts : from + kept ≡ length front) (is : kept ≡ length front - at) (fits : at + length bytes ≤ length below) where
  -- all of them do
  module _ (few : length bytes ≤ kept) where
    in_size : length (spliced front (from) bytes) ≡ length front
    in_size = length-spliced front (from) bytes (omega (arith, starts, is, few))

    in_as : (k : ℕ) → k < length front → (k < at) ⊎ (at + length bytes ≤ k) → get_or (spliced front (from) bytes) k 0 ≡ get_or front k 0
    in_as k inside outside =
        ⊎_elim
        (λ before. get_or-spliced_before front (from) bytes k (omega arith) before)
        (λ rest. ⊎_elim
        (λ within. absurd (elim outside [ inl low ↦ omega (arith, starts, is, few, rest, within, low) | inr high ↦ omega (arith, starts, is, few, rest, within, high) ]))
        (λ beyond. get_or-spliced_after front (from) bytes k (omega arith) beyond)
        (cases_lt k (from + length bytes)))
        (cases_lt k (from))

    pub write_in : fronted (spliced front (from) bytes) below ≡ spliced (fronted front below) at bytes
    write_in =
        written_as front (spliced front (from) bytes) below below at (length bytes) in_size refl fits in_as (λ k inside past outside. refl) bytes refl
        (λ j low in_front.
        let here : from + j ≡ at + j = omega (arith, starts, is, few, low) in
        ap (λ i. get_or (spliced front (from) bytes) i 0) (sym here)
        ∙ get_or-spliced_within front (from) bytes j (omega arith) low)
        (λ j low past. absurd (omega (arith, starts, is, few, low, past)))

    pub write_in_outside : SameOutside at (length bytes) (fronted front below) (fronted (spliced front (from) bytes) below)
    write_in_outside = written_outside front (spliced front (from) bytes) below below at (length bytes) in_size refl fits in_as (λ k inside past outside. refl)

  -- not all of them: the others are written below
  module _ (more : kept < length bytes) (after : List ℕ) (same : SameOutside at (length bytes) below after) where
    few_long : length (take kept bytes) ≡ kept
    few_long = length-take-le kept bytes (omega (arith, more))

    over_size : length (spliced front (from) (take kept bytes)) ≡ length front
    over_size = length-spliced front (from) (take kept bytes) (omega (arith, starts, is, few_long))

    over_as : (k : ℕ) → k < length front → (k < at) ⊎ (at + length bytes ≤ k) → get_or (spliced front (from) (take kept bytes)) k 0 ≡ get_or front k 0
    over_as k inside outside =
        ⊎_elim
        (λ before. get_or-spliced_before front (from) (take kept bytes) k (omega arith) before)
        (λ rest. absurd (elim outside [ inl low ↦ omega (arith, starts, is, more, rest, inside, low) | inr high ↦ omega (arith, starts, is, more, rest, inside, high) ]))
        (cases_lt k (from))

    pub write_over_outside : SameOutside at (length bytes) (fronted front below) (fronted (spliced front (from) (take kept bytes)) after)
    write_over_outside =
        written_outside front (spliced front (from) (take kept bytes)) below after at (length bytes) over_size same.size fits over_as
        (λ k inside past outside. same_outside below after at (length bytes) same k outside)

    pub write_over : after ≡ spliced below at bytes → fronted (spliced front (from) (take kept bytes)) after ≡ spliced (fronted front below) at bytes
    write_over whole =
        written_as front (spliced front (from) (take kept bytes)) below after at (length bytes) over_size same.size fits over_as
        (λ k inside past outside. same_outside below after at (length bytes) same k outside) bytes refl
        (λ j low in_front.
        let here : from + j ≡ at + j = omega (arith, starts, is, in_front) in
        ap (λ i. get_or (spliced front (from) (take kept bytes)) i 0) (sym here)
        ∙ get_or-spliced_within front (from) (take kept bytes) j (omega arith) (omega (arith, starts, is, in_front, few_long))
        ∙ get_or-take kept bytes j 0 (omega (arith, starts, is, in_front)))
        (λ j low past. ap (λ xs. get_or xs (at + j) 0) whole ∙ get_or-spliced_within below at bytes j (omega (arith, fits)) low)

-- a write below that failed
pub write_fails_outside : (front below : List ℕ) (at n : ℕ) → at + n ≤ length below → (after : List ℕ) → SameOutside at n below after → SameOutside at n (fronted front below) (fronted front after)
write_fails_outside front below at n fits after same =
    written_outside front front below after at n refl same.size fits (λ k inside outside. refl)
    (λ k inside past outside. same_outside below after at n same k outside)

-- what stands past those in memory
pub drop_fronted : (front below : List ℕ) (n : ℕ) → length front ≤ n → drop n (fronted front below) ≡ drop n below
drop_fronted front below n past =
    same_number_lists (drop n (fronted front below)) (drop n below) (simp (length-drop, length-fronted) refl)
    (λ k inside.
    let low : n + k < length below = let h : length (drop n (fronted front below)) ≡ length below - n = simp (length-drop, length-fronted) refl in omega (arith, h, inside) in
    get_or-drop n (fronted front below) k 0 ∙ get_or-past front below (n + k) low (omega (arith, past)) ∙ sym (get_or-drop n below k 0))

-- what stands past a write
pub drop_outside : (xs ys : List ℕ) (at n m : ℕ) → SameOutside at n xs ys → at + n ≤ m → drop m ys ≡ drop m xs
drop_outside xs ys at n m same past =
    let whole : at + n + (m - (at + n)) ≡ m = omega (arith, past) in
    let cut : (zs : List ℕ) → drop (m - (at + n)) (drop (at + n) zs) ≡ drop m zs = λ zs. drop-drop (m - (at + n)) (at + n) zs ∙ ap (λ k. drop k zs) whole in
    sym (cut ys) ∙ ap (drop (m - (at + n))) same.after ∙ cut xs

-- the lemma for the device, to pass to `using`
pub ruleset fronts = (length-fronted)
