-- Sums over sources, and the rise of the bound.
use Rattle.std.proofs.Common.{◌≡◌, ◌∙◌, ℕ, ◌+◌, ◌-◌, ◌*◌, ◌/◌, ◌<◌, ◌≤◌, zero, suc, Bool, true, false, cond, not, ◌&&◌, eqb, List, [], ◌∷◌, length, get_or, refl, sym, ap, subst, arith, inl, inr, add-one, bit_and, min, mul-zero, mul-le-mul_right, suc-mul, ◌^◌}
use Rattle.std.specs.Int.{bit_at}
use Rattle.std.specs.List.{AllByRecursion}
use Rattle.std.specs.Cmp.{both_ways as same_tests}
use Rattle.std.proofs.lemmas.Bool.{cases_Bool, cases_eq, cases_lt, both_ways, eqb-true, eq-eqb, ne_eqb, and_from}
use Rattle.std.proofs.lemmas.List.{get_or_default}
use Rattle.std.proofs.lemmas.List.Elements.{recursion_from_All}
use Rattle.std.proofs.lemmas.List.Sums.{sum_by-cons, sum_by-le-sum_by}
use Rattle.std.proofs.lemmas.Nat.{and_le_l}
use Rattle.std.proofs.lemmas.Nat.Bits.{bit_at_and, bit_at-lt, same_from_bits_below}
use Rattle.md_cert.specs.Sources.{has, count_below, count_sources}
use Rattle.md_cert.proofs.Bits.{has_below}
use Rattle.md_cert.proofs.Counting.{below_yes, below_no, below_zero, sources_are}
use Rattle.md_plan.specs.declared.cell.Cell.{Cell}
use Rattle.md_plan.specs.Cells.{AreAllowed, AreLoads, CanMove, IsMovable, excess, load_of, count_with}
use Rattle.md_plan.specs.Search.{IsReach, IsDeadEnd}
use Rattle.md_plan.specs.Bounds.{is_within, sum_below, sum_sources}
use Rattle.md_plan.proofs.SourceBits.{has_bit, bit_has}
use Rattle.md_plan.proofs.CellMoves.{share, share_le}

-- counts

count_zero_none : (p : ℕ → Bool) (n : ℕ) → ((s : ℕ) → s < n → p s ≡ false) → count_below p n ≡ 0
count_zero_none p zero none = below_zero p
count_zero_none p (suc n) none = below_no p n (none n (omega arith)) ∙ count_zero_none p n (λ s lt. none s (omega arith))

none_count_zero : (p : ℕ → Bool) (n : ℕ) → count_below p n ≡ 0 → (s : ℕ) → s < n → p s ≡ false
none_count_zero p zero e s lt = absurd (omega arith)
none_count_zero p (suc n) e s lt =
    elim (cases_Bool (p n)) [
      | inl holds ↦ absurd (let more = below_yes p n holds in omega (arith, more, e))
      | inr fails ↦ elim (cases_eq s n) [
        | inl same ↦ ap p same ∙ fails
        | inr other ↦ none_count_zero p n (sym (below_no p n fails) ∙ e) s (omega arith)
      ]
    ]

pub within_from : (sources mask : ℕ) → ((t : ℕ) → has mask t ≡ true → has sources t ≡ true) → is_within sources mask ≡ true
unfolding is_within
within_from sources mask all =
    eq-eqb (count_sources (λ s. has mask s && not (has sources s))) 0 (sources_are (λ s. has mask s && not (has sources s)) ∙
    count_zero_none (λ s. has mask s && not (has sources s)) 32 (λ s lt. elim (cases_Bool (has mask s)) [
      | inl holds ↦ ap (λ (b : Bool). b && not (has sources s)) holds ∙ ap not (all s holds)
      | inr fails ↦ ap (λ (b : Bool). b && not (has sources s)) fails
    ]))

pub within_has : (sources mask t : ℕ) → is_within sources mask ≡ true → has mask t ≡ true → has sources t ≡ true
unfolding is_within
within_has sources mask t e it =
    let none = none_count_zero (λ s. has mask s && not (has sources s)) 32 (sym (sources_are (λ s. has mask s && not (has sources s))) ∙ eqb-true _ 0 e) t (has_below mask t it) in
    elim (cases_Bool (has sources t)) [
      | inl holds ↦ holds
      | inr fails ↦ absurd (both_ways (has mask t && not (has sources t)) none (and_from (has mask t) (not (has sources t)) it (ap not fails)))
    ]

-- sums

pub sum_zero : (p : ℕ → Bool) (f : ℕ → ℕ) → sum_below p f 0 ≡ 0
unfolding sum_below
sum_zero p f = refl

pub sum_yes : (p : ℕ → Bool) (f : ℕ → ℕ) (n : ℕ) → p n ≡ true → sum_below p f (suc n) ≡ sum_below p f n + f n
unfolding sum_below
sum_yes p f n e = ap (λ b. cond b (sum_below p f n + f n) (sum_below p f n)) e

pub sum_no : (p : ℕ → Bool) (f : ℕ → ℕ) (n : ℕ) → p n ≡ false → sum_below p f (suc n) ≡ sum_below p f n
unfolding sum_below
sum_no p f n e = ap (λ b. cond b (sum_below p f n + f n) (sum_below p f n)) e

pub sum_more : (p : ℕ → Bool) (f : ℕ → ℕ) (m n : ℕ) → m ≤ n → sum_below p f m ≤ sum_below p f n
sum_more p f m zero le = let e : m ≡ 0 = omega arith in subst (λ k. sum_below p f k ≤ sum_below p f 0) (sym e) (omega arith)
sum_more p f m (suc n) le = elim (cases_lt n m) [
  | inl last ↦ let e : m ≡ suc n = omega arith in subst (λ k. sum_below p f k ≤ sum_below p f (suc n)) (sym e) (omega arith)
  | inr before ↦
      let up = sum_more p f m n before in
      elim (cases_Bool (p n)) [ inl holds ↦ let e = sum_yes p f n holds in omega (arith, e, up) | inr fails ↦ let e = sum_no p f n fails in omega (arith, e, up) ]
]

-- a sum and a count of the sources gone through
pub sum_next : (p : ℕ → Bool) (f : ℕ → ℕ) (n sum : ℕ) → p n ≡ true → sum ≡ sum_below p f n → sum + f n ≡ sum_below p f (n + 1)
sum_next p f n sum holds e = rw add-one (omega (arith, e, sum_yes p f n holds))

pub sum_same : (p : ℕ → Bool) (f : ℕ → ℕ) (n sum : ℕ) → p n ≡ false → sum ≡ sum_below p f n → sum ≡ sum_below p f (n + 1)
sum_same p f n sum fails e = rw add-one (e ∙ sym (sum_no p f n fails))

sum_equal : (p : ℕ → Bool) (f g : ℕ → ℕ) (n : ℕ) → ((s : ℕ) → s < n → f s ≡ g s) → sum_below p f n ≡ sum_below p g n
sum_equal p f g zero same = sum_zero p f ∙ sym (sum_zero p g)
sum_equal p f g (suc n) same =
    let before = sum_equal p f g n (λ s lt. same s (omega arith)) in
    elim (cases_Bool (p n)) [
      | inl holds ↦ let e = sum_yes p f n holds in let h = sum_yes p g n holds in let at = same n (omega arith) in omega (arith, e, h, before, at)
      | inr fails ↦ sum_no p f n fails ∙ before ∙ sym (sum_no p g n fails)
    ]

sum_add : (p : ℕ → Bool) (f g : ℕ → ℕ) (n : ℕ) → sum_below p (λ s. f s + g s) n ≡ sum_below p f n + sum_below p g n
sum_add p f g zero = let a = sum_zero p (λ s. f s + g s) in let b = sum_zero p f in let c = sum_zero p g in omega (arith, a, b, c)
sum_add p f g (suc n) =
    let before = sum_add p f g n in
    elim (cases_Bool (p n)) [
      | inl holds ↦ let a = sum_yes p (λ s. f s + g s) n holds in let b = sum_yes p f n holds in let c = sum_yes p g n holds in omega (arith, a, b, c, before)
      | inr fails ↦ let a = sum_no p (λ s. f s + g s) n fails in let b = sum_no p f n fails in let c = sum_no p g n fails in omega (arith, a, b, c, before)
    ]

share_yes : (b : Bool) (m : ℕ) → b ≡ true → share b m ≡ m
share_yes b m e = ap (λ c. share c m) e

share_no : (b : Bool) (m : ℕ) → b ≡ false → share b m ≡ 0
share_no b m e = ap (λ c. share c m) e

share_zero : (b : Bool) → 0 ≡ share b 0
share_zero true = refl
share_zero false = refl

-- what one number adds
single_past : (p : ℕ → Bool) (k m n : ℕ) → n ≤ k → sum_below p (λ s. share (eqb k s) m) n ≡ 0
single_past p k m zero le = sum_zero p (λ s. share (eqb k s) m)
single_past p k m (suc n) le =
    let before = single_past p k m n (omega arith) in
    elim (cases_Bool (p n)) [
      | inl holds ↦ let a = sum_yes p (λ s. share (eqb k s) m) n holds in let z = share_no (eqb k n) m (ne_eqb k n (λ e. absurd (omega arith))) in omega (arith, a, z, before)
      | inr fails ↦ sum_no p (λ s. share (eqb k s) m) n fails ∙ before
    ]

single_le : (p : ℕ → Bool) (k m n : ℕ) → sum_below p (λ s. share (eqb k s) m) n ≤ m
single_le p k m zero = let e = sum_zero p (λ s. share (eqb k s) m) in omega (arith, e)
single_le p k m (suc n) = elim (cases_Bool (p n)) [
  | inr fails ↦ let e = sum_no p (λ s. share (eqb k s) m) n fails in let before = single_le p k m n in omega (arith, e, before)
  | inl holds ↦
      let a = sum_yes p (λ s. share (eqb k s) m) n holds in
      elim (cases_eq k n) [
        | inl same ↦ let before = single_past p k m n (omega arith) in let z = share_yes (eqb k n) m (eq-eqb k n same) in omega (arith, a, before, z)
        | inr other ↦ let before = single_le p k m n in let z = share_no (eqb k n) m (ne_eqb k n other) in omega (arith, a, before, z)
      ]
]

single_none : (p : ℕ → Bool) (k m n : ℕ) → p k ≡ false → sum_below p (λ s. share (eqb k s) m) n ≡ 0
single_none p k m zero none = sum_zero p (λ s. share (eqb k s) m)
single_none p k m (suc n) none =
    let before = single_none p k m n none in
    elim (cases_Bool (p n)) [
      | inl holds ↦
          let a = sum_yes p (λ s. share (eqb k s) m) n holds in
          let z = share_no (eqb k n) m (ne_eqb k n (λ e. both_ways (p n) (ap p (sym e) ∙ none) holds)) in omega (arith, a, before, z)
      | inr fails ↦ sum_no p (λ s. share (eqb k s) m) n fails ∙ before
    ]

-- what some sources hold is no more than the chunks that pass a test, where all that they hold pass
pub held_within : (p q : ℕ → Bool) (n : ℕ) (cells : List Cell) → AllByRecursion (λ c. p c.source ≡ true → 0 < c.count → q c.mask ≡ true) cells → sum_below p (λ s. load_of s cells) n ≤ count_with q cells
held_within p q n [] all = let e = sum_equal p (λ s. load_of s []) (λ s. share (eqb 0 s) 0) n (λ s lt. share_zero (eqb 0 s)) in let le = single_le p 0 0 n in omega (arith, e, le)
held_within p q n (c ∷ rest) all =
    let before = held_within p q n rest all.1 in
    let parts = sum_equal p (λ s. load_of s (c ∷ rest)) (λ s. share (eqb c.source s) c.count + load_of s rest) n (λ s lt. sum_by-cons (λ (x : Cell). share (eqb x.source s) x.count) c rest) in
    let add = sum_add p (λ s. share (eqb c.source s) c.count) (λ s. load_of s rest) n in
    let whole = sum_by-cons (λ (x : Cell). share (q x.mask) x.count) c rest in
    elim (cases_Bool (p c.source)) [
      | inr fails ↦ let none = single_none p c.source c.count n fails in omega (arith, before, parts, add, whole, none)
      | inl holds ↦ elim (cases_lt 0 c.count) [
        | inl some ↦
            let le = single_le p c.source c.count n in
            let is = share_yes (q c.mask) c.count (all.0 holds some) in
            omega (arith, before, parts, add, whole, le, is)
        | inr none ↦ let le = single_le p c.source c.count n in omega (arith, before, parts, add, whole, le, none)
      ]
    ]

-- a count times a bound is no more than a sum of terms that are not below it, and less where one is above
pub count_le_sum : (p : ℕ → Bool) (f : ℕ → ℕ) (b n : ℕ) → ((s : ℕ) → s < n → p s ≡ true → b ≤ f s) → b * count_below p n ≤ sum_below p f n
count_le_sum p f b zero full = let e = below_zero p in let z : b * count_below p 0 ≡ 0 = ap (λ k. b * k) e ∙ mul-zero b in omega (arith, z)
count_le_sum p f b (suc n) full =
    let before = count_le_sum p f b n (λ s lt it. full s (omega arith) it) in
    elim (cases_Bool (p n)) [
      | inl holds ↦
          let e = sum_yes p f n holds in let at = full n (omega arith) holds in
          let z : b * count_below p (suc n) ≡ b * (count_below p n + 1) = ap (λ k. b * k) (below_yes p n holds) in omega (arith, e, at, z, before)
      | inr fails ↦ let e = sum_no p f n fails in let z : b * count_below p (suc n) ≡ b * count_below p n = ap (λ k. b * k) (below_no p n fails) in omega (arith, e, z, before)
    ]

pub count_lt_sum : (p : ℕ → Bool) (f : ℕ → ℕ) (b n k : ℕ) → ((s : ℕ) → s < n → p s ≡ true → b ≤ f s) → k < n → p k ≡ true → b < f k → b * count_below p n < sum_below p f n
count_lt_sum p f b zero k full lt it above = absurd (omega arith)
count_lt_sum p f b (suc n) k full lt it above =
    elim (cases_eq k n) [
      | inl same ↦
          let before = count_le_sum p f b n (λ s below at. full s (omega arith) at) in
          let e = sum_yes p f n (ap p (sym same) ∙ it) in
          let z : b * count_below p (suc n) ≡ b * (count_below p n + 1) = ap (λ j. b * j) (below_yes p n (ap p (sym same) ∙ it)) in
          let at : b < f n = subst (λ j. b < f j) same above in
          omega (arith, e, z, before, at)
      | inr other ↦
          let before = count_lt_sum p f b n k (λ s below at. full s (omega arith) at) (omega arith) it above in
          elim (cases_Bool (p n)) [
            | inl holds ↦
                let e = sum_yes p f n holds in let at = full n (omega arith) holds in
                let z : b * count_below p (suc n) ≡ b * (count_below p n + 1) = ap (λ j. b * j) (below_yes p n holds) in omega (arith, e, at, z, before)
            | inr fails ↦ let e = sum_no p f n fails in let z : b * count_below p (suc n) ≡ b * count_below p n = ap (λ j. b * j) (below_no p n fails) in omega (arith, e, z, before)
          ]
    ]

excess_le : (a b : ℕ) (xs : List ℕ) → a ≤ b → excess b xs ≤ excess a xs
excess_le a b [] le = omega arith
excess_le a b (x ∷ xs) le =
    let e = sum_by-cons (λ n. n - a) x xs in let f = sum_by-cons (λ n. n - b) x xs in let before = excess_le a b xs le in omega (arith, e, f, before)

-- a bound that rises leaves fewer above it
pub excess_less : (a b : ℕ) (xs : List ℕ) (k : ℕ) → a < b → k < length xs → a < get_or xs k 0 → excess b xs < excess a xs
excess_less a b [] k lt within above = absurd (omega arith)
excess_less a b (x ∷ xs) zero lt within above =
    let e = sum_by-cons (λ n. n - a) x xs in let f = sum_by-cons (λ n. n - b) x xs in let before = excess_le a b xs (omega arith) in omega (arith, e, f, before)
excess_less a b (x ∷ xs) (suc k) lt within above =
    let e = sum_by-cons (λ n. n - a) x xs in let f = sum_by-cons (λ n. n - b) x xs in let before = excess_less a b xs k lt (omega arith) above in omega (arith, e, f, before)

pub sum_sources_are : (sources : ℕ) (loads : List ℕ) → sum_sources sources loads ≡ sum_below (has sources) (λ s. get_or loads s 0) 32
unfolding sum_sources
sum_sources_are sources loads = refl

-- the sources of a dead end hold only chunks that no other source may give
pub dead_end_holds : (cells : List Cell) (loads reach : List ℕ) (bound sources : ℕ) → AreAllowed cells → AreLoads cells loads → IsReach cells reach → IsDeadEnd loads reach bound sources → sum_sources sources loads ≤ count_with (is_within sources) cells
dead_end_holds cells loads reach bound sources allowed are reach_is dead =
    let all : AllByRecursion (λ c. has sources c.source ≡ true → 0 < c.count → is_within sources c.mask ≡ true) cells =
    recursion_from_All (λ c. has sources c.source ≡ true → 0 < c.count → is_within sources c.mask ≡ true) cells
    (λ k d lt seen some. within_from sources (get_or cells k d).mask (λ t it.
    let source = (get_or cells k d).source in
    let can : CanMove cells source t = record { at = k; within = lt; movable = λ e. subst (IsMovable source t) (get_or_default cells k d e lt) (record { some = some; source = refl; mask = it }) } in
    dead.closed source t seen (reach_is.complete source t (has_below sources source seen) can))) in
    let le = held_within (has sources) (is_within sources) 32 cells all in
    let same = sum_equal (has sources) (λ s. get_or loads s 0) (λ s. load_of s cells) 32 are.each in
    let is = sum_sources_are sources loads in
    omega (arith, le, same, is)

pub dead_end_more : (loads reach : List ℕ) (bound sources k : ℕ) → IsDeadEnd loads reach bound sources → k < 32 → bound < get_or loads k 0 → bound * count_sources (has sources) < sum_sources sources loads
dead_end_more loads reach bound sources k dead lt above =
    let e : bound * count_sources (has sources) ≡ bound * count_below (has sources) 32 = ap (λ n. bound * n) (sources_are (has sources)) in
    let is = sum_sources_are sources loads in
    let more = count_lt_sum (has sources) (λ s. get_or loads s 0) bound 32 k (λ s below it. dead.full s it) lt (dead.heavy k lt above) above in
    omega (arith, e, is, more)

-- the test of the code
pub has_only_is : (mask sources : ℕ) → mask < 2 ^ 32 → eqb (bit_and mask sources) mask ≡ is_within sources mask
has_only_is mask sources fits =
    same_tests (eqb (bit_and mask sources) mask) (is_within sources mask)
    (λ same. within_from sources mask (λ t it.
    let e : bit_and mask sources ≡ mask = eqb-true (bit_and mask sources) mask same in
    let m = has_bit mask t it in
    let both : min (bit_at mask t) (bit_at sources t) ≡ bit_at mask t = sym (bit_at_and mask sources t) ∙ ap (λ n. bit_at n t) e in
    let lt = bit_at-lt sources t in
    bit_has sources t (has_below mask t it) (omega (arith, m, both, lt))))
    (λ within. eq-eqb (bit_and mask sources) mask (same_from_bits_below 32 (bit_and mask sources) mask
    (let le = and_le_l mask sources in omega (arith, le, fits)) fits
    (λ i lt.
    let a = bit_at-lt mask i in
    let b = bit_at-lt sources i in
    let e = bit_at_and mask sources i in
    elim (cases_eq (bit_at mask i) 1) [
      | inl one ↦ let s = has_bit sources i (within_has sources mask i within (bit_has mask i lt one)) in omega (arith, e, one, s)
      | inr other ↦ omega (arith, e, a, b, other)
    ])))

-- a closed set of sources raises the bound
pub raise_above : (bound result number sum : ℕ) → bound * number < sum → sum ≤ result * number → bound < result
raise_above bound result number sum less le = elim (cases_lt bound result) [
  | inl lt ↦ lt
  | inr ge ↦ absurd (let m : result * number ≤ bound * number = mul-le-mul_right number ge in omega (arith, m, less, le))
]

pub raise_shown : (result number sum : ℕ) → 0 < result → result * number < sum + number → (result - 1) * number < sum
raise_shown zero number sum some less = absurd (omega arith)
raise_shown (suc r) number sum some less =
    let e : suc r * number ≡ r * number + number = suc-mul r number in
    let m : suc r - 1 ≡ r = omega arith in
    let f : (suc r - 1) * number ≡ r * number = ap (λ k. k * number) m in
    omega (arith, e, f, less)

pub count_some : (p : ℕ → Bool) (n k : ℕ) → k < n → p k ≡ true → 0 < count_below p n
count_some p zero k lt it = absurd (omega arith)
count_some p (suc n) k lt it = elim (cases_Bool (p n)) [
  | inl holds ↦ let e = below_yes p n holds in omega (arith, e)
  | inr fails ↦
      let e = below_no p n fails in
      let before = count_some p n k (elim (cases_eq k n) [ inl same ↦ absurd (both_ways (p n) fails (ap p (sym same) ∙ it)) | inr other ↦ omega arith ]) it in
      omega (arith, e, before)
]

pub ceil_enough : (s n : ℕ) → 0 < n → s ≤ (s + n - 1) / n * n
ceil_enough s n some = omega arith

pub ceil_needed : (s n : ℕ) → 0 < n → (s + n - 1) / n * n < s + n
ceil_needed s n some = omega arith

pub count_with_le : (q : ℕ → Bool) (cells : List Cell) → count_with q cells ≤ count_with (λ m. true) cells
count_with_le q cells = sum_by-le-sum_by (λ (c : Cell). share (q c.mask) c.count) (λ (c : Cell). share true c.count) cells (λ c. share_le (q c.mask) c.count)
