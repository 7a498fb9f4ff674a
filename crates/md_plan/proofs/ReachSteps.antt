-- The search for alternating paths.
use Rattle.std.proofs.Common.{◌≡◌, ◌≢◌, ◌∙◌, ℕ, ◌+◌, ◌*◌, ◌^◌, ◌%◌, ◌<◌, ◌≤◌, zero, suc, Bool, true, false, not, ◌||◌, List, length, get_or, set, sym, ap, subst, arith, inl, inr, bit_or, get_or-set_same, get_or-set_other}
use Rattle.std.proofs.lemmas.Bool.{cases_Bool, cases_eq, cases_lt, both_ways, or_cases, or_right}
use Rattle.std.proofs.lemmas.List.{get_or_default}
use Rattle.md_cert.specs.Sources.{has, count_below}
use Rattle.md_cert.proofs.Bits.{has_below, has_or, has_zero, has_set_same, has_set_other}
use Rattle.md_cert.proofs.Counting.{below_yes, below_no, below_zero}
use Rattle.md_plan.specs.declared.cell.Cell.{Cell}
use Rattle.md_plan.specs.Cells.{IsMovable, CanMove}
use Rattle.md_plan.specs.Search.{IsReach, IsForest, IsStep}

-- the words by the cells below an index
pub record ReachBelow (cells : List Cell) (reach : List ℕ) (i : ℕ) : Type 0 where
  pub sound : (s t : ℕ) → s < 32 → has (get_or reach s 0) t ≡ true → CanMove cells s t
  pub complete : (k : ℕ) (d : Cell) (s t : ℕ) → k < i → s < 32 → IsMovable s t (get_or cells k d) → has (get_or reach s 0) t ≡ true

pub reach_none : (cells : List Cell) (reach : List ℕ) → ((k : ℕ) → k < 32 → get_or reach k 0 ≡ 0) → ReachBelow cells reach 0
reach_none cells reach zeros = record {
  sound = λ s t lt it. absurd (both_ways (has (get_or reach s 0) t) (ap (λ n. has n t) (zeros s lt) ∙ has_zero t) it);
  complete = λ k d s t less. absurd (omega arith);
}

-- a cell with no chunks
pub reach_empty : (cells : List Cell) (reach : List ℕ) (i : ℕ) (d : Cell) → i < length cells → (get_or cells i d).count ≡ 0 → ReachBelow cells reach i → ReachBelow cells reach (i + 1)
reach_empty cells reach i d within none before = record {
  sound = before.sound;
  complete = λ k e s t less lt m. elim (cases_eq k i) [
    | inl same ↦ absurd (
        let some : 0 < (get_or cells k e).count = m.some in
        let read : (get_or cells k e).count ≡ (get_or cells i d).count = ap (λ n. (get_or cells n e).count) same ∙ ap (λ (c : Cell). c.count) (get_or_default cells i e d within) in
        omega (arith, some, read, none))
    | inr other ↦ before.complete k e s t (omega arith) lt m
  ];
}

pub reach_more : (cells : List Cell) (reach : List ℕ) (i : ℕ) (d : Cell) (new : List ℕ) → i < length cells → 0 < (get_or cells i d).count → (get_or cells i d).source < 32 → length reach ≡ 32
    → new ≡ set reach (get_or cells i d).source (bit_or (get_or reach (get_or cells i d).source 0) (get_or cells i d).mask) → ReachBelow cells reach i → ReachBelow cells new (i + 1)
reach_more cells reach i d new within some source_within long e before =
    let c = get_or cells i d in
    let word = bit_or (get_or reach c.source 0) c.mask in
    let at_source : get_or new c.source 0 ≡ word = ap (λ xs. get_or xs c.source 0) e ∙ get_or-set_same reach c.source word 0 (omega arith) in
    let at_other : (s : ℕ) → s ≢ c.source → get_or new s 0 ≡ get_or reach s 0 = λ s other. ap (λ xs. get_or xs s 0) e ∙ get_or-set_other reach c.source s word 0 other in
    record {
      sound = λ s t lt it. elim (cases_eq s c.source) [
        | inl same ↦
            let in_word : (has (get_or reach c.source 0) t || has c.mask t) ≡ true = sym (has_or (get_or reach c.source 0) c.mask t) ∙ ap (λ n. has n t) (sym at_source) ∙ ap (λ n. has (get_or new n 0) t) (sym same) ∙ it in
            elim (or_cases (has (get_or reach c.source 0) t) (has c.mask t) in_word) [
              | inl before_it ↦ before.sound s t lt (ap (λ n. has (get_or reach n 0) t) same ∙ before_it)
              | inr mask_it ↦ record { at = i; within = within; movable = λ f. subst (IsMovable s t) (get_or_default cells i d f within) (record { some = some; source = sym same; mask = mask_it }) }
            ]
        | inr other ↦ before.sound s t lt (ap (λ n. has n t) (sym (at_other s other)) ∙ it)
      ];
      complete = λ k f s t less lt m.
          let old : k < i → has (get_or reach s 0) t ≡ true → has (get_or new s 0) t ≡ true = λ below it. elim (cases_eq s c.source) [
            | inl same ↦ ap (λ n. has (get_or new n 0) t) same ∙ ap (λ n. has n t) at_source ∙ has_or (get_or reach c.source 0) c.mask t
                ∙ ap (λ (b : Bool). b || has c.mask t) (ap (λ n. has (get_or reach n 0) t) (sym same) ∙ it)
            | inr other ↦ ap (λ n. has n t) (at_other s other) ∙ it
          ] in
          elim (cases_eq k i) [
            | inl same ↦
                let read : get_or cells k f ≡ c = ap (λ n. get_or cells n f) same ∙ get_or_default cells i f d within in
                let at : IsMovable s t c = subst (IsMovable s t) read m in
                ap (λ n. has (get_or new n 0) t) (sym at.source) ∙ ap (λ n. has n t) at_source ∙ has_or (get_or reach c.source 0) c.mask t ∙ or_right (has (get_or reach c.source 0) t) (has c.mask t) at.mask
            | inr other ↦ old (omega arith) (before.complete k f s t (omega arith) lt m)
          ];
    }

pub reach_all : (cells : List Cell) (reach : List ℕ) → ReachBelow cells reach (length cells) → IsReach cells reach
reach_all cells reach all = record {
  sound = all.sound;
  complete = λ s t lt can. let d : Cell = record { mask = 0; count = 0; source = 0; next = 0 } in all.complete can.at d s t can.within lt (can.movable d);
}

-- how many sources are not in a set
unfoldable pub unseen : ℕ → ℕ
unseen sources = count_below (λ s. not (has sources s)) 32

pub record IsSearched (loads reach : List ℕ) (bound sources : ℕ) (order parent : List ℕ) (steps : ℕ) : Type 0 where
  pub forest : IsForest loads reach bound sources order parent
  pub orders : (v : ℕ) → has sources v ≡ true → get_or order v 0 ≤ steps
  pub heavy : (s : ℕ) → s < 32 → bound < get_or loads s 0 → has sources s ≡ true
  pub full : (s : ℕ) → has sources s ≡ true → bound ≤ get_or loads s 0
  pub few : steps + unseen sources ≤ 32

below_le : (p : ℕ → Bool) (n : ℕ) → count_below p n ≤ n
below_le p zero = let e = below_zero p in omega arith
below_le p (suc n) = elim (cases_Bool (p n)) [
  | inl yes_n ↦ let e = below_yes p n yes_n in let before = below_le p n in omega arith
  | inr not_n ↦ let e = below_no p n not_n in let before = below_le p n in omega arith
]

pub below_weaker : (p q : ℕ → Bool) (n : ℕ) → ((s : ℕ) → s < n → q s ≡ true → p s ≡ true) → count_below q n ≤ count_below p n
below_weaker p q zero h = let e = below_zero q in omega arith
below_weaker p q (suc n) h =
    let before = below_weaker p q n (λ s lt it. h s (omega arith) it) in
    elim (cases_Bool (q n)) [
      | inl yes_q ↦ let e = below_yes q n yes_q in let f = below_yes p n (h n (omega arith) yes_q) in omega (arith, e, f, before)
      | inr not_q ↦ let e = below_no q n not_q in
          elim (cases_Bool (p n)) [
            | inl yes_p ↦ let f = below_yes p n yes_p in omega (arith, e, f, before)
            | inr not_p ↦ let f = below_no p n not_p in omega (arith, e, f, before)
          ]
    ]

below_less : (p q : ℕ → Bool) (n t : ℕ) → ((s : ℕ) → s < n → q s ≡ true → p s ≡ true) → t < n → p t ≡ true → q t ≡ false → count_below q n < count_below p n
below_less p q zero t h lt yes_t not_t = absurd (omega arith)
below_less p q (suc n) t h lt yes_t not_t =
    elim (cases_eq t n) [
      | inl same ↦
          let before = below_weaker p q n (λ s below it. h s (omega arith) it) in
          let e = below_no q n (ap q (sym same) ∙ not_t) in
          let f = below_yes p n (ap p (sym same) ∙ yes_t) in
          omega (arith, e, f, before)
      | inr other ↦
          let before = below_less p q n t (λ s below it. h s (omega arith) it) (omega arith) yes_t not_t in
          elim (cases_Bool (q n)) [
            | inl yes_q ↦ let e = below_yes q n yes_q in let f = below_yes p n (h n (omega arith) yes_q) in omega (arith, e, f, before)
            | inr not_q ↦ let e = below_no q n not_q in
                elim (cases_Bool (p n)) [
                  | inl yes_p ↦ let f = below_yes p n yes_p in omega (arith, e, f, before)
                  | inr not_p ↦ let f = below_no p n not_p in omega (arith, e, f, before)
                ]
          ]
    ]

-- one source more is seen
pub unseen_less : (sources new t : ℕ) → t < 32 → has sources t ≡ false → new ≡ bit_or sources (1 * 2 ^ t % 2 ^ 32) → unseen new < unseen sources
unfolding unseen
unseen_less sources new t lt free e =
    below_less (λ s. not (has sources s)) (λ s. not (has new s)) 32 t
    (λ s below it. elim (cases_eq s t) [
      | inl same ↦ ap (λ n. not (has sources n)) same ∙ ap not free
      | inr other ↦ ap not (sym (ap (λ n. has n s) e ∙ has_set_other sources t s lt other)) ∙ it
    ])
    lt (ap not free) (ap not (ap (λ n. has n t) e ∙ has_set_same sources t lt))

pub unseen_le : (sources : ℕ) → unseen sources ≤ 32
unfolding unseen
unseen_le sources = below_le (λ s. not (has sources s)) 32

-- a source is seen in the end that was seen before, or the new one
has_new : (sources new t v : ℕ) → t < 32 → new ≡ bit_or sources (1 * 2 ^ t % 2 ^ 32) → v ≢ t → has new v ≡ has sources v
has_new sources new t v lt e other = ap (λ n. has n v) e ∙ has_set_other sources t v lt other

-- the forest with one source more
pub forest_more : (loads reach : List ℕ) (bound sources : ℕ) (order parent : List ℕ) (steps from t new : ℕ) (order' parent' : List ℕ) → length order ≡ 32 → length parent ≡ 32
    → IsSearched loads reach bound sources order parent steps → IsStep reach sources from t → new ≡ bit_or sources (1 * 2 ^ t % 2 ^ 32)
    → order' ≡ set order t (steps + 1) → parent' ≡ set parent t from → IsForest loads reach bound new order' parent'
forest_more loads reach bound sources order parent steps from t new order' parent' long_order long_parent before step e order_is parent_is =
    let lt : t < 32 = has_below (get_or reach from 0) t step.step in
    let order_t : get_or order' t 0 ≡ steps + 1 = ap (λ xs. get_or xs t 0) order_is ∙ get_or-set_same order t (steps + 1) 0 (omega arith) in
    let parent_t : get_or parent' t 0 ≡ from = ap (λ xs. get_or xs t 0) parent_is ∙ get_or-set_same parent t from 0 (omega arith) in
    let order_v : (v : ℕ) → v ≢ t → get_or order' v 0 ≡ get_or order v 0 = λ v other. ap (λ xs. get_or xs v 0) order_is ∙ get_or-set_other order t v (steps + 1) 0 other in
    let parent_v : (v : ℕ) → v ≢ t → get_or parent' v 0 ≡ get_or parent v 0 = λ v other. ap (λ xs. get_or xs v 0) parent_is ∙ get_or-set_other parent t v from 0 other in
    let not_t : (v : ℕ) → has sources v ≡ true → v ≢ t = λ v it same. both_ways (has sources t) step.to (ap (has sources) (sym same) ∙ it) in
    let still : (v : ℕ) → has sources v ≡ true → has new v ≡ true = λ v it. has_new sources new t v lt e (not_t v it) ∙ it in
    λ v it. elim (cases_eq v t) [
      | inl same ↦ inr (record {
        later = let o : get_or order' v 0 ≡ steps + 1 = ap (λ n. get_or order' n 0) same ∙ order_t in omega (arith, o);
        within = elim (cases_lt bound (get_or loads t 0)) [
          | inl above ↦ absurd (both_ways (has sources t) step.to (before.heavy t lt above))
          | inr not_above ↦ subst (λ n. get_or loads n 0 ≤ bound) (sym same) not_above
        ];
        seen = subst (λ n. has new (get_or parent' n 0) ≡ true) (sym same) (ap (has new) parent_t ∙ still from step.from);
        earlier =
            let o = order_v from (not_t from step.from) in
            let le = before.orders from step.from in
            let p : get_or order' (get_or parent' t 0) 0 ≡ get_or order from 0 = ap (λ n. get_or order' n 0) parent_t ∙ o in
            subst (λ n. get_or order' (get_or parent' n 0) 0 < get_or order' n 0) (sym same) (omega (arith, p, le, order_t));
        step = subst (λ n. has (get_or reach (get_or parent' n 0) 0) n ≡ true) (sym same) (ap (λ n. has (get_or reach n 0) t) parent_t ∙ step.step);
      })
      | inr other ↦
          let old : has sources v ≡ true = sym (has_new sources new t v lt e other) ∙ it in
          let o = order_v v other in
          let p = parent_v v other in
          elim (before.forest v old) [
            | inl root ↦ inl (record { first = o ∙ root.first; above = root.above })
            | inr child ↦
                let po : get_or order' (get_or parent' v 0) 0 ≡ get_or order (get_or parent v 0) 0 = ap (λ n. get_or order' n 0) p ∙ order_v (get_or parent v 0) (not_t (get_or parent v 0) child.seen) in
                inr (record {
                  later = let l = child.later in omega (arith, l, o);
                  within = child.within;
                  seen = ap (has new) p ∙ still (get_or parent v 0) child.seen;
                  earlier = let l = child.earlier in omega (arith, l, o, po);
                  step = ap (λ n. has (get_or reach n 0) v) p ∙ child.step;
                })
          ]
    ]

-- the search goes on from a source that is not below the bound
pub searched_more : (loads reach : List ℕ) (bound sources : ℕ) (order parent : List ℕ) (steps from t new : ℕ) (order' parent' : List ℕ) → length order ≡ 32 → length parent ≡ 32
    → IsSearched loads reach bound sources order parent steps → IsStep reach sources from t → new ≡ bit_or sources (1 * 2 ^ t % 2 ^ 32)
    → order' ≡ set order t (steps + 1) → parent' ≡ set parent t from → bound ≤ get_or loads t 0 → IsSearched loads reach bound new order' parent' (steps + 1)
searched_more loads reach bound sources order parent steps from t new order' parent' long_order long_parent before step e order_is parent_is full =
    let lt : t < 32 = has_below (get_or reach from 0) t step.step in
    let order_t : get_or order' t 0 ≡ steps + 1 = ap (λ xs. get_or xs t 0) order_is ∙ get_or-set_same order t (steps + 1) 0 (omega arith) in
    let order_v : (v : ℕ) → v ≢ t → get_or order' v 0 ≡ get_or order v 0 = λ v other. ap (λ xs. get_or xs v 0) order_is ∙ get_or-set_other order t v (steps + 1) 0 other in
    record {
      forest = forest_more loads reach bound sources order parent steps from t new order' parent' long_order long_parent before step e order_is parent_is;
      orders = λ v it. elim (cases_eq v t) [
        | inl same ↦ let o : get_or order' v 0 ≡ steps + 1 = ap (λ n. get_or order' n 0) same ∙ order_t in omega (arith, o)
        | inr other ↦ let o = order_v v other in let le = before.orders v (sym (has_new sources new t v lt e other) ∙ it) in omega (arith, o, le)
      ];
      heavy = λ s below above. elim (cases_eq s t) [
        | inl same ↦ ap (has new) same ∙ ap (λ n. has n t) e ∙ has_set_same sources t lt
        | inr other ↦ has_new sources new t s lt e other ∙ before.heavy s below above
      ];
      full = λ s it. elim (cases_eq s t) [
        | inl same ↦ subst (λ n. bound ≤ get_or loads n 0) (sym same) full
        | inr other ↦ before.full s (sym (has_new sources new t s lt e other) ∙ it)
      ];
      few = let less = unseen_less sources new t lt step.to e in let f = before.few in omega (arith, less, f);
    }
