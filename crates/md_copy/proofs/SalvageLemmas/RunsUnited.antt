-- Sets whose neighbouring runs are united, run by run.
use Rattle.std.proofs.Common.{◌≡◌, ◌⊎◌, ◌↔◌, ℕ, ◌+◌, ◌-◌, ◌*◌, ◌^◌, ◌<◌, ◌≤◌, List, [], ◌∷◌, sym, ap, subst, arith, inl, inr}
use Rattle.std.proofs.lemmas.Bool.{cases_eq, cases_lt}
use Rattle.md_badblocks.specs.declared.run.Run.{Run}
use Rattle.md_badblocks.specs.Runs.{IsBad, IsCanonical, RisesFrom, entries_needed}
use Rattle.md_badblocks.proofs.Rising.{bad_from, rises_weaker}
use Rattle.md_badblocks.proofs.Unique.{same_runs}
use Rattle.md_copy.specs.Salvaging.United.{HasSet, IsOfGaps, IsUnited, LiesInGapTo, Parts, Unites}
use Rattle.md_copy.proofs.SalvageLemmas.EntriesBelow.{IsApart, below_all, below_along, below_next, below_some, entries_below, entries_more}

-- a list that may have fewer entries
pub record IsRival (gap to : ℕ) (set others other : List Run) : Type 0 where
  pub has : HasSet set others other
  pub only : IsOfGaps gap to set other ⊎ ((gap ≡ 510) × (to ≡ 2 ^ 54))

-- The runs up to `end` are united, but for the run from `first` on, which is not in the list yet; these are the others.
pub record IsUnitedTo (gap to first entry end : ℕ) (set others rest list : List Run) : Type 0 where
  pub canonical : IsCanonical list
  pub rises : RisesFrom end rest
  pub next : 0 < end → RisesFrom (end + 1) rest
  pub past : (s : ℕ) → IsBad set s → (s < end) ⊎ IsBad rest s
  pub left : (s : ℕ) → IsBad rest s → IsBad set s
  pub top : 0 < end → IsBad set (end - 1)
  pub short : end ≤ 2 ^ 54
  pub none : end ≡ 0 → (first ≡ 0) × (entry ≡ 0)
  pub some : 0 < end → (entry < end) × (end ≤ entry + 512)
  -- the entries of the last run
  pub count : ℕ
  pub last : entry ≡ first + 512 * count
  pub begin : 0 < end → (i : ℕ) → i ≤ count → IsBad set (first + 512 * i)
  pub apart : (s : ℕ) → IsBad list s → s + 1 < first
  pub made : (s : ℕ) → IsBad list s ⊎ ((first ≤ s) × (s < end)) → IsBad set s ⊎ (LiesInGapTo gap to (IsBad set) s × (IsBad others s → ⊥))
  pub has : (s : ℕ) → IsBad set s → s < end → IsBad list s ⊎ (first ≤ s)
  pub fewest : (other : List Run) → IsRival gap to set others other → 0 < end → entries_needed list + count + 1 ≤ entries_below (entry + 1) other

pub united_none : (gap to : ℕ) (set others list : List Run) → IsCanonical set → list ≡ [] → IsUnitedTo gap to 0 0 0 set others set list
united_none gap to set others list canonical none = record {
  canonical = subst IsCanonical (sym none) tt;
  rises = canonical;
  next = λ some. absurd (omega arith);
  past = λ s bad. inr bad;
  left = λ s bad. bad;
  top = λ some. absurd (omega arith);
  short = omega arith;
  none = λ nil. (omega arith, omega arith);
  some = λ some. absurd (omega arith);
  count = 0;
  last = omega arith;
  begin = λ some. absurd (omega arith);
  apart = λ s bad. absurd (subst (λ (xs : List Run). IsBad xs s) none bad);
  made = λ s either. elim either [ inl bad ↦ absurd (subst (λ (xs : List Run). IsBad xs s) none bad) | inr here ↦ absurd (let low = here.1 in omega arith) ];
  has = λ s bad low. absurd (omega arith);
  fewest = λ other rival some. absurd (omega arith);
}

-- the run that is not in the list yet comes to it
abbrev pub IsPutTo : (first end : ℕ) → (list new : List Run) → Type 0
IsPutTo first end list new = (s : ℕ) → IsBad new s ↔ (IsBad list s ⊎ ((first ≤ s) × (s < first + (end - first)) × (s < 2 ^ 54)))

module _ (gap to first entry end : ℕ) (set others rest list : List Run) (canonical : IsCanonical set) (h : IsUnitedTo gap to first entry end set others rest list) where
  first_low : first ≤ end
  first_low = elim (cases_lt 0 end) [
    | inl pos ↦ (let low = (h.some pos).0 in let is = h.last in omega (arith, low, is))
    | inr not ↦ (let is = (h.none (omega (arith, not))).0 in omega (arith, is))
  ]

  module _ (new : List Run) (canonical_new : IsCanonical new) (put : IsPutTo first end list new) where
    put_is : (s : ℕ) → IsBad new s ↔ (IsBad list s ⊎ ((first ≤ s) × (s < end)))
    put_is s =
        let low = first_low in
        let short = h.short in (
          λ bad. elim ((put s).0 bad) [ inl was ↦ inl was | inr here ↦ inr (here.0, (let high = here.1 in omega (arith, high, low))) ],
          λ either. (put s).1 (elim either [ inl was ↦ inl was | inr here ↦ inr (here.0, (let high = here.1 in omega (arith, high, low)), (let high = here.1 in omega (arith, high, short))) ]),
        )

    put_entries : 0 < end → entries_needed new ≡ entries_needed list + h.count + 1
    put_entries pos =
        let within = (h.some pos).0 in
        let reach = (h.some pos).1 in
        let is = h.last in
        let all = entries_more list new first end h.canonical canonical_new h.apart (omega (arith, within, is)) h.short put_is in
        omega (arith, all, within, reach, is)

    put_nothing : end ≡ 0 → new ≡ []
    put_nothing nil =
        let nothing : (s : ℕ) → IsBad new s → ⊥ = λ s bad. elim ((put_is s).0 bad) [
          | inl was ↦ (let low = h.apart s was in let is = (h.none nil).0 in omega (arith, low, is))
          | inr here ↦ (let low = here.1 in omega (arith, low, nil))
        ] in
        same_runs 0 0 new [] canonical_new tt (λ s bad. nothing s bad) (λ s bad. absurd bad)

module _ (gap to first entry end : ℕ) (set others rest list : List Run) (run : Run) (canonical : IsCanonical set) (h : IsUnitedTo gap to first entry end set others (run ∷ rest) list) where
  abbrev stop : ℕ
  stop = run.start + run.len

  first_in : end ≤ run.start
  first_in = h.rises.0

  some_in : 0 < run.len
  some_in = h.rises.1

  short_in : run.start + run.len ≤ 2 ^ 54
  short_in = h.rises.2

  in_run : (s : ℕ) → run.start ≤ s → s < stop → IsBad set s
  in_run s low high = h.left s (inl (low, high))

  -- a sector of the set that is not before the end is not before the run
  later : (s : ℕ) → IsBad set s → end ≤ s → run.start ≤ s
  later s bad from_end = elim (h.past s bad) [
    | inl below ↦ absurd (omega (arith, from_end, below))
    | inr here ↦ bad_from run.start (run ∷ rest) s (omega arith, h.rises.1, h.rises.2, h.rises.3) here
  ]

  past_then : (s : ℕ) → IsBad set s → (s < stop) ⊎ IsBad rest s
  past_then s bad = elim (h.past s bad) [
    | inl low ↦ inl (let e = first_in in omega (arith, low, e))
    | inr there ↦ elim there [ inl here ↦ inl here.1 | inr after ↦ inr after ]
  ]

  rises_then : RisesFrom stop rest
  rises_then = rises_weaker stop (stop + 1) rest (omega arith) h.rises.3

  -- ---- it is united with the one before it
  module _ (u : Unites others entry end run.start gap to) (new k : ℕ) (new_is : new ≡ entry + 512 * k) (low : new < stop) (reach : stop ≤ new + 512) where
    pos : 0 < end
    pos = u.some

    begin_then : (i : ℕ) → i ≤ h.count + k → IsBad set (first + 512 * i)
    begin_then i most = elim (cases_lt h.count i) [
      | inl more ↦
          let is = h.last in
          let near = u.near in
          in_run (first + 512 * i) (omega (arith, is, near, more)) (omega (arith, is, most, new_is, low))
      | inr was ↦ h.begin pos i was
    ]

    closed : (s : ℕ) → end ≤ s → s < run.start → LiesInGapTo gap to (IsBad set) s × (IsBad others s → ⊥)
    closed s from before =
        let l = some_in in
        let z = pos in (
          record {
            before = end - 1;
            after = run.start;
            before_is = h.top pos;
            after_is = in_run run.start (omega arith) (omega (arith, l));
            above = omega (arith, from, z);
            below = before;
            close = elim u.narrow [ inl few ↦ inl (omega (arith, few, z)) | inr just ↦ inr ((let is = just.0 in omega (arith, is, z)), just.1) ];
          },
          λ bad. u.clear s bad from before,
        )

    pub united_more : IsUnitedTo gap to first new stop set others rest list
    united_more =
        let l = some_in in
        let e = first_in in
        let is = h.last in
        let z = pos in
        record {
          canonical = h.canonical;
          rises = rises_then;
          next = λ some. h.rises.3;
          past = past_then;
          left = λ s bad. h.left s (inr bad);
          top = λ some. in_run (stop - 1) (omega (arith, l)) (omega (arith, l));
          short = short_in;
          none = λ nil. absurd (omega (arith, nil, l));
          some = λ some. (low, reach);
          count = h.count + k;
          last = omega (arith, is, new_is);
          begin = λ some i most. begin_then i most;
          apart = h.apart;
          made = λ s either. elim either [
            | inl was ↦ h.made s (inl was)
            | inr here ↦ elim (cases_lt s end) [
              | inl before ↦ h.made s (inr (here.0, before))
              | inr after ↦ elim (cases_lt s run.start) [ inl between ↦ inr (closed s after between) | inr in_it ↦ inl (in_run s in_it here.1) ]
            ]
          ];
          has = λ s bad high. elim (cases_lt s end) [
            | inl before ↦ h.has s bad before
            | inr after ↦ inr (let from = later s bad after in let w = (h.some pos).0 in omega (arith, from, e, w, is))
          ];
          fewest = λ other rival some.
              (let before = h.fewest other rival pos in
              let all : (i : ℕ) → i ≤ k → IsBad other (entry + 512 * i) = λ i most. rival.has.all (entry + 512 * i)
              (subst (IsBad set) (omega (arith, is)) (begin_then (h.count + i) (omega (arith, most)))) in
              let along = below_along k entry other rival.has.canonical all in
              let goal : entries_needed list + (h.count + k) + 1 ≤ entries_below (entry + 512 * k + 1) other = omega (arith, before, along) in
              subst (λ (x : ℕ). entries_needed list + (h.count + k) + 1 ≤ entries_below (x + 1) other) (sym new_is) goal);
        }

  -- ---- or it begins a new one
  module _ (p : Parts others entry end run.start gap to) (all : List Run) (canonical_all : IsCanonical all) (put : IsPutTo first end list all)
      (new k : ℕ) (new_is : new ≡ run.start + 512 * k) (low : new < stop) (reach : stop ≤ new + 512) where
    all_is : (s : ℕ) → IsBad all s ↔ (IsBad list s ⊎ ((first ≤ s) × (s < end)))
    all_is = put_is gap to first entry end set others (run ∷ rest) list canonical h all canonical_all put

    parted : 0 < end → (other : List Run) → IsRival gap to set others other → IsApart other entry run.start
    parted some other rival =
        let w = (h.some some).0 in
        let from : end + 1 ≤ run.start = (h.next some).0 in
        let top : run.start < 2 ^ 54 = (let s = short_in in let l = some_in in omega (arith, s, l)) in
        elim p [
          | inl nil ↦ absurd (omega (arith, nil, some))
          | inr (inl far) ↦ inl far
          | inr (inr (inl wide)) ↦ elim rival.only [
            | inl only ↦ inr (
              end,
              w,
              omega (arith, from),
              λ bad. elim (only end bad) [
                | inl there ↦ (let after = later end there (omega arith) in omega (arith, after, from))
                | inr between ↦
                    (let after = later between.after between.after_is (let b = between.below in omega (arith, b)) in
                    let before = between.above in
                    let least = wide.0 in
                    elim between.close [
                      | inl near ↦ omega (arith, after, before, near, least)
                      | inr just ↦
                          (let near = just.0 in
                          let below = just.1 in
                          let is : run.start ≡ end + gap = omega (arith, after, before, near, least) in
                          let at = wide.1 is in
                          omega (arith, after, below, at, before, near, least))
                    ])
              ],
            )
            | inr widest ↦
                inl
                (let least = wide.0 in
                let g = widest.0 in
                let t = widest.1 in
                elim (cases_eq run.start (end + gap)) [
                  | inl just ↦ absurd (let at = wide.1 just in omega (arith, at, t, top))
                  | inr more ↦ omega (arith, least, g, w, more)
                ])
          ]
          | inr (inr (inr there)) ↦ inr (there.0, (let e = there.2 in omega (arith, e, w)), there.3, λ bad. rival.has.beside there.0 bad there.1)
        ]

    begins : (i : ℕ) → i ≤ k → IsBad set (run.start + 512 * i)
    begins i most = in_run (run.start + 512 * i) (omega arith) (omega (arith, most, new_is, low))

    fewest_then : (other : List Run) → IsRival gap to set others other → entries_needed all + k + 1 ≤ entries_below (new + 1) other
    fewest_then other rival =
        let along = below_along k run.start other rival.has.canonical (λ i most. rival.has.all (run.start + 512 * i) (begins i most)) in
        let here : IsBad other run.start = rival.has.all run.start (in_run run.start (omega arith) (let l = some_in in omega (arith, l))) in
        let goal : entries_needed all + k + 1 ≤ entries_below (run.start + 512 * k + 1) other = elim (cases_lt 0 end) [
          | inl pos ↦
              (let before = h.fewest other rival pos in
              let count = put_entries gap to first entry end set others (run ∷ rest) list canonical h all canonical_all put pos in
              let is = h.last in
              let at : IsBad other entry = rival.has.all entry (subst (IsBad set) (sym is) (h.begin pos h.count (omega arith))) in
              let less : entry < run.start = (let w = (h.some pos).0 in let e = first_in in omega (arith, w, e)) in
              let one = below_next 0 entry run.start other rival.has.canonical at here less (parted pos other rival) in
              omega (arith, before, count, one, along))
          | inr not ↦
              (let none = ap entries_needed (put_nothing gap to first entry end set others (run ∷ rest) list canonical h all canonical_all put (omega (arith, not))) in
              let some = below_some 0 run.start other rival.has.canonical here in
              omega (arith, none, some, along))
        ] in
        subst (λ (x : ℕ). entries_needed all + k + 1 ≤ entries_below (x + 1) other) (sym new_is) goal

    pub parted_more : IsUnitedTo gap to run.start new stop set others rest all
    parted_more =
        let l = some_in in
        let e = first_in in
        record {
          canonical = canonical_all;
          rises = rises_then;
          next = λ some. h.rises.3;
          past = past_then;
          left = λ s bad. h.left s (inr bad);
          top = λ some. in_run (stop - 1) (omega (arith, l)) (omega (arith, l));
          short = short_in;
          none = λ nil. absurd (omega (arith, nil, l));
          some = λ some. (low, reach);
          count = k;
          last = new_is;
          begin = λ some i most. begins i most;
          apart = λ s bad. elim ((all_is s).0 bad) [
            | inl was ↦ (let before = h.apart s was in let f = first_low gap to first entry end set others (run ∷ rest) list canonical h in omega (arith, before, f, e))
            | inr here ↦ (let high = here.1 in let from : end + 1 ≤ run.start = (h.next (omega (arith, high))).0 in omega (arith, high, from))
          ];
          made = λ s either. elim either [
            | inl bad ↦ h.made s ((all_is s).0 bad)
            | inr here ↦ inl (in_run s here.0 here.1)
          ];
          has = λ s bad high. elim (cases_lt s end) [
            | inl before ↦ inl ((all_is s).1 (elim (h.has s bad before) [ inl was ↦ inl was | inr from ↦ inr (from, before) ]))
            | inr after ↦ inr (later s bad after)
          ];
          fewest = λ other rival some. fewest_then other rival;
        }

-- ---- all runs
module _ (gap to first entry end : ℕ) (set others list all : List Run) (canonical : IsCanonical set) (h : IsUnitedTo gap to first entry end set others [] list)
    (apart : (s : ℕ) → IsBad set s → IsBad others s → ⊥) (canonical_all : IsCanonical all) (put : IsPutTo first end list all) where
  every : (s : ℕ) → IsBad all s ↔ (IsBad list s ⊎ ((first ≤ s) × (s < end)))
  every = put_is gap to first entry end set others [] list canonical h all canonical_all put

  count_all : (other : List Run) → IsRival gap to set others other → entries_needed all ≤ entries_needed other
  count_all other rival = elim (cases_lt 0 end) [
    | inl pos ↦
        (let before = h.fewest other rival pos in
        let count = put_entries gap to first entry end set others [] list canonical h all canonical_all put pos in
        let most = below_all (entry + 1) other in
        omega (arith, before, count, most))
    | inr not ↦
        (let none = ap entries_needed (put_nothing gap to first entry end set others [] list canonical h all canonical_all put (omega (arith, not))) in
        omega (arith, none))
  ]

  pub united_all : IsUnited gap to set others all
  united_all = record {
    has = record {
      canonical = canonical_all;
      all = λ s bad. elim (h.past s bad) [
        | inl low ↦ (every s).1 (elim (h.has s bad low) [ inl was ↦ inl was | inr from ↦ inr (from, low) ])
        | inr none ↦ absurd none
      ];
      beside = λ s bad other. elim (h.made s ((every s).0 bad)) [ inl there ↦ apart s there other | inr gap ↦ gap.1 other ];
    };
    more = λ s bad. elim (h.made s ((every s).0 bad)) [ inl there ↦ inl there | inr gap ↦ inr gap.0 ];
    fewest = λ other has only. count_all other (record { has = has; only = only });
  }
