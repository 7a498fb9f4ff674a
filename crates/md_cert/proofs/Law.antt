-- A plan that its certificate shows to be shortest is: the law of short sets.
use Rattle.std.proofs.Common.{◌≡◌, ◌∙◌, ℕ, ◌+◌, ◌*◌, ◌<◌, ◌≤◌, zero, suc, Bool, true, cond, ◌&&◌, eqb, List, [], ◌∷◌, length, get_or, refl, sym, ap, subst, arith, inl, inr, ◌⊎◌}
use Rattle.std.specs.List.{AllByRecursion, count_by, HoldsAt}
use Rattle.std.proofs.lemmas.Bool.{cases_lt, cases_order, and_parts, eqb-true, eq-eqb, ne_eqb}
use Rattle.std.proofs.lemmas.List.{get_or_default}
use Rattle.std.proofs.lemmas.List.Elements.{recursion_from_All}
use Rattle.std.proofs.lemmas.List.Folds.{list_any_at}
use Rattle.md_cert.specs.declared.table.Row.{Row}
use Rattle.md_cert.specs.declared.slots.Slot.{Slot}
use Rattle.md_cert.specs.declared.plan.Plan.{Plan}
use Rattle.md_cert.specs.declared.plan.Certificate.{Certificate}
use Rattle.md_cert.specs.Sources.{has, count_below, count_sources}
use Rattle.md_cert.specs.Tables.{mask_of_chunk, planned_chunks, IsTable}
use Rattle.md_cert.specs.Assignments.{HasRounds, IsAssignment, load, Least, IsShort, gives_any}
use Rattle.md_cert.specs.Plans.{IsCertified, SlotsRise, HasTurn, NoRepeatBelow}
use Rattle.md_cert.proofs.Bits.{has_below}
use Rattle.md_cert.proofs.Counting.{pigeons, weaker, one, count_cons, sources_are, below_zero, below_yes}
use Rattle.md_cert.proofs.Masks.{Rises, RowOf, row_of}
use Rattle.md_cert.proofs.RisingLists.{IsIn, up_from_pairs, planned_up, planned_in, planned_masks, count_once, count_within}

count_true : (xs : List ℕ) → count_by (λ x. true) xs ≡ length xs
count_true [] = refl
count_true (x ∷ xs) = let e : count_by (λ x. true) (x ∷ xs) ≡ one true + count_by (λ x. true) xs = count_cons (λ x. true) x xs in let later = count_true xs in omega arith

below_true : (n : ℕ) → count_below (λ k. true) n ≡ n
below_true zero = below_zero (λ k. true)
below_true (suc n) = let e = below_yes (λ k. true) n refl in let later = below_true n in omega arith

-- no assignment gives every source at most n chunks, where a set is short for n rounds
pub too_few : (table : List Row) → Rises table → (chunks : List ℕ) (n : ℕ) (source : ℕ → ℕ) → IsShort table chunks n → IsAssignment table source → ((s : ℕ) → s < 32 → load table source s ≤ n) → ⊥
too_few table rises chunks n source short assigned few =
    let P : ℕ → Bool = gives_any table chunks in
    let up = up_from_pairs chunks short.rising in
    let within : AllByRecursion (IsIn (planned_chunks table)) chunks = recursion_from_All (IsIn (planned_chunks table)) chunks (λ k d lt. planned_in table (get_or chunks k d) (short.given k d lt)) in
    let given : AllByRecursion (λ x. true ≡ true → (source x < 32) × (P (source x) ≡ true)) chunks =
    recursion_from_All (λ x. true ≡ true → (source x < 32) × (P (source x) ≡ true)) chunks
    (λ k d lt t. let it : has (mask_of_chunk table (get_or chunks k d)) (source (get_or chunks k d)) ≡ true = assigned (get_or chunks k d) (short.given k d lt) in (
      has_below (mask_of_chunk table (get_or chunks k d)) (source (get_or chunks k d)) it,
      list_any_at (λ chunk. has (mask_of_chunk table chunk) (source (get_or chunks k d))) chunks k d lt it,
    )) in
    let each : (s : ℕ) → s < 32 → count_by (λ x. true && eqb (source x) s) chunks ≤ n =
    λ s lt. let le : count_by (λ x. eqb (source x) s) chunks ≤ load table source s = count_within (λ x. eqb (source x) s) (planned_chunks table) chunks up (planned_up table rises) within in
    let room = few s lt in omega arith in
    let all : count_by (λ x. true) chunks ≤ n * count_below P 32 = pigeons source P n 32 chunks (λ x. true) given each in
    let more : n * count_sources P < length chunks = short.more in
    let same : count_sources P ≡ count_below P 32 = sources_are P in
    let number = count_true chunks in
    let more' : n * count_below P 32 < length chunks = subst (λ m. n * m < length chunks) same more in
    absurd (omega (arith, all, more', number))

-- where chunks are short for n rounds, every assignment has more
pub short_needs_more : (table : List Row) (chunks : List ℕ) (n : ℕ) → IsTable table → IsShort table chunks n → (source : ℕ → ℕ) (m : ℕ) → IsAssignment table source → HasRounds table source m → n < m
short_needs_more table chunks n is_table short source m assigned rounds =
    elim (cases_lt n m) [
      | inl less ↦ less
      | inr few ↦ absurd (too_few table is_table.rising chunks n source short assigned (λ s lt. let most = rounds.most s in omega (arith, most, few)))
    ]

-- what the slot of a chunk says, 0 where there is none
abbrev value_of : (Slot → ℕ) → List Slot → ℕ → ℕ
value_of f [] chunk = 0
value_of f (s ∷ rest) chunk = cond (eqb s.chunk chunk) (f s) (value_of f rest chunk)

value_hit : (f : Slot → ℕ) (slots : List Slot) → SlotsRise slots → (at : ℕ) (d : Slot) → at < length slots → value_of f slots (get_or slots at d).chunk ≡ f (get_or slots at d)
value_hit f [] rises at d within = absurd (omega arith)
value_hit f (s ∷ rest) rises zero d within = ap (λ b. cond b (f s) (value_of f rest s.chunk)) (eq-eqb s.chunk s.chunk refl)
value_hit f (s ∷ rest) rises (suc at) d within =
    let less : s.chunk < (get_or rest at d).chunk = rises 0 (suc at) d (omega arith) within in
    ap (λ b. cond b (f s) (value_of f rest (get_or rest at d).chunk)) (ne_eqb s.chunk (get_or rest at d).chunk (λ e. absurd (omega arith)))
    ∙ value_hit f rest (λ i j e lt lw. rises (suc i) (suc j) e (omega arith) (omega arith)) at d (omega arith)

read_slot : (slots : List Slot) (at : ℕ) (d e : Slot) → at < length slots → get_or slots at d ≡ get_or slots at e
read_slot slots at d e within = get_or_default slots at d e within

-- the slot of a chunk
record SlotOf (slots : List Slot) (chunk : ℕ) : Type 0 where
  at : ℕ
  within : at < length slots
  is : (d : Slot) → (get_or slots at d).chunk ≡ chunk

slot_of : (table : List Row) (plan : Plan) (certificate : Certificate) → IsCertified table plan certificate → (chunk : ℕ) → (mask_of_chunk table chunk ≡ 0 → ⊥) → SlotOf plan.slots chunk
slot_of table plan certificate h chunk some =
    let row : RowOf table chunk = row_of table chunk some in
    let r : Row = record { chunk = 0; mask = 0 } in
    let there = h.covered row.at r row.within (λ e. some (sym (row.mask r) ∙ e)) in
    record {
      at = there.0;
      within = there.2;
      is = λ d. ap (λ (s : Slot). s.chunk) (read_slot plan.slots there.0 d there.1 there.2 ∙ there.3) ∙ there.4 ∙ row.is r;
    }

value_at : (f : Slot → ℕ) (slots : List Slot) → SlotsRise slots → (chunk : ℕ) (there : SlotOf slots chunk) (d : Slot) → value_of f slots chunk ≡ f (get_or slots there.at d)
value_at f slots rises chunk there d = ap (value_of f slots) (sym (there.is d)) ∙ value_hit f slots rises there.at d there.within

turn_at : (slots : List Slot) (at : ℕ) (d : Slot) (s r : ℕ) → at < length slots → (get_or slots at d).source ≡ s → (get_or slots at d).round ≡ r → HoldsAt (HasTurn s r) slots at
turn_at slots at d s r within source round e =
    let e_is = get_or_default slots at e d within in
    (ap (λ (x : Slot). x.source) e_is ∙ source, ap (λ (x : Slot). x.round) e_is ∙ round)

-- two chunks with one turn are one
one_chunk : (slots : List Slot) (rounds s r x y : ℕ) (d : Slot) → NoRepeatBelow slots rounds (length slots) → r < rounds → (a : SlotOf slots x) (b : SlotOf slots y)
    → (get_or slots a.at d).source ≡ s → (get_or slots a.at d).round ≡ r → (get_or slots b.at d).source ≡ s → (get_or slots b.at d).round ≡ r → x ≡ y
one_chunk slots rounds s r x y d single in_time a b source_a round_a source_b round_b =
    let turn_a = turn_at slots a.at d s r a.within source_a round_a in
    let turn_b = turn_at slots b.at d s r b.within source_b round_b in
    elim (cases_order a.at b.at) [
      | inl same ↦ sym (a.is d) ∙ ap (λ n. (get_or slots n d).chunk) same ∙ b.is d
      | inr apart ↦ elim apart [
        | inl less ↦ absurd (single s r b.at b.within (record { within = b.within; in_time = in_time; turn = turn_b; earlier = a.at; before = less; same = turn_a }))
        | inr more ↦ absurd (single s r a.at a.within (record { within = a.within; in_time = in_time; turn = turn_a; earlier = b.at; before = more; same = turn_b }))
      ]
    ]

-- the first number below m at which f is at least n, if there is one
found_below : (f : ℕ → ℕ) (n m : ℕ) → ((s : ℕ) × (n ≤ f s)) ⊎ ((s : ℕ) → s < m → f s < n)
found_below f n zero = inr (λ s lt. absurd (omega arith))
found_below f n (suc m) =
    elim (found_below f n m) [
      | inl found ↦ inl found
      | inr none ↦ elim (cases_lt (f m) n) [
        | inl less ↦ inr (λ s lt. elim (cases_lt s m) [ inl below ↦ none s below | inr from ↦ let e : s ≡ m = omega arith in subst (λ k. f k < n) (sym e) less ])
        | inr more ↦ inl (m, more)
      ]
    ]

pub certified_least : (table : List Row) (plan : Plan) (certificate : Certificate) → IsTable table → IsCertified table plan certificate → Least table plan.rounds
certified_least table plan certificate is_table h =
    let slots = plan.slots in
    let rises : Rises table = is_table.rising in
    let d : Slot = record { chunk = 0; source = 0; round = 0 } in
    let source : ℕ → ℕ = value_of (λ s. s.source) slots in
    let round : ℕ → ℕ = value_of (λ s. s.round) slots in
    let M : ℕ → Type 0 = λ chunk. mask_of_chunk table chunk ≡ 0 → ⊥ in
    let there : (chunk : ℕ) → M chunk → SlotOf slots chunk = slot_of table plan certificate h in
    let source_at : (chunk : ℕ) (m : M chunk) → source chunk ≡ (get_or slots (there chunk m).at d).source = λ chunk m. value_at (λ s. s.source) slots h.rising chunk (there chunk m) d in
    let round_at : (chunk : ℕ) (m : M chunk) → round chunk ≡ (get_or slots (there chunk m).at d).round = λ chunk m. value_at (λ s. s.round) slots h.rising chunk (there chunk m) d in
    let assigned : IsAssignment table source = λ chunk some.
    let at = there chunk some in
    let it : has (mask_of_chunk table (get_or slots at.at d).chunk) (get_or slots at.at d).source ≡ true = h.allowed at.at d at.within in
    ap (λ n. has (mask_of_chunk table chunk) n) (source_at chunk some) ∙ ap (λ n. has (mask_of_chunk table n) (get_or slots at.at d).source) (sym (at.is d)) ∙ it in
    let masks = planned_masks table rises in
    let up = planned_up table rises in
    let same : (s r x y : ℕ) → r < plan.rounds → M x → M y → (eqb (source x) s && eqb (round x) r) ≡ true → (eqb (source y) s && eqb (round y) r) ≡ true → x ≡ y = λ s r x y in_time m n p q.
    let xs = and_parts (eqb (source x) s) (eqb (round x) r) p in
    let ys = and_parts (eqb (source y) s) (eqb (round y) r) q in
    one_chunk slots plan.rounds s r x y d h.single in_time (there x m) (there y n)
    (sym (source_at x m) ∙ eqb-true (source x) s xs.0) (sym (round_at x m) ∙ eqb-true (round x) r xs.1)
    (sym (source_at y n) ∙ eqb-true (source y) s ys.0) (sym (round_at y n) ∙ eqb-true (round y) r ys.1) in
    let most : (s : ℕ) → load table source s ≤ plan.rounds = λ s.
    let given : AllByRecursion (λ x. eqb (source x) s ≡ true → (round x < plan.rounds) × (true ≡ true)) (planned_chunks table) =
    weaker M (λ x. eqb (source x) s ≡ true → (round x < plan.rounds) × (true ≡ true)) (planned_chunks table)
    (λ x m it. (let late : (get_or slots (there x m).at d).round < plan.rounds = h.in_time (there x m).at d (there x m).within in let e = round_at x m in omega (arith, late, e), refl)) masks in
    let single : (r : ℕ) → r < plan.rounds → count_by (λ x. eqb (source x) s && eqb (round x) r) (planned_chunks table) ≤ 1 = λ r lt.
    count_once M (λ x. eqb (source x) s && eqb (round x) r) (planned_chunks table) up masks (λ x y. same s r x y lt) in
    let all : load table source s ≤ 1 * count_below (λ k. true) plan.rounds = pigeons round (λ k. true) 1 plan.rounds (planned_chunks table) (λ x. eqb (source x) s) given single in
    let e = below_true plan.rounds in
    omega (arith, all, e) in
    elim h.certified [
      | inl nothing ↦ record {
        source = source;
        assigned = assigned;
        rounds = record { most = most; reached = inl nothing.0 };
        least = λ other m a b. let e : plan.rounds ≡ 0 = nothing.0 in omega arith;
      }
      | inr some ↦
          let one_more : plan.rounds ≡ certificate.rounds + 1 = some.0 in
          let no_fewer : (other : ℕ → ℕ) → IsAssignment table other → ((s : ℕ) → s < 32 → load table other s < plan.rounds) → ⊥ = λ other a few.
          too_few table rises certificate.chunks certificate.rounds other some.1 a (λ s lt. let less = few s lt in omega (arith, less, one_more)) in
          record {
            source = source;
            assigned = assigned;
            rounds = record {
              most = most;
              reached = inr (elim (found_below (load table source) plan.rounds 32) [
                | inl found ↦ (found.0, let le = most found.0 in let ge : plan.rounds ≤ load table source found.0 = found.1 in omega (arith, le, ge))
                | inr none ↦ absurd (no_fewer source assigned none)
              ]);
            };
            least = λ other m a b. elim (cases_lt m plan.rounds) [
              | inl less ↦ absurd (no_fewer other a (λ s lt. let le = b.most s in omega (arith, le, less)))
              | inr more ↦ more
            ];
          }
    ]
