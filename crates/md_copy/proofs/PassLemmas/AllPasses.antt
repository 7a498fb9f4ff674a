-- Passes one after another.
use Rattle.std.proofs.Common.{◌≡◌, ◌≢◌, ◌∙◌, ◌↔◌, ◌⊎◌, ℕ, suc, zero, ◌+◌, ◌≤◌, ◌==◌, ◌&&◌, Bool, true, false, not, inl, inr, List, [], ◌∷◌, ◌++◌, append_assoc, length, filter, Contains, refl, ap, sym, subst, arith}
use Rattle.std.specs.List.{Any}
use Rattle.std.proofs.lemmas.Bool.{and_parts, both_ways, eq-eqb, eqb-true}
use Rattle.std.proofs.lemmas.List.Filters.{length-filter_both}
use Rattle.std.proofs.lemmas.Bool.Decides.{nat_tests}
use Rattle.md_cert.specs.declared.slots.Slot.{Slot}
use Rattle.md_copy.specs.PassLaws.Passes.{AddsPass, ArePasses, AreAllPasses, LeadsToPasses, PassCopies, IsCopiedIn, IsPassOf, ListsAlone, PassView, Permits, ServesAtMost, failed_chunks, slots_of_pass}
use Rattle.md_pass.proofs.FilteredLists.{kept}
use Rattle.md_copy.proofs.PassLemmas.Kept.{in_or_not, mapped, mapped_from}
use Rattle.md_copy.proofs.PassLemmas.OnePass.{failed_there, one_slot, permitted_planned, slot_permitted, slot_within}

-- a slot of a chunk from a source, if there is one
find_slot : (xs : List Slot) (c r : ℕ) → Any (λ s. (s.chunk ≡ c) × (s.source ≡ r)) xs ⊎ ((s : Slot) → Contains xs s → s.chunk ≡ c → s.source ≡ r → ⊥)
find_slot [] c r = inr (λ s (k, below, is) chunk source. absurd (omega (arith, below)))
find_slot (x ∷ xs) c r = by (x.chunk == c && x.source == r) refl (find_slot xs c r)
  where
    by : (b : Bool) → (x.chunk == c && x.source == r) ≡ b → Any (λ s. (s.chunk ≡ c) × (s.source ≡ r)) xs ⊎ ((s : Slot) → Contains xs s → s.chunk ≡ c → s.source ≡ r → ⊥)
        → Any (λ s. (s.chunk ≡ c) × (s.source ≡ r)) (x ∷ xs) ⊎ ((s : Slot) → Contains (x ∷ xs) s → s.chunk ≡ c → s.source ≡ r → ⊥)
    by true e rest = let (u, v) = and_parts (x.chunk == c) (x.source == r) e in inl (0, x, omega arith, refl, (eqb-true x.chunk c u, eqb-true x.source r v))
    by false e (inl (k, s, below, at, is)) = inl (suc k, s, omega (arith, below), at, is)
    by false e (inr none) = inr (λ s there chunk source. here_or_later s there chunk source e none)
      where
        here_or_later : (s : Slot) → Contains (x ∷ xs) s → s.chunk ≡ c → s.source ≡ r → (x.chunk == c && x.source == r) ≡ false → ((s : Slot) → Contains xs s → s.chunk ≡ c → s.source ≡ r → ⊥) → ⊥
        here_or_later s (zero, below, is) chunk source e none =
            let one : (x.chunk == c) ≡ true = eq-eqb x.chunk c (ap (λ (z : Slot). z.chunk) is ∙ chunk) in
            let two : (x.source == r) ≡ true = eq-eqb x.source r (ap (λ (z : Slot). z.source) is ∙ source) in
            let both : (x.chunk == c && x.source == r) ≡ true = rw (one, two) refl in
            both_ways (x.chunk == c && x.source == r) e both
        here_or_later s (suc k, below, is) chunk source e none = none s (k, omega (arith, below), is) chunk source

module _ {A : Type 0} (Serves Permitted : A → ℕ → ℕ → Type 0) (Lists : List Slot → A → A → Type 0) (permits : Permits Serves Permitted Lists) (alone : ListsAlone Serves Permitted Lists) where
  abbrev Passes : List PassView → A → List ℕ → A → Type 0
  Passes passes a chunks end = ArePasses Serves Permitted Lists passes a chunks end

  abbrev IsPass : A → List ℕ → PassView → Type 0
  IsPass a chunks p = IsPassOf Serves Permitted Lists a chunks p

  -- a chunk that failed is of the table
  failed_within : (a : A) (chunks : List ℕ) (p : PassView) → IsPass a chunks p → (c : ℕ) → Contains (failed_chunks p) c → Contains chunks c
  failed_within a chunks p is c there =
      let from = mapped_from (λ (s : Slot). s.chunk) p.failed c there in
      subst (Contains chunks) from.is (slot_within is from.x (failed_there is from.x from.there))

  -- of a list that is not empty, the first
  first_of : (xs : List Slot) → xs ≢ [] → (s : Slot) × Contains xs s
  first_of [] some = absurd (some refl)
  first_of (x ∷ xs) some = (x, (0, omega arith, refl))

  -- what is served at the end was served before
  pub served_before : (passes : List PassView) (a end : A) (chunks : List ℕ) → Passes passes a chunks end → (c r : ℕ) → Serves end c r → Serves a c r
  served_before [] a end chunks go c r serves = absurd go
  served_before (p ∷ []) a end chunks (is, none, same) c r serves = subst (λ x. Serves x c r) same serves
  served_before (p ∷ q ∷ ps) a end chunks (is, some, (b, lists, go)) c r serves =
      alone.fewer p.failed a b c r lists (served_before (q ∷ ps) b end (failed_chunks p) go c r serves)

  -- what is served of a chunk that is in no table stays served
  pub served_still : (passes : List PassView) (a end : A) (chunks : List ℕ) → Passes passes a chunks end → (c r : ℕ) → (Contains chunks c → ⊥) → Serves a c r → Serves end c r
  served_still [] a end chunks go c r out serves = absurd go
  served_still (p ∷ []) a end chunks (is, none, same) c r out serves = subst (λ x. Serves x c r) (sym same) serves
  served_still (p ∷ q ∷ ps) a end chunks (is, some, (b, lists, go)) c r out serves =
      served_still (q ∷ ps) b end (failed_chunks p) go c r (λ there. out (failed_within a chunks p is c there))
      (alone.others p.failed a b c r lists serves (λ s there chunk source. out (subst (Contains chunks) chunk (slot_within is s (failed_there is s there)))))

  -- what a pass copies is of its table
  copies_within : (a : A) (chunks : List ℕ) (p : PassView) → IsPass a chunks p → (c : ℕ) → PassCopies c p → Contains chunks c
  copies_within a chunks p is c (k, s, below, at, (chunk, left)) = subst (Contains chunks) chunk (slot_within is s (k, below, at))

  copied_within : (passes : List PassView) (a end : A) (chunks : List ℕ) → Passes passes a chunks end → (c : ℕ) → IsCopiedIn passes c → Contains chunks c
  copied_within [] a end chunks go c copied = absurd go
  copied_within (p ∷ []) a end chunks (is, none, same) c (zero, x, below, at, copies) = copies_within a chunks p is c (subst (PassCopies c) (sym at) copies)
  copied_within (p ∷ []) a end chunks (is, none, same) c (suc k, x, below, at, copies) = absurd (omega (arith, below))
  copied_within (p ∷ q ∷ ps) a end chunks (is, some, (b, lists, go)) c (zero, x, below, at, copies) = copies_within a chunks p is c (subst (PassCopies c) (sym at) copies)
  copied_within (p ∷ q ∷ ps) a end chunks (is, some, (b, lists, go)) c (suc k, x, below, at, copies) =
      failed_within a chunks p is c (copied_within (q ∷ ps) b end (failed_chunks p) go c (k, x, omega (arith, below), at, copies))

  -- where a slot did not fail, its chunk is not among those that did
  not_failed : (a : A) (chunks : List ℕ) (p : PassView) → IsPass a chunks p → (s : Slot) → Contains (slots_of_pass p) s → (Contains p.failed s → ⊥) → Contains (failed_chunks p) s.chunk → ⊥
  not_failed a chunks p is s there left failed =
      let from = mapped_from (λ (x : Slot). x.chunk) p.failed s.chunk failed in
      left (subst (Contains p.failed) (one_slot (slots_of_pass p) is.certified.rising from.x s (failed_there is from.x from.there) there from.is) from.there)

  -- a chunk that a pass copies is served at the end
  copies_served : (passes : List PassView) (a b end : A) (chunks : List ℕ) (p : PassView) → IsPass a chunks p → Lists p.failed a b → Passes passes b (failed_chunks p) end → (c : ℕ) → PassCopies c p → (r : ℕ) × Serves end c r
  copies_served passes a b end chunks p is lists go c (k, s, below, at, (chunk, left)) =
      let there : Contains (slots_of_pass p) s = (k, below, at) in
      let serves = permits.served a s.chunk s.source (slot_permitted is s there) in
      let out = not_failed a chunks p is s there left in
      let still = alone.others p.failed a b s.chunk s.source lists serves (λ f in_failed same source. out (subst (Contains (failed_chunks p)) same (mapped (λ (x : Slot). x.chunk) p.failed f in_failed))) in
      (s.source, subst (λ x. Serves end x s.source) chunk (served_still passes b end (failed_chunks p) go s.chunk s.source out still))

  -- a chunk of the table that is served is planned
  planned_of : (a : A) (chunks : List ℕ) (p : PassView) → IsPass a chunks p → (c r : ℕ) → Contains chunks c → Serves a c r → (s : Slot) × Contains (slots_of_pass p) s × (s.chunk ≡ c)
  planned_of a chunks p is c r there serves =
      let (q, may) = permits.some a c r serves in
      let (k, s, below, at, chunk) = permitted_planned is c there q (permits.role a c q (permits.served a c q may)) may in
      (s, (k, below, at), chunk)

  pub copied_where_served : (passes : List PassView) (a end : A) (chunks : List ℕ) → Passes passes a chunks end → (c : ℕ) → Contains chunks c → IsCopiedIn passes c ↔ ((r : ℕ) × Serves end c r)
  copied_where_served [] a end chunks go c there = absurd go
  copied_where_served (p ∷ []) a end chunks (is, none, same) c there = (
    λ copied. last_served copied,
    λ (r, serves).
        let (s, planned, chunk) = planned_of a chunks p is c r there (subst (λ x. Serves x c r) same serves) in
        let (k, below, at) = planned in
        (0, p, omega arith, refl, (k, s, below, at, (chunk, λ failed. let (j, low, e) = subst (λ xs. Contains xs s) none failed in absurd (omega (arith, low))))),
  )
    where
      last_served : IsCopiedIn (p ∷ []) c → (r : ℕ) × Serves end c r
      last_served (zero, x, below, at, copies) =
          let (k, s, low, here, (chunk, left)) = subst (PassCopies c) (sym at) copies in
          (s.source, subst (λ x. Serves x c s.source) (sym same) (subst (λ n. Serves a n s.source) chunk (permits.served a s.chunk s.source (slot_permitted is s (k, low, here)))))
      last_served (suc k, x, below, at, copies) = absurd (omega (arith, below))
  copied_where_served (p ∷ q ∷ ps) a end chunks (is, some, (b, lists, go)) c there =
      let rest = copied_where_served (q ∷ ps) b end (failed_chunks p) go c in (
        λ copied. first_served rest copied,
        λ (r, serves).
            elim (in_or_not (failed_chunks p) c) [
              | inl again ↦ let (k, x, below, at, copies) = (rest again).1 (r, serves) in (suc k, x, omega (arith, below), at, copies)
              | inr out ↦
                  let (s, planned, chunk) = planned_of a chunks p is c r there (served_before (p ∷ q ∷ ps) a end chunks (is, some, (b, lists, go)) c r serves) in
                  let (k, below, at) = planned in
                  (0, p, omega arith, refl, (k, s, below, at, (chunk, λ failed. out (subst (Contains (failed_chunks p)) chunk (mapped (λ (x : Slot). x.chunk) p.failed s failed)))))
            ],
      )
    where
      first_served : (Contains (failed_chunks p) c → IsCopiedIn (q ∷ ps) c ↔ ((r : ℕ) × Serves end c r)) → IsCopiedIn (p ∷ q ∷ ps) c → (r : ℕ) × Serves end c r
      first_served rest (zero, x, below, at, copies) = copies_served (q ∷ ps) a b end chunks p is lists go c (subst (PassCopies c) (sym at) copies)
      first_served rest (suc k, x, below, at, copies) =
          let later : IsCopiedIn (q ∷ ps) c = (k, x, omega (arith, below), at, copies) in
          (rest (copied_within (q ∷ ps) b end (failed_chunks p) go c later)).0 later

  -- ---- how many passes
  abbrev is_pair : Slot → ℕ × ℕ → Bool
  is_pair f x = x.0 == f.chunk && x.1 == f.source

  -- a slot that failed leaves one pair less
  fewer_pairs : (f : Slot) (pairs : List (ℕ × ℕ)) → Contains pairs (f.chunk, f.source) → length (filter (λ x. not (is_pair f x)) pairs) + 1 ≤ length pairs
  fewer_pairs f pairs there =
      let both = length-filter_both (is_pair f) (λ x. not (is_pair f x)) (λ x. refl) pairs in
      let one : (f.chunk == f.chunk) ≡ true = grind (arith, nat_tests) in
      let two : (f.source == f.source) ≡ true = grind (arith, nat_tests) in
      let (k, below, at) = kept (is_pair f) pairs (f.chunk, f.source) there (rw (one, two) refl) in
      omega (arith, both, below)

  fewer_served : (a b : A) (chunks : List ℕ) (p : PassView) → IsPass a chunks p → p.failed ≢ [] → Lists p.failed a b → (n : ℕ) → ServesAtMost Serves Permitted Lists a n → (m : ℕ) × (m + 1 ≤ n) × ServesAtMost Serves Permitted Lists b m
  fewer_served a b chunks p is some lists n (pairs, few, all) =
      let (f, there) = first_of p.failed some in
      let here = all f.chunk f.source (permits.served a f.chunk f.source (slot_permitted is f (failed_there is f there))) in
      let left = filter (λ (x : ℕ × ℕ). not (is_pair f x)) pairs in
      let less = fewer_pairs f pairs here in (
        length left,
        omega (arith, less, few),
        (left, omega arith, λ c r serves. kept (λ (x : ℕ × ℕ). not (is_pair f x)) pairs (c, r) (all c r (alone.fewer p.failed a b c r lists serves)) (other f c r (λ chunk source. alone.listed p.failed a b f lists there (subst (λ x. Serves b f.chunk x) source (subst (λ x. Serves b x r) chunk serves))))),
      )
    where
      apart : (f : Slot) (c r : ℕ) (b : Bool) → is_pair f (c, r) ≡ b → (c ≡ f.chunk → r ≡ f.source → ⊥) → not b ≡ true
      apart f c r true same none = absurd (let (x, y) = and_parts (c == f.chunk) (r == f.source) same in none (eqb-true c f.chunk x) (eqb-true r f.source y))
      apart f c r false other none = refl

      other : (f : Slot) (c r : ℕ) → (c ≡ f.chunk → r ≡ f.source → ⊥) → not (is_pair f (c, r)) ≡ true
      other f c r none = apart f c r (is_pair f (c, r)) refl none

  pub few_passes : (passes : List PassView) (a end : A) (chunks : List ℕ) → Passes passes a chunks end → (n : ℕ) → ServesAtMost Serves Permitted Lists a n → length passes ≤ n + 1
  few_passes [] a end chunks go n most = absurd go
  few_passes (p ∷ []) a end chunks go n most = omega arith
  few_passes (p ∷ q ∷ ps) a end chunks (is, some, (b, lists, go)) n most =
      let (m, less, fewer) = fewer_served a b chunks p is some lists n most in
      let rest = few_passes (q ∷ ps) b end (failed_chunks p) go m fewer in
      omega (arith, less, rest)

  some_pass : (passes : List PassView) (a end : A) (chunks : List ℕ) → Passes passes a chunks end → 1 ≤ length passes
  some_pass [] a end chunks go = absurd go
  some_pass (p ∷ ps) a end chunks go = omega arith

  -- what is not served any more was a slot that failed
  failed_or_served : (failed : List Slot) (a b : A) (c r : ℕ) → Lists failed a b → Serves a c r → (Serves b c r) ⊎ Any (λ s. (s.chunk ≡ c) × (s.source ≡ r)) failed
  failed_or_served failed a b c r lists serves = by (find_slot failed c r)
    where
      by : Any (λ s. (s.chunk ≡ c) × (s.source ≡ r)) failed ⊎ ((s : Slot) → Contains failed s → s.chunk ≡ c → s.source ≡ r → ⊥) → (Serves b c r) ⊎ Any (λ s. (s.chunk ≡ c) × (s.source ≡ r)) failed
      by (inl found) = inr found
      by (inr none) = inl (alone.others failed a b c r lists serves none)

  pub lost_slots : (passes : List PassView) (a end : A) (chunks : List ℕ) → Passes passes a chunks end → (c r : ℕ) → Serves a c r → (Serves end c r → ⊥) → Any (λ p. Any (λ s. (s.chunk ≡ c) × (s.source ≡ r)) p.failed) passes
  lost_slots [] a end chunks go c r serves gone = absurd go
  lost_slots (p ∷ []) a end chunks (is, none, same) c r serves gone = absurd (gone (subst (λ x. Serves x c r) (sym same) serves))
  lost_slots (p ∷ q ∷ ps) a end chunks (is, some, (b, lists, go)) c r serves gone =
      elim (failed_or_served p.failed a b c r lists serves) [
        | inl still ↦ let (k, x, below, at, found) = lost_slots (q ∷ ps) b end (failed_chunks p) go c r still gone in (suc k, x, omega (arith, below), at, found)
        | inr found ↦ (0, p, omega arith, refl, found)
      ]

  pub all_passes : (passes : List PassView) (a end : A) (chunks : List ℕ) → Passes passes a chunks end → AreAllPasses Serves Permitted Lists passes a chunks end
  all_passes passes a end chunks go = record {
    some = some_pass passes a end chunks go;
    few = few_passes passes a end chunks go;
    copied = copied_where_served passes a end chunks go;
    within = copied_within passes a end chunks go;
    lost = lost_slots passes a end chunks go;
    kept = served_before passes a end chunks go;
  }

  -- ---- a loop over passes
  pub begin : (a : A) (chunks : List ℕ) → LeadsToPasses Serves Permitted Lists [] a chunks a chunks
  begin a chunks rest end go = go

  one_before : (a b end : A) (chunks : List ℕ) (p : PassView) (rest : List PassView) → IsPass a chunks p → p.failed ≢ [] → Lists p.failed a b → Passes rest b (failed_chunks p) end → Passes (p ∷ rest) a chunks end
  one_before a b end chunks p [] is some lists go = absurd go
  one_before a b end chunks p (q ∷ ps) is some lists go = (is, some, (b, lists, go))

  pub step : (passes : List PassView) (a b c : A) (chunks left : List ℕ) (p : PassView) → LeadsToPasses Serves Permitted Lists passes a chunks b left → IsPass b left p → p.failed ≢ [] → Lists p.failed b c → AddsPass Serves Permitted Lists passes a chunks b left p c
  step passes a b c chunks left p goes is some lists = record {
    goes = λ rest end go. subst (λ xs. Passes xs a chunks end) (sym (append_assoc passes (p ∷ []) rest)) (goes (p ∷ rest) end (one_before b c end left p rest is some lists go));
    fewer = fewer_served b c left p is some lists;
  }

  pub last : (passes : List PassView) (a b : A) (chunks left : List ℕ) (p : PassView) → LeadsToPasses Serves Permitted Lists passes a chunks b left → IsPass b left p → p.failed ≡ [] → Passes (passes ++ p ∷ []) a chunks b
  last passes a b chunks left p goes is none = goes (p ∷ []) b (is, none, refl)
