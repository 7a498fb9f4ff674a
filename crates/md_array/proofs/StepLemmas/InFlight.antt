-- The requests in flight, by the mirror's list of them.
use Rattle.std.proofs.Common.{◌≡◌, ℕ, ◌+◌, ◌*◌, ◌<◌, ◌≤◌, ◌⊎◌, inl, inr, Bool, true, false, cond, ◌&&◌, ◌==◌, List, [], ◌∷◌, ◌++◌, Option, Some, None, option_map, length, nat_lt, min, max, refl, sym, ap, ◌∙◌, subst, arith, eq-eqb, eqb-true}
use Rattle.std.specs.Prelude.{leb}
use Rattle.std.specs.List.{find}
use Rattle.std.proofs.lemmas.Option.{none-some, same_Some}
use Rattle.std.proofs.lemmas.Bool.{and_parts}
use Rattle.md_model.specs.Worlds.{Request, touches}
use Rattle.md_model.proofs.Cases.{by_test, is_above, is_at_most, is_below, not_below}
use Rattle.md_model.proofs.Puts.{by_same, put-hit, put-miss}
use Rattle.md_inflight.specs.Inflight.{lookup}
use Rattle.md_inflight.specs.Spans.{meets}
use Rattle.md_inflight.specs.Requests.Pending.{PendingView, extent_of, request_sectors}
use Rattle.md_state.specs.View.{ArrayView, MirrorView}
use Rattle.md_state.specs.Requests.{AreInFlight, IsPending, among, request_of}
use Rattle.md_state.specs.Steps.ClearIdle.{first_in_flight}
use Rattle.md_array.specs.Consistency.{IsConsistent}

module _ {T : Type 0} where
  -- where no entry passes, none that is found passes
  pub none_passes : (test : T → Bool) (entries : List (ℕ × T)) (number : ℕ) (item : T) → option_map (λ entry. entry.0) (find (λ entry. test entry.1) entries) ≡ None
      → lookup entries number ≡ Some item → test item ≡ false
  none_passes test [] number item none is = absurd (none-some item is)
  none_passes test (entry ∷ entries) number item none is = by (test entry.1) refl none (none_passes test entries number item)
    where
      by : (b : Bool) → test entry.1 ≡ b → option_map (λ e. e.0) (cond b (Some entry) (find (λ e. test e.1) entries)) ≡ None
          → (option_map (λ e. e.0) (find (λ e. test e.1) entries) ≡ None → lookup entries number ≡ Some item → test item ≡ false) → test item ≡ false
      by true passes none rest = absurd (none-some entry.0 (sym none))
      by false fails none rest = by_test (entry.0 == number)
          (λ here. sym (ap test (same_Some entry.1 item (sym (ap (λ b. cond b (Some entry.1) (lookup entries number)) here) ∙ is))) ∙ fails)
          (λ away. rest none (sym (ap (λ b. cond b (Some entry.1) (lookup entries number)) away) ∙ is))

  -- an entry at the end
  module _ (next : ℕ) (last : T) where
    pub found_with_last : (entries : List (ℕ × T)) (number : ℕ) (item : T) → lookup entries number ≡ Some item → lookup (entries ++ (next, last) ∷ []) number ≡ Some item
    found_with_last [] number item is = absurd (none-some item is)
    found_with_last (entry ∷ entries) number item is = by (entry.0 == number) is (found_with_last entries number item)
      where
        by : (b : Bool) → cond b (Some entry.1) (lookup entries number) ≡ Some item
            → (lookup entries number ≡ Some item → lookup (entries ++ (next, last) ∷ []) number ≡ Some item) → cond b (Some entry.1) (lookup (entries ++ (next, last) ∷ []) number) ≡ Some item
        by true is rest = is
        by false is rest = rest is

    pub found_last : (entries : List (ℕ × T)) → lookup entries next ≡ None → lookup (entries ++ (next, last) ∷ []) next ≡ Some last
    found_last [] none = ap (λ b. cond b (Some last) None) (eq-eqb next next refl)
    found_last (entry ∷ entries) none = by (entry.0 == next) none (found_last entries)
      where
        by : (b : Bool) → cond b (Some entry.1) (lookup entries next) ≡ None
            → (lookup entries next ≡ None → lookup (entries ++ (next, last) ∷ []) next ≡ Some last) → cond b (Some entry.1) (lookup (entries ++ (next, last) ∷ []) next) ≡ Some last
        by true none rest = absurd (none-some entry.1 (sym none))
        by false none rest = rest none

    pub found_either : (entries : List (ℕ × T)) (number : ℕ) (item : T) → lookup (entries ++ (next, last) ∷ []) number ≡ Some item
        → (lookup entries number ≡ Some item) ⊎ ((number ≡ next) × (item ≡ last))
    found_either [] number item is = by_test (next == number)
        (λ here. inr (sym (eqb-true next number here), sym (same_Some last item (sym (ap (λ b. cond b (Some last) None) here) ∙ is))))
        (λ away. absurd (none-some item (sym (ap (λ b. cond b (Some last) None) away) ∙ is)))
    found_either (entry ∷ entries) number item is = by (entry.0 == number) is (found_either entries number item)
      where
        by : (b : Bool) → cond b (Some entry.1) (lookup (entries ++ (next, last) ∷ []) number) ≡ Some item
            → (lookup (entries ++ (next, last) ∷ []) number ≡ Some item → (lookup entries number ≡ Some item) ⊎ ((number ≡ next) × (item ≡ last)))
            → (cond b (Some entry.1) (lookup entries number) ≡ Some item) ⊎ ((number ≡ next) × (item ≡ last))
        by true is rest = inl is
        by false is rest = rest is

-- runs of sectors that don't meet have none in common
pub none_in_common : (a n b m s : ℕ) → meets a n b m ≡ false → a ≤ s → s < a + n → b ≤ s → s < b + m → ⊥
none_in_common a n b m s apart from below from' below' =
    let least : min (a + n) (b + m) ≤ max a b = not_below (max a b) (min (a + n) (b + m)) apart in
    absurd (omega arith)

pub is_touched : (p : Request) (s : ℕ) → touches p s ≡ true → (p.start ≤ s) × (s < p.start + p.sectors)
is_touched p s e =
    let parts = and_parts _ _ e in
    (is_at_most p.start s parts.0, is_below s (p.start + p.sectors) parts.1)

pub not_touched : (p : Request) (s : ℕ) → touches p s ≡ false → (s < p.start) ⊎ (p.start + p.sectors ≤ s)
not_touched p s e = by_test (leb p.start s)
    (λ behind. inr (not_below s (p.start + p.sectors) (sym (ap (λ b. b && nat_lt s (p.start + p.sectors)) behind) ∙ e)))
    (λ before. inl (is_above p.start s before))

-- a request in flight has none of the sectors, where no entry has
pub none_touches : (a : ArrayView) (requests : ℕ → Option Request) → AreInFlight a requests → (start sectors : ℕ) → first_in_flight a start sectors ≡ None
    → (n : ℕ) (p : Request) → requests n ≡ Some p → (s : ℕ) → touches p s ≡ true → start ≤ s → s < start + sectors → ⊥
none_touches a requests listed start sectors none n p is s touched from below =
    let within = is_touched p s touched in
    none_in_common p.start p.sectors start sectors s
    (none_passes (λ e. meets e.start e.sectors start sectors) a.requests.entries n (record { start = p.start; sectors = p.sectors }) none (listed n p is))
    within.0 within.1 from below

-- ---- a request that is one of the list
-- it lies within the array
pub inside_of : (v : MirrorView) (p : PendingView) → IsConsistent v → IsPending v.array p → p.sector + request_sectors p ≤ v.array.chunks.size
inside_of v p c is = (c.inside p.ticket.number (extent_of p) is.extent).1

-- its bytes are whole sectors
pub whole_of : (a : ArrayView) (p : PendingView) → IsPending a p → length p.bytes ≡ 512 * request_sectors p
whole_of a p is = let whole = is.whole in omega arith

-- beside others, it is in the mirror's list as they are
pub among_in_flight : (a : ArrayView) (p : PendingView) → IsPending a p → (others : ℕ → Option Request) → AreInFlight a others → AreInFlight a (among p others)
among_in_flight a p is others in_flight m q e = by_same m p.ticket.number
    (λ same.
    let it : request_of p ≡ q = same_Some (request_of p) q (sym (put-hit p.ticket.number (Some (request_of p)) others) ∙ ap (among p others) (sym same) ∙ e) in
    subst (λ (n : ℕ). lookup a.requests.entries n ≡ Some (record { start = q.start; sectors = q.sectors })) (sym same)
    (is.extent ∙ ap (λ (r : Request). Some (record { start = r.start; sectors = r.sectors })) it))
    (λ apart. in_flight m q (sym (put-miss p.ticket.number (Some (request_of p)) others m apart) ∙ e))
