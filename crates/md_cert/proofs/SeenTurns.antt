-- What the words that are lent say of the slots gone through.
use Rattle.std.proofs.Common.{◌≡◌, ◌≢◌, ◌∙◌, ℕ, ◌+◌, ◌*◌, ◌^◌, ◌%◌, ◌<◌, ◌≤◌, true, false, List, length, get_or, set, sym, ap, subst, arith, inl, inr, bit_or, get_or-set_same, get_or-set_other}
use Rattle.std.specs.List.{HoldsAt}
use Rattle.std.proofs.lemmas.Bool.{cases_eq, both_ways}
use Rattle.std.proofs.lemmas.List.{get_or_default, length-set}
use Rattle.md_cert.specs.declared.slots.Slot.{Slot}
use Rattle.md_cert.specs.Sources.{has}
use Rattle.md_cert.specs.Plans.{HasTurn, NoRepeatBelow}
use Rattle.md_cert.proofs.SideBySide.{holds_from}
use Rattle.md_cert.proofs.Bits.{has_set_same, has_set_other, has_zero}

pub record Seen (slots : List Slot) (lent : List ℕ) (i : ℕ) : Type 0 where
  pub only : (r s : ℕ) → r < length lent → has (get_or lent r 0) s ≡ true → (k : ℕ) × (k < i) × HoldsAt (HasTurn s r) slots k
  pub each : (k : ℕ) (d : Slot) → k < i → (get_or slots k d).round < length lent → has (get_or lent (get_or slots k d).round 0) (get_or slots k d).source ≡ true
  pub none : NoRepeatBelow slots (length lent) i

pub seen_none : (slots : List Slot) (lent : List ℕ) → ((k : ℕ) → k < length lent → get_or lent k 0 ≡ 0) → Seen slots lent 0
seen_none slots lent zeros = record {
  only = λ r s within it. absurd (both_ways (has (get_or lent r 0) s) (ap (λ n. has n s) (zeros r within) ∙ has_zero s) it);
  each = λ k d less. absurd (omega arith);
  none = λ source round j less. absurd (omega arith);
}

-- a slot of a round that the plan does not have
pub seen_skip : (slots : List Slot) (lent : List ℕ) (i : ℕ) (d : Slot) → i < length slots → length lent ≤ (get_or slots i d).round → Seen slots lent i → Seen slots lent (i + 1)
seen_skip slots lent i d within late seen =
    let late_at : (e : Slot) → length lent ≤ (get_or slots i e).round = λ e. subst (λ (x : Slot). length lent ≤ x.round) (get_or_default slots i d e within) late in
    record {
      only = λ r s lt it. let found = seen.only r s lt it in (found.0, let less = found.1 in omega arith, found.2);
      each = λ k e less lt. elim (cases_eq k i) [
        | inl same ↦ absurd (let lt' : (get_or slots i e).round < length lent = subst (λ n. (get_or slots n e).round < length lent) same lt in let l = late_at e in omega (arith, l, lt'))
        | inr other ↦ seen.each k e (omega arith) lt
      ];
      none = λ source round j less second. elim (cases_eq j i) [
        | inl same ↦
            let turn = second.turn d in
            let is : (get_or slots i d).round ≡ round = ap (λ n. (get_or slots n d).round) (sym same) ∙ turn.1 in
            let in_time : round < length lent = second.in_time in
            omega (arith, late, is, in_time)
        | inr other ↦ seen.none source round j (omega arith) second
      ];
    }

-- a slot with a turn that no earlier slot has
pub seen_put : (slots : List Slot) (lent : List ℕ) (i : ℕ) (d : Slot) (new : List ℕ) → i < length slots → (get_or slots i d).source < 32 → (get_or slots i d).round < length lent
    → has (get_or lent (get_or slots i d).round 0) (get_or slots i d).source ≡ false
    → new ≡ set lent (get_or slots i d).round (bit_or (get_or lent (get_or slots i d).round 0) (1 * 2 ^ (get_or slots i d).source % 2 ^ 32))
    → Seen slots lent i → Seen slots new (i + 1)
seen_put slots lent i d new within source_within in_time free e seen =
    let round = (get_or slots i d).round in
    let source = (get_or slots i d).source in
    let word = bit_or (get_or lent round 0) (1 * 2 ^ source % 2 ^ 32) in
    let long : length new ≡ length lent = ap length e ∙ length-set lent round word in
    let at_round : get_or new round 0 ≡ word = ap (λ xs. get_or xs round 0) e ∙ get_or-set_same lent round word 0 in_time in
    let at_other : (r : ℕ) → r ≢ round → get_or new r 0 ≡ get_or lent r 0 = λ r other. ap (λ xs. get_or xs r 0) e ∙ get_or-set_other lent round r word 0 other in
    record {
      only = λ r s lt it. elim (cases_eq r round) [
        | inl same ↦ elim (cases_eq s source) [
          | inl same_source ↦ (i, omega arith, holds_from (HasTurn s r) slots i d within (sym same_source, sym same))
          | inr other ↦
              let before : has (get_or lent r 0) s ≡ true =
              ap (λ n. has (get_or lent n 0) s) same ∙ sym (has_set_other (get_or lent round 0) source s source_within other) ∙ ap (λ n. has n s) (sym at_round) ∙ ap (λ n. has (get_or new n 0) s) (sym same) ∙ it in
              let found = seen.only r s (omega arith) before in
              (found.0, let less = found.1 in omega arith, found.2)
        ]
        | inr other ↦
            let found = seen.only r s (omega arith) (ap (λ n. has n s) (sym (at_other r other)) ∙ it) in
            (found.0, let less = found.1 in omega arith, found.2)
      ];
      each = λ k f less lt. elim (cases_eq k i) [
        | inl same ↦
            let read : get_or slots k f ≡ get_or slots i d = ap (λ n. get_or slots n f) same ∙ get_or_default slots i f d within in
            let P : Slot → Type 0 = λ x. has (get_or new x.round 0) x.source ≡ true in
            subst P (sym read) (ap (λ n. has n source) at_round ∙ has_set_same (get_or lent round 0) source source_within)
        | inr other ↦
            let r = (get_or slots k f).round in
            let s = (get_or slots k f).source in
            let before : has (get_or lent r 0) s ≡ true = seen.each k f (omega arith) (omega arith) in
            elim (cases_eq r round) [
              | inl same ↦ elim (cases_eq s source) [
                | inl same_source ↦ absurd (both_ways (has (get_or lent round 0) source) free (ap (λ n. has (get_or lent n 0) source) (sym same) ∙ ap (has (get_or lent r 0)) (sym same_source) ∙ before))
                | inr other_source ↦
                    ap (λ n. has (get_or new n 0) s) same ∙ ap (λ n. has n s) at_round ∙ has_set_other (get_or lent round 0) source s source_within other_source
                    ∙ ap (λ n. has (get_or lent n 0) s) (sym same) ∙ before
              ]
              | inr other_round ↦ ap (λ n. has n s) (at_other r other_round) ∙ before
            ]
      ];
      none = λ s r j less second. elim (cases_eq j i) [
        | inl same ↦
            let turn = second.turn d in
            let is_source : source ≡ s = ap (λ n. (get_or slots n d).source) (sym same) ∙ turn.0 in
            let is_round : round ≡ r = ap (λ n. (get_or slots n d).round) (sym same) ∙ turn.1 in
            let first = second.same d in
            let first_before : second.earlier < i = let lt : second.earlier < j = second.before in omega arith in
            let there : has (get_or lent (get_or slots second.earlier d).round 0) (get_or slots second.earlier d).source ≡ true = seen.each second.earlier d first_before (let f = first.1 in omega arith) in
            both_ways (has (get_or lent round 0) source) free
            (ap (λ n. has (get_or lent n 0) source) (is_round ∙ sym first.1) ∙ ap (has (get_or lent (get_or slots second.earlier d).round 0)) (is_source ∙ sym first.0) ∙ there)
        | inr other ↦
            seen.none s r j (omega arith) (record { within = second.within; in_time = let t : r < length new = second.in_time in omega arith; turn = second.turn; earlier = second.earlier; before = second.before; same = second.same })
      ];
    }
