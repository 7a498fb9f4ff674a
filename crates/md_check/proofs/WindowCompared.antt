-- What was read of a sector is compared with the first that shows it.
use Rattle.std.proofs.Common.{◌≡◌, ℕ, ◌+◌, ◌-◌, ◌<◌, ◌≤◌, Bool, true, false, not, is_some, List, Some, refl, sym, ◌∙◌, ap, arith, inl, inr, subst, length}
use Rattle.std.specs.List.{All, slice_get}
use Rattle.std.proofs.Math.Nat.{eq-or-lt_of_le}
use Rattle.std.proofs.lemmas.Option.{get_or_from_slice_get, slice_get_within}
use Rattle.md_device.specs.Device.{held}
use Rattle.md_assembly.proofs.Indices.{got_same}
use Rattle.md_badblocks.specs.Runs.{IsBad}
use Rattle.md_check.specs.declared.reader.Reader.{Reader}
use Rattle.md_check.specs.Differences.{DifferBetween, DifferIn}
use Rattle.md_check.specs.Readers.{ReaderShows, in_window, shown_of}
use Rattle.md_check.specs.Showing.{IsShowing}

pub not_so : (b : Bool) → (b ≡ true → ⊥) → not b ≡ true
not_so true never = absurd (never refl)
not_so false never = refl

module _ {D : Type 0} (readers : List (Reader D)) (lead : List ℕ) (from s : ℕ) where
  pub between_at : (i j : ℕ) (x y : Reader D) → slice_get readers i ≡ Some x → slice_get readers j ≡ Some y → IsShowing x s → IsShowing y s → (in_window lead from x s ≡ in_window lead from y s → ⊥)
      → DifferBetween (ReaderShows (in_window lead from) readers) i j s
  between_at i j x y at there one other apart = record {
    bytes = in_window lead from x s;
    other_bytes = in_window lead from y s;
    shows = record { reader = x; there = at; reads = one.0; unlisted = one.1; is = refl };
    shows_other = record { reader = y; there = there; reads = other.0; unlisted = other.1; is = refl };
    differ = apart;
  }

  pub differ_at : (i j : ℕ) (x y : Reader D) → slice_get readers i ≡ Some x → slice_get readers j ≡ Some y → IsShowing x s → IsShowing y s → (in_window lead from x s ≡ in_window lead from y s → ⊥)
      → DifferIn (ReaderShows (in_window lead from) readers) s
  differ_at i j x y at there one other apart = record {
    one = i;
    other = j;
    between = between_at i j x y at there one other apart;
  }

  -- the readers below a place show what the first one shows
  abbrev pub AgreeBelow : ℕ → ℕ → Type 0
  AgreeBelow first k =
      (j : ℕ) (reader one : Reader D) → j < k → slice_get readers j ≡ Some reader → slice_get readers first ≡ Some one → is_some reader.role ≡ true → (IsBad reader.listed s → ⊥) → in_window lead from one s ≡ in_window lead from reader s

  pub agree_next : (first k : ℕ) (x : Reader D) → slice_get readers k ≡ Some x → ((one : Reader D) → slice_get readers first ≡ Some one → IsShowing x s → in_window lead from one s ≡ in_window lead from x s)
      → AgreeBelow first k → AgreeBelow first (k + 1)
  agree_next first k x at here before j reader one below there its reads unlisted =
      elim (eq-or-lt_of_le (let le : j ≤ k = omega arith in le)) [
        | inl same ↦
            let is : reader ≡ x = got_same readers k reader x (subst (λ n. slice_get readers n ≡ Some reader) same there) at in
            here one its (subst (λ (y : Reader D). IsShowing y s) is (reads, unlisted)) ∙ ap (λ (y : Reader D). in_window lead from y s) (sym is)
        | inr lower ↦ before j reader one lower there its reads unlisted
      ]

  pub none_differ : (first : ℕ) (one : Reader D) (k : ℕ) → length readers ≤ k → slice_get readers first ≡ Some one → AgreeBelow first k → DifferIn (ReaderShows (in_window lead from) readers) s → ⊥
  none_differ first one k past at agree d =
      let a = d.between.shows in
      let b = d.between.shows_other in
      let below_a = slice_get_within readers d.one a.reader a.there in
      let below_b = slice_get_within readers d.other b.reader b.there in
      d.between.differ
      (sym a.is ∙ sym (agree d.one a.reader one (omega arith) a.there at a.reads a.unlisted) ∙ agree d.other b.reader one (omega arith) b.there at b.reads b.unlisted ∙ b.is)

-- where all that was read is the same, no sector of it differs
shown_lead : {D : Type 0} (lead : List ℕ) (reader : Reader D) → reader.alike ≡ true → shown_of lead reader ≡ lead
shown_lead lead reader alike = rw alike refl

pub none_differ_alike : {D : Type 0} (readers : List (Reader D)) (lead : List ℕ) (from s : ℕ) → All (λ (reader : Reader D). reader.alike ≡ true) readers → DifferIn (ReaderShows (in_window lead from) readers) s → ⊥
none_differ_alike readers lead from s alike d =
    let a = d.between.shows in
    let b = d.between.shows_other in
    let its : (k : ℕ) (reader : Reader _) → slice_get readers k ≡ Some reader → in_window lead from reader s ≡ held lead (s - from) 512
    = λ k reader there. ap (λ (bytes : List ℕ). held bytes (s - from) 512)
    (shown_lead lead reader (subst (λ (x : Reader _). x.alike ≡ true) (get_or_from_slice_get readers k reader reader there) (alike k reader (slice_get_within readers k reader there)))) in
    d.between.differ (sym a.is ∙ its d.one a.reader a.there ∙ sym (its d.other b.reader b.there) ∙ b.is)
