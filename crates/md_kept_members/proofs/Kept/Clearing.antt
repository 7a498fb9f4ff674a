-- The greatest events at which marks were cleared, found member by member.
use Rattle.std.proofs.Common.{◌≡◌, ◌∙◌, ◌⊎◌, ℕ, ◌+◌, max, List, length, Option, Some, None, MatchOption, unwrap_or, ap, sym, subst, arith, inl, inr}
use Rattle.std.specs.List.{slice_get}
use Rattle.std.proofs.lemmas.Bool.{cases_lt}
use Rattle.md_kept_members.specs.View.{MemberView}
use Rattle.md_kept_members.specs.Remembering.{ClearedIn, HasAccepted, IsLastClearedIn, IsLastClearedOr}
use Rattle.md_kept_members.proofs.Members.Indices.{cases_more}

later : (members : List MemberView) (n e : ℕ) → ClearedIn members n e → ClearedIn members (n + 1) e
later members n e h = let early = h.early in record { at = h.at; member = h.member; early = omega arith; listed = h.listed; accepted = h.accepted; is = h.is }

-- they are those of an earlier member, or of the last
of_more : (members : List MemberView) (n e : ℕ) (m : MemberView) → slice_get members n ≡ Some m → ClearedIn members (n + 1) e → ClearedIn members n e ⊎ (HasAccepted m × (e ≡ m.header.events_cleared))
of_more members n e m listed h = elim (cases_more h.at n h.early) [
  | inl early ↦ inl (record { at = h.at; member = h.member; early = early; listed = h.listed; accepted = h.accepted; is = h.is })
  | inr here ↦
      let at_n = subst (λ (k : ℕ). slice_get members k ≡ Some h.member) here h.listed in
      let same : h.member ≡ m = cc in
      inr (subst HasAccepted same h.accepted, h.is ∙ ap (λ (x : MemberView). x.header.events_cleared) same)
]

-- one more member, whose bitmap is accepted
pub cleared_more : (members : List MemberView) (n : ℕ) (m : MemberView) (last : Option ℕ) (greater : ℕ) → slice_get members n ≡ Some m → HasAccepted m → MatchOption last (greater ≡ m.header.events_cleared) (λ l. greater ≡ max l m.header.events_cleared) → IsLastClearedIn members n last → IsLastClearedIn members (n + 1) (Some greater)
cleared_more members n m None greater listed accepted e none = (
  record { at = n; member = m; early = omega arith; listed = listed; accepted = accepted; is = e },
  λ other h. elim (of_more members n other m listed h) [
    | inl before ↦ absurd (none other before)
    | inr here ↦ let same = here.1 in omega arith
  ],
)
cleared_more members n m (Some l) greater listed accepted e most = (
  elim (cases_lt l m.header.events_cleared) [
    | inl less ↦ let is : greater ≡ m.header.events_cleared = omega arith in record { at = n; member = m; early = omega arith; listed = listed; accepted = accepted; is = is }
    | inr more ↦ let is : l ≡ greater = omega arith in later members n greater (subst (λ (x : ℕ). ClearedIn members n x) is most.0)
  ],
  λ other h. elim (of_more members n other m listed h) [
    | inl before ↦ let below = most.1 other before in omega arith
    | inr here ↦ let same = here.1 in omega arith
  ],
)

-- one more member, whose bitmap is not
pub not_cleared_more : (members : List MemberView) (n : ℕ) (m : MemberView) (last : Option ℕ) → slice_get members n ≡ Some m → (HasAccepted m → ⊥) → IsLastClearedIn members n last → IsLastClearedIn members (n + 1) last
not_cleared_more members n m None listed other none = λ e h. elim (of_more members n e m listed h) [
  | inl before ↦ none e before
  | inr here ↦ other here.0
]
not_cleared_more members n m (Some l) listed other most = (
  later members n l most.0,
  λ e h. elim (of_more members n e m listed h) [
    | inl before ↦ most.1 e before
    | inr here ↦ absurd (other here.0)
  ],
)

pub last_or : (default : ℕ) (members : List MemberView) (last : Option ℕ) (n events : ℕ) → n ≡ length members → IsLastClearedIn members n last → events ≡ unwrap_or last default → IsLastClearedOr default members events
last_or default members None n events all none e = inr (subst (λ (k : ℕ). IsLastClearedIn members k None) all none, e)
last_or default members (Some l) n events all most e = inl (subst (λ (x : ℕ). IsLastClearedIn members (length members) (Some x)) (sym e) (subst (λ (k : ℕ). IsLastClearedIn members k (Some l)) all most))
