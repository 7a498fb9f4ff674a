-- The roles of members in sync as bits of a word, member by member.
use Rattle.std.proofs.Common.{◌≡◌, ◌⊎◌, ◌∙◌, ◌↔◌, ℕ, ◌+◌, ◌<◌, Bool, true, bit_or, List, length, Some, refl, ap, sym, subst, arith, inl, inr}
use Rattle.std.specs.Int.{bit_at}
use Rattle.std.specs.List.{slice_get}
use Rattle.std.proofs.lemmas.Bool.{cases_Bool, cases_eq}
use Rattle.std.proofs.lemmas.Nat.Bits.{bit_at-lt, bit_at_or}
use Rattle.std.proofs.lemmas.Option.{slice_get_within}
use Rattle.md_assembly.specs.declared.state.MemberState.{MemberState}
use Rattle.md_assembly.specs.declared.state.MemberState.TheVariants.{InSync, Recovering, Stale, Spare, Faulty}
use Rattle.md_assembly.specs.States.{is_in_sync, is_in_sync_as}
use Rattle.md_kept_members.specs.OwnFields.{is_write_mostly}
use Rattle.md_kept_members.specs.View.{MemberView}
use Rattle.md_kept_members.proofs.Members.Roles.{zero_bits}
use Rattle.md_kept_members.proofs.Members.Indices.{cases_more}
use Rattle.md_state.specs.Members.{IsMember, IsPermitted, IsUnlisted}
use Rattle.md_state.specs.View.{ArrayView}
use Rattle.md_copy.specs.Table.Sources.{IsInSyncWith, IsReadInRole}

-- one of the first n members is in sync in the role, and is write-mostly or is not
pub record IsServedBelow (members : List MemberView) (n : ℕ) (mostly : Bool) (role : ℕ) : Type 0 where
  pub at : ℕ
  pub member : MemberView
  pub early : at < n
  pub listed : slice_get members at ≡ Some member
  pub in_sync : is_in_sync_as role member.state ≡ true
  pub flag : is_write_mostly member.superblock ≡ mostly

pub served_none : (members : List MemberView) (mostly : Bool) (role : ℕ) → (bit_at 0 role ≡ 1) ↔ IsServedBelow members 0 mostly role
served_none members mostly role = zero_bits role (IsServedBelow members 0 mostly role) (λ h. let early = h.early in omega arith)

module _ (members : List MemberView) (n : ℕ) (mostly : Bool) (role : ℕ) (m : MemberView) (listed : slice_get members n ≡ Some m) where
  later : IsServedBelow members n mostly role → IsServedBelow members (n + 1) mostly role
  later h = let early = h.early in record { at = h.at; member = h.member; early = omega arith; listed = h.listed; in_sync = h.in_sync; flag = h.flag }

  -- it was one before, or it is the last
  either_one : IsServedBelow members (n + 1) mostly role → IsServedBelow members n mostly role ⊎ ((is_in_sync_as role m.state ≡ true) × (is_write_mostly m.superblock ≡ mostly))
  either_one h = elim (cases_more h.at n h.early) [
    | inl early ↦ inl (record { at = h.at; member = h.member; early = early; listed = h.listed; in_sync = h.in_sync; flag = h.flag })
    | inr here ↦
        let at_n = subst (λ (k : ℕ). slice_get members k ≡ Some h.member) here h.listed in
        let same : h.member ≡ m = cc in
        inr (subst (λ (x : MemberView). is_in_sync_as role x.state ≡ true) same h.in_sync, sym (ap (λ (x : MemberView). is_write_mostly x.superblock) same) ∙ h.flag)
  ]

  pub served_more : (old bit : ℕ) → is_write_mostly m.superblock ≡ mostly → ((bit_at old role ≡ 1) ↔ IsServedBelow members n mostly role) → ((bit_at bit role ≡ 1) ↔ (is_in_sync_as role m.state ≡ true))
      → (bit_at (bit_or old bit) role ≡ 1) ↔ IsServedBelow members (n + 1) mostly role
  served_more old bit flag before this =
      let either = bit_at_or old bit role in
      let low_old = bit_at-lt old role in
      let low_bit = bit_at-lt bit role in (
        λ set. elim (cases_eq (bit_at old role) 1) [
          | inl was ↦ later (before.0 was)
          | inr was_not ↦ let is : bit_at bit role ≡ 1 = omega arith in record { at = n; member = m; early = omega arith; listed = listed; in_sync = this.0 is; flag = flag }
        ],
        λ h. elim (either_one h) [
          | inl earlier ↦ let was = before.1 earlier in omega arith
          | inr here ↦ let is = this.1 here.0 in omega arith
        ],
      )

  -- one that does not count
  pub served_same : (old : ℕ) → (is_write_mostly m.superblock ≡ mostly → ⊥) → ((bit_at old role ≡ 1) ↔ IsServedBelow members n mostly role) → (bit_at old role ≡ 1) ↔ IsServedBelow members (n + 1) mostly role
  served_same old apart before = (λ set. later (before.0 set), λ h. elim (either_one h) [ inl earlier ↦ before.1 earlier | inr here ↦ absurd (apart here.1) ])

pub served_all : (a : ArrayView) (n : ℕ) (mostly : Bool) (role bit : ℕ) → n ≡ length a.members → ((bit ≡ 1) ↔ IsServedBelow a.members n mostly role) → (bit ≡ 1) ↔ IsInSyncWith a mostly role
served_all a n mostly role bit all by = (
  λ set. let h = by.0 set in (h.at, h.member, h.listed, h.in_sync, h.flag),
  λ h. by.1 (record { at = h.0; member = h.1; early = (let within = slice_get_within a.members h.0 h.1 h.2 in omega arith); listed = h.2; in_sync = h.3; flag = h.4 }),
)

-- where nobody lists a sector of the chunk
pub read_permitted : (a : ArrayView) (chunk : ℕ) → ((k : ℕ) (m : MemberView) (role : ℕ) → IsMember a k m → is_in_sync_as role m.state ≡ true → IsUnlisted a chunk m) → (role : ℕ) → IsReadInRole a role ↔ IsPermitted a chunk role
read_permitted a chunk free role = (
  λ either. elim either [
    | inl h ↦ (h.0, h.1, h.2, h.3, free h.0 h.1 role h.2 h.3, inl h.4)
    | inr h ↦
        let w = h.0 in
        (w.0, w.1, w.2, w.3, free w.0 w.1 role w.2 w.3, inr (λ p. h.1 p.0 p.1 (p.2, p.3, p.4, p.5, p.7)))
  ],
  λ h. elim h.5 [
    | inl plain ↦ inl (h.0, h.1, h.2, h.3, plain)
    | inr none ↦
        elim (cases_Bool (is_write_mostly h.1.superblock)) [
          | inl mostly ↦ inr ((h.0, h.1, h.2, h.3, mostly), λ other small s. none (other, small, s.0, s.1, s.2, s.3, free s.0 s.1 other s.2 s.3, s.4))
          | inr plain ↦ inl (h.0, h.1, h.2, h.3, plain)
        ]
  ],
)

pub in_sync_as : (role : ℕ) (state : MemberState) → is_in_sync_as role state ≡ true → is_in_sync state ≡ true
in_sync_as role (InSync own) is = refl
in_sync_as role (Recovering own) is = is
in_sync_as role (Stale own) is = is
in_sync_as role Spare is = is
in_sync_as role Faulty is = is
