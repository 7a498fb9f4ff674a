-- The roles in which a chunk of the array may be read, by what is found in the list of its members.
use Rattle.std.proofs.Common.{◌≡◌, ◌↔◌, ◌<◌, ℕ, Bool, true, false, List, inl, inr, subst}
use Rattle.std.proofs.lemmas.Bool.{cases_Bool}
use Rattle.std.proofs.lemmas.Option.{slice_get_within}
use Rattle.md_bitmap.specs.declared.chunks.Chunks.{Chunks}
use Rattle.md_assembly.specs.States.{is_in_sync_as}
use Rattle.md_kept_members.specs.OwnFields.{is_write_mostly}
use Rattle.md_kept_members.specs.View.{MemberView}
use Rattle.md_kept_members.specs.Permitting.{IsPermittedAs, IsServedAs}
use Rattle.md_state.specs.View.{ArrayView}
use Rattle.md_state.specs.Members.{IsMember, IsPermitted, IsServedPlainly, IsUnlisted}

module _ (a : ArrayView) (chunk : ℕ) where
  -- a member serves the chunk in the role, which is write-mostly or is not
  abbrev IsServedWith : Bool → ℕ → Type 0
  IsServedWith mostly role =
      (k : ℕ) × (m : MemberView) × IsMember a k m × (is_in_sync_as role m.state ≡ true) × IsUnlisted a chunk m × (is_write_mostly m.superblock ≡ mostly)

  abbrev ServedAs : Bool → ℕ → Type 0
  ServedAs mostly role = IsServedAs a.members a.chunks chunk mostly role

  served_with : (mostly : Bool) (role : ℕ) → ServedAs mostly role → IsServedWith mostly role
  served_with mostly role h = (h.at, h.member, h.listed, h.serves.in_sync, λ s inside bad. h.serves.unlisted (record { sector = s; inside = inside; bad = bad }), h.flag)

  served_as : (mostly : Bool) (role : ℕ) → IsServedWith mostly role → ServedAs mostly role
  served_as mostly role h = record {
    at = h.0;
    member = h.1;
    early = slice_get_within a.members h.0 h.1 h.2;
    listed = h.2;
    serves = record { in_sync = h.3; unlisted = λ l. h.4 l.sector l.inside l.bad };
    flag = h.5;
  }

  -- none that is not write-mostly does
  none_as : (IsServedPlainly a chunk → ⊥) → (other : ℕ) → other < 32 → ServedAs false other → ⊥
  none_as none other small s = let h = served_with false other s in none (other, small, h.0, h.1, h.2, h.3, h.4, h.5)

  none_plainly : ((other : ℕ) → other < 32 → ServedAs false other → ⊥) → IsServedPlainly a chunk → ⊥
  none_plainly none h = none h.0 h.1 (served_as false h.0 (h.2, h.3, h.4, h.5, h.6, h.7))

  permitted_as : (role : ℕ) → IsPermittedAs a.members a.chunks chunk role ↔ IsPermitted a chunk role
  permitted_as role = (
    λ either. elim either [
      | inl s ↦ let h = served_with false role s in (h.0, h.1, h.2, h.3, h.4, inl h.5)
      | inr s ↦ let h = served_with true role s.0 in (h.0, h.1, h.2, h.3, h.4, inr (none_plainly s.1))
    ],
    λ h. elim h.5 [
      | inl plain ↦ inl (served_as false role (h.0, h.1, h.2, h.3, h.4, plain))
      | inr none ↦
          elim (cases_Bool (is_write_mostly h.1.superblock)) [
            | inl mostly ↦ inr (served_as true role (h.0, h.1, h.2, h.3, h.4, mostly), none_as none)
            | inr plain ↦ inl (served_as false role (h.0, h.1, h.2, h.3, h.4, plain))
          ]
    ],
  )

-- what is found in the list is what holds of the array
pub permitted : (a : ArrayView) (members : List MemberView) (chunks : Chunks) (chunk role bit : ℕ) → members ≡ a.members → chunks ≡ a.chunks → ((bit ≡ 1) ↔ IsPermittedAs members chunks chunk role) → (bit ≡ 1) ↔ IsPermitted a chunk role
permitted a members chunks chunk role bit same_members same_chunks by_list =
    let by_members = subst (λ (ms : List MemberView). (bit ≡ 1) ↔ IsPermittedAs ms chunks chunk role) same_members by_list in
    let found = subst (λ (cs : Chunks). (bit ≡ 1) ↔ IsPermittedAs a.members cs chunk role) same_chunks by_members in
    let both = permitted_as a chunk role in
    (λ set. both.0 (found.0 set), λ h. found.1 (both.1 h))
