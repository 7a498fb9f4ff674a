-- Who may be rebuilt, and who may be so still.
use Rattle.std.proofs.Common.{◌≡◌, ◌∙◌, ℕ, ◌<◌, true, get_or, refl, sym, ap, subst, arith, inl, inr}
use Rattle.std.proofs.lemmas.Bool.{both_ways}
use Rattle.std.proofs.lemmas.List.Folds.{Any-from_list_any}
use Rattle.std.proofs.lemmas.Option.{slice_get-get_or}
use Rattle.md_assembly.specs.declared.state.MemberState.{MemberState}
use Rattle.md_assembly.specs.declared.state.MemberState.TheVariants.{InSync, Recovering, Stale, Spare, Faulty}
use Rattle.md_assembly.specs.States.{is_recovering, is_spare, takes_role}
use Rattle.md_kept_members.specs.View.{MemberView}
use Rattle.md_state.specs.Steps.Admit.{HasNoRoleLeft}
use Rattle.md_state.specs.Members.{IsMember}
use Rattle.md_state.specs.Missing.{is_rebuilt}
use Rattle.md_state.specs.View.{ArrayView}
use Rattle.md_metadata.specs.Storing.{AllStayReady, StaysReady}
use Rattle.md_metadata.proofs.Going.{same_state}
use Rattle.md_copy.specs.Table.Targets.{HasFreeRole, IsTarget, MayBeRebuilt}

-- ---- who is a target
target_state : (a : ArrayView) (number : ℕ) (s : MemberState) → MayBeRebuilt a number s → is_rebuilt s ≡ true
target_state a number (InSync role) t = absurd t
target_state a number (Recovering role) t = refl
target_state a number (Stale role) t = absurd t
target_state a number Spare t = refl
target_state a number Faulty t = absurd t

pub target_rebuilt : (a : ArrayView) (m : MemberView) → IsTarget a m → is_rebuilt m.state ≡ true
target_rebuilt a m t = target_state a m.superblock.dev_number m.state t

spare_free : (a : ArrayView) (number : ℕ) (s : MemberState) → MayBeRebuilt a number s → is_spare s ≡ true → (number < 1920) × HasFreeRole a
spare_free a number (InSync role) t e = absurd t
spare_free a number (Recovering role) t e = absurd cc
spare_free a number (Stale role) t e = absurd t
spare_free a number Spare t e = t
spare_free a number Faulty t e = absurd t

-- a spare gets a role
pub has_role : (a : ArrayView) (k : ℕ) → ((m : MemberView) → IsMember a k m → IsTarget a m) → ((m : MemberView) → IsMember a k m → is_spare m.state ≡ true) → HasNoRoleLeft k a → ⊥
has_role a k is_target spare none =
    let m = none.member in
    let free = spare_free a m.superblock.dev_number m.state (is_target m none.at) (spare m none.at) in
    elim none.none [
      | inl large ↦ (let low = free.0 in omega arith)
      | inr taken ↦
          let role = free.1.0 in
          let hit = Any-from_list_any (λ (x : MemberView). takes_role role x.state) a.members (taken role free.1.1) in
          let there : IsMember a hit.0 (get_or a.members hit.0 hit.1) = slice_get-get_or a.members hit.0 hit.1 hit.2 in
          both_ways (takes_role role (get_or a.members hit.0 hit.1).state) (free.1.2 hit.0 (get_or a.members hit.0 hit.1) there) (ap (λ (x : MemberView). takes_role role x.state) hit.3 ∙ hit.4)
    ]

pub recovering_rebuilt : (s : MemberState) → is_recovering s ≡ true → is_rebuilt s ≡ true
recovering_rebuilt (InSync role) is = absurd cc
recovering_rebuilt (Recovering role) is = refl
recovering_rebuilt (Stale role) is = absurd cc
recovering_rebuilt Spare is = absurd cc
recovering_rebuilt Faulty is = absurd cc

-- ---- who may be rebuilt may be so after something was stored
module _ (old new : ArrayView) (r : AllStayReady old new) where
  free_stays : HasFreeRole old → HasFreeRole new
  free_stays h = (
    h.0,
    subst (λ n. h.0 < n) (sym (ap (λ (a : ArrayView). a.shared.raid_disks) r.others)) h.1,
    λ k x at. (let s : StaysReady old new k x = r.each k x at in sym (ap (takes_role h.0) (same_state old new k x s)) ∙ h.2 k s.before s.member),
  )

  may_stays : (number : ℕ) (s : MemberState) → MayBeRebuilt old number s → MayBeRebuilt new number s
  may_stays number (InSync role) t = absurd t
  may_stays number (Recovering role) t = t
  may_stays number (Stale role) t = absurd t
  may_stays number Spare t = (t.0, free_stays t.1)
  may_stays number Faulty t = absurd t

  pub target_stays : (target : ℕ) → ((m : MemberView) → IsMember old target m → IsTarget old m) → (n : MemberView) → IsMember new target n → IsTarget new n
  target_stays target is n at =
      let s : StaysReady old new target n = r.each target n at in
      let was = may_stays s.before.superblock.dev_number s.before.state (is s.before s.member) in
      subst (λ (x : MemberView). IsTarget new x) (sym s.same) was
