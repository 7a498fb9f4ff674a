-- The member that a resync copies from, found role by role.
use Rattle.std.proofs.Common.{ℕ, ◌+◌, ◌<◌, ◌≤◌, refl, sym, subst, arith, inl, inr}
use Rattle.std.proofs.lemmas.Bool.{cases_lt}
use Rattle.md_model.proofs.Puts.{by_same}
use Rattle.md_kept_members.specs.OwnFields.{is_write_mostly}
use Rattle.md_state.specs.Steps.CopyData.{IsSource, Lists}
use Rattle.md_state.specs.Members.{AllInSync}
use Rattle.md_state.specs.View.{ArrayView, MirrorView}
use Rattle.md_array.specs.Consistency.{IsConsistent}
use Rattle.md_array.proofs.Worlds.SectorCopied.{has_role, in_sync_as}
use Rattle.md_read.specs.Reading.{HasRole, IsInRole}
use Rattle.md_read.specs.Unresynced.{AllFrom, IsListedIn}
use Rattle.md_read.proofs.InRoles.{ListsAll, ListsSome, all_listed}

-- in the roles below this one everybody lists these sectors
pub record AllListBelow (role sector sectors : ℕ) (a : ArrayView) : Type 0 where
  pub lists : (lower : ℕ) → lower < role → AllFrom sector sectors (λ s. IsListedIn lower s a)

pub all_list_first : (sector sectors : ℕ) (a : ArrayView) → AllListBelow 0 sector sectors a
all_list_first sector sectors a = record { lists = λ lower low s from below. absurd (omega arith) }

pub all_list_more : (role sector sectors : ℕ) (a : ArrayView) → AllListBelow role sector sectors a → AllFrom sector sectors (λ s. IsListedIn role s a) → AllListBelow (role + 1) sector sectors a
all_list_more role sector sectors a before lists = record {
  lists = λ lower low s from below.
      by_same lower role
      (λ same. subst (λ (r : ℕ). IsListedIn r s a) (sym same) (lists s from below))
      (λ apart. before.lists lower (omega arith) s from below);
}

-- nobody is in the role
pub nobody_in : (role s : ℕ) (a : ArrayView) → (HasRole a role → ⊥) → IsListedIn role s a
nobody_in role s a none k m at is = absurd (none (k, record { member = m; at = at; in_sync = is }))

module _ (v : MirrorView) (sound : IsConsistent v) where
  -- who is in it lists all of them
  pub one_lists : (role k sector sectors : ℕ) (is : IsInRole v.array role k) → ListsAll is.member sector sectors → AllFrom sector sectors (λ s. IsListedIn role s v.array)
  one_lists role k sector sectors is all s from below j m at as_role =
      all_listed v sound (is_write_mostly m.superblock) role k sector sectors is all s from below j m at as_role refl

  -- every role was looked at
  pub all_list : (last sector sectors : ℕ) → v.array.shared.raid_disks ≤ last → AllListBelow last sector sectors v.array → AllFrom sector sectors (λ s. AllInSync v.array (λ m. Lists m s))
  all_list last sector sectors all so_far s from below k m on =
      let as_role = has_role m.state on.in_sync in
      let low = sound.roles.below k as_role.0 m on.member (in_sync_as as_role.0 m.state as_role.1).1 in
      so_far.lists as_role.0 (omega arith) s from below k m on.member as_role.1

-- who is in it lists none of them, and in lower roles all of them are listed
pub is_source : (a : ArrayView) (role k sector sectors : ℕ) (is : IsInRole a role k) → AllListBelow role sector sectors a → (ListsSome is.member sector sectors → ⊥)
    → AllFrom sector sectors (λ s. IsSource k s a)
is_source a role k sector sectors is before none s from below = record {
  member = is.member;
  at = is.at;
  role = role;
  in_sync = is.in_sync;
  unlisted = λ lists. none (s, lists, from, below);
  lowest = λ j other m at as_other free. elim (cases_lt other role) [
    | inl less ↦ absurd (free (before.lists other less s from below j m at as_other))
    | inr more ↦ more
  ];
}
