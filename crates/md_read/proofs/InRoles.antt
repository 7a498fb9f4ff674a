-- What is known of the members, and of one role.
use Rattle.std.proofs.Common.{◌≡◌, ◌↔◌, ℕ, ◌+◌, ◌-◌, ◌*◌, ◌/◌, ◌^◌, ◌<◌, ◌≤◌, Bool, true, false, List, [], ◌∷◌, ◌++◌, length, slice_get, Some, sym, ap, ◌∙◌, subst, arith, inr}
use Rattle.std.specs.Prelude.{option_map}
use Rattle.std.proofs.lemmas.Option.{same_Some, slice_get_within}
use Rattle.md_badblocks.specs.Runs.{IsBad, RisesFrom}
use Rattle.md_model.proofs.Puts.{by_same}
use Rattle.md_assembly.specs.declared.state.MemberState.{MemberState}
use Rattle.md_assembly.specs.States.{is_in_sync_as}
use Rattle.md_assembly.proofs.Indices.{got_within}
use Rattle.md_array.proofs.Worlds.SectorCopied.{in_sync_as}
use Rattle.md_array.specs.Consistency.{IsConsistent}
use Rattle.md_kept_members.specs.OwnFields.{is_write_mostly}
use Rattle.md_kept_members.specs.View.{MemberView}
use Rattle.md_kept_members.proofs.Members.Roles.{bad_below, none_bad}
use Rattle.md_state.specs.Steps.CopyData.{Lists}
use Rattle.md_state.specs.Members.{IsMember}
use Rattle.md_state.specs.Steps.ReadData.{FailsToRead, ReadsData}
use Rattle.md_state.specs.View.{ArrayView, MirrorView}
use Rattle.md_state.proofs.Members.At.{told}
use Rattle.md_device.specs.Device.{held}
use Rattle.md_device.specs.Failing.{failed_read}
use Rattle.md_device.proofs.Failing.{fails_just}
use Rattle.md_read.specs.Reading.{FailsIn, FailsThisReadAlone, GivesInGroup, HasReadFailed, HasRole, IsInRole, IsReadOfMember, IsListedInPart, ListedIn, NotGivenIn}

-- ---- what is listed

abbrev pub ListsSome : MemberView → ℕ → ℕ → Type 0
ListsSome m sector sectors = (s : ℕ) × Lists m s × (sector ≤ s) × (s < sector + sectors)

abbrev pub ListsAll : MemberView → ℕ → ℕ → Type 0
ListsAll m sector sectors = (s : ℕ) → sector ≤ s → s < sector + sectors → Lists m s

-- who is in sync in a role lists some of the sectors, and not all
pub listed_in_part : (a : ArrayView) (role k : ℕ) (is : IsInRole a role k) (sector sectors : ℕ) → ListsSome is.member sector sectors → (ListsAll is.member sector sectors → ⊥)
    → IsListedInPart sector sectors a
listed_in_part a role k is sector sectors (s, lists, from, below) not_all = record {
  index = k;
  member = is.member;
  in_sync = record { member = is.at; in_sync = (in_sync_as role is.member.state is.in_sync).0 };
  listed = s;
  lists = lists;
  from = from;
  below = below;
  not_all = not_all;
}

pub empty_lists : (m : MemberView) (sector sectors : ℕ) → length m.bad ≡ 0 → (false ≡ true) ↔ ListsSome m sector sectors
empty_lists m sector sectors none = (λ e. absurd cc, λ l. absurd (none_bad m.bad (m.superblock.data_offset + l.0) none l.1))

pub past_lists : (m : MemberView) (sector sectors low : ℕ) → RisesFrom low m.bad → 2 ^ 64 ≤ m.superblock.data_offset + sector → (false ≡ true) ↔ ListsSome m sector sectors
past_lists m sector sectors low rises past = (
  λ e. absurd cc,
  λ l. let below = bad_below low _ m.bad rises l.1 in let from = l.2 in absurd (omega arith),
)

pub meets_lists : (m : MemberView) (sector sectors first : ℕ) (meets : Bool) → first ≡ m.superblock.data_offset + sector
    → ((meets ≡ true) ↔ ((x : ℕ) × IsBad m.bad x × (first ≤ x) × (x < first + sectors))) → (meets ≡ true) ↔ ListsSome m sector sectors
meets_lists m sector sectors first meets at iff = (
  λ met.
      let found = iff.0 met in
      let from = found.2 in
      let below = found.3 in
      let s : ℕ = found.0 - m.superblock.data_offset in
      let same : found.0 ≡ m.superblock.data_offset + s = omega arith in
      (s, subst (IsBad m.bad) same found.1, omega arith, omega arith),
  λ l.
      let from = l.2 in
      let below = l.3 in
      iff.1 (m.superblock.data_offset + l.0, l.1, omega arith, omega arith),
)

-- ---- who is in the role
pub record NoneInRoleBelow (a : ArrayView) (role k : ℕ) : Type 0 where
  pub none : (j : ℕ) (m : MemberView) → j < k → IsMember a j m → is_in_sync_as role m.state ≡ true → ⊥

pub none_more : (a : ArrayView) (role k : ℕ) → NoneInRoleBelow a role k → ((m : MemberView) → IsMember a k m → is_in_sync_as role m.state ≡ false) → NoneInRoleBelow a role (k + 1)
none_more a role k before out = record {
  none = λ j m low at is.
      by_same j k
      (λ same. let off = out m (subst (λ (i : ℕ). IsMember a i m) same at) in cc)
      (λ apart. before.none j m (omega arith) at is);
}

pub none_in_role : (a : ArrayView) (role k : ℕ) → length a.members ≤ k → NoneInRoleBelow a role k → HasRole a role → ⊥
none_in_role a role k last before has =
    let low = slice_get_within a.members has.0 has.1.member has.1.at in
    before.none has.0 has.1.member (omega arith) has.1.at has.1.in_sync

pub in_role : (a : ArrayView) (role k : ℕ) (state : MemberState) → option_map (λ (m : MemberView). m.state) (slice_get a.members k) ≡ Some state → k < length a.members → is_in_sync_as role state ≡ true → IsInRole a role k
in_role a role k state told_state low is =
    let found = got_within a.members k low in
    record { member = found.0; at = found.1; in_sync = ap (is_in_sync_as role) (told (λ m. m.state) a k found.0 state told_state found.1) ∙ is }

-- no other is
pub only_one : (v : MirrorView) → IsConsistent v → (role k j : ℕ) → IsInRole v.array role k → (m : MemberView) → IsMember v.array j m → is_in_sync_as role m.state ≡ true → j ≡ k
only_one v sound role k j is m at as_role =
    sound.roles.one_each j k role m is.member at is.at (in_sync_as role m.state as_role).1 (in_sync_as role is.member.state is.in_sync).1

-- a read that failed, of these sectors
pub failed_of : (k sector n sectors : ℕ) (old new : MirrorView) → FailsToRead k sector n old new → n ≡ 512 * sectors → HasReadFailed k sector sectors old new
failed_of k sector n sectors old new fails all d e was at_e = (
  fails.failed d e was at_e,
  λ x x_at. fails_just d.faults e.faults (failed_read (x.superblock.data_offset + sector) n) (IsReadOfMember x sector sectors) (fails.there d e was at_e x x_at)
      (ap (failed_read (x.superblock.data_offset + sector)) all),
)

-- and no other
pub failed_alone : (k sector n sectors : ℕ) (old new : MirrorView) → FailsToRead k sector n old new → n ≡ 512 * sectors → FailsThisReadAlone k sector sectors old new
failed_alone k sector n sectors old new fails all d e was at_e x x_at =
    fails.there d e was at_e x x_at ∙ ap (λ (size : ℕ). d.faults ++ failed_read (x.superblock.data_offset + sector) size ∷ []) all

-- ---- what came of it
module _ (old : MirrorView) (sound : IsConsistent old) (mostly : Bool) (role k sector sectors : ℕ) (is : IsInRole old.array role k) where
  -- it is the one in the role
  the_one : (j : ℕ) (m : MemberView) → IsMember old.array j m → is_in_sync_as role m.state ≡ true → m ≡ is.member
  the_one j m at as_role =
      let same : j ≡ k = only_one old sound role k j is m at as_role in
      same_Some m is.member (sym at ∙ subst (λ (i : ℕ). IsMember old.array i is.member) (sym same) is.at)

  -- it is not one of those that are asked
  pub not_asked : (is_write_mostly is.member.superblock ≡ mostly → ⊥) → (s : ℕ) → ListedIn mostly role s old.array
  not_asked other s j m at as_role flag =
      absurd (other (subst (λ (x : MemberView). is_write_mostly x.superblock ≡ mostly) (the_one j m at as_role) flag))

  -- all of them are listed
  pub all_listed : ListsAll is.member sector sectors → (s : ℕ) → sector ≤ s → s < sector + sectors → ListedIn mostly role s old.array
  all_listed all s from below j m at as_role flag =
      subst (λ (x : MemberView). Lists x s) (sym (the_one j m at as_role)) (all s from below)

  -- its read failed
  pub read_failed : (new : MirrorView) (n : ℕ) → FailsToRead k sector n old new → n ≡ 512 * sectors → (s : ℕ) → NotGivenIn mostly role s sector sectors old new
  read_failed new n fails all s j m at as_role flag =
      let same : j ≡ k = only_one old sound role k j is m at as_role in
      inr (subst (λ (i : ℕ). HasReadFailed i sector sectors old new) (sym same) (failed_of k sector n sectors old new fails all))

  pub fails_in : (new : MirrorView) (n : ℕ) → is_write_mostly is.member.superblock ≡ mostly → (ListsSome is.member sector sectors → ⊥) → FailsToRead k sector n old new → n ≡ 512 * sectors
      → FailsIn mostly role sector sectors old new
  fails_in new n flag none fails all = record {
    from = k;
    is = is;
    flag = flag;
    unlisted = λ s from below lists. none (s, lists, from, below);
    alone = failed_alone k sector n sectors old new fails all;
  }

  -- it gave them
  pub gives_in : (new : MirrorView) (bytes : List ℕ) → length bytes / 512 ≡ sectors → is_write_mostly is.member.superblock ≡ mostly → (ListsSome is.member sector sectors → ⊥) → ReadsData k sector bytes old new → GivesInGroup mostly role sector bytes old new
  gives_in new bytes count flag none reads = record {
    gives = record {
      from = k;
      is = is;
      unlisted = λ s from below lists. none (s, lists, from, omega arith);
      holds = λ d m at there honest.
          let low = slice_get_within old.disks k d at in
          let many = reads.rests.disks.same.as_many in
          let e = got_within new.disks k (omega arith) in
          let stays = reads.rests.disks.same.honest k d e.0 at e.1 in
          let kept = reads.rests.disks.content k d e.0 at e.1 in
          subst (λ (c : List ℕ). held c (m.superblock.data_offset + sector) (length bytes) ≡ bytes) kept
          (reads.holds e.0 m e.1 (ap (λ (a : ArrayView). slice_get a.members k) reads.rests.array ∙ there) (stays.honest ∙ honest));
    };
    flag = flag;
  }
