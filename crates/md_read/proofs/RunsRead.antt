-- Roles are tried one after another, and one group of members after the other.
use Rattle.std.proofs.Common.{◌≡◌, ◌⊎◌, ℕ, ◌+◌, ◌/◌, ◌%◌, ◌<◌, ◌≤◌, Bool, true, false, List, length, slice_get, refl, sym, ap, ◌∙◌, subst, arith, inl, inr}
use Rattle.std.proofs.lemmas.Bool.{cases_Bool, eqb-true}
use Rattle.std.proofs.lemmas.Option.{slice_get_within}
use Rattle.std.specs.Prelude.{⊤}
use Rattle.md_device.specs.Device.{held}
use Rattle.md_device.proofs.Failing.{fails_since, fails_still}
use Rattle.md_model.proofs.Puts.{by_same}
use Rattle.md_kept_members.specs.OwnFields.{is_write_mostly}
use Rattle.md_kept_members.specs.View.{MemberView}
use Rattle.md_state.specs.Members.{IsInSync, IsMember}
use Rattle.md_state.specs.Steps.ReadData.{HoldsData}
use Rattle.md_state.specs.Rests.{Rests}
use Rattle.md_state.specs.View.{ArrayView, MirrorView}
use Rattle.md_array.specs.Consistency.{IsConsistent}
use Rattle.md_array.proofs.Worlds.SectorCopied.{has_role, in_sync_as}
use Rattle.md_laws.proofs.Runs.Rests.{rests_same, rests_then}
use Rattle.md_read.specs.declared.roles.Answer.{Answer}
use Rattle.md_read.specs.declared.roles.Answer.TheVariants as answer
use Rattle.md_read.specs.Reading.{AllOfGroupList, GivesFirst, GivesIn, GivesInGroup, GivesRun, HasNotGiven, IsAskedBefore, IsBefore, IsCutFrom, IsInRole, IsListedInPart, ListedIn, MayGiveFewer, NoneGives, NoneGivesOf, NoneOfGroupGives, NotGivenIn, TriesGroup, TriesRoles, all_listed, gives_none, IsReadOfMember}
use Rattle.md_assembly.proofs.Indices.{got_within}
use Rattle.md_assembly.specs.States.{is_in_sync_as}
use Rattle.md_assembly.specs.declared.state.MemberState.{MemberState}
use Rattle.md_assembly.specs.declared.state.MemberState.TheVariants.{Faulty, InSync, Recovering, Spare, Stale}

module _ (old mid : MirrorView) (first : Rests old mid) where
  abbrev pub is_earlier : (role k : ℕ) → IsInRole mid.array role k → IsInRole old.array role k
  is_earlier role k is = record { member = is.member; at = sym (ap (λ (a : ArrayView). slice_get a.members k) first.array) ∙ is.at; in_sync = is.in_sync }

  pub in_part_earlier : (sector sectors : ℕ) → IsListedInPart sector sectors mid.array → IsListedInPart sector sectors old.array
  in_part_earlier sector sectors part = subst (IsListedInPart sector sectors) first.array part

  pub held_earlier : (k sector : ℕ) (bytes : List ℕ) → HoldsData mid k sector bytes → HoldsData old k sector bytes
  held_earlier k sector bytes holds d m at there honest =
      let low = slice_get_within old.disks k d at in
      let many = first.disks.same.as_many in
      let e = got_within mid.disks k (omega arith) in
      let stays = first.disks.same.honest k d e.0 at e.1 in
      let kept = first.disks.content k d e.0 at e.1 in
      subst (λ (c : List ℕ). held c (m.superblock.data_offset + sector) (length bytes) ≡ bytes) kept
      (holds e.0 m e.1 (ap (λ (a : ArrayView). slice_get a.members k) first.array ∙ there) (stays.honest ∙ honest))

module _ (old mid new : MirrorView) (first : Rests old mid) (second : Rests mid new) where
  pub has_not_given_later : (k : ℕ) (m : MemberView) (s sector sectors : ℕ) → HasNotGiven k m s sector sectors old mid → HasNotGiven k m s sector sectors old new
  has_not_given_later k m s sector sectors none = elim none [
    | inl lists ↦ inl lists
    | inr failed ↦ inr (λ d f was is.
        let low = slice_get_within old.disks k d was in
        let many = first.disks.same.as_many in
        let e = got_within mid.disks k (omega arith) in
        let told = failed d e.0 was e.1 in
        let stays = second.disks.same.honest k e.0 f e.1 is in (
          λ honest. (let rose = told.0 honest in let counted = stays.counted in omega arith),
          λ m at. fails_still d.faults e.0.faults f.faults (IsReadOfMember m sector sectors) (λ _. ⊤) (told.1 m at) stays.grown,
        ))
  ]

  pub has_not_given_earlier : (k : ℕ) (m : MemberView) (s sector sectors : ℕ) → HasNotGiven k m s sector sectors mid new → HasNotGiven k m s sector sectors old new
  has_not_given_earlier k m s sector sectors none = elim none [
    | inl lists ↦ inl lists
    | inr failed ↦ inr (λ d f was is.
        let low = slice_get_within old.disks k d was in
        let many = first.disks.same.as_many in
        let e = got_within mid.disks k (omega arith) in
        let stays = first.disks.same.honest k d e.0 was e.1 in
        let told = failed e.0 f e.1 is in (
          λ honest. (let rose = told.0 (stays.honest ∙ honest) in let counted = stays.counted in omega arith),
          λ m' at. fails_since d.faults e.0.faults f.faults (IsReadOfMember m' sector sectors) (λ _. ⊤) stays.grown (told.1 m' (ap (λ (a : ArrayView). slice_get a.members k) first.array ∙ at)),
        ))
  ]

  -- a member is the same before
  abbrev at_earlier : (k : ℕ) (m : MemberView) → IsMember old.array k m → IsMember mid.array k m
  at_earlier k m at = ap (λ (a : ArrayView). slice_get a.members k) first.array ∙ at

  abbrev in_sync_later : (k : ℕ) (m : MemberView) → IsInSync old.array k m → IsInSync mid.array k m
  in_sync_later k m on = record { member = at_earlier k m on.member; in_sync = on.in_sync }

  pub not_given_later : (mostly : Bool) (role s sector sectors : ℕ) → NotGivenIn mostly role s sector sectors old mid → NotGivenIn mostly role s sector sectors old new
  not_given_later mostly role s sector sectors none k m at as_role flag = has_not_given_later k m s sector sectors (none k m at as_role flag)

  pub not_given_earlier : (mostly : Bool) (role s sector sectors : ℕ) → NotGivenIn mostly role s sector sectors mid new → NotGivenIn mostly role s sector sectors old new
  not_given_earlier mostly role s sector sectors none k m at as_role flag = has_not_given_earlier k m s sector sectors (none k m (at_earlier k m at) as_role flag)

  none_of_earlier : (s sector sectors : ℕ) → NoneGivesOf s sector sectors mid new → NoneGivesOf s sector sectors old new
  none_of_earlier s sector sectors none k m on = has_not_given_earlier k m s sector sectors (none k m (in_sync_later k m on))

  pub none_gives_earlier : (s : ℕ) → NoneGives s mid new → NoneGives s old new
  none_gives_earlier s none = none_of_earlier s s 1 none

  pub group_later : (mostly : Bool) (sector sectors : ℕ) → NoneOfGroupGives mostly sector sectors old mid → NoneOfGroupGives mostly sector sectors old new
  group_later mostly sector sectors none s from below k m on flag = has_not_given_later k m s sector sectors (none s from below k m on flag)

  pub group_earlier : (mostly : Bool) (sector sectors : ℕ) → NoneOfGroupGives mostly sector sectors mid new → NoneOfGroupGives mostly sector sectors old new
  group_earlier mostly sector sectors none s from below k m on flag = has_not_given_earlier k m s sector sectors (none s from below k m (in_sync_later k m on) flag)

  pub gives_earlier : (role sector : ℕ) (bytes : List ℕ) → GivesIn role sector bytes mid new → GivesIn role sector bytes old new
  gives_earlier role sector bytes g = record {
    from = g.from;
    is = is_earlier old mid first role g.from g.is;
    unlisted = g.unlisted;
    holds = held_earlier old mid first g.from sector bytes g.holds;
  }

  pub in_group_earlier : (mostly : Bool) (role sector : ℕ) (bytes : List ℕ) → GivesInGroup mostly role sector bytes mid new → GivesInGroup mostly role sector bytes old new
  unfolding gives_earlier
  in_group_earlier mostly role sector bytes g = record { gives = gives_earlier role sector bytes g.gives; flag = g.flag }

  pub first_earlier : (mostly : Bool) (sector : ℕ) (bytes : List ℕ) → GivesFirst mostly sector bytes mid new → GivesFirst mostly sector bytes old new
  first_earlier mostly sector bytes run = record {
    role = run.role;
    given = in_group_earlier mostly run.role sector bytes run.given;
    lowest = λ lower low s from below. not_given_earlier mostly lower s sector (length bytes / 512) (run.lowest lower low s from below);
  }

  -- why fewer may be given
  pub fewer_earlier : (sector sectors : ℕ) → MayGiveFewer sector sectors mid new → MayGiveFewer sector sectors old new
  fewer_earlier sector sectors why = elim why [
    | inl part ↦ inl (in_part_earlier old mid first sector sectors part)
    | inr none ↦ inr (λ s from below. none_of_earlier s sector sectors (none s from below))
  ]

  fewer_later : (sector sectors : ℕ) → MayGiveFewer sector sectors old mid → MayGiveFewer sector sectors old new
  fewer_later sector sectors why = elim why [
    | inl part ↦ inl part
    | inr none ↦ inr (λ s from below k m on. has_not_given_later k m s sector sectors (none s from below k m on))
  ]

  pub cut_later : (sector sectors all : ℕ) → IsCutFrom sector sectors all old mid → IsCutFrom sector sectors all old new
  cut_later sector sectors all cut = record { more = cut.more; above = cut.above; half = cut.half; within = cut.within; why = fewer_later sector cut.more cut.why }

  -- a run that is given is given after devices were read
  pub run_earlier : (sector : ℕ) (run : List ℕ) → GivesRun sector run mid new → GivesRun sector run old new
  unfolding gives_earlier
  run_earlier sector run given = record {
    rests = rests_then old mid new first second;
    whole = given.whole;
    role = given.role;
    gives = gives_earlier given.role sector run given.gives;
    earlier = λ k m at before s from below. has_not_given_earlier k m s sector (length run / 512) (given.earlier k m (at_earlier k m at) before s from below);
  }

-- in the roles below this one nobody of the group gave these sectors
pub record NoneBelow (mostly : Bool) (role sector sectors : ℕ) (old new : MirrorView) : Type 0 where
  pub rests : Rests old new
  pub none : (lower : ℕ) → lower < role → (s : ℕ) → sector ≤ s → s < sector + sectors → NotGivenIn mostly lower s sector sectors old new

pub none_first : (mostly : Bool) (sector sectors : ℕ) (m : MirrorView) → NoneBelow mostly 0 sector sectors m m
none_first mostly sector sectors m = record { rests = rests_same m; none = λ lower low s from below. absurd (omega arith) }

-- every role was tried
pub none_in_any : (mostly : Bool) (old new : MirrorView) → IsConsistent old → (last sector sectors : ℕ) → old.array.shared.raid_disks ≤ last → NoneBelow mostly last sector sectors old new
    → NoneOfGroupGives mostly sector sectors old new
none_in_any mostly old new sound last sector sectors all so_far s from below k m on flag =
    let as_role = has_role m.state on.in_sync in
    let low = sound.roles.below k as_role.0 m on.member (in_sync_as as_role.0 m.state as_role.1).1 in
    so_far.none as_role.0 (omega arith) s from below k m on.member as_role.1 flag

-- in the roles below this one everybody of the group lists these sectors
pub record ListedBelow (mostly : Bool) (role sector sectors : ℕ) (a : ArrayView) : Type 0 where
  pub lists : (lower : ℕ) → lower < role → (s : ℕ) → sector ≤ s → s < sector + sectors → ListedIn mostly lower s a

pub listed_first : (mostly : Bool) (sector sectors : ℕ) (a : ArrayView) → ListedBelow mostly 0 sector sectors a
listed_first mostly sector sectors a = record { lists = λ lower low s from below. absurd (omega arith) }

pub listed_more : (mostly : Bool) (role sector sectors : ℕ) (old mid : MirrorView) → Rests old mid → ListedBelow mostly role sector sectors old.array
    → ((s : ℕ) → sector ≤ s → s < sector + sectors → ListedIn mostly role s mid.array) → ListedBelow mostly (role + 1) sector sectors old.array
listed_more mostly role sector sectors old mid rests before lists = record {
  lists = λ lower low s from below.
      by_same lower role
      (λ same. subst (λ (a : ArrayView). ListedIn mostly lower s a) rests.array (subst (λ (r : ℕ). ListedIn mostly r s mid.array) (sym same) (lists s from below)))
      (λ apart. before.lists lower (omega arith) s from below);
}

-- every role was tried
pub listed_in_any : (mostly : Bool) (old : MirrorView) → IsConsistent old → (last sector sectors : ℕ) → old.array.shared.raid_disks ≤ last → ListedBelow mostly last sector sectors old.array
    → AllOfGroupList mostly sector sectors old.array
listed_in_any mostly old sound last sector sectors all so_far s from below k m on flag =
    let as_role = has_role m.state on.in_sync in
    let low = sound.roles.below k as_role.0 m on.member (in_sync_as as_role.0 m.state as_role.1).1 in
    so_far.lists as_role.0 (omega arith) s from below k m on.member as_role.1 flag

-- who lists a sector does not give it
pub listed_not_given : (mostly : Bool) (role s sector sectors : ℕ) (old new : MirrorView) → ListedIn mostly role s old.array → NotGivenIn mostly role s sector sectors old new
listed_not_given mostly role s sector sectors old new lists k m at as_role flag = inl (lists k m at as_role flag)

module _ (mostly : Bool) (role sector : ℕ) (old mid new : MirrorView) where
  pub none_more : (sectors : ℕ) → NoneBelow mostly role sector sectors old mid → Rests mid new → ((s : ℕ) → sector ≤ s → s < sector + sectors → NotGivenIn mostly role s sector sectors mid new) → NoneBelow mostly (role + 1) sector sectors old new
  none_more sectors before rests none = record {
    rests = rests_then old mid new before.rests rests;
    none = λ lower low s from below.
        by_same lower role
        (λ same. subst (λ (r : ℕ). NotGivenIn mostly r s sector sectors old new) (sym same) (not_given_earlier old mid new before.rests rests mostly role s sector sectors (none s from below)))
        (λ apart. not_given_later old mid new before.rests rests mostly lower s sector sectors (before.none lower (omega arith) s from below));
  }

  pub given_first : (bytes : List ℕ) → NoneBelow mostly role sector (length bytes / 512) old mid → Rests mid new → GivesInGroup mostly role sector bytes mid new → GivesFirst mostly sector bytes old new
  given_first bytes before rests gives = record {
    role = role;
    given = in_group_earlier old mid new before.rests rests mostly role sector bytes gives;
    lowest = λ lower low s from below. not_given_later old mid new before.rests rests mostly lower s sector (length bytes / 512) (before.none lower low s from below);
  }

-- ---- both groups, one after the other
-- a member in sync is so in one role
one_role : (r q : ℕ) (state : MemberState) → is_in_sync_as r state ≡ true → is_in_sync_as q state ≡ true → r ≡ q
one_role r q (InSync role) is also = sym (eqb-true role r is) ∙ eqb-true role q also
one_role r q (Recovering role) is also = absurd cc
one_role r q (Stale role) is also = absurd cc
one_role r q Spare is also = absurd cc
one_role r q Faulty is also = absurd cc

-- whoever is asked before is of the same group, in a lower role, or of the first group where the other is of the second
asked_before : (own mostly : Bool) (earlier role : ℕ) → IsAskedBefore mostly earlier own role → ((mostly ≡ own) × (earlier < role)) ⊎ ((mostly ≡ false) × (own ≡ true))
asked_before false false earlier role less = inl (refl, less)
asked_before true true earlier role less = inl (refl, less)
asked_before true false earlier role all = inr (refl, refl)
asked_before false true earlier role none = absurd none

module _ (mostly : Bool) (sector : ℕ) (run : List ℕ) (old new : MirrorView) (given : GivesFirst mostly sector run old new) where
  module _ (others : mostly ≡ true → NoneOfGroupGives false sector (length run / 512) old new) where
    none_before : (k : ℕ) (m : MemberView) → IsMember old.array k m → IsBefore m given.given.gives.is.member → (s : ℕ) → sector ≤ s → s < sector + length run / 512 → HasNotGiven k m s sector (length run / 512) old new
    none_before k m at before s from below =
        let own : Bool = is_write_mostly m.superblock in
        let asked = subst (λ b. IsAskedBefore own before.role b before.other) given.given.flag before.asked_before in
        elim (asked_before mostly own before.role before.other asked) [
          | inl same_group ↦
              let same = one_role before.other given.role given.given.gives.is.member.state before.other_in_sync given.given.gives.is.in_sync in
              let lower = same_group.1 in
              given.lowest before.role (omega arith) s from below k m at before.in_sync same_group.0
          | inr first_group ↦ others first_group.1 s from below k m (record { member = at; in_sync = (in_sync_as before.role m.state before.in_sync).0 }) first_group.0
        ]

    -- what the first of a group gave is a run, if no member of the group before it gave any of it
    given_run : Rests old new → length run % 512 ≡ 0 → GivesRun sector run old new
    given_run rests whole = record {
      rests = rests;
      whole = whole;
      role = given.role;
      gives = given.given.gives;
      earlier = none_before;
    }

module _ (sector : ℕ) (was : List ℕ) (whole : length was % 512 ≡ 0) where
  -- all of them are of the first group's members, or some may be
  pub first_group : (bytes : List ℕ) (old new : MirrorView) (first : Answer) → length bytes ≡ length was → gives_none first ≡ false → TriesGroup false sector was bytes old new first → TriesRoles sector was bytes old new first
  first_group bytes old new answer.All long some (rests, gives) = given_run false sector bytes old new gives (λ e. absurd cc) rests (omega arith)
  first_group bytes old new answer.Perhaps long some (rests, several, part) = (rests, several, inl part)
  first_group bytes old new answer.Nothing long some tried = absurd cc
  first_group bytes old new answer.Failed long some tried = absurd cc

  -- none of them was given by a group
  pub none_given : (mostly : Bool) (bytes : List ℕ) (old new : MirrorView) (told : Answer) → gives_none told ≡ true → TriesGroup mostly sector was bytes old new told
      → Rests old new × NoneOfGroupGives mostly sector (length was / 512) old new
  none_given mostly bytes old new answer.All is tried = absurd cc
  none_given mostly bytes old new answer.Perhaps is tried = absurd cc
  none_given mostly bytes old new answer.Nothing is (rests, lists) = (rests, λ s from below k m on flag. inl (lists s from below k m on flag))
  none_given mostly bytes old new answer.Failed is tried = tried

  -- all of them are listed by a group
  listed_by : (mostly : Bool) (bytes : List ℕ) (old new : MirrorView) (told : Answer) → all_listed told ≡ true → TriesGroup mostly sector was bytes old new told
      → AllOfGroupList mostly sector (length was / 512) old.array
  listed_by mostly bytes old new answer.All is tried = absurd cc
  listed_by mostly bytes old new answer.Perhaps is tried = absurd cc
  listed_by mostly bytes old new answer.Nothing is tried = tried.1
  listed_by mostly bytes old new answer.Failed is tried = absurd cc

module _ (sector : ℕ) (was : List ℕ) (whole : length was % 512 ≡ 0) (left : List ℕ) (long : length left ≡ length was) (old mid new : MirrorView) where
  module _ (first : Answer) (is : gives_none first ≡ true) (tried : TriesGroup false sector was left old mid first) where
    before : Rests old mid × NoneOfGroupGives false sector (length was / 512) old mid
    before = none_given sector was whole false left old mid first is tried

    first_none : Rests mid new → NoneOfGroupGives false sector (length was / 512) old new
    first_none rests = group_later old mid new before.0 rests false sector (length was / 512) before.1

    -- the second group gave them, or some of them may be given
    pub second_group : (bytes : List ℕ) (second : Answer) → length bytes ≡ length left → gives_none second ≡ false → TriesGroup true sector left bytes mid new second → TriesRoles sector was bytes old new second
    second_group bytes answer.All same some (rests, gives) =
        given_run true sector bytes old new
        (first_earlier old mid new before.0 rests true sector bytes gives)
        (λ e. subst (λ n. NoneOfGroupGives false sector (n / 512) old new) (sym (same ∙ long)) (first_none rests))
        (rests_then old mid new before.0 rests)
        (omega arith)
    second_group bytes answer.Nothing same some tried_also = absurd cc
    second_group bytes answer.Failed same some tried_also = absurd cc
    second_group bytes answer.Perhaps same some (rests, several, part) = (
      rests_then old mid new before.0 rests,
      subst (λ n. 1 < n / 512) long several,
      inl (in_part_earlier old mid before.0 sector (length was / 512) (subst (λ (n : ℕ). IsListedInPart sector (n / 512) mid.array) long part)),
    )

    -- neither group gave any of them
    module _ (bytes : List ℕ) (second : Answer) (also : gives_none second ≡ true) (tried_also : TriesGroup true sector left bytes mid new second) where
      after : Rests mid new × NoneOfGroupGives true sector (length was / 512) mid new
      after =
          let none = none_given sector left (omega arith) true bytes mid new second also tried_also in
          (none.0, subst (λ (n : ℕ). NoneOfGroupGives true sector (n / 512) mid new) long none.1)

      both_rest : Rests old new
      both_rest = rests_then old mid new before.0 after.0

      neither : (s : ℕ) → sector ≤ s → s < sector + length was / 512 → NoneGivesOf s sector (length was / 512) old new
      neither s from below k m on = elim (cases_Bool (is_write_mostly m.superblock)) [
        | inl mostly ↦ group_earlier old mid new before.0 after.0 true sector (length was / 512) after.1 s from below k m on mostly
        | inr other ↦ first_none after.0 s from below k m on other
      ]

      -- a read of one sector alone failed
      pub one_failed : length was ≡ 512 → TriesRoles sector was bytes old new answer.Failed
      one_failed one =
          let alone : length was / 512 ≡ 1 = omega (arith, one) in
          (both_rest, alone, subst (λ (n : ℕ). NoneGivesOf sector sector n old new) alone (neither sector (omega arith) (omega (arith, alone))))

      -- of several some may be given
      pub some_perhaps : 1 < length was / 512 → TriesRoles sector was bytes old new answer.Perhaps
      some_perhaps several = (both_rest, several, inr neither)

      -- all members in sync list all of them
      pub both_list : all_listed first ≡ true → all_listed second ≡ true → TriesRoles sector was bytes old new answer.Nothing
      both_list listed listed_also = (
        both_rest,
        λ s from below k m on. elim (cases_Bool (is_write_mostly m.superblock)) [
          | inl mostly ↦ listed_by sector left (omega arith) true bytes mid new second listed_also tried_also s from (omega arith) k m (in_sync_later old mid new before.0 after.0 k m on) mostly
          | inr other ↦ listed_by sector was whole false left old mid first listed tried s from below k m on other
        ],
      )
