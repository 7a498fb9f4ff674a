-- A sector is asked of one member after another.
use Rattle.std.proofs.Common.{◌≡◌, ◌∙◌, inl, inr, ℕ, ◌+◌, ◌<◌, ◌≤◌, ◌↔◌, Bool, true, false, List, length, Result, Ok, Err, sym, subst, arith}
use Rattle.std.specs.Prelude.{◌≢◌, ⊤, MatchResult, is_ok}
use Rattle.std.proofs.lemmas.Option.{slice_get_within}
use Rattle.md_device.proofs.Failing.{fails_still}
use Rattle.md_model.proofs.Puts.{by_same}
use Rattle.md_assembly.proofs.Indices.{got_within}
use Rattle.md_kept_members.specs.View.{MemberView}
use Rattle.md_laws.proofs.Runs.Rests.{rests_same, rests_then}
use Rattle.md_state.specs.Members.{IsInSync, IsMember}
use Rattle.md_state.specs.Rests.{Rests}
use Rattle.md_state.specs.Steps.CopyData.{Lists}
use Rattle.md_state.specs.Steps.ReadData.{FailsToRead, ReadsData}
use Rattle.md_state.specs.View.{ArrayView, MirrorView}
use Rattle.md_read.specs.Reading.{HasNotGiven, HasReadFailed, IsReadOfMember, NoneGives}
use Rattle.md_read.specs.Unresynced.{NoneGivesPart, SourceFails}
use Rattle.md_read.proofs.InRoles.{ListsSome, failed_of}
use Rattle.md_read.proofs.RunsRead.{has_not_given_earlier, has_not_given_later, held_earlier}
use Rattle.md_resync.specs.declared.fault.ResyncFault.TheVariants.{ReadFault}
use Rattle.md_refusals.specs.declared.fault.CommandFault.{CommandFault}
use Rattle.md_refusals.specs.declared.fault.CommandFault.TheVariants.{Resync}
use Rattle.md_read_commands.specs.Others.{AsksMember, AsksOthers, AsksStandIn, AsksStandIns, GivesAlone, GivesFirstStandIn, GivesOther, IsGivenByNoneInSync, NoOtherGives, NoStandInGives}
use Rattle.md_read_commands.specs.StandIn.{GivesAsStandIn, IsStandIn}

-- the members before this one did not give the sector, but for one that was not asked
pub record NoneGaveBelow (source s n : ℕ) (old new : MirrorView) : Type 0 where
  pub rests : Rests old new
  pub none : (j : ℕ) (m : MemberView) → j < n → j ≢ source → IsInSync old.array j m → HasNotGiven j m s s 1 old new

module _ (old mid : MirrorView) (first : Rests old mid) where
  -- a member in sync is so after reads
  in_sync_after : (k : ℕ) (m : MemberView) → IsInSync old.array k m → IsInSync mid.array k m
  in_sync_after k m on = subst (λ (a : ArrayView). IsInSync a k m) (sym first.array) on

  in_sync_before : (k : ℕ) (m : MemberView) → IsInSync mid.array k m → IsInSync old.array k m
  in_sync_before k m on = subst (λ (a : ArrayView). IsInSync a k m) first.array on

  gives_alone_earlier : (new : MirrorView) (k s : ℕ) (block : List ℕ) → GivesAlone k s block mid new → GivesAlone k s block old new
  gives_alone_earlier new k s block g = record {
    rests = rests_then old mid new first g.rests;
    member = g.member;
    in_sync = in_sync_before k g.member g.in_sync;
    unlisted = g.unlisted;
    holds = held_earlier old mid first k s block g.holds;
  }

  pub gives_other_earlier : (new : MirrorView) (k s : ℕ) (block : List ℕ) → GivesOther k s block mid new → GivesOther k s block old new
  gives_other_earlier new k s block g = record {
    from = g.from;
    apart = g.apart;
    gives = gives_alone_earlier new g.from s block g.gives;
    earlier = λ j m low apart on. has_not_given_earlier old mid new first g.gives.rests j m s s 1 (g.earlier j m low apart (in_sync_after j m on));
  }

  pub no_other_earlier : (new : MirrorView) (k s : ℕ) → NoOtherGives k s mid new → NoOtherGives k s old new
  no_other_earlier new k s g = record {
    rests = rests_then old mid new first g.rests;
    none = λ j m apart on. has_not_given_earlier old mid new first g.rests j m s s 1 (g.none j m apart (in_sync_after j m on));
  }

  -- nor did they later
  pub none_gives_later : (new : MirrorView) → Rests mid new → (s : ℕ) → NoneGives s old mid → NoneGives s old new
  none_gives_later new second s none j m on = has_not_given_later old mid new first second j m s s 1 (none j m on)

  pub none_gives_part_later : (new : MirrorView) → Rests mid new → (s : ℕ) → NoneGivesPart s old mid → NoneGivesPart s old new
  none_gives_part_later new second s (inl all) = inl all
  none_gives_part_later new second s (inr none) = inr (none.0, none_gives_later new second s none.1)

  -- a member whose superblock was made in memory gave it
  pub stand_in_earlier : (new : MirrorView) (k s : ℕ) (block : List ℕ) → GivesAsStandIn k s block mid new → GivesAsStandIn k s block old new
  stand_in_earlier new k s block g = record {
    rests = rests_then old mid new first g.rests;
    member = g.member;
    at = subst (λ (a : ArrayView). IsMember a k g.member) first.array g.at;
    stand_in = g.stand_in;
    unlisted = g.unlisted;
    holds = held_earlier old mid first k s block g.holds;
  }

  pub first_stand_in_earlier : (new : MirrorView) (s : ℕ) (block : List ℕ) → GivesFirstStandIn s block mid new → GivesFirstStandIn s block old new
  first_stand_in_earlier new s block g = record {
    from = g.from;
    gives = stand_in_earlier new g.from s block g.gives;
    earlier = λ j m low at stands.
        has_not_given_earlier old mid new first g.gives.rests j m s s 1
        (g.earlier j m low (subst (λ (a : ArrayView). IsMember a j m) (sym first.array) at) stands);
  }

  -- the member that a resync copies from failed before others were asked
  pub source_fails_later : (new : MirrorView) → Rests mid new → (k s : ℕ) → SourceFails k s old mid → SourceFails k s old new
  source_fails_later new second k s fails = record {
    marked = fails.marked;
    source = fails.source;
    failed = λ d f was is.
        let low = slice_get_within old.disks k d was in
        let many = first.disks.same.as_many in
        let e = got_within mid.disks k (omega arith) in
        let told = fails.failed d e.0 was e.1 in
        let stays = second.disks.same.honest k e.0 f e.1 is in (
          λ honest. (let rose = told.0 honest in let counted = stays.counted in omega arith),
          λ m at. fails_still d.faults e.0.faults f.faults (IsReadOfMember m s 1) (λ _. ⊤) (told.1 m at) stays.grown,
        );
  }

-- ---- one after another
-- of the members before this one none whose superblock was made in memory gave the sector
pub record NoStandInBelow (s n : ℕ) (old new : MirrorView) : Type 0 where
  pub rests : Rests old new
  pub none : (j : ℕ) (m : MemberView) → j < n → IsMember old.array j m → IsStandIn m.state m.superblock → HasNotGiven j m s s 1 old new

pub no_stand_in_first : (s : ℕ) (v : MirrorView) → NoStandInBelow s 0 v v
no_stand_in_first s v = record { rests = rests_same v; none = λ j m low at stands. absurd (omega arith) }

module _ (s n : ℕ) (old mid : MirrorView) (so_far : NoStandInBelow s n old mid) where
  pub no_stand_in_more : (new : MirrorView) (block : List ℕ) → AsksStandIn n s block mid new false → NoStandInBelow s (n + 1) old new
  no_stand_in_more new block none = record {
    rests = rests_then old mid new so_far.rests none.0;
    none = λ j m low at stands.
        by_same j n
        (λ same. has_not_given_earlier old mid new so_far.rests none.0 j m s s 1
        (subst (λ (i : ℕ). HasNotGiven i m s s 1 mid new) (sym same)
        (none.1 m (subst (λ (a : ArrayView). IsMember a n m) (sym so_far.rests.array) (subst (λ (i : ℕ). IsMember old.array i m) same at)) stands)))
        (λ other. has_not_given_later old mid new so_far.rests none.0 j m s s 1 (so_far.none j m (omega arith) at stands));
  }

  pub stand_in_at_last : (new : MirrorView) (block : List ℕ) → GivesAsStandIn n s block mid new → GivesFirstStandIn s block old new
  stand_in_at_last new block g = record {
    from = n;
    gives = stand_in_earlier old mid so_far.rests new n s block g;
    earlier = λ j m low at stands. has_not_given_later old mid new so_far.rests g.rests j m s s 1 (so_far.none j m low at stands);
  }

  pub no_stand_in_at_all : length old.array.members ≤ n → NoStandInGives s old mid
  no_stand_in_at_all all = record {
    rests = so_far.rests;
    none = λ j m at stands. let low = slice_get_within old.array.members j m at in so_far.none j m (omega arith) at stands;
  }

module _ (source s : ℕ) where
  pub none_first : (v : MirrorView) → NoneGaveBelow source s 0 v v
  none_first v = record { rests = rests_same v; none = λ j m low apart on. absurd (omega arith) }

  module _ (n : ℕ) (old mid : MirrorView) (so_far : NoneGaveBelow source s n old mid) where
    pub none_more : (new : MirrorView) → Rests mid new → ((m : MemberView) → n ≢ source → IsInSync mid.array n m → HasNotGiven n m s s 1 mid new) → NoneGaveBelow source s (n + 1) old new
    none_more new second none = record {
      rests = rests_then old mid new so_far.rests second;
      none = λ j m low apart on.
          by_same j n
          (λ same. has_not_given_earlier old mid new so_far.rests second j m s s 1
          (subst (λ (i : ℕ). HasNotGiven i m s s 1 mid new) (sym same)
          (none m (λ is. apart (same ∙ is)) (in_sync_after old mid so_far.rests n m (subst (λ (i : ℕ). IsInSync old.array i m) same on)))))
          (λ other. has_not_given_later old mid new so_far.rests second j m s s 1 (so_far.none j m (omega arith) apart on));
    }

    pub gives_at_last : (new : MirrorView) (block : List ℕ) → n ≢ source → GivesAlone n s block mid new → GivesOther source s block old new
    gives_at_last new block apart g = record {
      from = n;
      apart = apart;
      gives = gives_alone_earlier old mid so_far.rests new n s block g;
      earlier = λ j m low other on. has_not_given_later old mid new so_far.rests g.rests j m s s 1 (so_far.none j m low other on);
    }

    pub none_at_all : length old.array.members ≤ n → NoOtherGives source s old mid
    none_at_all all = record {
      rests = so_far.rests;
      none = λ j m apart on. let low = slice_get_within old.array.members j m on.member in so_far.none j m (omega arith) apart on;
    }

-- ---- one member
-- whether it lists the sector
pub lists_one : (m : MemberView) (s : ℕ) (said : Bool) → ((said ≡ true) ↔ ListsSome m s 1) → (said ≡ true) ↔ Lists m s
lists_one m s said iff = (
  λ e.
      let l = iff.0 e in
      let from = l.2 in
      let below = l.3 in
      let same : l.0 ≡ s = omega arith in
      subst (λ (t : ℕ). Lists m t) same l.1,
  λ lists. iff.1 (s, lists, omega arith, omega arith),
)

-- it was asked
module _ (old new : MirrorView) (source k s : ℕ) (apart : k ≢ source) (member : MemberView) (on : IsInSync old.array k member) (free : Lists member s → ⊥) (block : List ℕ) (n : ℕ) (long : n ≡ 512) where
  pub asked : {E : Type 0} (r : Result (Unit {0}) E) → MatchResult r (λ _. ReadsData k s block old new) (λ _. FailsToRead k s n old new) → AsksMember source k s block old new (is_ok r)
  asked (Ok x) reads = (
    apart,
    record { rests = reads.rests; member = member; in_sync = on; unlisted = free; holds = held_earlier old new reads.rests k s block reads.holds },
  )
  asked (Err e) fails = (fails.rests, λ m other in_sync. inr (failed_of k s n 1 old new fails (omega arith)))

-- nor did the member that a resync copies from
pub nobody_gives : (k s : ℕ) (old new : MirrorView) → SourceFails k s old new → NoOtherGives k s old new → NoneGives s old new
nobody_gives k s old new fails none j m on =
    by_same j k
    (λ same. inr (subst (λ (i : ℕ). HasReadFailed i s 1 old new) (sym same) fails.failed))
    (λ apart. none.none j m apart on)

-- a member whose superblock was made in memory was asked
module _ (old new : MirrorView) (k s : ℕ) (member : MemberView) (at : IsMember old.array k member) (is : IsStandIn member.state member.superblock) (free : Lists member s → ⊥) (block : List ℕ) (n : ℕ) (long : n ≡ 512) where
  pub asked_stand_in : {E : Type 0} (r : Result (Unit {0}) E) → MatchResult r (λ _. ReadsData k s block old new) (λ _. FailsToRead k s n old new) → AsksStandIn k s block old new (is_ok r)
  asked_stand_in (Ok x) reads = record { rests = reads.rests; member = member; at = at; stand_in = is; unlisted = free; holds = held_earlier old new reads.rests k s block reads.holds }
  asked_stand_in (Err e) fails = (fails.rests, λ m there stands. inr (failed_of k s n 1 old new fails (omega arith)))

-- none in sync gave it
pub none_rests : (fault : CommandFault) (s : ℕ) (old new : MirrorView) → IsGivenByNoneInSync fault s old new → Rests old new
none_rests (Resync (ReadFault k c)) s old new none = none.rests
none_rests fault s old new none = subst (λ (v : MirrorView). Rests old v) (sym none) (rests_same old)

-- and then those were asked
pub stand_ins_asked : (fault : CommandFault) (s : ℕ) (block : List ℕ) (old mid new : MirrorView) → IsGivenByNoneInSync fault s old mid → (r : Bool) → AsksStandIns s block mid new r → AsksOthers fault s block old new r
stand_ins_asked fault s block old mid new none true given = inr (record { mid = mid; none = none; gives = given })
stand_ins_asked fault s block old mid new none false last = record { mid = mid; none = none; last = last }
