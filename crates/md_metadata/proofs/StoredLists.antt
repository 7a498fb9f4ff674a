-- The list of a member is stored, step by step.
use Rattle.std.proofs.Common.{◌≡◌, ℕ, ◌<◌, true, false, List, [], ◌∷◌, ◌++◌, set, slice_get, Some, None, refl, sym, ap, ◌∙◌, arith, inl, inr, set-set}
use Rattle.std.specs.Prelude.{Result, Ok, Err, MatchResult}
use Rattle.md_model.specs.Events.{Event, MemberPart}
use Rattle.md_bitmap.specs.Marks.{is_set}
use Rattle.md_assembly.specs.States.{is_in_sync, is_recorded}
use Rattle.md_kept_members.specs.Members.{recorded_member}
use Rattle.md_kept_members.specs.View.{MemberView}
use Rattle.md_faults.specs.declared.step_fault.StoreFault.TheVariants.{Halted, MemberFailed}
use Rattle.md_inflight.specs.Requests.Pending.{PendingView}
use Rattle.md_state.specs.Members.{IsInSync, IsMember}
use Rattle.md_state.specs.Steps.StoreLog.{logged}
use Rattle.md_state.specs.Requests.{IsPending}
use Rattle.md_state.specs.View.{ArrayView, MirrorView}
use Rattle.md_state.specs.Steps.WriteMember.{IsNotDue}
use Rattle.md_array.specs.Consistency.{IsConsistent}
use Rattle.md_array.specs.Events.{Happens, listed_on}
use Rattle.md_array.specs.InTurn.{HaltsAt, IsRecordDue, IsSectorDue}
use Rattle.md_array.specs.Steps.StoreLog.{FailsToStoreLog, RefusesStoreLog, StoresLog}
use Rattle.md_array.specs.Steps.Record.{Records}
use Rattle.md_array.proofs.General.Replaced.{of_set}
use Rattle.md_array.proofs.Worlds.States.{in_sync_recorded}
use Rattle.md_metadata.specs.declared.fault.PartFault.{PartFault}
use Rattle.md_metadata.specs.declared.fault.PartFault.TheVariants as part
use Rattle.md_metadata.specs.Going.{StepsBy, only_others}
use Rattle.md_metadata.specs.Storing.{IsFailureOf, IsRecording, IsSector, IsUpToDate, RecordingFails, RecordsOn, SectorFails, StaysReady, StoresOn}
use Rattle.md_metadata.specs.StoringLists.{IsListing, ListFails, LogsOn, StoresList, StoresListOf}
use Rattle.md_metadata.proofs.Going.{GoesUnfailing, halts_as, halts_at_once, kept_before, step_as, step_loses, step_of, stops_as, two_lose, unfailing_halts, unfailing_loses, unfailing_on, unfailing_step, unfailing_two}
use Rattle.md_metadata.proofs.Steps.{failure_step, faulty_after, fewer_after, halted_after, in_use_there, is_now, never_halted, same_but}
use Rattle.md_metadata.proofs.StoredRecords.{header_due, now_in_sync}

-- ---- the log
module _ (old new : MirrorView) (k : ℕ) (sound : IsConsistent new) (pending : (o : PendingView) → IsPending old.array o → IsPending new.array o) where
  pub log_stored : StoresLog k old new → Happens old (Event.StoreLog k (listed_on new k)) new → LogsOn k old new
  log_stored r happens = record {
    step = record {
      of = refl;
      did = λ others. (refl, r);
      happens = λ honest whole others in_flight. happens honest others in_flight;
      array = same_but old.array new.array k r.member (logged r.member) r.in_sync.member r.array refl;
      sound = sound;
      pending = pending;
    };
    gives = r;
  }

  log_in_use : (f : FailsToStoreLog k old new) → is_recorded f.fails.array.member.state ≡ true
  log_in_use f = in_use_there old.array k f.member f.fails.array.member f.fails.array.at f.in_sync.member (in_sync_recorded f.member.state f.in_sync.in_sync)

  pub log_fails : (j : ℕ) → RefusesStoreLog k old new (MemberFailed j) → Happens old (Event.WriteFails k MemberPart.Log) new → ListFails k old new (part.MemberFailed j)
  log_fails j r happens =
      let f = r.1 in
      let used = log_in_use f in
      let step = failure_step only_others only_others (IsListing k) (Event.WriteFails k MemberPart.Log) old new k f.fails.array used refl (λ others. (refl, f))
      (λ honest whole others in_flight. happens honest others in_flight) sound pending in (
        r.0,
        step_loses (IsListing k) k (Event.WriteFails k MemberPart.Log) old new refl step (λ previous. tt) (fewer_after old.array new.array k f.fails.array used)
            (halted_after old.array new.array k f.fails.array used) (record { member = f.fails.array.member; at = f.fails.array.at; recorded = used })
            (faulty_after old.array new.array k f.fails.array used),
      )

  pub log_halts : old.array.halted ≡ false → IsConsistent old → RefusesStoreLog k old new Halted → ListFails k old new part.Halted
  log_halts run before (inl r) = never_halted old new run r
  log_halts run before (inr h) = halts_at_once (IsListing k) k (Event.WriteFails k MemberPart.Log) old new before refl refl (λ others. h) sound pending

-- ---- kinds of events
sector_lists : (k : ℕ) (e : Event) → IsSector k 0 e → IsListing k e
sector_lists k (Event.StoreMarks j b) is = is
sector_lists k (Event.WriteFails j (MemberPart.BitmapSector b)) is = is
sector_lists k e is = absurd is

-- of a sector's writes only one that failed halts the mirror
sector_named : (k : ℕ) (mid new : MirrorView) (e : Event) → IsSector k 0 e → HaltsAt mid (λ n. None) e new → IsFailureOf k e
sector_named k mid new (Event.StoreMarks j b) is h = absurd h
sector_named k mid new (Event.WriteFails j (MemberPart.BitmapSector b)) is h = is.0
sector_named k mid new e is h = absurd is

-- a member that is changed twice
set_twice : (a b c : ArrayView) (k : ℕ) (x y : MemberView) → b ≡ record a { members = set a.members k x } → c ≡ record b { members = set b.members k y } → c ≡ record a { members = set a.members k y }
set_twice a b c k x y first second =
    second ∙ ap (λ (v : ArrayView). record v { members = set v.members k y }) first ∙ ap (λ (xs : List MemberView). record a { members = xs }) (set-set a.members k x y)

-- ---- after the log
module _ (k : ℕ) (a b : MirrorView) (l : LogsOn k a b) where
  abbrev m : MemberView
  m = l.gives.member

  is_logged : (x : MemberView) → IsMember b.array k x → x ≡ logged m
  is_logged = is_now a.array b.array k m (logged m) l.gives.in_sync.member l.gives.array

  pub still_in_sync : (x : MemberView) → IsMember b.array k x → is_in_sync x.state ≡ true
  still_in_sync x there = ap (λ (y : MemberView). is_in_sync y.state) (is_logged x there) ∙ l.gives.in_sync.in_sync

  pub logged_due : (x : MemberView) → IsMember b.array k x → x.due ≡ true
  logged_due x there = ap (λ (y : MemberView). y.due) (is_logged x there)

  pub logged_running : b.array.halted ≡ a.array.halted
  logged_running = ap (λ (v : ArrayView). v.halted) l.gives.array

  pub earlier_still : ((j : ℕ) (x : MemberView) → j < k → IsInSync a.array j x → IsNotDue x) → (j : ℕ) (x : MemberView) → j < k → IsInSync b.array j x → IsNotDue x
  earlier_still earlier j x low in_sync =
      of_set a.array.members k j (logged m) x (ap (λ (v : ArrayView). slice_get v.members j) (sym l.gives.array) ∙ in_sync.member)
      (λ same it. absurd (omega arith))
      (λ apart there. earlier j x low (record { member = there; in_sync = in_sync.in_sync }))

  was_up : IsUpToDate a.array k
  was_up = record { member = m; at = l.gives.in_sync.member; recorded = in_sync_recorded m.state l.gives.in_sync.in_sync }

  first : (g : GoesUnfailing (IsListing k) a b) × (g.goes.events ≡ Event.StoreLog k (listed_on b k) ∷ [])
  first = unfailing_step (IsListing k) (Event.StoreLog k (listed_on b k)) a b tt l.step (λ previous. tt) logged_running

  pub sector_then_fails : (c : MirrorView) (fault : PartFault) → SectorFails k 0 b c fault → ListFails k a c fault
  sector_then_fails c part.Halted h =
      unfailing_halts (IsListing k) a b c first.0 k
      (halts_as (IsSector k 0) (IsListing k) (sector_lists k) b c k
      (record { halts = h.halts; unfailing = h.unfailing; named = sector_named k h.halts.mid c h.halts.failing h.halts.of (h.halts.halts (λ n. None)) }))
  sector_then_fails c (part.MemberFailed j) h =
      (h.0, unfailing_loses (IsListing k) a b c first.0 k was_up (stops_as (IsSector k 0) (IsListing k) (sector_lists k) b c (part.MemberFailed k) h.1))

  -- ---- after the first sector of the bitmap
  module _ (c : MirrorView) (s : StoresOn k 0 b c) where
    marks : StepsBy only_others only_others (IsListing k) (Event.StoreMarks k 0) b c
    marks = step_as (IsSector k 0) (IsListing k) (sector_lists k) only_others only_others (Event.StoreMarks k 0) b c s.step

    order : IsSectorDue b.array k 0
    order = header_due b.array k logged_due

    -- what is kept of the member then
    abbrev marked : MemberView
    marked = record s.gives.member { stored = s.gives.stored }

    marks_stay : (x : ℕ) → is_set m.stored.bytes x ≡ is_set a.array.marks.bytes x → is_set s.gives.stored.bytes x ≡ is_set a.array.marks.bytes x
    marks_stay x was =
        let stays : StaysReady b.array c.array k marked = s.ready.each k marked (now_in_sync k b c s).member in
        let same = ap (λ (y : MemberView). is_set y.stored.bytes x) (is_logged stays.before stays.member) in
        let bits = ap (λ (v : ArrayView). is_set v.marks.bytes x) l.gives.array in
        stays.marked x (same ∙ was ∙ sym bits) ∙ bits

    module _ (d : MirrorView) (due : IsRecordDue (Some (Event.StoreMarks k 0)) c.array k) where
      stored_of : Records k c d → StoresListOf k a.array d.array
      stored_of r =
          let n : MemberView = record (logged m) { stored = s.gives.stored; due = false; stored_offset = m.superblock.recovery_offset } in
          let early : s.gives.member ≡ logged m = is_logged s.gives.member s.gives.may.in_sync.member in
          let late : r.member ≡ marked = is_now b.array c.array k s.gives.member marked s.gives.may.in_sync.member s.gives.array r.member r.may.at in
          let is : recorded_member r.member ≡ n =
          ap recorded_member late ∙ ap (λ (x : MemberView). recorded_member (record x { stored = s.gives.stored })) early in
          record {
            before = m;
            in_sync = l.gives.in_sync;
            after = n;
            has = record { same = refl; marked = marks_stay };
            array = set_twice a.array b.array d.array k (logged m) (recorded_member r.member) l.gives.array
                (set_twice b.array c.array d.array k marked (recorded_member r.member) s.gives.array r.array)
                ∙ ap (λ (x : MemberView). record a.array { members = set a.array.members k x }) is;
          }

      all_stored : RecordsOn k c d → StoresList k a d
      all_stored r =
          let last = step_of only_others only_others IsRecording (IsListing k) (Event.Record k) c d refl r.step in
          let rest = unfailing_two (IsListing k) b c d (Event.StoreMarks k 0) (Event.Record k) tt tt marks (λ previous. order) last due (r.ready.halted ∙ s.ready.halted) in
          let all = unfailing_on (IsListing k) a b d first.0 rest.0 in
          record {
            goes = all.0.goes;
            listed = listed_on b k;
            list = all.1 ∙ ap (λ (es : List Event). es ++ rest.0.goes.events) first.1 ∙ ap (λ (es : List Event). (Event.StoreLog k (listed_on b k) ∷ []) ++ es) rest.1;
            array = stored_of (r.step.did (λ n. None)).1;
          }

      super_fails : (fault : PartFault) → RecordingFails k c d fault → ListFails k a d fault
      super_fails part.Halted h =
          let second = unfailing_step (IsListing k) (Event.StoreMarks k 0) b c tt marks (λ previous. order) s.ready.halted in
          unfailing_halts (IsListing k) a c d (unfailing_on (IsListing k) a b c first.0 second.0).0 k
          (halts_at_once (IsListing k) k (Event.WriteFails k MemberPart.Superblock) c d s.step.sound refl refl (λ others. h.at_once) h.stores.halts.sound h.stores.halts.pending)
      super_fails (part.MemberFailed j) h = (
        h.0,
        unfailing_loses (IsListing k) a b d first.0 k was_up
            (two_lose (IsListing k) b c d k (Event.StoreMarks k 0) (Event.WriteFails k MemberPart.Superblock) tt refl marks (λ previous. order)
            (step_of only_others only_others IsRecording (IsListing k) (Event.WriteFails k MemberPart.Superblock) c d refl h.1.step) due
            (let x = s.step.array.fewer in let y = h.1.lost in omega arith) (h.1.halted ∙ s.ready.halted) (kept_before b.array c.array k s.ready h.1.was) h.1.faulty),
      )

      pub stored_or_fails : {T : Type 0} (result : Result T PartFault) → MatchResult result (λ _. RecordsOn k c d) (RecordingFails k c d)
          → MatchResult result (λ _. StoresList k a d) (ListFails k a d)
      stored_or_fails (Ok t) r = all_stored r
      stored_or_fails (Err fault) r = super_fails fault r
