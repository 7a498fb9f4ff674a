-- Records are stored in their turn.
use Rattle.std.proofs.Common.{◌+◌, ◌≤◌, length, ◌≡◌, ℕ, ◌<◌, true, slice_get, Option, Some, refl, sym, subst, ap, ◌∙◌, arith, inr}
use Rattle.std.proofs.lemmas.Option.{slice_get_within}
use Rattle.std.specs.Prelude.{Result, Ok, Err, MatchResult}
use Rattle.md_model.specs.Events.{Event, MemberPart}
use Rattle.md_model.proofs.Puts.{by_same}
use Rattle.md_assembly.specs.States.{is_in_sync, is_recorded}
use Rattle.md_kept_members.specs.View.{MemberView}
use Rattle.md_state.specs.Members.{AllInSync, IsInSync, IsMember}
use Rattle.md_state.specs.View.{ArrayView, MirrorView}
use Rattle.md_state.specs.Steps.WriteMember.{IsNotDue}
use Rattle.md_array.specs.Consistency.{IsConsistent}
use Rattle.md_array.specs.InTurn.{IsRecordDue, IsSectorDue}
use Rattle.md_array.proofs.General.Indices.{at_set_same}
use Rattle.md_array.proofs.Worlds.States.{in_sync_recorded}
use Rattle.md_metadata.specs.declared.fault.PartFault.{PartFault}
use Rattle.md_metadata.specs.declared.fault.PartFault.TheVariants.{Halted, MemberFailed}
use Rattle.md_metadata.specs.Going.{StepsBy, only_others}
use Rattle.md_metadata.specs.Storing.{FailsInSync, IsRecorded, IsRecording, IsSector, LosesStoring, RecordingFails, RecordsAll, RecordsAt, RecordsBelow, RecordsOn, StaysReady, StoresAt, StoresOn, StoringFails}
use Rattle.md_metadata.proofs.Going.{first_records, kept_before, ready_on, same_state, step_as, step_loses, stops_on, stores_nowhere, stores_on, stores_step, stores_two, two_lose, was_in_sync}
use Rattle.md_metadata.proofs.Steps.{now_at}

-- the first sector comes before a record that is due
pub header_due : (a : ArrayView) (k : ℕ) → ((m : MemberView) → IsMember a k m → m.due ≡ true) → IsSectorDue a k 0
header_due a k due m in_sync = inr (refl, due m in_sync.member)

-- ---- after the first sector
module _ (k : ℕ) (old mid : MirrorView) (s : StoresOn k 0 old mid) where
  abbrev now : MemberView
  now = record s.gives.member { stored = s.gives.stored }

  is_now : (m : MemberView) → IsMember mid.array k m → m ≡ now
  is_now = now_at old.array mid.array k s.gives.member now s.gives.may.in_sync.member refl s.gives.array

  pub now_in_sync : IsInSync mid.array k now
  now_in_sync = record {
    member = ap (λ (x : ArrayView). slice_get x.members k) s.gives.array
        ∙ at_set_same old.array.members k now (slice_get_within old.array.members k s.gives.member s.gives.may.in_sync.member);
    in_sync = s.gives.may.in_sync.in_sync;
  }

  pub still_recorded : (m : MemberView) → IsMember mid.array k m → is_recorded m.state ≡ true
  still_recorded m at = in_sync_recorded m.state (ap (λ (x : MemberView). is_in_sync x.state) (is_now m at) ∙ s.gives.may.in_sync.in_sync)

  pub in_sync_due : ((m : MemberView) → IsMember old.array k m → m.due ≡ true) → ((j : ℕ) (m : MemberView) → j < k → IsInSync old.array j m → IsNotDue m)
      → IsRecordDue (Some (Event.StoreMarks k 0)) mid.array k
  in_sync_due due earlier = record {
    due = λ m at. ap (λ (x : MemberView). x.due) (is_now m at) ∙ due s.gives.member s.gives.may.in_sync.member;
    header = λ m in_sync. refl;
    first = λ j m in_sync before.
        let r : StaysReady old.array mid.array j m = s.ready.each j m in_sync.member in
        r.recorded (earlier j r.before (before now now_in_sync) (was_in_sync old.array mid.array j m r in_sync));
  }

  module _ (new : MirrorView) (first : IsSectorDue old.array k 0) (second : IsRecordDue (Some (Event.StoreMarks k 0)) mid.array k) where
    header : StepsBy only_others only_others IsRecording (Event.StoreMarks k 0) old mid
    header = step_as (IsSector k 0) IsRecording (first_records k) only_others only_others (Event.StoreMarks k 0) old mid s.step

    pub recorded_after : RecordsOn k mid new → StoresAt IsRecording k IsNotDue old new
    recorded_after r = record {
      stores = stores_two IsRecording old mid new (Event.StoreMarks k 0) (Event.Record k) tt tt header (λ previous. first) r.step second
          (ready_on old.array mid.array new.array s.step.array.marks s.ready r.ready);
      done = λ m in_sync. r.done m in_sync.member;
    }

    pub stops_after : (fault : PartFault) → RecordingFails k mid new fault → StoringFails IsRecording old new fault
    stops_after (MemberFailed j) (at, l) = subst (λ (i : ℕ). LosesStoring IsRecording i old new) (sym at)
        (two_lose IsRecording old mid new k (Event.StoreMarks k 0) (Event.WriteFails k MemberPart.Superblock) tt refl header (λ previous. first) l.step second
        (let x = s.step.array.fewer in let y = l.lost in omega arith) (l.halted ∙ s.ready.halted) (kept_before old.array mid.array k s.ready l.was) l.faulty)
    stops_after Halted h = stops_on IsRecording old mid new Halted (stores_step IsRecording (Event.StoreMarks k 0) old mid tt header (λ previous. first) s.ready) h.stores

  -- who fails was in sync
  pub record_in_sync : (new : MirrorView) (fault : PartFault) → RecordingFails k mid new fault → FailsInSync old.array fault
  record_in_sync new Halted r = tt
  record_in_sync new (MemberFailed j) r = (s.gives.member, subst (λ (i : ℕ). IsInSync old.array i s.gives.member) (sym r.0) s.gives.may.in_sync)

-- ---- of a member that is not in sync
module _ (k : ℕ) (old new : MirrorView) where
  pub other_due : ((m : MemberView) → IsInSync old.array k m → ⊥) → ((m : MemberView) → IsMember old.array k m → m.due ≡ true) → AllInSync old.array IsNotDue
      → (previous : Option Event) → IsRecordDue previous old.array k
  other_due out due recorded previous = record { due = due; header = λ m in_sync. absurd (out m in_sync); first = λ j m in_sync before. recorded j m in_sync }

  module _ (order : (previous : Option Event) → IsRecordDue previous old.array k) where
    other_stops : (fault : PartFault) → RecordingFails k old new fault → StoringFails IsRecording old new fault
    other_stops (MemberFailed j) (at, l) = subst (λ (i : ℕ). LosesStoring IsRecording i old new) (sym at)
        (step_loses IsRecording k (Event.WriteFails k MemberPart.Superblock) old new refl l.step order l.lost l.halted l.was l.faulty)
    other_stops Halted h = h.stores

    pub other_or_stops : {T : Type 0} (result : Result T PartFault) → MatchResult result (λ _. RecordsOn k old new) (RecordingFails k old new)
        → MatchResult result (λ _. RecordsAt k old new) (StoringFails IsRecording old new)
    other_or_stops (Ok t) r = record {
      stores = stores_step IsRecording (Event.Record k) old new tt r.step order r.ready;
      done = λ m at active. r.done m at;
    }
    other_or_stops (Err fault) r = other_stops fault r

-- ---- the members, one after another
-- a member that is in sync, that is not kept up to date, or whose record is not due
pub recorded_nothing : (k : ℕ) (m : MirrorView) → IsConsistent m → ((n : MemberView) → IsMember m.array k n → IsRecorded n) → RecordsAt k m m
recorded_nothing k m sound done = record { stores = stores_nowhere IsRecording m sound; done = done }

pub recorded_none : (m : MirrorView) → IsConsistent m → RecordsBelow 0 m m
recorded_none m sound = record { stores = stores_nowhere IsRecording m sound; done = λ i n low at. absurd (omega arith) }

pub recorded_still : (a b : ArrayView) (i : ℕ) (n : MemberView) (s : StaysReady a b i n) → IsRecorded s.before → IsRecorded n
recorded_still a b i n s is active = s.recorded (is (ap is_recorded (same_state a b i n s) ∙ active))

pub recorded_more : (k : ℕ) (old mid new : MirrorView) → RecordsBelow k old mid → RecordsAt k mid new → RecordsBelow (k + 1) old new
recorded_more k old mid new g h = record {
  stores = stores_on IsRecording old mid new g.stores h.stores;
  done = λ i n low at.
      by_same i k
      (λ same. h.done n (subst (λ (j : ℕ). IsMember new.array j n) same at))
      (λ apart.
      let s : StaysReady mid.array new.array i n = h.stores.ready.each i n at in
      recorded_still mid.array new.array i n s (g.done i s.before (omega arith) s.member));
}

pub recorded_all : (k : ℕ) (old new : MirrorView) → length new.array.members ≤ k → RecordsBelow k old new → RecordsAll old new
recorded_all k old new last g = record {
  stores = g.stores;
  done = λ i n at. g.done i n (let low = slice_get_within new.array.members i n at in omega arith) at;
}
