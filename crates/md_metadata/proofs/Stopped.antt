-- A stop is put together.
use Rattle.std.proofs.Common.{◌≡◌, ◌≢◌, ℕ, Bool, true, false, cond, not, ◌&&◌, ◌==◌, refl, sym, ap, ◌∙◌, subst, arith, inl, inr}
use Rattle.std.specs.Prelude.{Result, Ok, Err, MatchResult}
use Rattle.std.proofs.lemmas.Bool.Decides.{eqb_tells}
use Rattle.std.proofs.lemmas.Bool.{and_parts, not-true}
use Rattle.md_model.specs.Events.{Event, MemberPart}
use Rattle.md_bitmap.specs.Marks.{Bitmap, is_set}
use Rattle.md_inflight.specs.Requests.Pending.{PendingView}
use Rattle.md_kept_members.specs.View.{MemberView}
use Rattle.md_kept_members.specs.Members.{made_due}
use Rattle.md_assembly.specs.States.{is_recorded}
use Rattle.md_faults.specs.declared.step_fault.CleanFault.{CleanFault}
use Rattle.md_faults.specs.declared.step_fault.CleanFault.TheVariants as clean
use Rattle.md_state.specs.View.{ArrayView, MirrorView}
use Rattle.md_state.specs.Members.{clean_offset, is_degraded}
use Rattle.md_state.specs.Steps.Rise.{HasSpentEvents}
use Rattle.md_state.specs.Steps.MakeClean.{CannotRise, IsIdle, MakesClean, RefusesClean, made_clean}
use Rattle.md_state.specs.Requests.{IsPending}
use Rattle.md_state.specs.Steps.WriteMember.{IsNotDue}
use Rattle.md_array.specs.Consistency.{IsConsistent}
use Rattle.md_array.specs.Events.{CleanHappens}
use Rattle.md_metadata.specs.declared.fault.PartFault.{PartFault}
use Rattle.md_metadata.specs.declared.fault.PartFault.TheVariants.{Halted, MemberFailed}
use Rattle.md_metadata.specs.Faults.{of_part}
use Rattle.md_metadata.specs.Clearing.{ClearsAll, IsClearing, MayClearAll}
use Rattle.md_metadata.specs.Going.{GoesOn, HaltsAfter, LeadsBy, only_others, recorded_count}
use Rattle.md_metadata.specs.Storing.{HasAllMarks, IsMarking, IsRecording, IsStoring, LosesStoring, RecordsAll, Stores, StoresAll, StoringFails}
use Rattle.md_metadata.specs.Stopping.{CleansIfActive, ClearsIfFull, FailsStop, HaltsStop, HasAllMarksIf, IsCleared, IsCleanedInMemory, IsCleaning, IsStopping, IsStoringIf, MayStopArray, CleansInMemory, RefusesStop, StopsMirror, StoresCleaned, clears_marks, makes_clean}
use Rattle.md_metadata.proofs.Counts.{count_map}
use Rattle.md_metadata.proofs.Going.{marking_stores, recording_stores, stops_as, stops_on, stores_as, stores_on}
use Rattle.md_metadata.proofs.Leading.{goes_leads, leads_as, leads_nowhere, leads_once, leads_then}
use Rattle.md_metadata.proofs.StoredMembers.{IsLasting, last_on}
use Rattle.md_metadata.proofs.StoredSectors.{all_marks_last}

-- ---- what is looked at first

not_same : (x y : ℕ) → not (x == y) ≡ true → x ≢ y
not_same x y e same = elim (eqb_tells x y) [ inl alike ↦ let t = alike.0 in absurd cc | inr apart ↦ apart.1 same ]

pub cannot_rise : (a : ArrayView) → IsIdle a → makes_clean a ≡ true → HasSpentEvents a → CannotRise a
cannot_rise a idle makes spent =
    let both = and_parts a.resynced _ makes in
    record { idle = idle; resynced = both.0; active = not_same a.shared.resync_offset clean_offset both.1; spent = spent }

-- ---- in memory
clearing_settles : (e : Event) → IsClearing e → IsCleaning e
clearing_settles (Event.ClearIdle c) is = tt
clearing_settles e is = absurd is

settling_stops : (e : Event) → IsCleaning e → IsStopping e
settling_stops (Event.ClearIdle c) is = tt
settling_stops Event.MakeClean is = tt
settling_stops e is = absurd is

pub may_clear : (a : ArrayView) → IsIdle a → clears_marks a ≡ true → MayClearAll a
may_clear a idle clears =
    let both = and_parts a.resynced _ clears in
    record { idle = idle; resynced = both.0; full = not-true (is_degraded a) both.1 }

module _ (old new : MirrorView) where
  pub cleared_all : clears_marks old.array ≡ true → ClearsAll old new → ClearsIfFull old new
  cleared_all clears c = record {
    goes = leads_as IsClearing IsCleaning clearing_settles old new c.marks_alone.goes;
    disks = c.marks_alone.disks;
    marks = record { chunks = c.marks_alone.chunks; bits = λ x. c.none x ∙ sym (ap (λ b. not b && is_set old.array.marks.bytes x) clears) };
    array = c.marks_alone.array;
  }

pub cleared_none : (m : MirrorView) → IsConsistent m → clears_marks m.array ≡ false → ClearsIfFull m m
cleared_none m sound keeps = record {
  goes = leads_nowhere IsCleaning m sound;
  disks = refl;
  marks = record { chunks = refl; bits = λ x. sym (ap (λ b. not b && is_set m.array.marks.bytes x) keeps) };
  array = refl;
}

module _ (old new : MirrorView) (idle : IsIdle old.array) (makes : makes_clean old.array ≡ true) (unspent : HasSpentEvents old.array → ⊥) where
  resynced : old.array.resynced ≡ true
  resynced = (and_parts old.array.resynced _ makes).0

  active : old.array.shared.resync_offset ≢ clean_offset
  active = not_same old.array.shared.resync_offset clean_offset (and_parts old.array.resynced _ makes).1

  clean_refused : {P : Type 0} (fault : CleanFault) → RefusesClean old new fault → P
  clean_refused clean.Halted r = absurd (let yes = r.reason in let out = idle.running in cc)
  clean_refused (clean.InFlight n) r = absurd (let yes = r.reason.first in let out = idle.none in cc)
  clean_refused clean.NotResynced r = absurd (let yes = r.reason.not_yet in let out = resynced in cc)
  clean_refused clean.AlreadyClean r = absurd (active r.reason.clean)
  clean_refused clean.EventsFull r = absurd (unspent r.reason.spent)

  pub clean_made : {T : Type 0} (result : Result T CleanFault) → MatchResult result (λ _. MakesClean old new) (RefusesClean old new)
      → CleanHappens old new result → IsConsistent new → ((o : PendingView) → IsPending old.array o → IsPending new.array o) → CleansIfActive old new
  clean_made (Ok t) c happens sound pending = record {
    goes = leads_once IsCleaning Event.MakeClean old new tt (λ previous. tt) (λ others. (refl, c)) (λ honest whole others in_flight. happens honest others in_flight)
        (ap (λ (x : ArrayView). x.requests) c.array) sound pending;
    disks = c.disks;
    array = c.array ∙ sym (ap (λ b. cond b (made_clean old.array) old.array) makes);
  }
  clean_made (Err fault) r happens sound pending = clean_refused fault r

pub clean_already : (m : MirrorView) → IsConsistent m → makes_clean m.array ≡ false → CleansIfActive m m
clean_already m sound keeps = record {
  goes = leads_nowhere IsCleaning m sound;
  disks = refl;
  array = sym (ap (λ b. cond b (made_clean m.array) m.array) keeps);
}

-- both together
module _ (a : ArrayView) (marks : Bitmap) where
  abbrev marked : ArrayView
  marked = record a { marks = marks }

  clean_then : (b : Bool) → cond b (made_clean marked) marked ≡ record (cond b (made_clean a) a) { marks = marks }
  clean_then true = refl
  clean_then false = refl

  same_marks : (b : Bool) → (cond b (made_clean marked) marked).marks ≡ marks
  same_marks true = refl
  same_marks false = refl

  same_requests : (b : Bool) → (cond b (made_clean marked) marked).requests ≡ a.requests
  same_requests true = refl
  same_requests false = refl

  same_halted : (b : Bool) → (cond b (made_clean marked) marked).halted ≡ a.halted
  same_halted true = refl
  same_halted false = refl

  same_resynced : (b : Bool) → (cond b (made_clean marked) marked).resynced ≡ a.resynced
  same_resynced true = refl
  same_resynced false = refl

  same_count : (b : Bool) → recorded_count (cond b (made_clean marked) marked) ≡ recorded_count a
  same_count true = count_map (λ (m : MemberView). is_recorded m.state) made_due (λ x. refl) a.members
  same_count false = refl

storing_stops : (e : Event) → IsStoring e → IsStopping e
storing_stops (Event.Record k) is = tt
storing_stops (Event.StoreMarks k b) is = tt
storing_stops (Event.WriteFails k MemberPart.Superblock) is = tt
storing_stops (Event.WriteFails k (MemberPart.BitmapSector b)) is = tt
storing_stops e is = absurd is

-- marks where they were cleared, and records
pub marking_if : (clears : Bool) → clears ≡ true → (e : Event) → IsMarking e → IsStoringIf clears e
marking_if true so e is = marking_stores e is
marking_if false so e is = absurd cc

pub recording_if : (clears : Bool) (e : Event) → IsRecording e → IsStoringIf clears e
recording_if true e is = recording_stores e is
recording_if false e is = is

storing_if_stops : (clears : Bool) (e : Event) → IsStoringIf clears e → IsStopping e
storing_if_stops true e is = storing_stops e is
storing_if_stops false e is = storing_stops e (recording_stores e is)

module _ (old b c : MirrorView) (x : ClearsIfFull old b) (y : CleansIfActive b c) where
  abbrev up : ArrayView
  up = record old.array { marks = b.array.marks }

  -- the array that comes of it
  is_settled : c.array ≡ cond (makes_clean old.array) (made_clean up) up
  is_settled = y.array ∙ ap (λ (z : ArrayView). cond (makes_clean z) (made_clean z) z) x.array

  of_settled : {X : Type 0} (of : ArrayView → X) (v : X) → of (cond (makes_clean old.array) (made_clean up) up) ≡ v → of c.array ≡ v
  of_settled of v e = ap of is_settled ∙ e

  marks_settled : c.array.marks ≡ b.array.marks
  marks_settled = of_settled (λ (z : ArrayView). z.marks) b.array.marks (same_marks old.array b.array.marks (makes_clean old.array))

  pub marks_cleared : (d : ArrayView) → d.marks ≡ c.array.marks → IsCleared old.array d
  marks_cleared d same = record {
    chunks = ap (λ (m : Bitmap). m.chunks) (same ∙ marks_settled) ∙ x.marks.chunks;
    bits = λ i. ap (λ (m : Bitmap). is_set m.bytes i) (same ∙ marks_settled) ∙ x.marks.bits i;
  }

  array_settled : IsCleanedInMemory old.array c.array
  array_settled = record {
    marks = marks_cleared c.array refl;
    array = is_settled ∙ clean_then old.array b.array.marks (makes_clean old.array)
        ∙ ap (λ (m : Bitmap). record (cond (makes_clean old.array) (made_clean old.array) old.array) { marks = m }) (sym marks_settled);
  }

  pub settled_halted : c.array.halted ≡ old.array.halted
  settled_halted = of_settled (λ (z : ArrayView). z.halted) old.array.halted (same_halted old.array b.array.marks (makes_clean old.array))

  settled_resynced : c.array.resynced ≡ old.array.resynced
  settled_resynced = of_settled (λ (z : ArrayView). z.resynced) old.array.resynced (same_resynced old.array b.array.marks (makes_clean old.array))

  settled_count : recorded_count c.array ≡ recorded_count old.array
  settled_count = of_settled recorded_count (recorded_count old.array) (same_count old.array b.array.marks (makes_clean old.array))

  pub cleans : CleansInMemory old c
  cleans = record {
    goes = leads_then IsCleaning old b c x.goes y.goes;
    disks = y.disks ∙ x.disks;
    array = array_settled;
  }

  abbrev are_cleared : Bool
  are_cleared = clears_marks old.array

  whole : (d : MirrorView) → GoesOn only_others only_others (IsStoringIf are_cleared) c d → LeadsBy IsStopping old d
  whole d g = leads_then IsStopping old c d (leads_as IsCleaning IsStopping settling_stops old c (leads_then IsCleaning old b c x.goes y.goes))
      (leads_as (IsStoringIf are_cleared) IsStopping (storing_if_stops are_cleared) c d (goes_leads (IsStoringIf are_cleared) c d g))

  module _ (may : MayStopArray old.array) (d : MirrorView) where
    pub stops : StoresCleaned are_cleared c d → StopsMirror old d
    stops s = record {
      may = may;
      goes = whole d s.stores.goes;
      cleaned = c;
      cleans = cleans;
      stores = s.stores;
      marks = λ is i m in_sync. subst (λ (z : Bitmap). HasAllMarks z m) (sym s.stores.goes.array.marks) (s.marks is i m in_sync);
      recorded = s.recorded;
    }

    stop_fails : (k : ℕ) → LosesStoring (IsStoringIf are_cleared) k c d → FailsStop k old d
    stop_fails k l = record {
      may = may;
      goes = whole d l.loses.goes;
      cleaned = c;
      cleans = cleans;
      loses = l;
      faulty = l.faulty;
      lost = let less = l.loses.lost in let count = settled_count in omega arith;
      running = l.loses.halted ∙ settled_halted ∙ may.idle.running;
      marks = marks_cleared d.array l.loses.goes.array.marks;
      resynced = l.loses.goes.array.resynced ∙ settled_resynced;
    }

    stop_halts : HaltsAfter only_others only_others (IsStoringIf are_cleared) c d → HaltsStop old d
    stop_halts h = record { may = may; cleaned = c; cleans = cleans; halts = h; goes = whole h.mid h.goes }

    pub stop_refused : (fault : PartFault) → StoringFails (IsStoringIf are_cleared) c d fault → RefusesStop old d (of_part fault)
    stop_refused Halted h = inr (stop_halts h.halts)
    stop_refused (MemberFailed k) l = stop_fails k l

-- ---- what is stored
pub marks_if_last : (clears : Bool) (marks : Bitmap) → IsLasting marks (HasAllMarksIf clears marks)
marks_if_last clears marks = record { lasts = λ a b k n same s has is. (all_marks_last marks).lasts a b k n same s (has is) }

module _ (clears : Bool) where
  abbrev Of : Event → Type 0
  Of = IsStoringIf clears

  module _ (a b c d : MirrorView) (x : StoresAll Of (HasAllMarksIf clears a.array.marks) a b) (y : StoresAll IsRecording IsNotDue b c) where
    recorded : Stores Of b c
    recorded = stores_as IsRecording Of (recording_if clears) b c y.stores

    pub settled_stored : RecordsAll c d → StoresCleaned clears a d
    settled_stored others =
        let last = stores_as IsRecording Of (recording_if clears) c d others.stores in
        record {
          stores = stores_on Of a c d (stores_on Of a b c x.stores recorded) last;
          marks = λ is i m in_sync.
              last_on Of (HasAllMarksIf clears a.array.marks) a b d (marks_if_last clears a.array.marks) x.stores.goes.array.marks x.done (stores_on Of b c d recorded last) i m in_sync is;
          recorded = others.done;
        }

    -- the superblocks of the others are not all stored
    pub others_stop : (fault : PartFault) → StoringFails IsRecording c d fault → StoringFails Of a d fault
    others_stop fault s = stops_on Of a c d fault (stores_on Of a b c x.stores recorded) (stops_as IsRecording Of (recording_if clears) c d fault s)

  -- the superblocks are not all stored
  pub settled_stops : (a b c : MirrorView) (fault : PartFault) → StoresAll Of (HasAllMarksIf clears a.array.marks) a b → StoringFails IsRecording b c fault → StoringFails Of a c fault
  settled_stops a b c fault x s = stops_on Of a b c fault x.stores (stops_as IsRecording Of (recording_if clears) b c fault s)

  -- marks are stored where they were cleared
  pub marks_or_stops : (a b : MirrorView) → clears ≡ true → {T : Type 0} (result : Result T PartFault) → MatchResult result (λ _. StoresAll IsMarking (HasAllMarks a.array.marks) a b) (StoringFails IsMarking a b)
      → MatchResult result (λ _. StoresAll Of (HasAllMarksIf clears a.array.marks) a b) (StoringFails Of a b)
  marks_or_stops a b so (Ok t) g = record { stores = stores_as IsMarking Of (marking_if clears so) a b g.stores; done = λ i m in_sync is. g.done i m in_sync }
  marks_or_stops a b so (Err fault) s = stops_as IsMarking Of (marking_if clears so) a b fault s
