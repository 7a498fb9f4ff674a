-- What the steps give, as parts of a call.
use Rattle.std.proofs.Common.{◌≡◌, ℕ, ◌<◌, ◌≤◌, Bool, true, false, cond, eqb, nat_lt, ◌&&◌, List, length, map, set, slice_get, count_by, Option, Some, refl, sym, ap, ◌∙◌, subst, arith, inl, inr, length-set}
use Rattle.std.specs.Prelude.{option_map}
use Rattle.std.proofs.lemmas.List.{length-map}
use Rattle.std.proofs.lemmas.Option.{same_Some, slice_get-map, slice_get_within}
use Rattle.md_model.specs.Events.{Event, MemberPart}
use Rattle.md_model.specs.Sectors.{block_of}
use Rattle.md_bitmap.specs.Marks.{is_set}
use Rattle.md_assembly.specs.States.{is_in_sync, is_recorded}
use Rattle.md_inflight.specs.Requests.Pending.{PendingView}
use Rattle.md_kept_members.specs.Members.{recorded_member}
use Rattle.md_kept_members.specs.View.{MemberView}
use Rattle.md_kept_members.specs.Members.{made_due}
use Rattle.md_faults.specs.declared.step_fault.StoreFault.{StoreFault}
use Rattle.md_faults.specs.declared.step_fault.StoreFault.TheVariants.{Halted, NotActive, MemberFailed}
use Rattle.md_state.specs.Members.{IsMember}
use Rattle.md_state.specs.Steps.Rise.{Fails, made_faulty}
use Rattle.md_state.specs.View.{ArrayView, MirrorView}
use Rattle.md_state.specs.Requests.{AreInFlight, IsPending}
use Rattle.md_state.specs.Steps.StoreMarks.{FailsToStoreMarks, RefusesMarkSector, StoresMarkSector}
use Rattle.md_state.specs.Trying.{RefusesHalted}
use Rattle.md_state.specs.Steps.WriteMember.{IsNotDue}
use Rattle.md_array.specs.Consistency.{IsConsistent}
use Rattle.md_array.specs.Events.{Does, Happens, HappensIfOldNewOrNone, IfStoringFailed}
use Rattle.md_array.specs.InTurn.{Did, IsInOrder, IsSectorDue, LeftWhole, Requests}
use Rattle.md_array.specs.Steps.Record.{FailsToRecord, Records, RefusesRecord}
use Rattle.md_array.specs.Worlds.{AreHonest}
use Rattle.md_array.proofs.General.Replaced.{of_set}
use Rattle.md_array.proofs.General.Indices.{at_set_same}
use Rattle.md_array.proofs.Worlds.States.{in_sync_recorded}
use Rattle.md_metadata.specs.declared.fault.PartFault.TheVariants as part
use Rattle.md_metadata.specs.Faults.{of_store}
use Rattle.md_metadata.specs.Going.{IsFaulty, IsSameArray, LosesSomeMember, StepsBy, only_others, recorded_count}
use Rattle.md_metadata.specs.Storing.{AllStayReady, HaltsRecordingOn, HaltsStoring, IsRecording, IsSector, IsToldAs, RecordingFails, RecordsOn, SectorFails, StoresOn}
use Rattle.md_metadata.proofs.Counts.{count_map, set_alike, set_fewer}
use Rattle.md_metadata.proofs.Going.{goes_step, halts_first, step_loses}

-- ---- a member is changed
module _ (a b : ArrayView) (k : ℕ) (m n : MemberView) (at : IsMember a k m) (is : b ≡ record a { members = set a.members k n }) where
  -- and is in the state in which it was
  pub same_but : n.state ≡ m.state → IsSameArray a b
  same_but state = record {
    chunks = ap (λ (x : ArrayView). x.chunks) is;
    marks = ap (λ (x : ArrayView). x.marks) is;
    as_many = ap (λ (x : ArrayView). length x.members) is ∙ length-set a.members k n;
    requests = ap (λ (x : ArrayView). x.requests) is;
    resynced = ap (λ (x : ArrayView). x.resynced) is;
    fewer = subst (λ (x : ArrayView). recorded_count x ≤ recorded_count a) (sym is)
        (set_alike (λ (x : MemberView). is_recorded x.state) a.members k m n at (ap is_recorded state));
  }

  -- member k after it
  pub is_now : (x : MemberView) → IsMember b k x → x ≡ n
  is_now x there =
      of_set a.members k k n x (ap (λ (y : ArrayView). slice_get y.members k) (sym is) ∙ there)
      (λ same it. it) (λ apart other. absurd (apart refl))

module _ (a b : ArrayView) (k : ℕ) (m n : MemberView) (at : IsMember a k m) (like : n ≡ record m { stored = n.stored; due = n.due; stored_offset = n.stored_offset }) (is : b ≡ record a { members = set a.members k n }) where
  pub same_array : IsSameArray a b
  same_array = same_but a b k m n at is (ap (λ (x : MemberView). x.state) like)

  pub stay_ready : ((c : ℕ) → is_set m.stored.bytes c ≡ is_set a.marks.bytes c → is_set n.stored.bytes c ≡ is_set a.marks.bytes c) → (IsNotDue m → IsNotDue n) → IsToldAs m n → AllStayReady a b
  stay_ready marks due told = record {
    each = λ j x there.
        of_set a.members k j n x (ap (λ (y : ArrayView). slice_get y.members j) (sym is) ∙ there)
        (λ same it. record {
          before = m;
          member = ap (slice_get a.members) same ∙ at;
          same = subst (λ (y : MemberView). y ≡ record m { stored = y.stored; due = y.due; stored_offset = y.stored_offset }) (sym it) like;
          marked = λ c was. ap (λ (y : MemberView). is_set y.stored.bytes c) it ∙ marks c was;
          recorded = λ not_due. ap (λ (y : MemberView). y.due) it ∙ due not_due;
          told = subst (IsToldAs m) (sym it) told;
        })
        (λ apart other. record { before = x; member = other; same = refl; marked = λ c was. was; recorded = λ not_due. not_due; told = inl (refl, refl) });
    others = is ∙ ap (λ (xs : List MemberView). record a { members = xs }) (sym (ap (λ (x : ArrayView). x.members) is));
    halted = ap (λ (x : ArrayView). x.halted) is;
  }

  pub now_at : (x : MemberView) → IsMember b k x → x ≡ n
  now_at = is_now a b k m n at is

-- ---- a member failed
module _ (a b : ArrayView) (k : ℕ) (f : Fails k a b) (in_use : is_recorded f.member.state ≡ true) where
  abbrev rank : MemberView → Bool
  rank x = is_recorded x.state

  members_are : b.members ≡ set (map made_due a.members) k (made_faulty f.member)
  members_are = ap (λ (x : ArrayView). x.members) f.array

  pub fewer_after : recorded_count b < recorded_count a
  fewer_after =
      let there : slice_get (map made_due a.members) k ≡ Some (made_due f.member) = slice_get-map made_due a.members k ∙ ap (option_map made_due) f.at in
      let less = set_fewer rank (map made_due a.members) k (made_due f.member) (made_faulty f.member) there in_use refl in
      let alike = count_map rank made_due (λ x. refl) a.members in
      let count : recorded_count b ≡ count_by rank (set (map made_due a.members) k (made_faulty f.member)) = ap (count_by rank) members_are in
      omega arith

  pub same_after : IsSameArray a b
  same_after = record {
    chunks = ap (λ (x : ArrayView). x.chunks) f.array;
    marks = ap (λ (x : ArrayView). x.marks) f.array;
    as_many = ap (λ (xs : _). length xs) members_are ∙ length-set (map made_due a.members) k (made_faulty f.member) ∙ length-map a.members made_due;
    requests = ap (λ (x : ArrayView). x.requests) f.array;
    resynced = ap (λ (x : ArrayView). x.resynced) f.array;
    fewer = let l = fewer_after in omega arith;
  }

  pub halted_after : b.halted ≡ a.halted
  halted_after = ap (λ (x : ArrayView). x.halted) f.array

  pub faulty_after : IsFaulty k b
  faulty_after =
      let low = slice_get_within a.members k f.member f.at in
      let many = length-map a.members made_due in
      record {
        member = made_faulty f.member;
        at = ap (λ (xs : _). slice_get xs k) members_are ∙ at_set_same (map made_due a.members) k (made_faulty f.member) (omega arith);
        faulty = refl;
      }

pub in_use_there : (a : ArrayView) (k : ℕ) (m n : MemberView) → IsMember a k n → IsMember a k m → is_recorded m.state ≡ true → is_recorded n.state ≡ true
in_use_there a k m n at_n at_m e = ap (λ (x : MemberView). is_recorded x.state) (same_Some n m (sym at_n ∙ at_m)) ∙ e

pub never_halted : {P : Type 0} (old new : MirrorView) → old.array.halted ≡ false → RefusesHalted old new → P
never_halted old new run r = absurd (let h = r.reason in cc)

-- the step of a write that failed
pub failure_step : (F G : Requests → Requests) (IsOf : Event → Type 0) (e : Event) (old new : MirrorView) (k : ℕ) (f : Fails k old.array new.array) → is_recorded f.member.state ≡ true → IsOf e
    → ((others : Requests) → Did old (F others) e new (G others))
    → (AreHonest old.disks → LeftWhole old e new → (others : Requests) → AreInFlight old.array others → Does old (F others) e new (G others))
    → IsConsistent new → ((o : PendingView) → IsPending old.array o → IsPending new.array o) → StepsBy F G IsOf e old new
failure_step F G IsOf e old new k f in_use of did happens sound pending =
    record { of = of; did = did; happens = happens; array = same_after old.array new.array k f in_use; sound = sound; pending = pending }

pub failure_loses : (F G : Requests → Requests) (IsOf : Event → Type 0) (e : Event) (old new : MirrorView) (k : ℕ) (f : Fails k old.array new.array) → is_recorded f.member.state ≡ true
    → StepsBy F G IsOf e old new → ((previous : Option Event) → IsInOrder previous old.array e) → LosesSomeMember F G IsOf old new
failure_loses F G IsOf e old new k f in_use step order = record {
  goes = goes_step F G IsOf e old new step order;
  lost = fewer_after old.array new.array k f in_use;
  halted = halted_after old.array new.array k f in_use;
}

-- ---- a sector of a bitmap
either : (b x y : Bool) → y ≡ x → cond b x y ≡ x
either true x y e = refl
either false x y e = e

module _ (old new : MirrorView) (k block : ℕ) (sound : IsConsistent new) (pending : (o : PendingView) → IsPending old.array o → IsPending new.array o) where
  pub sector_stored : StoresMarkSector k block old new → Happens old (Event.StoreMarks k block) new → StoresOn k block old new
  sector_stored r happens =
      let n = record r.member { stored = r.stored } in
      record {
        step = record {
          of = (refl, refl);
          did = λ others. (refl, r);
          happens = λ honest whole others in_flight. happens honest others in_flight;
          array = same_array old.array new.array k r.member n r.may.in_sync.member refl r.array;
          sound = sound;
          pending = pending;
        };
        ready = stay_ready old.array new.array k r.member n r.may.in_sync.member refl r.array
            (λ c was. r.has_stored.bits c ∙ either (eqb (block_of c) block && nat_lt c r.member.stored.chunks) _ _ was) (λ x. x) (inl (refl, refl));
        gives = r;
      }

  sector_in_use : (f : FailsToStoreMarks k block old new) → is_recorded f.fails.array.member.state ≡ true
  sector_in_use f = in_use_there old.array k f.member f.fails.array.member f.fails.array.at f.may.in_sync.member (in_sync_recorded f.member.state f.may.in_sync.in_sync)

  pub sector_fails : IsSectorDue old.array k block → (j : ℕ) → RefusesMarkSector k block old new (MemberFailed j) → Happens old (Event.WriteFails k (MemberPart.BitmapSector block)) new
      → SectorFails k block old new (part.MemberFailed j)
  sector_fails due j r happens =
      let f = r.1 in
      let used = sector_in_use f in
      let step = failure_step only_others only_others (IsSector k block) (Event.WriteFails k (MemberPart.BitmapSector block)) old new k f.fails.array used (refl, refl) (λ others. (refl, f))
      (λ honest whole others in_flight. happens honest others in_flight) sound pending in (
        r.0,
        step_loses (IsSector k block) k (Event.WriteFails k (MemberPart.BitmapSector block)) old new refl step (λ previous. due) (fewer_after old.array new.array k f.fails.array used)
            (halted_after old.array new.array k f.fails.array used) (record { member = f.fails.array.member; at = f.fails.array.at; recorded = used })
            (faulty_after old.array new.array k f.fails.array used),
      )

  pub sector_halts : old.array.halted ≡ false → IsConsistent old → RefusesMarkSector k block old new Halted → HaltsStoring (IsSector k block) old new
  sector_halts run before (inl r) = never_halted old new run r
  sector_halts run before (inr h) = halts_first (IsSector k block) (Event.WriteFails k (MemberPart.BitmapSector block)) old new before (refl, refl) (λ others. h) sound pending

pub sector_refused : {P : Type 0} (old new : MirrorView) (k block : ℕ) → ((m : MemberView) → IsMember old.array k m → is_in_sync m.state ≡ true) → RefusesMarkSector k block old new NotActive → P
sector_refused old new k block is r = absurd (let yes = is r.reason.member r.reason.at in let no = r.reason.out in cc)

-- ---- a record
module _ (old new : MirrorView) (k : ℕ) (sound : IsConsistent new) (pending : (o : PendingView) → IsPending old.array o → IsPending new.array o) where
  pub record_stored : Records k old new → Happens old (Event.Record k) new → RecordsOn k old new
  record_stored r happens =
      let n = recorded_member r.member in
      record {
        step = record {
          of = tt;
          did = λ others. (refl, r);
          happens = λ honest whole others in_flight. happens honest others in_flight;
          array = same_array old.array new.array k r.member n r.may.at refl r.array;
          sound = sound;
          pending = pending;
        };
        ready = stay_ready old.array new.array k r.member n r.may.at refl r.array (λ c was. was) (λ x. refl) (inr (refl, refl));
        done = λ m there. ap (λ (y : MemberView). y.due) (now_at old.array new.array k r.member n r.may.at refl r.array m there);
      }

  record_in_use : (f : FailsToRecord k old new) → is_recorded f.fails.array.member.state ≡ true
  record_in_use f = in_use_there old.array k f.member f.fails.array.member f.fails.array.at f.may.at f.may.active

  record_fails : (j : ℕ) → RefusesRecord k old new (MemberFailed j) → HappensIfOldNewOrNone k old new → RecordingFails k old new (part.MemberFailed j)
  record_fails j r happens =
      let f = r.1 in (
        r.0,
        record {
          step = failure_step only_others only_others IsRecording (Event.WriteFails k MemberPart.Superblock) old new k f.fails.array (record_in_use f) tt (λ others. (refl, f))
              (λ honest whole others in_flight. happens f.member f.may.at (whole f.member f.may.at) honest others in_flight) sound pending;
          lost = fewer_after old.array new.array k f.fails.array (record_in_use f);
          halted = halted_after old.array new.array k f.fails.array (record_in_use f);
          was = record { member = f.fails.array.member; at = f.fails.array.at; recorded = record_in_use f };
          faulty = faulty_after old.array new.array k f.fails.array (record_in_use f);
        },
      )

  record_halts : old.array.halted ≡ false → IsConsistent old → RefusesRecord k old new Halted → HaltsRecordingOn k old new
  record_halts run before (inl r) = never_halted old new run r
  record_halts run before (inr h) = record { stores = halts_first IsRecording (Event.WriteFails k MemberPart.Superblock) old new before tt (λ others. h) sound pending; at_once = h }

-- the member is kept up to date
record_refused : {P : Type 0} (old new : MirrorView) (k : ℕ) → ((m : MemberView) → IsMember old.array k m → is_recorded m.state ≡ true) → RefusesRecord k old new NotActive → P
record_refused old new k is r = absurd (let yes = is r.reason.member r.reason.at in let no = r.reason.inactive in cc)

-- so a record that is refused is a failure of the part
module _ (old new : MirrorView) (k : ℕ) (sound : IsConsistent new) (pending : (o : PendingView) → IsPending old.array o → IsPending new.array o) (run : old.array.halted ≡ false) (before : IsConsistent old)
    (active : (m : MemberView) → IsMember old.array k m → is_recorded m.state ≡ true) where
  pub record_stops : (fault : StoreFault) → RefusesRecord k old new fault → IfStoringFailed (HappensIfOldNewOrNone k old new) fault → RecordingFails k old new (of_store fault)
  record_stops (MemberFailed j) r happens = record_fails old new k sound pending j r happens
  record_stops Halted r happens = record_halts old new k sound pending run before r
  record_stops NotActive r happens = record_refused old new k active r
