-- Parts of a call, one after another.
use Rattle.std.proofs.Common.{◌≡◌, ℕ, ◌<◌, true, List, Option, [], ◌∷◌, ◌++◌, Some, refl, sym, ap, ◌∙◌, subst, arith, inl, inr}
use Rattle.std.proofs.lemmas.List.{append_assoc}
use Rattle.md_model.specs.Events.{Event, MemberPart}
use Rattle.md_bitmap.specs.Marks.{Bitmap, is_set}
use Rattle.md_inflight.specs.Inflight.{InflightList, lookup}
use Rattle.md_inflight.specs.declared.requests.extent.Extent.{Extent}
use Rattle.md_inflight.specs.Requests.Pending.{PendingView}
use Rattle.md_assembly.specs.States.{is_in_sync, is_recorded}
use Rattle.md_super.specs.declared.superblock.Superblock.{Superblock}
use Rattle.md_kept_members.specs.View.{MemberView}
use Rattle.md_state.specs.Members.{IsInSync, IsMember}
use Rattle.md_state.specs.View.{ArrayView, MirrorView}
use Rattle.md_state.specs.Requests.{AreInFlight, IsPending}
use Rattle.md_array.specs.Consistency.{IsConsistent}
use Rattle.md_array.specs.InTurn.{AllOf, HaltsAt, InTurn, IsInOrder, Requests}
use Rattle.md_array.proofs.StepLemmas.Turns.{all_on, all_such, turn_on, turn_then}
use Rattle.md_metadata.specs.declared.fault.PartFault.{PartFault}
use Rattle.md_metadata.specs.declared.fault.PartFault.TheVariants.{Halted, MemberFailed}
use Rattle.md_metadata.specs.Going.{GoesOn, HaltsAfter, IsFaulty, IsSameArray, LosesSomeMember, StepsBy, only_others, recorded_count}
use Rattle.md_metadata.specs.Storing.{AllStayReady, FailsAtLast, FailsInSync, HaltsAtWrite, HaltsStoring, IsFailureOf, IsMarking, IsNoFailure, IsRecording, IsSector, IsStoring, IsToldAs, IsUpToDate, LosesStoring, SectorFails, StaysReady, Stores, StoringFails}

pub same_refl : (a : ArrayView) → IsSameArray a a
same_refl a = record { chunks = refl; marks = refl; as_many = refl; requests = refl; resynced = refl; fewer = omega arith }

pub same_on : (a b c : ArrayView) → IsSameArray a b → IsSameArray b c → IsSameArray a c
same_on a b c x y = record {
  chunks = y.chunks ∙ x.chunks;
  marks = y.marks ∙ x.marks;
  as_many = y.as_many ∙ x.as_many;
  requests = y.requests ∙ x.requests;
  resynced = y.resynced ∙ x.resynced;
  fewer = let l = x.fewer in let m = y.fewer in omega arith;
}

-- requests in flight are in each list that is the same
pub fly_on : (a b : ArrayView) → IsSameArray a b → (others : Requests) → AreInFlight a others → AreInFlight b others
fly_on a b same others in_flight n p e = ap (λ (l : InflightList Extent). lookup l.entries n) same.requests ∙ in_flight n p e

pub goes_nowhere : (F : Requests → Requests) (IsOf : Event → Type 0) (m : MirrorView) → IsConsistent m → GoesOn F F IsOf m m
goes_nowhere F IsOf m sound = record {
  events = [];
  steps = tt;
  leads = λ previous others in_flight. (refl, refl);
  array = same_refl m.array;
  sound = sound;
  pending = λ o is. is;
}

-- one event in its turn
pub goes_step : (F G : Requests → Requests) (IsOf : Event → Type 0) (e : Event) (old new : MirrorView) → StepsBy F G IsOf e old new
    → ((previous : Option Event) → IsInOrder previous old.array e) → GoesOn F G IsOf old new
goes_step F G IsOf e old new s order = record {
  events = e ∷ [];
  steps = (s.of, tt);
  leads = λ previous others in_flight. (new, G others, order previous, s.did others, λ honest whole. s.happens honest whole others in_flight, (refl, refl));
  array = s.array;
  sound = s.sound;
  pending = s.pending;
}

-- one event as one of another kind
pub step_of : (F G : Requests → Requests) (Of Such : Event → Type 0) (e : Event) (old new : MirrorView) → Such e → StepsBy F G Of e old new → StepsBy F G Such e old new
step_of F G Of Such e old new is s = record { of = is; did = s.did; happens = s.happens; array = s.array; sound = s.sound; pending = s.pending }

module _ (F G H : Requests → Requests) (IsOf : Event → Type 0) (old mid new : MirrorView) where
  -- two events, of which the second is in its turn after the first
  pub goes_two : (e f : Event) → StepsBy F G IsOf e old mid → ((previous : Option Event) → IsInOrder previous old.array e) → StepsBy G H IsOf f mid new → IsInOrder (Some e) mid.array f
      → GoesOn F H IsOf old new
  goes_two e f s first t second = record {
    events = e ∷ f ∷ [];
    steps = (s.of, (t.of, tt));
    leads = λ previous others in_flight.
        let there = fly_on old.array mid.array s.array others in_flight in (
          mid,
          G others,
          first previous,
          s.did others,
          λ honest whole. s.happens honest whole others in_flight,
          (new, H others, second, t.did others, λ honest whole. t.happens honest whole others there, (refl, refl)),
        );
    array = same_on old.array mid.array new.array s.array t.array;
    sound = t.sound;
    pending = λ o is. t.pending o (s.pending o is);
  }

  pub goes_on : GoesOn F G IsOf old mid → GoesOn G H IsOf mid new → GoesOn F H IsOf old new
  goes_on g h = record {
    events = g.events ++ h.events;
    steps = all_on IsOf g.events h.events g.steps h.steps;
    leads = λ previous others in_flight.
        let there = fly_on old.array mid.array g.array others in_flight in
        turn_on g.events h.events previous old (F others) (λ m s. (m ≡ new) × (s ≡ H others))
        (turn_then g.events previous old (F others)
        (λ m s. (m ≡ mid) × (s ≡ G others))
        (λ m s. (last : Option Event) → InTurn last m s h.events (λ m s. (m ≡ new) × (s ≡ H others)))
        (λ m s at last.
        subst (λ (x : MirrorView). InTurn last x s h.events (λ m s. (m ≡ new) × (s ≡ H others))) (sym at.0)
        (subst (λ (x : Requests). InTurn last mid x h.events (λ m s. (m ≡ new) × (s ≡ H others))) (sym at.1)
        (h.leads last others there)))
        (g.leads previous others in_flight));
    array = same_on old.array mid.array new.array g.array h.array;
    sound = h.sound;
    pending = λ o is. h.pending o (g.pending o is);
  }

  pub loses_on : GoesOn F G IsOf old mid → mid.array.halted ≡ old.array.halted → LosesSomeMember G H IsOf mid new → LosesSomeMember F H IsOf old new
  loses_on g running h = record {
    goes = goes_on g h.goes;
    lost = let l = g.array.fewer in let m = h.lost in omega arith;
    halted = h.halted ∙ running;
  }

pub halts_on : (F G H : Requests → Requests) (IsOf : Event → Type 0) (old mid new : MirrorView) → GoesOn F G IsOf old mid → HaltsAfter G H IsOf mid new → HaltsAfter F H IsOf old new
halts_on F G H IsOf old mid new g h = record {
  mid = h.mid;
  goes = goes_on F G H IsOf old mid h.mid g h.goes;
  failing = h.failing;
  of = h.of;
  halts = h.halts;
  sound = h.sound;
  pending = λ o is. h.pending o (g.pending o is);
}

-- ---- marks and records
pub ready_refl : (a : ArrayView) → AllStayReady a a
ready_refl a = record {
  each = λ k n at. record { before = n; member = at; same = refl; marked = λ c was. was; recorded = λ x. x; told = inl (refl, refl) };
  others = refl;
  halted = refl;
}

told_on : (before mid n : MemberView) → n.superblock ≡ mid.superblock → IsToldAs before mid → IsToldAs mid n → IsToldAs before n
told_on before mid n own early (inr stored) = inr stored
told_on before mid n own (inl was) (inl same) = inl (same.0 ∙ was.0, same.1 ∙ was.1)
told_on before mid n own (inr stored) (inl same) = inr (same.0 ∙ stored.0, same.1 ∙ stored.1 ∙ sym (ap (λ (v : Superblock). v.recovery_offset) own))

pub ready_on : (a b c : ArrayView) → b.marks ≡ a.marks → AllStayReady a b → AllStayReady b c → AllStayReady a c
ready_on a b c same g h = record {
  each = λ k n at.
      let late : StaysReady b c k n = h.each k n at in
      let early : StaysReady a b k late.before = g.each k late.before late.member in
      let bit : (x : ℕ) → is_set b.marks.bytes x ≡ is_set a.marks.bytes x = λ x. ap (λ (m : Bitmap). is_set m.bytes x) same in
      record {
        before = early.before;
        member = early.member;
        same = late.same ∙ ap (λ (x : MemberView). record x { stored = n.stored; due = n.due; stored_offset = n.stored_offset }) early.same;
        marked = λ x was. late.marked x (early.marked x was ∙ sym (bit x)) ∙ bit x;
        recorded = λ x. late.recorded (early.recorded x);
        told = told_on early.before late.before n (ap (λ (x : MemberView). x.superblock) late.same) early.told late.told;
      };
  others = h.others ∙ ap (λ (x : ArrayView). record x { members = c.members }) g.others;
  halted = h.halted ∙ g.halted;
}

-- it is in the state in which it was
pub same_state : (a b : ArrayView) (k : ℕ) (n : MemberView) (s : StaysReady a b k n) → s.before.state ≡ n.state
same_state a b k n s = sym (ap (λ (x : MemberView). x.state) s.same)

-- who is in sync was so
pub was_in_sync : (a b : ArrayView) (k : ℕ) (n : MemberView) (s : StaysReady a b k n) → IsInSync b k n → IsInSync a k s.before
was_in_sync a b k n s in_sync = record { member = s.member; in_sync = ap is_in_sync (same_state a b k n s) ∙ in_sync.in_sync }

-- who is kept up to date was so
pub kept_before : (a b : ArrayView) (k : ℕ) → AllStayReady a b → IsUpToDate b k → IsUpToDate a k
kept_before a b k ready is =
    let s : StaysReady a b k is.member = ready.each k is.member is.at in
    record { member = s.before; at = s.member; recorded = ap is_recorded (same_state a b k is.member s) ∙ is.recorded }

-- the member that failed was in sync before something was stored, too
pub in_sync_before : (a b : ArrayView) (fault : PartFault) → AllStayReady a b → FailsInSync b fault → FailsInSync a fault
in_sync_before a b Halted ready is = tt
in_sync_before a b (MemberFailed k) ready is =
    let s : StaysReady a b k is.0 = ready.each k is.0 is.1.member in
    (s.before, was_in_sync a b k is.0 s is.1)

-- who is in sync when a write of a sector fails
pub sector_in_sync : (k block : ℕ) (old new : MirrorView) (fault : PartFault) → ((m : MemberView) → IsMember old.array k m → is_in_sync m.state ≡ true)
    → SectorFails k block old new fault → FailsInSync old.array fault
sector_in_sync k block old new Halted is h = tt
sector_in_sync k block old new (MemberFailed j) is h =
    let m = h.1.was.member in
    (m, record { member = subst (λ (i : ℕ). IsMember old.array i m) (sym h.0) h.1.was.at; in_sync = is m h.1.was.at })

-- ---- kinds of events
module _ (Of Such : Event → Type 0) (widen : (e : Event) → Of e → Such e) where
  pub step_as : (F G : Requests → Requests) (e : Event) (old new : MirrorView) → StepsBy F G Of e old new → StepsBy F G Such e old new
  step_as F G e old new s = step_of F G Of Such e old new (widen e s.of) s

  pub goes_as : (F G : Requests → Requests) (old new : MirrorView) → GoesOn F G Of old new → GoesOn F G Such old new
  goes_as F G old new g = record {
    events = g.events;
    steps = all_such Of Such widen g.events g.steps;
    leads = g.leads;
    array = g.array;
    sound = g.sound;
    pending = g.pending;
  }

  module _ (old new : MirrorView) where
    pub stores_as : Stores Of old new → Stores Such old new
    unfolding goes_as
    stores_as g = record { goes = goes_as only_others only_others old new g.goes; unfailing = g.unfailing; ready = g.ready }

    pub stops_as : (fault : PartFault) → StoringFails Of old new fault → StoringFails Such old new fault
    unfolding goes_as
    stops_as Halted h = record {
      halts = record {
        mid = h.halts.mid;
        goes = goes_as only_others only_others old h.halts.mid h.halts.goes;
        failing = h.halts.failing;
        of = widen h.halts.failing h.halts.of;
        halts = h.halts.halts;
        sound = h.halts.sound;
        pending = h.halts.pending;
      };
      unfailing = h.unfailing;
      ready = h.ready;
    }
    stops_as (MemberFailed k) h = record {
      loses = record { goes = goes_as only_others only_others old new h.loses.goes; lost = h.loses.lost; halted = h.loses.halted };
      was = h.was;
      last = h.last;
      faulty = h.faulty;
    }

pub sector_marks : (k block : ℕ) (e : Event) → IsSector k block e → IsMarking e
sector_marks k block (Event.StoreMarks j b) is = tt
sector_marks k block (Event.WriteFails j (MemberPart.BitmapSector b)) is = tt
sector_marks k block e is = absurd is

pub first_records : (k : ℕ) (e : Event) → IsSector k 0 e → IsRecording e
first_records k (Event.StoreMarks j b) is = is.1
first_records k (Event.WriteFails j (MemberPart.BitmapSector b)) is = is.1
first_records k e is = absurd is

-- a sector is something that is stored
pub sector_stops : (k block : ℕ) (old new : MirrorView) (fault : PartFault) → SectorFails k block old new fault → StoringFails (IsSector k block) old new fault
sector_stops k block old new Halted h = h
sector_stops k block old new (MemberFailed j) h = subst (λ (i : ℕ). LosesStoring (IsSector k block) i old new) (sym h.0) h.1

pub marking_stores : (e : Event) → IsMarking e → IsStoring e
marking_stores (Event.StoreMarks k b) is = tt
marking_stores (Event.WriteFails k (MemberPart.BitmapSector b)) is = tt
marking_stores e is = absurd is

pub recording_stores : (e : Event) → IsRecording e → IsStoring e
recording_stores (Event.Record k) is = tt
recording_stores (Event.StoreMarks k b) is = tt
recording_stores (Event.WriteFails k MemberPart.Superblock) is = tt
recording_stores (Event.WriteFails k (MemberPart.BitmapSector b)) is = tt
recording_stores e is = absurd is

-- ---- something is stored
-- the last of more events fails
pub fails_after : (k : ℕ) (es fs : List Event) → AllOf IsNoFailure es → FailsAtLast k fs → FailsAtLast k (es ++ fs)
fails_after k es fs unfailing last = record {
  before = es ++ last.before;
  unfailing = all_on IsNoFailure es last.before unfailing last.unfailing;
  failing = last.failing;
  of = last.of;
  list = ap (λ (xs : List Event). es ++ xs) last.list ∙ sym (append_assoc es last.before (last.failing ∷ []));
}

module _ (Of : Event → Type 0) where
  pub stores_nowhere : (m : MirrorView) → IsConsistent m → Stores Of m m
  unfolding goes_nowhere
  stores_nowhere m sound = record { goes = goes_nowhere only_others Of m sound; unfailing = tt; ready = ready_refl m.array }

  pub stores_step : (e : Event) (old new : MirrorView) → IsNoFailure e → StepsBy only_others only_others Of e old new → ((previous : Option Event) → IsInOrder previous old.array e)
      → AllStayReady old.array new.array → Stores Of old new
  unfolding goes_step
  stores_step e old new is s order ready = record { goes = goes_step only_others only_others Of e old new s order; unfailing = (is, tt); ready = ready }

  -- the very first write halts the mirror
  pub halts_first : (e : Event) (old new : MirrorView) → IsConsistent old → Of e → ((others : Requests) → HaltsAt old others e new) → IsConsistent new
      → ((o : PendingView) → IsPending old.array o → IsPending new.array o) → HaltsStoring Of old new
  unfolding goes_nowhere
  halts_first e old new before is halts sound pending = record {
    halts = record { mid = old; goes = goes_nowhere only_others Of old before; failing = e; of = is; halts = halts; sound = sound; pending = pending };
    unfailing = tt;
    ready = ready_refl old.array;
  }

  -- the write of it failed
  pub step_loses : (k : ℕ) (e : Event) (old new : MirrorView) → IsFailureOf k e → StepsBy only_others only_others Of e old new → ((previous : Option Event) → IsInOrder previous old.array e)
      → recorded_count new.array < recorded_count old.array → new.array.halted ≡ old.array.halted → IsUpToDate old.array k → IsFaulty k new.array → LosesStoring Of k old new
  unfolding goes_step
  step_loses k e old new is s order lost halted was faulty = record {
    loses = record { goes = goes_step only_others only_others Of e old new s order; lost = lost; halted = halted };
    was = was;
    last = record { before = []; unfailing = tt; failing = e; of = is; list = refl };
    faulty = faulty;
  }

  module _ (old mid new : MirrorView) where
    pub stores_two : (e f : Event) → IsNoFailure e → IsNoFailure f → StepsBy only_others only_others Of e old mid → ((previous : Option Event) → IsInOrder previous old.array e)
        → StepsBy only_others only_others Of f mid new → IsInOrder (Some e) mid.array f → AllStayReady old.array new.array → Stores Of old new
    unfolding goes_two
    stores_two e f first_is second_is s first t second ready = record {
      goes = goes_two only_others only_others only_others Of old mid new e f s first t second;
      unfailing = (first_is, (second_is, tt));
      ready = ready;
    }

    pub two_lose : (k : ℕ) (e f : Event) → IsNoFailure e → IsFailureOf k f → StepsBy only_others only_others Of e old mid → ((previous : Option Event) → IsInOrder previous old.array e)
        → StepsBy only_others only_others Of f mid new → IsInOrder (Some e) mid.array f → recorded_count new.array < recorded_count old.array → new.array.halted ≡ old.array.halted
        → IsUpToDate old.array k → IsFaulty k new.array → LosesStoring Of k old new
    unfolding goes_two
    two_lose k e f first_is second_is s first t second lost halted was faulty = record {
      loses = record { goes = goes_two only_others only_others only_others Of old mid new e f s first t second; lost = lost; halted = halted };
      was = was;
      last = record { before = e ∷ []; unfailing = (first_is, tt); failing = f; of = second_is; list = refl };
      faulty = faulty;
    }

    pub stores_on : Stores Of old mid → Stores Of mid new → Stores Of old new
    unfolding goes_on
    stores_on g h = record {
      goes = goes_on only_others only_others only_others Of old mid new g.goes h.goes;
      unfailing = all_on IsNoFailure g.goes.events h.goes.events g.unfailing h.unfailing;
      ready = ready_on old.array mid.array new.array g.goes.array.marks g.ready h.ready;
    }

    loses_then : (k : ℕ) → Stores Of old mid → LosesStoring Of k mid new → LosesStoring Of k old new
    unfolding goes_on loses_on
    loses_then k g h = record {
      loses = loses_on only_others only_others only_others Of old mid new g.goes g.ready.halted h.loses;
      was = kept_before old.array mid.array k g.ready h.was;
      last = fails_after k g.goes.events h.loses.goes.events g.unfailing h.last;
      faulty = h.faulty;
    }

    halts_then : Stores Of old mid → HaltsStoring Of mid new → HaltsStoring Of old new
    unfolding goes_on halts_on
    halts_then g h = record {
      halts = halts_on only_others only_others only_others Of old mid new g.goes h.halts;
      unfailing = all_on IsNoFailure g.goes.events h.halts.goes.events g.unfailing h.unfailing;
      ready = ready_on old.array mid.array h.halts.mid.array g.goes.array.marks g.ready h.ready;
    }

    pub stops_on : (fault : PartFault) → Stores Of old mid → StoringFails Of mid new fault → StoringFails Of old new fault
    stops_on Halted g h = halts_then g h
    stops_on (MemberFailed k) g h = loses_then k g h

-- ---- events of which none failed, whatever becomes of the members
pub record GoesUnfailing (Of : Event → Type 0) (old new : MirrorView) : Type 0 where
  pub goes : GoesOn only_others only_others Of old new
  pub unfailing : AllOf IsNoFailure goes.events
  pub halted : new.array.halted ≡ old.array.halted

module _ (Of : Event → Type 0) where
  pub unfailing_none : (m : MirrorView) → IsConsistent m → (g : GoesUnfailing Of m m) × (g.goes.events ≡ [])
  unfolding goes_nowhere
  unfailing_none m sound = (record { goes = goes_nowhere only_others Of m sound; unfailing = tt; halted = refl }, refl)

  pub unfailing_step : (e : Event) (old new : MirrorView) → IsNoFailure e → StepsBy only_others only_others Of e old new → ((previous : Option Event) → IsInOrder previous old.array e)
      → new.array.halted ≡ old.array.halted → (g : GoesUnfailing Of old new) × (g.goes.events ≡ e ∷ [])
  unfolding goes_step
  unfailing_step e old new is s order halted = (record { goes = goes_step only_others only_others Of e old new s order; unfailing = (is, tt); halted = halted }, refl)

  pub unfailing_two : (old mid new : MirrorView) (e f : Event) → IsNoFailure e → IsNoFailure f → StepsBy only_others only_others Of e old mid
      → ((previous : Option Event) → IsInOrder previous old.array e) → StepsBy only_others only_others Of f mid new → IsInOrder (Some e) mid.array f → new.array.halted ≡ old.array.halted
      → (g : GoesUnfailing Of old new) × (g.goes.events ≡ e ∷ f ∷ [])
  unfolding goes_two
  unfailing_two old mid new e f first_is second_is s first t second halted =
      (record { goes = goes_two only_others only_others only_others Of old mid new e f s first t second; unfailing = (first_is, (second_is, tt)); halted = halted }, refl)

  -- the very first write halts the mirror
  pub halts_at_once : (k : ℕ) (e : Event) (old new : MirrorView) → IsConsistent old → Of e → IsFailureOf k e → ((others : Requests) → HaltsAt old others e new) → IsConsistent new
      → ((o : PendingView) → IsPending old.array o → IsPending new.array o) → HaltsAtWrite Of k old new
  unfolding goes_nowhere
  halts_at_once k e old new before is named halts sound pending = record {
    halts = record { mid = old; goes = goes_nowhere only_others Of old before; failing = e; of = is; halts = halts; sound = sound; pending = pending };
    unfailing = tt;
    named = named;
  }

  module _ (old mid new : MirrorView) (g : GoesUnfailing Of old mid) where
    pub unfailing_on : (h : GoesUnfailing Of mid new) → (x : GoesUnfailing Of old new) × (x.goes.events ≡ g.goes.events ++ h.goes.events)
    unfolding goes_on
    unfailing_on h = (
      record {
        goes = goes_on only_others only_others only_others Of old mid new g.goes h.goes;
        unfailing = all_on IsNoFailure g.goes.events h.goes.events g.unfailing h.unfailing;
        halted = h.halted ∙ g.halted;
      },
      refl,
    )

    pub unfailing_loses : (k : ℕ) → IsUpToDate old.array k → LosesStoring Of k mid new → LosesStoring Of k old new
    unfolding goes_on loses_on
    unfailing_loses k was h = record {
      loses = loses_on only_others only_others only_others Of old mid new g.goes g.halted h.loses;
      was = was;
      last = fails_after k g.goes.events h.loses.goes.events g.unfailing h.last;
      faulty = h.faulty;
    }

    pub unfailing_halts : (k : ℕ) → HaltsAtWrite Of k mid new → HaltsAtWrite Of k old new
    unfolding goes_on halts_on
    unfailing_halts k h = record {
      halts = halts_on only_others only_others only_others Of old mid new g.goes h.halts;
      unfailing = all_on IsNoFailure g.goes.events h.halts.goes.events g.unfailing h.unfailing;
      named = h.named;
    }

module _ (Of Such : Event → Type 0) (widen : (e : Event) → Of e → Such e) (old new : MirrorView) where
  pub unfailing_as : (g : GoesUnfailing Of old new) → (h : GoesUnfailing Such old new) × (h.goes.events ≡ g.goes.events)
  unfolding goes_as
  unfailing_as g = (record { goes = goes_as Of Such widen only_others only_others old new g.goes; unfailing = g.unfailing; halted = g.halted }, refl)

  pub halts_as : (k : ℕ) → HaltsAtWrite Of k old new → HaltsAtWrite Such k old new
  unfolding goes_as
  halts_as k h = record {
    halts = record {
      mid = h.halts.mid;
      goes = goes_as Of Such widen only_others only_others old h.halts.mid h.halts.goes;
      failing = h.halts.failing;
      of = widen h.halts.failing h.halts.of;
      halts = h.halts.halts;
      sound = h.halts.sound;
      pending = h.halts.pending;
    };
    unfailing = h.unfailing;
    named = h.named;
  }
