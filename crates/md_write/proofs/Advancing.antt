-- A request goes on by its events, and by marks and records that are stored beside it.
use Rattle.std.proofs.Common.{◌≡◌, List, [], ◌∷◌, ◌++◌, Option, refl, sym, ap, ◌∙◌, subst, arith}
use Rattle.md_model.specs.Events.{Event}
use Rattle.md_bitmap.specs.declared.chunks.Chunks.{Chunks}
use Rattle.md_inflight.specs.Requests.Pending.{PendingView}
use Rattle.md_state.specs.View.{MirrorView}
use Rattle.md_state.specs.Requests.{IsPending, among}
use Rattle.md_array.specs.Consistency.{IsConsistent}
use Rattle.md_array.specs.InTurn.{AllOf, InTurn, IsInOrder, Requests}
use Rattle.md_array.proofs.StepLemmas.InFlight.{among_in_flight}
use Rattle.md_array.proofs.StepLemmas.Turns.{all_on, all_such, turn_on, turn_then}
use Rattle.md_metadata.specs.declared.fault.PartFault.{PartFault}
use Rattle.md_metadata.specs.declared.fault.PartFault.TheVariants.{Halted, MemberFailed}
use Rattle.md_metadata.specs.Going.{GoesOn, StepsBy, only_others}
use Rattle.md_metadata.specs.Storing.{StoringFails}
use Rattle.md_metadata.proofs.Going.{fly_on, same_on, same_refl}
use Rattle.md_write.specs.Progress.{AdvancesRequest, HaltsOn, IsLater, IsOfRequest, IsReadyToFinish, LeavesRoundsAt, Part, WritingFails}
use Rattle.md_write.proofs.InRounds.{fails_leave, leaves_before, leaves_on, left_at}

pub later_refl : (p : PendingView) → IsLater p p
later_refl p = record { request = refl; more = λ d x. x }

pub later_on : (p q r : PendingView) → IsLater p q → IsLater q r → IsLater p r
later_on p q r g h = record { request = h.request ∙ ap (λ (x : PendingView). record x { written = r.written }) g.request; more = λ d x. h.more d (g.more d x) }

-- ---- no event, and one
pub stays : (part : Part) (p q : PendingView) (m : MirrorView) → IsConsistent m → q ≡ p → AdvancesRequest part part p q m m
stays part p q m sound same = record {
  goes = record {
    events = [];
    steps = tt;
    leads = λ previous others in_flight. (refl, ap (λ (x : PendingView). among x others) (sym same));
    array = same_refl m.array;
    sound = sound;
    pending = λ o is. is;
  };
  rounds = λ after r. r;
  later = subst (IsLater p) (sym same) (later_refl p);
}

pub steps_once : (from to : Part) (p q : PendingView) (e : Event) (old new : MirrorView) → StepsBy (among p) (among q) (IsOfRequest old.array.chunks p) e old new
    → ((previous : Option Event) → IsInOrder previous old.array e) → LeavesRoundsAt from to (e ∷ []) → IsLater p q → AdvancesRequest from to p q old new
steps_once from to p q e old new s order rounds later = record {
  goes = record {
    events = e ∷ [];
    steps = (s.of, tt);
    leads = λ previous others in_flight. (new, among q others, order previous, s.did others, λ honest whole. s.happens honest whole others in_flight, (refl, refl));
    array = s.array;
    sound = s.sound;
    pending = s.pending;
  };
  rounds = rounds;
  later = later;
}

-- ---- one part after another
module _ (p q r : PendingView) (old mid new : MirrorView) (a b : Part) (g : AdvancesRequest a b p q old mid) where
  -- the events of the later part are of the same request
  same_request : (Of : (Event → Type 0) → Type 0) → Of (IsOfRequest mid.array.chunks q) → Of (IsOfRequest old.array.chunks p)
  same_request Of x =
      subst (λ (y : PendingView). Of (IsOfRequest old.array.chunks y)) g.later.request
      (subst (λ (c : Chunks). Of (IsOfRequest c q)) g.goes.array.chunks x)

  goes_then : GoesOn (among q) (among r) (IsOfRequest mid.array.chunks q) mid new → GoesOn (among p) (among r) (IsOfRequest old.array.chunks p) old new
  goes_then h = record {
    events = g.goes.events ++ h.events;
    steps = all_on (IsOfRequest old.array.chunks p) g.goes.events h.events g.goes.steps (same_request (λ (Of : Event → Type 0). AllOf Of h.events) h.steps);
    leads = λ previous others in_flight.
        let there = fly_on old.array mid.array g.goes.array others in_flight in
        turn_on g.goes.events h.events previous old (among p others) (λ m s. (m ≡ new) × (s ≡ among r others))
        (turn_then g.goes.events previous old (among p others)
        (λ m s. (m ≡ mid) × (s ≡ among q others))
        (λ m s. (last : Option Event) → InTurn last m s h.events (λ m s. (m ≡ new) × (s ≡ among r others)))
        (λ m s at last.
        subst (λ (x : MirrorView). InTurn last x s h.events (λ m s. (m ≡ new) × (s ≡ among r others))) (sym at.0)
        (subst (λ (x : Requests). InTurn last mid x h.events (λ m s. (m ≡ new) × (s ≡ among r others))) (sym at.1)
        (h.leads last others there)))
        (g.goes.leads previous others in_flight));
    array = same_on old.array mid.array new.array g.goes.array h.array;
    sound = h.sound;
    pending = λ o is. h.pending o (g.goes.pending o is);
  }

  pub advances_on : (c : Part) → AdvancesRequest b c q r mid new → AdvancesRequest a c p r old new
  unfolding goes_then
  advances_on c h = record {
    goes = goes_then h.goes;
    rounds = leaves_on a b c g.goes.events h.goes.events g.rounds h.rounds;
    later = later_on p q r g.later h.later;
  }

module _ (p q r : PendingView) (old mid new : MirrorView) (a b : Part) (g : AdvancesRequest a b p q old mid) where
  pub halts_later : HaltsOn b q r mid new → HaltsOn a p r old new
  unfolding goes_then
  halts_later h = record {
    halts = record {
      mid = h.halts.mid;
      goes = goes_then p q r old mid h.halts.mid a b g h.halts.goes;
      failing = h.halts.failing;
      of = same_request p q r old mid new a b g (λ (Of : Event → Type 0). Of h.halts.failing) h.halts.of;
      halts = h.halts.halts;
      sound = h.halts.sound;
      pending = λ o is. h.halts.pending o (g.goes.pending o is);
    };
    rounds = leaves_before a b g.goes.events h.halts.goes.events h.halts.failing g.rounds h.rounds;
    later = later_on p q r g.later h.later;
  }

  pub stops_later : (fault : PartFault) → mid.array.halted ≡ old.array.halted → WritingFails b q r mid new fault → WritingFails a p r old new fault
  stops_later (MemberFailed k) run h = record {
    advances = advances_on p q r old mid new a b g Part.Marks h.advances;
    lost = let l = g.goes.array.fewer in let m = h.lost in omega arith;
    halted = h.halted ∙ run;
    still = h.still;
  }
  stops_later Halted run h = halts_later h

pub ready_on : (p q r : PendingView) (old mid new : MirrorView) → AdvancesRequest Part.Marks Part.Marks p q old mid → IsReadyToFinish q r mid new → IsReadyToFinish p r old new
ready_on p q r old mid new g h = record {
  advances = advances_on p q r old mid new Part.Marks Part.Marks g Part.Bytes h.advances;
  still = h.still;
  may = h.may;
  recorded = h.recorded;
}

-- ---- marks and records are stored beside it
module _ (Kind : Event → Type 0) (p : PendingView) (old new : MirrorView) (is : IsPending old.array p) (widen : (e : Event) → Kind e → IsOfRequest old.array.chunks p e) where
  goes_beside : (mid : MirrorView) → GoesOn only_others only_others Kind old mid → GoesOn (among p) (among p) (IsOfRequest old.array.chunks p) old mid
  goes_beside mid g = record {
    events = g.events;
    steps = all_such Kind (IsOfRequest old.array.chunks p) widen g.events g.steps;
    leads = λ previous others in_flight. g.leads previous (among p others) (among_in_flight old.array p is others in_flight);
    array = g.array;
    sound = g.sound;
    pending = g.pending;
  }

  module _ (from to : Part) (leave : (es : List Event) → AllOf Kind es → LeavesRoundsAt from to es) where
    pub stored_beside : GoesOn only_others only_others Kind old new → AdvancesRequest from to p p old new
    unfolding goes_beside
    stored_beside g = record { goes = goes_beside new g; rounds = leave g.events g.steps; later = later_refl p }

    pub storing_stops : (fault : PartFault) → StoringFails Kind old new fault → WritingFails from p p old new fault
    unfolding goes_beside
    storing_stops (MemberFailed k) h = record {
      advances = record {
        goes = goes_beside new h.loses.goes;
        rounds = fails_leave from to k h.loses.goes.events (leave h.loses.goes.events h.loses.goes.steps) h.last;
        later = later_refl p;
      };
      lost = h.loses.lost;
      halted = h.loses.halted;
      still = h.loses.goes.pending p is;
    }
    storing_stops Halted s =
        let h = s.halts in
        record {
          halts = record {
            mid = h.mid;
            goes = goes_beside h.mid h.goes;
            failing = h.failing;
            of = widen h.failing h.of;
            halts = λ others. h.halts (among p others);
            sound = h.sound;
            pending = h.pending;
          };
          rounds =
              let list = h.goes.events ++ h.failing ∷ [] in
              left_at from to list (leave list (all_on Kind h.goes.events (h.failing ∷ []) h.goes.steps (h.of, tt)));
          later = later_refl p;
        }
