-- Lists of events that lead from one mirror to another.
use Rattle.std.proofs.Common.{◌≡◌, Option, [], ◌∷◌, ◌++◌, refl, sym, ap, ◌∙◌, subst}
use Rattle.md_inflight.specs.Inflight.{InflightList, lookup}
use Rattle.md_model.specs.Events.{Event}
use Rattle.md_inflight.specs.Requests.Pending.{PendingView}
use Rattle.md_inflight.specs.declared.requests.extent.Extent.{Extent}
use Rattle.md_state.specs.View.{MirrorView}
use Rattle.md_state.specs.Requests.{AreInFlight, IsPending}
use Rattle.md_array.specs.Consistency.{IsConsistent}
use Rattle.md_array.specs.Events.{Does}
use Rattle.md_array.specs.InTurn.{Did, InTurn, IsInOrder, LeftWhole, Requests}
use Rattle.md_array.specs.Worlds.{AreHonest}
use Rattle.md_array.proofs.StepLemmas.Turns.{all_on, all_such, turn_on, turn_then}
use Rattle.md_metadata.specs.Going.{GoesOn, LeadsBy, only_others}

pub leads_nowhere : (IsOf : Event → Type 0) (m : MirrorView) → IsConsistent m → LeadsBy IsOf m m
leads_nowhere IsOf m sound = record {
  events = [];
  steps = tt;
  leads = λ previous others in_flight. (refl, refl);
  requests = refl;
  sound = sound;
  pending = λ o is. is;
}

-- one event
pub leads_once : (IsOf : Event → Type 0) (e : Event) (old new : MirrorView) → IsOf e → ((previous : Option Event) → IsInOrder previous old.array e)
    → ((others : Requests) → Did old others e new others)
    → (AreHonest old.disks → LeftWhole old e new → (others : Requests) → AreInFlight old.array others → Does old others e new others)
    → new.array.requests ≡ old.array.requests → IsConsistent new → ((o : PendingView) → IsPending old.array o → IsPending new.array o) → LeadsBy IsOf old new
leads_once IsOf e old new of order did happens requests sound pending = record {
  events = e ∷ [];
  steps = (of, tt);
  leads = λ previous others in_flight. (new, others, order previous, did others, λ honest whole. happens honest whole others in_flight, (refl, refl));
  requests = requests;
  sound = sound;
  pending = pending;
}

module _ (IsOf : Event → Type 0) (old mid new : MirrorView) where
  pub leads_then : LeadsBy IsOf old mid → LeadsBy IsOf mid new → LeadsBy IsOf old new
  leads_then g h = record {
    events = g.events ++ h.events;
    steps = all_on IsOf g.events h.events g.steps h.steps;
    leads = λ previous others in_flight.
        let there : AreInFlight mid.array others = λ n p e. ap (λ (l : InflightList Extent). lookup l.entries n) g.requests ∙ in_flight n p e in
        turn_on g.events h.events previous old others (λ m s. (m ≡ new) × (s ≡ others))
        (turn_then g.events previous old others
        (λ m s. (m ≡ mid) × (s ≡ others))
        (λ m s. (last : Option Event) → InTurn last m s h.events (λ m s. (m ≡ new) × (s ≡ others)))
        (λ m s at last.
        subst (λ (x : MirrorView). InTurn last x s h.events (λ m s. (m ≡ new) × (s ≡ others))) (sym at.0)
        (subst (λ (x : Requests). InTurn last mid x h.events (λ m s. (m ≡ new) × (s ≡ others))) (sym at.1)
        (h.leads last others there)))
        (g.leads previous others in_flight));
    requests = h.requests ∙ g.requests;
    sound = h.sound;
    pending = λ o is. h.pending o (g.pending o is);
  }

-- its events are of another kind too
pub leads_as : (Of Such : Event → Type 0) → ((e : Event) → Of e → Such e) → (old new : MirrorView) → LeadsBy Of old new → LeadsBy Such old new
leads_as Of Such f old new g =
    record { events = g.events; steps = all_such Of Such f g.events g.steps; leads = g.leads; requests = g.requests; sound = g.sound; pending = g.pending }

pub goes_leads : (IsOf : Event → Type 0) (old new : MirrorView) → GoesOn only_others only_others IsOf old new → LeadsBy IsOf old new
goes_leads IsOf old new g = record { events = g.events; steps = g.steps; leads = g.leads; requests = g.array.requests; sound = g.sound; pending = g.pending }
