-- Steps of the mirror, joined and carried along.
use Rattle.std.proofs.Common.{◌≡◌, ℕ, ◌/◌, List, [], ◌∷◌, ◌++◌, length, Option, Some, None, refl, sym, ap, ◌∙◌, subst, arith}
use Rattle.std.proofs.lemmas.List.{append_assoc, append-nil}
use Rattle.md_model.specs.Events.{Event}
use Rattle.md_state.specs.Steps.CopyData.{CopiesTo, copies_of}
use Rattle.md_state.specs.Requests.{AreInFlight}
use Rattle.md_state.specs.Rests.{Rests}
use Rattle.md_state.specs.View.{MirrorView}
use Rattle.md_array.specs.Steps.CopyData.{CopiesInTurn}
use Rattle.md_array.specs.InTurn.{AllOf, InTurn, Leads, Requests}
use Rattle.md_laws.proofs.Runs.Rests.{rests_same, rests_then}
use Rattle.md_resync.specs.Steps.{GoesBySteps, IsNoCopy, MirrorStep, StepsInTurn, copies_in, events_of_steps}

-- what holds at the end, weaker
steps_then : (steps : List MirrorStep) (old : MirrorView) (before : Requests) (P Q : MirrorView → Requests → Type 0)
    → ((m : MirrorView) (r : Requests) → P m r → Q m r) → StepsInTurn old before steps P → StepsInTurn old before steps Q
steps_then [] old before P Q f t = (t.0, t.1, f t.0 before t.2)
steps_then (MirrorStep.Single e ∷ steps) old before P Q f t = (t.0, t.1, t.2, t.3, t.4, t.5, t.6, t.7, steps_then steps t.1 t.2 P Q f t.8)
steps_then (MirrorStep.CopyRun r ∷ steps) old before P Q f t = (t.0, t.1, t.2, t.3, t.4, steps_then steps t.1 before P Q f t.5)

-- reads before the first step
steps_first : (steps : List MirrorStep) (old rested : MirrorView) (before : Requests) (P : MirrorView → Requests → Type 0)
    → Rests old rested → StepsInTurn rested before steps P → StepsInTurn old before steps P
steps_first [] old rested before P rests t = (t.0, rests_then old rested t.0 rests t.1, t.2)
steps_first (MirrorStep.Single e ∷ steps) old rested before P rests t = (t.0, t.1, t.2, rests_then old rested t.0 rests t.3, t.4, t.5, t.6, t.7, t.8)
steps_first (MirrorStep.CopyRun r ∷ steps) old rested before P rests t = (t.0, t.1, rests_then old rested t.0 rests t.2, t.3, t.4, t.5)

-- steps after others
steps_on : (steps more : List MirrorStep) (old : MirrorView) (before : Requests) (P : MirrorView → Requests → Type 0)
    → StepsInTurn old before steps (λ m r. StepsInTurn m r more P) → StepsInTurn old before (steps ++ more) P
steps_on [] more old before P t = steps_first more old t.0 before P t.1 t.2
steps_on (MirrorStep.Single e ∷ steps) more old before P t = (t.0, t.1, t.2, t.3, t.4, t.5, t.6, t.7, steps_on steps more t.1 t.2 P t.8)
steps_on (MirrorStep.CopyRun r ∷ steps) more old before P t = (t.0, t.1, t.2, t.3, t.4, steps_on steps more t.1 before P t.5)

events_on : (steps more : List MirrorStep) → events_of_steps (steps ++ more) ≡ events_of_steps steps ++ events_of_steps more
events_on [] more = refl
events_on (MirrorStep.Single e ∷ steps) more = ap (λ (es : List Event). e ∷ es) (events_on steps more)
events_on (MirrorStep.CopyRun r ∷ steps) more =
    ap (λ (es : List Event). copies_in r ++ es) (events_on steps more) ∙ sym (append_assoc (copies_in r) (events_of_steps steps) (events_of_steps more))

-- ---- nothing but reads
pub by_none : (old new : MirrorView) → Rests old new → GoesBySteps [] old new
by_none old new rests = record { steps = []; all = refl; leads = λ requests in_flight. (new, rests, (refl, refl)) }

-- ---- one list of events after another
pub by_on : (es fs : List Event) (old mid new : MirrorView) → ((requests : Requests) → AreInFlight old.array requests → AreInFlight mid.array requests)
    → GoesBySteps es old mid → GoesBySteps fs mid new → GoesBySteps (es ++ fs) old new
by_on es fs old mid new stay g h = record {
  steps = g.steps ++ h.steps;
  all = ap (λ (xs : List Event). xs ++ fs) g.all ∙ ap (λ (xs : List Event). events_of_steps g.steps ++ xs) h.all ∙ sym (events_on g.steps h.steps);
  leads = λ requests in_flight.
      steps_on g.steps h.steps old requests (λ m r. (m ≡ new) × (r ≡ requests))
      (steps_then g.steps old requests
      (λ m r. (m ≡ mid) × (r ≡ requests))
      (λ m r. StepsInTurn m r h.steps (λ m r. (m ≡ new) × (r ≡ requests)))
      (λ m r at.
      subst (λ (x : MirrorView). StepsInTurn x r h.steps (λ m r. (m ≡ new) × (r ≡ requests))) (sym at.0)
      (subst (λ (x : Requests). StepsInTurn mid x h.steps (λ m r. (m ≡ new) × (r ≡ requests))) (sym at.1)
      (h.leads requests (stay requests in_flight))))
      (g.leads requests in_flight));
}

-- ---- a run
pub by_run : (k sector : ℕ) (bytes : List ℕ) (old new : MirrorView) → CopiesTo k sector bytes old new → (turn : CopiesInTurn k sector bytes old new)
    → GoesBySteps (copies_of turn.from k sector turn.sectors) old new
by_run k sector bytes old new copies turn =
    let long = turn.long in
    let many : turn.sectors ≡ length bytes / 512 = omega arith in
    record {
      steps = MirrorStep.CopyRun (record { from = turn.from; to = k; sector = sector; bytes = bytes }) ∷ [];
      all = ap (copies_of turn.from k sector) many ∙ sym (append-nil _);
      leads = λ requests in_flight. (
        old,
        new,
        rests_same old,
        copies,
        (λ previous. subst (λ (n : ℕ). Leads previous old requests (copies_of turn.from k sector n) new requests) many (turn.leads previous requests in_flight)),
        (new, rests_same new, (refl, refl)),
      );
    }

-- ---- events that are no copies, with no read
abbrev singles : List Event → List MirrorStep
singles [] = []
singles (e ∷ es) = MirrorStep.Single e ∷ singles es

singles_are : (es : List Event) → es ≡ events_of_steps (singles es)
singles_are [] = refl
singles_are (e ∷ es) = ap (λ (xs : List Event). e ∷ xs) (singles_are es)

singles_lead : (es : List Event) → AllOf IsNoCopy es → (previous : Option Event) (old : MirrorView) (before : Requests) (P : MirrorView → Requests → Type 0)
    → InTurn previous old before es P → StepsInTurn old before (singles es) P
singles_lead [] none previous old before P t = (old, rests_same old, t)
singles_lead (e ∷ es) none previous old before P t = (old, t.0, t.1, rests_same old, none.0, t.3, t.4, (previous, t.2), singles_lead es none.1 (Some e) t.0 t.1 P t.5)

pub by_singles : (es : List Event) (old new : MirrorView) → AllOf IsNoCopy es
    → ((previous : Option Event) (requests : Requests) → AreInFlight old.array requests → Leads previous old requests es new requests) → GoesBySteps es old new
by_singles es old new none leads = record {
  steps = singles es;
  all = singles_are es;
  leads = λ requests in_flight. singles_lead es none None old requests (λ m r. (m ≡ new) × (r ≡ requests)) (leads None requests in_flight);
}
