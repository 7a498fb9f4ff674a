-- By which steps of the mirror events were done: a step is one event, but a run of sectors is copied by one, which is one write of
-- its device and as many events as it has sectors.
use Rattle.std.specs.Prelude.{◌≡◌, ℕ, ◌/◌, List, [], ◌∷◌, ◌++◌, length, Option}
use Rattle.md_model.specs.Events.{Event}
use Rattle.md_state.specs.Steps.CopyData.{CopiesTo, copies_of}
use Rattle.md_state.specs.Requests.{AreInFlight}
use Rattle.md_state.specs.Rests.{Rests}
use Rattle.md_state.specs.View.{ArrayView, MirrorView}
use Rattle.md_array.specs.Events.{Does}
use Rattle.md_array.specs.InTurn.{Did, IsInOrder, LeftWhole, Leads, Requests}
use Rattle.md_array.specs.Worlds.{AreHonest}

-- These bytes go from one member to another, from this sector of the array on.
pub record CopiedRun : Type 0 where
  pub from : ℕ
  pub to : ℕ
  pub sector : ℕ
  pub bytes : List ℕ

pub data MirrorStep : Type 0 where
  Single : (e : Event) → MirrorStep
  CopyRun : (r : CopiedRun) → MirrorStep

-- an event for each sector of it
abbrev pub copies_in : CopiedRun → List Event
copies_in r = copies_of r.from r.to r.sector (length r.bytes / 512)

abbrev pub events_of_steps : List MirrorStep → List Event
events_of_steps [] = []
events_of_steps (MirrorStep.Single e ∷ steps) = e ∷ events_of_steps steps
events_of_steps (MirrorStep.CopyRun r ∷ steps) = copies_in r ++ events_of_steps steps

-- a sector is copied in a run alone
abbrev pub IsNoCopy : Event → Type 0
IsNoCopy (Event.Copy from k s) = ⊥
IsNoCopy e = Unit {0}

-- As in a write, a sector of a bitmap is stored where it is due.
abbrev pub IsDue : Event → ArrayView → Type 0
IsDue e a = (previous : Option Event) × IsInOrder previous a e

-- From this mirror, with these requests in flight, the steps were done one after another, and then it holds of where they lead.
-- Devices may have been read before each step, and after the last. What a crash leaves within a step is said by its own contract:
-- `Did` of an event, and `CopiesTo` of a run, whose events lead from before its write to after it.
abbrev pub StepsInTurn : MirrorView → Requests → List MirrorStep → (MirrorView → Requests → Type 0) → Type 0
StepsInTurn old before [] Then = (rested : MirrorView) × Rests old rested × Then rested before
StepsInTurn old before (MirrorStep.Single e ∷ steps) Then =
    (rested mid : MirrorView) × (between : Requests) × Rests old rested × IsNoCopy e × Did rested before e mid between
    × (AreHonest rested.disks → LeftWhole rested e mid → Does rested before e mid between) × IsDue e rested.array × StepsInTurn mid between steps Then
StepsInTurn old before (MirrorStep.CopyRun r ∷ steps) Then =
    (rested mid : MirrorView) × Rests old rested × CopiesTo r.to r.sector r.bytes rested mid
    × ((previous : Option Event) → Leads previous rested before (copies_in r) mid before) × StepsInTurn mid before steps Then

-- These steps lead from the one mirror to the other, with their requests.
abbrev pub StepsLead : MirrorView → Requests → List MirrorStep → MirrorView → Requests → Type 0
StepsLead old before steps new after = StepsInTurn old before steps (λ m r. (m ≡ new) × (r ≡ after))

-- These events were done by such steps.
pub record GoesBySteps (events : List Event) (old new : MirrorView) : Type 0 where
  pub steps : List MirrorStep
  pub all : events ≡ events_of_steps steps
  pub leads : (requests : Requests) → AreInFlight old.array requests → StepsLead old requests steps new requests
