-- A whole write.
use Rattle.std.specs.Prelude.{◌≡◌, ◌⊎◌, ℕ, ◌/◌, true, false, List, [], ◌∷◌, ◌++◌, length, Option, Some}
use Rattle.md_model.specs.Content.{Content, HoldsBetween, with_request}
use Rattle.md_model.specs.Worlds.{Request, touches, IsInSync}
use Rattle.md_model.specs.Events.{Event}
use Rattle.md_inflight.specs.Requests.Pending.{PendingView}
use Rattle.md_faults.specs.declared.step_fault.BeginFault.{BeginFault}
use Rattle.md_faults.specs.declared.step_fault.BeginFault.TheVariants.{Halted}
use Rattle.md_state.specs.View.{MirrorView, geometry_of}
use Rattle.md_state.specs.Steps.Begin.{Begins, HasMarked, RefusesBegin}
use Rattle.md_state.specs.Requests.{AreInFlight, among, request_of}
use Rattle.md_array.specs.InTurn.{AllLeftWhole, AllOf, HaltsAt, Leads, Requests}
use Rattle.md_array.specs.Worlds.{AreHonest, world_of}
use Rattle.md_metadata.specs.Storing.{AllRecorded}
use Rattle.md_write.specs.Progress.{InRounds, IsOfRequest, Part}

-- Every member in sync holds the request's bytes at its sectors, those that it lists among them, and elsewhere each holds what it
-- held. A content that the members in sync held before, they hold with the request's bytes.
pub record HasReceived (p : Request) (old new : MirrorView) (others : Requests) : Type 0 where
  pub bytes : (k s : ℕ) → IsInSync (world_of new others) k → touches p s ≡ true → ((world_of new others).stored k).content s ≡ p.bytes s
  pub elsewhere : (k s : ℕ) → touches p s ≡ false → ((world_of new others).stored k).content s ≡ ((world_of old others).stored k).content s
  pub content : (a : Content) → HoldsBetween (geometry_of old.array) a (world_of old others) → HoldsBetween (geometry_of old.array) (with_request (Some p) a) (world_of new others)

-- The list of a write's events: it begins, its marks, records and bytes are stored, members failing on the way, and it is finished.
abbrev pub events_of_write : PendingView → List Event → List Event
events_of_write p events = Event.Begin p.ticket.number (request_of p) ∷ (events ++ Event.Finish p.ticket.number ∷ [])

-- A request's events were done, and lead to the new mirror. Where devices do what they answer, and each
-- failed write of a superblock left the old one, the new one or none, the members have the bytes.
pub record AreBytesWritten (p : PendingView) (events : List Event) (previous : Option Event) (others : Requests) (old new : MirrorView) : Type 0 where
  pub done : Leads previous old others (events_of_write p events) new others
  pub received : AreHonest old.disks → AllLeftWhole (events_of_write p events) previous old others (λ m r. (m ≡ new) × (r ≡ others)) done
      → HasReceived (request_of p) old new others

pub record Writes (sector : ℕ) (bytes : List ℕ) (old new : MirrorView) : Type 0 where
  pub begun : MirrorView
  pub request : PendingView
  pub begins : Begins sector bytes old begun request
  pub events : List Event
  pub steps : AllOf (IsOfRequest old.array.chunks request) events
  pub rounds : InRounds Part.Marks events
  pub happens : (previous : Option Event) (others : Requests) → AreInFlight old.array others → AreBytesWritten request events previous others old new
  -- of any devices: what the mirror keeps of the array
  pub entries : new.array.requests.entries ≡ old.array.requests.entries
  pub resynced : new.array.resynced ≡ old.array.resynced
  pub marked : HasMarked old.array sector (length bytes / 512) new.array.marks
  -- no superblock is due, of spares and recovering members neither
  pub recorded : AllRecorded new.array

-- The request began, and after some of its events a write failed that halted the mirror.
pub record HaltsWrite (sector : ℕ) (bytes : List ℕ) (old new : MirrorView) : Type 0 where
  pub begun : MirrorView
  pub request : PendingView
  pub begins : Begins sector bytes old begun request
  pub events : List Event
  pub steps : AllOf (IsOfRequest old.array.chunks request) events
  pub mid : MirrorView
  pub last : PendingView  -- the request, with the members that have its bytes by then
  pub happens : (previous : Option Event) (others : Requests) → AreInFlight old.array others
      → Leads previous old others (Event.Begin request.ticket.number (request_of request) ∷ events) mid (among last others)
  pub failing : Event
  pub of : IsOfRequest old.array.chunks request failing
  pub rounds : InRounds Part.Marks (events ++ failing ∷ [])
  pub halts : (others : Requests) → HaltsAt mid (among last others) failing new

abbrev pub RefusesWrite : ℕ → List ℕ → MirrorView → MirrorView → BeginFault → Type 0
RefusesWrite sector bytes old new Halted = RefusesBegin sector (length bytes / 512) old new Halted ⊎ HaltsWrite sector bytes old new
RefusesWrite sector bytes old new fault = RefusesBegin sector (length bytes / 512) old new fault
