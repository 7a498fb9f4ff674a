-- What a crash leaves within a whole write, and within a whole `stop`: it comes within one of the steps that the call's
-- contract tells of.
use Rattle.std.specs.Prelude.{◌≡◌, ℕ, ◌%◌, List, ◌∷◌, length, None}
use Rattle.md_model.specs.Events.{Event}
use Rattle.md_state.specs.Requests.{AreInFlight, among, request_of}
use Rattle.md_state.specs.View.{Disk, MirrorView}
use Rattle.md_array.specs.InTurn.{AllLeftWhole}
use Rattle.md_laws.specs.Left.{contents_of}
use Rattle.md_laws.specs.CallCrashes.{AtMoments, IsLeftHalting, IsCrashOf, LeftWholeUntil, CrashesIn}
use Rattle.md_laws.specs.CrashesWithin.{MayAllBeLeft}
use Rattle.md_metadata.specs.Going.{LeadsBy}
use Rattle.md_metadata.specs.Stopping.{HaltsStop, IsStopping}
use Rattle.md_write.specs.Writing.{HaltsWrite, Writes, events_of_write}

-- ---- a write of whole sectors
-- A crash within a `write` that is done, whoever failed on the way.
abbrev pub CrashesInWrite : Type 0
CrashesInWrite =
    AtMoments (λ t.
    ((sector : ℕ) (bytes : List ℕ) (new : MirrorView) → length bytes % 512 ≡ 0 → (w : Writes sector bytes t.mirror new) (in_flight : AreInFlight t.mirror.array t.requests)
    → (left : List Disk) (stop : CrashesIn (events_of_write w.request w.events) None t.mirror t.requests (λ m r. (m ≡ new) × (r ≡ t.requests)) (w.happens None t.requests in_flight).done left)
    → LeftWholeUntil (events_of_write w.request w.events) None t.mirror t.requests (λ m r. (m ≡ new) × (r ≡ t.requests)) (w.happens None t.requests in_flight).done left stop
    → IsCrashOf (events_of_write w.request w.events) t left))

-- The events of a `write` that was halted, before the failed write that halted it.
abbrev pub begun_events : {sector : ℕ} {bytes : List ℕ} {old new : MirrorView} → HaltsWrite sector bytes old new → List Event
begun_events h = Event.Begin h.request.ticket.number (request_of h.request) ∷ h.events

abbrev pub CrashesInHaltedWrite : Type 0
CrashesInHaltedWrite =
    AtMoments (λ t.
    ((sector : ℕ) (bytes : List ℕ) (new : MirrorView) → length bytes % 512 ≡ 0 → (h : HaltsWrite sector bytes t.mirror new) (in_flight : AreInFlight t.mirror.array t.requests)
    → (left : List Disk) (stop : CrashesIn (begun_events h) None t.mirror t.requests (λ m r. (m ≡ h.mid) × (r ≡ among h.last t.requests)) (h.happens None t.requests in_flight) left)
    → LeftWholeUntil (begun_events h) None t.mirror t.requests (λ m r. (m ≡ h.mid) × (r ≡ among h.last t.requests)) (h.happens None t.requests in_flight) left stop
    → IsCrashOf (begun_events h) t left))

-- A crash within the failed write that halted a `write`.
abbrev pub CrashesHaltingWrite : Type 0
CrashesHaltingWrite =
    AtMoments (λ t.
    ((sector : ℕ) (bytes : List ℕ) (new : MirrorView) → length bytes % 512 ≡ 0 → (h : HaltsWrite sector bytes t.mirror new) (in_flight : AreInFlight t.mirror.array t.requests)
    → AllLeftWhole (begun_events h) None t.mirror t.requests (λ m r. (m ≡ h.mid) × (r ≡ among h.last t.requests)) (h.happens None t.requests in_flight)
    → (left : List Disk) → MayAllBeLeft h.mid.disks new.disks (contents_of left) → IsLeftHalting h.failing h.mid left → IsCrashOf (begun_events h) t left))

-- ---- a `stop`
-- A crash within the events of a `stop` that is done, at which a member failed, or that was halted: then
-- before the failed write that halted it.
abbrev pub CrashesInStop : Type 0
CrashesInStop =
    AtMoments (λ t.
    ((mid : MirrorView) (g : LeadsBy IsStopping t.mirror mid) (in_flight : AreInFlight t.mirror.array t.requests)
    → (left : List Disk) (stop : CrashesIn g.events None t.mirror t.requests (λ m r. (m ≡ mid) × (r ≡ t.requests)) (g.leads None t.requests in_flight) left)
    → LeftWholeUntil g.events None t.mirror t.requests (λ m r. (m ≡ mid) × (r ≡ t.requests)) (g.leads None t.requests in_flight) left stop → IsCrashOf g.events t left))

-- A crash within the failed write that halted `stop`.
abbrev pub CrashesHaltingStop : Type 0
CrashesHaltingStop =
    AtMoments (λ t.
    ((new : MirrorView) (h : HaltsStop t.mirror new) (in_flight : AreInFlight t.mirror.array t.requests)
    → AllLeftWhole h.goes.events None t.mirror t.requests (λ m r. (m ≡ h.halts.mid) × (r ≡ t.requests)) (h.goes.leads None t.requests in_flight)
    → (left : List Disk) → MayAllBeLeft h.halts.mid.disks new.disks (contents_of left) → IsLeftHalting h.halts.failing h.halts.mid left → IsCrashOf h.goes.events t left))
