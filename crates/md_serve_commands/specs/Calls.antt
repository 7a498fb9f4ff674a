-- The calls on the mirror that a session is made of, one after another, and which content they make of one that members in sync held.
use Rattle.std.specs.Prelude.{◌≡◌, ◌⊎◌, ℕ, ◌-◌, ◌*◌, ◌/◌, false, true, List, [], ◌∷◌, ◌++◌, length, Some, None}
use Rattle.std.proofs.Common.{inl, inr, sym, ◌∙◌}
use Rattle.std.proofs.lemmas.Option.{none-some}
use Rattle.md_device.specs.Splice.{part}
use Rattle.md_model.specs.Content.{Content, Holds, with_request}
use Rattle.md_model.specs.Events.{Event}
use Rattle.md_model.specs.Worlds.{IsQuiet, Request, touches}
use Rattle.md_state.specs.Requests.{AreInFlight, among}
use Rattle.md_state.specs.Rests.{Rests}
use Rattle.md_state.specs.View.{ArrayView, Disk, MirrorView, geometry_of}
use Rattle.md_array.specs.InTurn.{AllLeftWhole, HaltsAt, Leads, Requests}
use Rattle.md_array.specs.Worlds.{none_in_flight, world_of}
use Rattle.md_laws.specs.CallCrashes.{CrashesIn, LeftWholeUntil}
use Rattle.md_laws.specs.Left.{IsLeftByCrash, contents_of}
use Rattle.md_laws.specs.Lives.{MirrorLifeWith}
use Rattle.md_laws.specs.Runs.{IsStart, MirrorRunWith, Moment}
use Rattle.md_metadata.specs.Going.{LeadsBy}
use Rattle.md_metadata.specs.Stopping.{HaltsStop, IsStopping}
use Rattle.md_call_laws.specs.Crashes.HaltedCalls.{IsInstead, IsLeftByHalt, IsLeftSince}
use Rattle.md_write.specs.WriteCrashes.{begun_events}
use Rattle.md_write.specs.Writing.{HaltsWrite, Writes, events_of_write}
use Rattle.md_serve_commands.specs.Told.{ArrayWrite}

-- ---- content
abbrev pub request_with : ArrayWrite → Request
request_with w =
    record {
      start = w.0;
      sectors = length w.1 / 512;
      bytes = λ s. part w.1 (512 * (s - w.0)) 512;
      written = λ _. false;
    }

-- a content with the bytes of a write
abbrev pub with_write : ArrayWrite → Content → Content
with_write w a = with_request (Some (request_with w)) a

-- ---- calls
-- A call of a session: devices are read, or nothing is done; bytes are written; or marks are cleared, as far as `stop` does it.
pub data SessionCall : Type 0 where
  Reading : SessionCall
  Writing : (w : ArrayWrite) → SessionCall
  Clearing : SessionCall

abbrev pub DoesCall : SessionCall → MirrorView → MirrorView → Type 0
DoesCall SessionCall.Reading old new = Rests old new
DoesCall (SessionCall.Writing w) old new = Writes w.0 w.1 old new
DoesCall SessionCall.Clearing old new = LeadsBy IsStopping old new

-- These calls were made, one after another.
abbrev pub DoesCalls : MirrorView → List SessionCall → MirrorView → Type 0
DoesCalls old [] new = new ≡ old
DoesCalls old (c ∷ cs) new = (mid : MirrorView) × DoesCall c old mid × DoesCalls mid cs new

-- A call halted the mirror.
abbrev pub HaltsInCall : MirrorView → MirrorView → Type 0
HaltsInCall old new = ((w : ArrayWrite) × HaltsWrite w.0 w.1 old new) ⊎ HaltsStop old new

-- The content after a call, and after several.
abbrev pub content_after : SessionCall → Content → Content
content_after SessionCall.Reading a = a
content_after (SessionCall.Writing w) a = with_write w a
content_after SessionCall.Clearing a = a

abbrev pub contents_after : List SessionCall → Content → Content
contents_after [] a = a
contents_after (c ∷ cs) a = contents_after cs (content_after c a)

-- ---- events
-- The events of calls, one after another.
abbrev pub call_events : (c : SessionCall) (old new : MirrorView) → DoesCall c old new → List Event
call_events SessionCall.Reading old new d = []
call_events (SessionCall.Writing w) old new d = events_of_write d.request d.events
call_events SessionCall.Clearing old new d = d.events

abbrev pub calls_events : (cs : List SessionCall) (old new : MirrorView) → DoesCalls old cs new → List Event
calls_events [] old new d = []
calls_events (c ∷ cs) old new d = call_events c old d.0 d.1 ++ calls_events cs d.0 new d.2

-- The events of a call that halted the mirror, before the write that failed then.
abbrev pub halting_events : (old new : MirrorView) → HaltsInCall old new → List Event
halting_events old new (inl h) = begun_events h.1
halting_events old new (inr h) = h.goes.events

-- ---- the events up to a crash
-- These are the first of the events.
pub record AreFirstOf (es events : List Event) : Type 0 where
  pub rest : List Event
  pub order : es ≡ events ++ rest

-- All of these events went, and then such as these.
pub record WentBehind (es : List Event) (Later : List Event → Type 0) (events : List Event) : Type 0 where
  pub later : List Event
  pub order : events ≡ es ++ later
  pub went : Later later

-- Behind these events stand such as stand in place of the write that failed (`IsInstead`): the same sector of marks, stored.
pub record AreWithInstead (es : List Event) (failing : Event) (events : List Event) : Type 0 where
  pub instead : List Event
  pub is_instead : IsInstead failing instead
  pub order : events ≡ es ++ instead

-- These are the first of the events, or all of them with such as stand in place of the write that failed.
abbrev pub AreFirstOrInstead : List Event → Event → List Event → Type 0
AreFirstOrInstead es failing events = AreFirstOf es events ⊎ AreWithInstead es failing events

-- ---- what is asked of the devices
-- Events lead to this mirror, with these requests in flight.
abbrev pub ends_at : MirrorView → Requests → MirrorView → Requests → Type 0
ends_at new after m r = (m ≡ new) × (r ≡ after)

-- No request is in flight between two calls.
abbrev pub AreNone : Requests → Type 0
AreNone requests = (n : ℕ) → requests n ≡ None

-- Where none is in flight, each that is said to be is one of the list, of any array.
abbrev pub none_there : (requests : Requests) → AreNone requests → (a : ArrayView) → AreInFlight a requests
none_there requests none a n p is = absurd (none-some p (sym (none n) ∙ is))

module _ (requests : Requests) (none : AreNone requests) where
  -- Each failed write of a superblock on the way left the old one, the new one or none.
  abbrev pub CallLeftWhole : (c : SessionCall) (old new : MirrorView) → DoesCall c old new → Type 0
  CallLeftWhole SessionCall.Reading old new d = Unit {0}
  CallLeftWhole (SessionCall.Writing w) old new d =
      AllLeftWhole (events_of_write d.request d.events) None old requests (ends_at new requests)
      (d.happens None requests (none_there requests none old.array)).done
  CallLeftWhole SessionCall.Clearing old new d =
      AllLeftWhole d.events None old requests (ends_at new requests)
      (d.leads None requests (none_there requests none old.array))

  abbrev pub CallsLeftWhole : (cs : List SessionCall) (old new : MirrorView) → DoesCalls old cs new → Type 0
  CallsLeftWhole [] old new d = Unit {0}
  CallsLeftWhole (c ∷ cs) old new d = CallLeftWhole c old d.0 d.1 × CallsLeftWhole cs d.0 new d.2

-- ---- a crash within a call
-- The crash came within one of these events, and up to it each failed write of a superblock left the old one, the new one or none.
abbrev pub CrashesAmong : (es : List Event) (old : MirrorView) (before : Requests) (new : MirrorView)
    (after : Requests) → Leads None old before es new after → List Disk → Type 0
CrashesAmong es old before new after leads left =
    (stop : CrashesIn es None old before (ends_at new after) leads left)
    × LeftWholeUntil es None old before (ends_at new after) leads left stop

-- The crash came within one of these events; or after them within a write that failed then and halted the mirror, or at any time after
-- it. Of that write is asked what `halted_calls` of `md_call_laws` asks: that a superblock was left the old one, the new one or none, and a
-- sector of marks done or not done.
abbrev pub CrashesHalting : (es : List Event) (old : MirrorView) (before : Requests) (mid : MirrorView)
    (between : Requests) → Leads None old before es mid between → List Disk → Type 0 → Type 0
CrashesHalting es old before mid between leads left AtHalt =
    CrashesAmong es old before mid between leads left
    ⊎ (AllLeftWhole es None old before (ends_at mid between) leads × AtHalt)

abbrev pub IsLeftAtHalt : (failing : Event) (mid new : MirrorView) (between : Requests)
    → HaltsAt mid between failing new → List Disk → Type 0
IsLeftAtHalt failing mid new between h left =
    IsLeftSince mid.disks new.disks left × IsLeftByHalt failing mid new between h left

module _ (requests : Requests) (none : AreNone requests) (left : List Disk) where
  -- While devices are only read a crash leaves what stands there.
  abbrev pub CrashesInCall : (c : SessionCall) (old new : MirrorView) → DoesCall c old new → Type 0
  CrashesInCall SessionCall.Reading old new d = contents_of left ≡ contents_of old.disks
  CrashesInCall (SessionCall.Writing w) old new d =
      CrashesAmong (events_of_write d.request d.events) old requests new requests
      (d.happens None requests (none_there requests none old.array)).done left
  CrashesInCall SessionCall.Clearing old new d =
      CrashesAmong d.events old requests new requests
      (d.leads None requests (none_there requests none old.array)) left

  abbrev pub CrashesInCalls : (cs : List SessionCall) (old new : MirrorView) → DoesCalls old cs new → Type 0
  CrashesInCalls [] old new d = ⊥
  CrashesInCalls (c ∷ cs) old new d =
      CrashesInCall c old d.0 d.1
      ⊎ (CallLeftWhole requests none c old d.0 d.1 × CrashesInCalls cs d.0 new d.2)

  -- All events of the calls before it, and the first of those of the call within which the crash came.
  abbrev pub WentInCalls : (cs : List SessionCall) (old new : MirrorView) (d : DoesCalls old cs new)
      → CrashesInCalls cs old new d → List Event → Type 0
  WentInCalls [] old new d stop = λ events. ⊥
  WentInCalls (c ∷ cs) old new d (inl here) = AreFirstOf (call_events c old d.0 d.1)
  WentInCalls (c ∷ cs) old new d (inr later) =
      WentBehind (call_events c old d.0 d.1) (WentInCalls cs d.0 new d.2 later.1)

  -- The crash came within the call that halted the mirror, or after it.
  abbrev pub CrashesAtHalt : (old new : MirrorView) → HaltsInCall old new → Type 0
  CrashesAtHalt old new (inl h) =
      CrashesHalting (begun_events h.1) old requests h.1.mid (among h.1.last requests)
      (h.1.happens None requests (none_there requests none old.array)) left
      (IsLeftAtHalt h.1.failing h.1.mid new (among h.1.last requests) (h.1.halts requests) left)
  CrashesAtHalt old new (inr h) =
      CrashesHalting h.goes.events old requests h.halts.mid requests
      (h.goes.leads None requests (none_there requests none old.array)) left
      (IsLeftAtHalt h.halts.failing h.halts.mid new requests (h.halts.halts requests) left)

  -- The first of its events; and where the crash came within the write that failed then, or after it, all of them and what stands in place of
  -- that write too.
  abbrev pub WentAtHalt : (old new : MirrorView) (h : HaltsInCall old new) → CrashesAtHalt old new h
      → List Event → Type 0
  WentAtHalt old new (inl h) (inl among_events) = AreFirstOf (begun_events h.1)
  WentAtHalt old new (inl h) (inr since) = AreFirstOrInstead (begun_events h.1) h.1.failing
  WentAtHalt old new (inr h) (inl among_events) = AreFirstOf h.goes.events
  WentAtHalt old new (inr h) (inr since) = AreFirstOrInstead h.goes.events h.halts.failing

-- No write of these calls touches the sector.
abbrev pub IsClearOf : List SessionCall → ℕ → Type 0
IsClearOf [] s = Unit {0}
IsClearOf (SessionCall.Reading ∷ cs) s = IsClearOf cs s
IsClearOf (SessionCall.Writing w ∷ cs) s = (touches (request_with w) s ≡ false) × IsClearOf cs s
IsClearOf (SessionCall.Clearing ∷ cs) s = IsClearOf cs s

abbrev pub IsClearOfHalt : (old new : MirrorView) → HaltsInCall old new → ℕ → Type 0
IsClearOfHalt old new (inl h) s = touches (request_with h.0) s ≡ false
IsClearOfHalt old new (inr h) s = Unit {0}

-- ---- in the life of a mirror
-- A statement holds at each moment of each life, of the content that it has there.
abbrev pub AtOpenedMoments : (MirrorView → Moment → Content → Type 0) → Type 0
AtOpenedMoments Holding =
    (before : List Disk) (m : MirrorView) (a : Content) → IsStart before m
    → Holds (geometry_of m.array) a (world_of m none_in_flight)
    → (es : List Event) (rest : List (List Event)) (final : MirrorView) (t : Moment) (b : Content)
    → MirrorLifeWith m a es rest final t b → Holding final t b

-- By these events the life goes on to a moment of the other mirror, with the same requests in flight, and its content is that one
-- then.
pub record GoesAlong (es : List Event) (t : Moment) (a : Content) (new : MirrorView) (b : Content)
    : Type 0 where
  pub past : Moment
  pub run : MirrorRunWith t a es (record past { mirror = new; requests = t.requests }) b

-- By events that went so far the life goes on to a moment at which a crash leaves these devices. Its content there is the same in each
-- of these sectors, and no request in flight touches them.
pub record CrashesAlong (WentSo : List Event → Type 0) (t : Moment) (a : Content) (left : List Disk)
    (IsAside : ℕ → Type 0) : Type 0 where
  pub events : List Event
  pub went : WentSo events
  pub at : Moment
  pub content : Content
  pub run : MirrorRunWith t a events at content
  pub is_left : IsLeftByCrash at left
  pub resynced : t.mirror.array.resynced ≡ true → at.mirror.array.resynced ≡ true
  pub same : (s : ℕ) → IsAside s → content s ≡ a s
  pub quiet : (s : ℕ) → IsAside s → IsQuiet (world_of at.mirror at.requests) s
