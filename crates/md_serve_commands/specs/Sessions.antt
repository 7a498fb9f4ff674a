-- Whole sessions: what a client is told of without an error is what one array of sectors would tell, and it stands.
use Rattle.std.specs.Prelude.{◌≡◌, ◌⊎◌, ℕ, ◌+◌, ◌*◌, ◌%◌, ◌<◌, true, false, List, [], ◌∷◌, ◌++◌, length, Result}
use Rattle.std.proofs.Common.{inl, inr}
use Rattle.md_device.specs.Device.{held}
use Rattle.md_model.specs.Content.{BecomesAtOpening, Content, HoldsAtRest, IsGiven}
use Rattle.md_model.specs.Devices.{Covered}
use Rattle.md_model.specs.Events.{Event}
use Rattle.md_model.specs.Worlds.{IsInSync, touches}
use Rattle.md_state.specs.View.{Disk, MirrorView, geometry_of}
use Rattle.md_array.specs.InTurn.{Requests}
use Rattle.md_array.specs.Worlds.{none_in_flight, world_of}
use Rattle.md_laws.specs.Left.{contents_of}
use Rattle.md_laws.specs.Lives.{IsReopened}
use Rattle.md_laws.specs.Runs.{Moment}
use Rattle.md_resync.specs.Resyncing.{Resyncs}
use Rattle.md_streams.specs.declared.sink.Sink.{Ghosts as Sinks}
use Rattle.md_refusals.specs.declared.fault.CommandFault.{CommandFault}
use Rattle.md_streams.specs.declared.source.Source.{Ghosts as Sources}
use Rattle.md_streams.specs.Putting.{PutsOut}
use Rattle.md_nbd.specs.declared.export.Export.{Export}
use Rattle.md_nbd.specs.declared.reply.ErrorCode.TheVariants.{Io}
use Rattle.md_nbd.specs.declared.server.session.SessionEnd.{SessionEnd}
use Rattle.md_nbd.specs.declared.server.session.SessionEnd.TheVariants.{Gone}
use Rattle.md_nbd.specs.declared.server.session_fault.SessionFault.{SessionFault}
use Rattle.md_nbd.specs.declared.task.Task.{Task}
use Rattle.md_nbd.specs.declared.task.Task.TheVariants.{Disconnect, Flush, Read, Refuse, Write}
use Rattle.md_nbd.specs.Export.{sector_bytes}
use Rattle.md_nbd.specs.NbdTasks.{task_of}
use Rattle.md_nbd.specs.SimpleReplies.{error_reply, success_reply}
use Rattle.md_nbd.specs.Server.Exchanges.{AnswersInTurn, AnswersRequest, Exchange}
use Rattle.md_nbd.specs.Server.Sessions.{BreaksAtGreeting, BreaksAtOptions, EndsSession, GetsExport}
use Rattle.md_nbd.specs.Server.Transmission.{HasAnswered, IsUntold}
use Rattle.md_serve_commands.specs.declared.writer.ArrayWriter.{ArrayWriter}
use Rattle.md_serve_commands.specs.Waiting.{writer_store}
use Rattle.md_serve_commands.specs.Told.{IsForArray}
use Rattle.md_serve_commands.specs.Writable.{EndsServing, HasServed, writable_export}
use Rattle.md_serve_commands.specs.Calls.{AreNone, AtOpenedMoments, CallsLeftWhole, CrashesAlong, CrashesAtHalt, CrashesInCalls, GoesAlong, WentAtHalt, WentBehind, WentInCalls, calls_events, request_with, with_write}
use Rattle.md_serve_commands.specs.Serving.{EndsCalls, IsDoneByCalls, all_events, calls_of, done_events, late_calls, stop_calls}

-- ---- an array as its client sees it
-- The reply has no error, and shows this content in each of the sectors.
pub record ShowsSectors (sector sectors : ℕ) (a : Content) (x : Exchange) : Type 0 where
  pub bytes : List ℕ
  pub whole : length bytes ≡ sector_bytes * sectors
  pub told : x.reply ≡ success_reply x.request.cookie ++ bytes
  pub shown : (i : ℕ) → i < sectors → held bytes i 512 ≡ a (sector + i)

-- By the reply to a request the content goes from the one to the other. A read that is answered without an error shows it, a write
-- that is changes it, and an error changes nothing. When there is one is not said here.
abbrev pub AnswersAs : Task → Content → Exchange → Content → Type 0
AnswersAs (Read sector sectors) a x b =
    (ShowsSectors sector sectors a x ⊎ (x.reply ≡ error_reply Io x.request.cookie)) × (b ≡ a)
AnswersAs (Write sector sectors through) a x b =
    ((x.reply ≡ success_reply x.request.cookie) × (b ≡ with_write (sector, x.payload) a))
    ⊎ ((x.reply ≡ error_reply Io x.request.cookie) × (b ≡ a))
AnswersAs Flush a x b =
    ((x.reply ≡ success_reply x.request.cookie) ⊎ (x.reply ≡ error_reply Io x.request.cookie)) × (b ≡ a)
AnswersAs Disconnect a x b = ⊥
AnswersAs (Refuse error) a x b = (x.reply ≡ error_reply error x.request.cookie) × (b ≡ a)

-- All of them, one after another.
abbrev pub AnswersAllAs : Export → Content → List Exchange → Content → Type 0
AnswersAllAs e a [] b = b ≡ a
AnswersAllAs e a (x ∷ xs) b = (c : Content) × AnswersAs (task_of e x.request) a x c × AnswersAllAs e c xs b

-- a content with what waits
abbrev pub with_waiting : ArrayWriter → Content → Content
with_waiting w a = with_write (w.start, w.run.items) a

-- ---- what is asked of the devices
module _ (requests : Requests) (none : AreNone requests) where
  -- Each failed write of a superblock left the old one, the new one or none.
  abbrev pub ServedLeftWhole : (old new : MirrorView) → IsDoneByCalls old new → Type 0
  ServedLeftWhole old new by =
      CallsLeftWhole requests none by.first old by.between by.waited
      × CallsLeftWhole requests none by.asked by.between by.mid by.done

  abbrev pub AllServedWhole : (e : Export) (old : ArrayWriter × MirrorView) (xs : List Exchange)
      (new : ArrayWriter × MirrorView) → AnswersInTurn writer_store e old xs new → Type 0
  AllServedWhole e old [] new answers = Unit {0}
  AllServedWhole e old (x ∷ xs) new answers =
      ServedLeftWhole old.1 answers.0.1 (calls_of old answers.0 e x answers.1)
      × AllServedWhole e answers.0 xs new answers.2

-- The events of all that is done for these requests.
abbrev pub session_events : (e : Export) (old : ArrayWriter × MirrorView) (xs : List Exchange)
    (new : ArrayWriter × MirrorView) → AnswersInTurn writer_store e old xs new → List Event
session_events e old [] new answers = []
session_events e old (x ∷ xs) new answers =
    all_events old.1 answers.0.1 (calls_of old answers.0 e x answers.1)
    ++ session_events e answers.0 xs new answers.2

-- ---- what is told of is what the array holds
-- Write intent: wherever two members in sync differ, in a sector that neither lists, each of them has the mark.
abbrev pub IsCoveredBetween : MirrorView → Requests → Type 0
IsCoveredBetween v requests =
    Covered (geometry_of v.array) (world_of v requests).stored (IsInSync (world_of v requests))

-- By the session's events, and no others, the mirror's life goes on to where the session has come to, and its content there is what the
-- client was told of, but for what waits. Each member in sync holds it in each sector that it does not list.
pub record HoldsTold (es : List Event) (t : Moment) (a : Content) (last : ArrayWriter × MirrorView)
    (told : Content) : Type 0 where
  pub content : Content
  pub goes : GoesAlong es t a last.1 content
  pub held : HoldsAtRest (geometry_of last.1.array) content (world_of last.1 t.requests)
  pub covered : IsCoveredBetween last.1 t.requests
  pub resynced : t.mirror.array.resynced ≡ true → last.1.array.resynced ≡ true
  pub waits : told ≡ with_waiting last.0 content
  pub flushed : last.0.run.items ≡ [] → told ≡ content

-- Each of these requests that asks for something that the array would have to do was answered with an error.
abbrev pub AreRefused : Export → List Exchange → Type 0
AreRefused e [] = Unit {0}
AreRefused e (x ∷ xs) =
    (IsForArray (task_of e x.request) → x.reply ≡ error_reply Io x.request.cookie) × AreRefused e xs

module _ (t : Moment) (a : Content) (e : Export) (first : ArrayWriter) (xs : List Exchange)
    (last : ArrayWriter × MirrorView) where
  -- One of the requests halted the mirror, and nothing was done after it. It and all after it were refused. Up to it the mirror ran, and held
  -- what the client was told of, which no later answer changes.
  pub record HaltsInSession (told : Content) : Type 0 where
    pub before : List Exchange
    pub failing : Exchange
    pub after : List Exchange
    pub order : xs ≡ before ++ failing ∷ after
    pub at : ArrayWriter × MirrorView
    pub ran : AnswersInTurn writer_store e (first, t.mirror) before at
    pub running : at.1.array.halted ≡ false
    pub holds : HoldsTold (session_events e (first, t.mirror) before at ran) t a at told
    pub waits : ArrayWriter
    pub halts : AnswersRequest writer_store e at (waits, last.1) failing
    pub refused : AreRefused e (failing ∷ after)

  pub record TellsContent (answers : AnswersInTurn writer_store e (first, t.mirror) xs last) : Type 0 where
    pub told : Content
    pub answered : AnswersAllAs e (with_waiting first a) xs told
    pub holds : last.1.array.halted ≡ false
        → HoldsTold (session_events e (first, t.mirror) xs last answers) t a last told
    pub halts : t.mirror.array.halted ≡ false → last.1.array.halted ≡ true → HaltsInSession told

-- ---- a crash within a session
-- What is at the end of these requests: the session goes on, or it ends.
pub record SomeEnd (last : ArrayWriter × MirrorView) : Type 0 where
  pub told : Result (Unit {0}) CommandFault
  pub result : Result (Unit {0}) CommandFault
  pub new : MirrorView
  pub ends : EndsServing last.0 last.1 new told result

abbrev pub MayEnd : ArrayWriter × MirrorView → Type 0
MayEnd last = Unit {0} ⊎ SomeEnd last

abbrev pub late_of : (last : ArrayWriter × MirrorView) (end : SomeEnd last)
    → IsDoneByCalls last.1 end.ends.written
late_of last end = late_calls last.0 last.1 end.new end.told end.result end.ends

abbrev pub stop_of : (last : ArrayWriter × MirrorView) (end : SomeEnd last)
    → IsDoneByCalls end.ends.written end.new
stop_of last end = stop_calls last.0 last.1 end.new end.told end.result end.ends

module _ (requests : Requests) (none : AreNone requests) (left : List Disk) where
  abbrev pub CrashesAtEnd : (mid new : MirrorView) → EndsCalls mid new → Type 0
  CrashesAtEnd mid new (inl same) = ⊥
  CrashesAtEnd mid new (inr h) = CrashesAtHalt requests none left mid new h

  -- The crash came within what was done for a request, or since a write failed then that halted the mirror.
  abbrev pub CrashesServing : (old new : MirrorView) → IsDoneByCalls old new → Type 0
  CrashesServing old new by =
      CrashesInCalls requests none left by.first old by.between by.waited
      ⊎ (CallsLeftWhole requests none by.first old by.between by.waited
      × (CrashesInCalls requests none left by.asked by.between by.mid by.done
      ⊎ (CallsLeftWhole requests none by.asked by.between by.mid by.done × CrashesAtEnd by.mid new by.ends)))

  -- It came so, or later, and the mirror is not halted by what was done.
  abbrev pub CrashesHereOrLater : (old new : MirrorView) → IsDoneByCalls old new → Type 0 → Type 0
  CrashesHereOrLater old new by Later =
      CrashesServing old new by
      ⊎ (ServedLeftWhole requests none old new by × (new.array.halted ≡ false) × Later)

  -- It came while nothing was done.
  abbrev pub IsLeftBy : MirrorView → Type 0
  IsLeftBy v = contents_of left ≡ contents_of v.disks

  -- It came after the last of the requests and before any other; or as the session ended, or after that.
  abbrev pub CrashesThen : (last : ArrayWriter × MirrorView) → MayEnd last → Type 0
  CrashesThen last (inl goes_on) = IsLeftBy last.1
  CrashesThen last (inr end) =
      CrashesHereOrLater last.1 end.ends.written (late_of last end)
      (CrashesHereOrLater end.ends.written end.new (stop_of last end) (IsLeftBy end.new))

  -- It came while one of these requests was done, or since one halted the mirror, or then.
  abbrev pub CrashesInSession : (e : Export) (old : ArrayWriter × MirrorView) (xs : List Exchange)
      (new : ArrayWriter × MirrorView) → AnswersInTurn writer_store e old xs new → Type 0 → Type 0
  CrashesInSession e old [] new answers Then = Then
  CrashesInSession e old (x ∷ xs) new answers Then =
      CrashesHereOrLater old.1 answers.0.1 (calls_of old answers.0 e x answers.1)
      (CrashesInSession e answers.0 xs new answers.2 Then)

  -- ---- the events up to that crash
  abbrev pub WentAtEnd : (mid new : MirrorView) (ends : EndsCalls mid new) → CrashesAtEnd mid new ends
      → List Event → Type 0
  WentAtEnd mid new (inl same) stop = λ events. ⊥
  WentAtEnd mid new (inr h) stop = WentAtHalt requests none left mid new h stop

  -- All that was done for the request before the call within which the crash came, and the first events of that call.
  abbrev pub WentServing : (old new : MirrorView) (by : IsDoneByCalls old new) → CrashesServing old new by
      → List Event → Type 0
  WentServing old new by (inl stop) = WentInCalls requests none left by.first old by.between by.waited stop
  WentServing old new by (inr (whole, inl stop)) =
      WentBehind (calls_events by.first old by.between by.waited)
      (WentInCalls requests none left by.asked by.between by.mid by.done stop)
  WentServing old new by (inr (whole, inr stop)) =
      WentBehind (done_events old new by) (WentAtEnd by.mid new by.ends stop.1)

  -- Such events; or all that was done, and then such as go up to the later crash.
  abbrev pub WentHereOrLater : (old new : MirrorView) (by : IsDoneByCalls old new) (Later : Type 0)
      → (Later → List Event → Type 0) → CrashesHereOrLater old new by Later → List Event → Type 0
  WentHereOrLater old new by Later Went (inl stop) = WentServing old new by stop
  WentHereOrLater old new by Later Went (inr later) = WentBehind (all_events old new by) (Went later.2)

  abbrev pub WentNoFurther : (v : MirrorView) → IsLeftBy v → List Event → Type 0
  WentNoFurther v same events = events ≡ []

  abbrev pub WentThen : (last : ArrayWriter × MirrorView) (end : MayEnd last) → CrashesThen last end
      → List Event → Type 0
  WentThen last (inl goes_on) = WentNoFurther last.1
  WentThen last (inr end) =
      WentHereOrLater last.1 end.ends.written (late_of last end)
      (CrashesHereOrLater end.ends.written end.new (stop_of last end) (IsLeftBy end.new))
      (WentHereOrLater end.ends.written end.new (stop_of last end) (IsLeftBy end.new) (WentNoFurther end.new))

  -- All events of the requests before that one, or of all requests, and such events then.
  abbrev pub WentInSession : (e : Export) (old : ArrayWriter × MirrorView) (xs : List Exchange)
      (new : ArrayWriter × MirrorView) (answers : AnswersInTurn writer_store e old xs new) (Then : Type 0)
      → (Then → List Event → Type 0) → CrashesInSession e old xs new answers Then → List Event → Type 0
  WentInSession e old [] new answers Then Went = Went
  WentInSession e old (x ∷ xs) new answers Then Went =
      WentHereOrLater old.1 answers.0.1 (calls_of old answers.0 e x answers.1)
      (CrashesInSession e answers.0 xs new answers.2 Then)
      (WentInSession e answers.0 xs new answers.2 Then Went)

  -- The events of these requests, and of the end, up to that very crash.
  abbrev pub WentUpTo : (e : Export) (old : ArrayWriter × MirrorView) (xs : List Exchange)
      (new : ArrayWriter × MirrorView) (answers : AnswersInTurn writer_store e old xs new) (end : MayEnd new)
      → CrashesInSession e old xs new answers (CrashesThen new end) → List Event → Type 0
  WentUpTo e old xs new answers end =
      WentInSession e old xs new answers (CrashesThen new end) (WentThen new end)

-- ---- sectors beside what is written
-- The request writes nothing in the sector.
abbrev pub LeavesSector : Task → List ℕ → ℕ → Type 0
LeavesSector (Read sector sectors) payload s = Unit {0}
LeavesSector (Write sector sectors through) payload s = touches (request_with (sector, payload)) s ≡ false
LeavesSector Flush payload s = Unit {0}
LeavesSector Disconnect payload s = Unit {0}
LeavesSector (Refuse error) payload s = Unit {0}

abbrev pub AllLeaveSector : Export → List Exchange → ℕ → Type 0
AllLeaveSector e [] s = Unit {0}
AllLeaveSector e (x ∷ xs) s = LeavesSector (task_of e x.request) x.payload s × AllLeaveSector e xs s

-- What waits has no byte of the sector.
abbrev pub WaitsBeside : ArrayWriter → ℕ → Type 0
WaitsBeside w s = touches (request_with (w.start, w.run.items)) s ≡ false

-- What waits is whole sectors, as a writer's does that is new (`IsFreshWriter`), and one that a client was served with (`ServesAndStops`).
abbrev pub WaitsWhole : ArrayWriter → Type 0
WaitsWhole w = length w.run.items % 512 ≡ 0

abbrev pub IsUnwritten : Export → ArrayWriter → List Exchange → ℕ → Type 0
IsUnwritten e first xs s = WaitsBeside first s × AllLeaveSector e xs s

-- The crash is one in the life of the mirror, which came to it by the events of the session up to it, and of a write of marks that halted
-- it; and at that moment write intent holds. Of whatever devices the next opening is made (`IsReopened`), each of its members in sync holds
-- the content from before in these sectors, unless it lists the sector; and so does each after a resync. It is the content still.
pub record StandsAtCrash (final : MirrorView) (WentSo : List Event → Type 0) (t : Moment) (a : Content)
    (left : List Disk) (IsAside : ℕ → Type 0) : Type 0 where
  pub crash : CrashesAlong WentSo t a left IsAside
  pub covered : IsCoveredBetween crash.at.mirror crash.at.requests
  pub given : (next : MirrorView) → IsReopened final crash.at next → (s : ℕ) → s < t.mirror.array.chunks.size
      → IsAside s → IsGiven (world_of next none_in_flight) a s
  pub resynced : (next : MirrorView) → IsReopened final crash.at next → (new : MirrorView) → Resyncs next new
      → (s : ℕ) → s < t.mirror.array.chunks.size → IsAside s → IsGiven (world_of new none_in_flight) a s
  pub content : (next : MirrorView) → IsReopened final crash.at next → (b : Content)
      → BecomesAtOpening (geometry_of next.array) (world_of next none_in_flight) crash.content b
      → (s : ℕ) → s < t.mirror.array.chunks.size → IsAside s → b s ≡ a s

-- ---- all of it
module _ (final : MirrorView) (t : Moment) (a : Content) (e : Export) (first : ArrayWriter)
    (xs : List Exchange) (last : ArrayWriter × MirrorView) where
  -- Where the writes of superblocks that failed were whole, the client was told of the content. And where a crash came, all stands in each
  -- sector that neither these requests nor what waited before them write.
  pub record TellsInSession (none : AreNone t.requests)
      (answers : AnswersInTurn writer_store e (first, t.mirror) xs last) : Type 0 where
    pub tells : AllServedWhole t.requests none e (first, t.mirror) xs last answers
        → TellsContent t a e first xs last answers
    pub stands : t.mirror.array.resynced ≡ true → WaitsWhole first → (end : MayEnd last) (left : List Disk)
        (stop : CrashesInSession t.requests none left e (first, t.mirror) xs last answers
        (CrashesThen t.requests none left last end))
        → StandsAtCrash final (WentUpTo t.requests none left e (first, t.mirror) xs last answers end stop) t a
        left (IsUnwritten e first xs)

-- At any moment of a life at which nothing is in flight, a session goes on with the life, whatever comes of it, and however far it
-- has come: the client is told what an array with this content would tell, and what it was told of before stands at a crash.
abbrev pub SessionsTellContent : Type 0
SessionsTellContent =
    AtOpenedMoments (λ final t a.
    ((none : AreNone t.requests) (e : Export) (first : ArrayWriter) (xs : List Exchange)
    (last : ArrayWriter × MirrorView) (answers : AnswersInTurn writer_store e (first, t.mirror) xs last)
    → TellsInSession final t a e first xs last none answers))

-- ---- a flush, and a crash after it
-- By the request all that was told of is to stand: it is a flush, or a write that asks for it (FUA).
abbrev pub IsToStand : Task → Type 0
IsToStand (Read sector sectors) = ⊥
IsToStand (Write sector sectors through) = through ≡ true
IsToStand Flush = Unit {0}
IsToStand Disconnect = ⊥
IsToStand (Refuse error) = ⊥

-- The last of these requests is such a one, and was answered without an error.
abbrev pub EndsStanding : Export → List Exchange → Type 0
EndsStanding e [] = ⊥
EndsStanding e (x ∷ []) = IsToStand (task_of e x.request) × (x.reply ≡ success_reply x.request.cookie)
EndsStanding e (x ∷ y ∷ xs) = EndsStanding e (y ∷ xs)

module _ (final : MirrorView) (t : Moment) (a : Content) (e : Export) (first : ArrayWriter)
    (xs : List Exchange) (mid : ArrayWriter × MirrorView)
    (answers : AnswersInTurn writer_store e (first, t.mirror) xs mid) where
  -- Up to there the client was told of this content, which the array holds then, and which stands at the crash, in each sector of these.
  pub record StandsAfterFlush (WentSo : List Event → Type 0) (left : List Disk) (IsAside : ℕ → Type 0)
      : Type 0 where
    pub told : Content
    pub answered : AnswersAllAs e (with_waiting first a) xs told
    pub goes : GoesAlong (session_events e (first, t.mirror) xs mid answers) t a mid.1 told
    pub stands : StandsAtCrash final WentSo (record goes.past { mirror = mid.1; requests = t.requests }) told
        left IsAside

-- Requests came, of which the last is a flush that was answered without an error. More came then, and perhaps the end, and a crash.
abbrev pub FlushedStands : Type 0
FlushedStands =
    AtOpenedMoments (λ final t a.
    ((none : AreNone t.requests) → t.mirror.array.resynced ≡ true
    → (e : Export) (first : ArrayWriter) (xs : List Exchange) (mid : ArrayWriter × MirrorView)
    (answers : AnswersInTurn writer_store e (first, t.mirror) xs mid) → EndsStanding e xs
    → AllServedWhole t.requests none e (first, t.mirror) xs mid answers
    → (ys : List Exchange) (last : ArrayWriter × MirrorView) (more : AnswersInTurn writer_store e mid ys last)
    (end : MayEnd last) (left : List Disk)
    (stop : CrashesInSession t.requests none left e mid ys last more
    (CrashesThen t.requests none left last end))
    → StandsAfterFlush final t a e first xs mid answers
    (WentUpTo t.requests none left e mid ys last more end stop) left (AllLeaveSector e ys)))

-- ---- whatever comes of a session
module _ {I S : Type 0} (i : Sources I) (o : Sinks S) (first last : ArrayWriter) (old new : MirrorView)
    (from to : I) (was now : S) where
  abbrev pub export_of_all : Export
  export_of_all = writable_export old.array

  -- Since the last reply no byte was put out, unless the output has failed.
  abbrev pub PutsNoMore : S → Type 0
  PutsNoMore before = (now ≡ before) ⊎ (PutsOut o before now [] ⊎ (o.failed now ≡ true))

  -- What there is behind the requests that were told of: nothing, or one more, of which nobody was told.
  abbrev pub EndsTelling : ArrayWriter × MirrorView → I → S → Type 0
  EndsTelling mid at before =
      (◌≡◌ {A = ArrayWriter × MirrorView} (last, new) mid × PutsNoMore before)
      ⊎ IsUntold writer_store i o export_of_all mid (last, new) at to now

  abbrev pub untold : (mid : ArrayWriter × MirrorView) (at : I) (before : S) → EndsTelling mid at before
      → List Exchange
  untold mid at before (inl h) = []
  untold mid at before (inr h) = h.last ∷ []

  -- The client got the export, and then the source gave these requests, which were done one after another, and the sink took their replies,
  -- in this order and no other byte. At most one more was done, of which the source gave all and the output failed. Nothing else was done,
  -- but that the array rested between them.
  pub record HasExchanged : Type 0 where
    pub ready : I
    pub greeted : S
    pub agrees : GetsExport i o export_of_all from ready was greeted
    pub told : List Exchange
    pub mid : ArrayWriter × MirrorView
    pub at : I
    pub before : S
    pub answered : HasAnswered writer_store i o export_of_all told (first, old) mid ready at greeted before
    pub ends : EndsTelling mid at before
    pub all : AnswersInTurn writer_store export_of_all (first, old) (told ++ untold mid at before ends)
        (last, new)

  -- It ended before a request was taken: the client did not get the export, or a stream failed, or memory.
  abbrev pub EndsBeforeRequests : SessionEnd → Type 0
  EndsBeforeRequests (Gone why) = ⊥
  EndsBeforeRequests end =
      (told : S) × PutsNoMore told
      × EndsSession writer_store i o export_of_all (first, old) (last, new) from to was told end

  abbrev pub BreaksBeforeRequests : SessionFault → Type 0
  BreaksBeforeRequests fault =
      BreaksAtGreeting writer_store i o export_of_all (first, old) (last, new) from to was now fault
      ⊎ BreaksAtOptions writer_store i o export_of_all (first, old) (last, new) from to was now fault

  -- Nothing was asked, and nothing was done.
  pub record IsUnasked : Type 0 where
    pub unchanged : ◌≡◌ {A = ArrayWriter × MirrorView} (last, new) (first, old)
    pub before : ((end : SessionEnd) × EndsBeforeRequests end)
        ⊎ ((fault : SessionFault) × BreaksBeforeRequests fault)

-- Whatever source and sink there are, and whatever is answered: where the source ends, in the midst of a request or between two, where
-- what comes is no request, and where a stream fails.
module _ {I S : Type 0} (i : Sources I) (o : Sinks S) where
  abbrev pub SessionsAreExchanges : Type 0
  SessionsAreExchanges =
      (first last : ArrayWriter) (old new : MirrorView) (from to : I) (was now : S)
      (result : Result (Unit {0}) CommandFault) → HasServed i o first last old new from to was now result
      → HasExchanged i o first last old new from to was now ⊎ IsUnasked i o first last old new from to was now
