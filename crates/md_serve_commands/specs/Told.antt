-- What a client is told of is written or waits to be, and stands once a flush is told of; and once the mirror is halted it is told of
-- nothing more.
use Rattle.std.specs.Prelude.{◌≡◌, ◌⊎◌, ℕ, ◌+◌, ◌*◌, Bool, true, false, List, [], ◌∷◌, ◌++◌, Option, Result, Err}
use Rattle.std.specs.List.{flat_map}
use Rattle.md_model.specs.Events.{Event}
use Rattle.md_state.specs.Requests.{AreInFlight}
use Rattle.md_state.specs.View.{MirrorView}
use Rattle.md_array.specs.InTurn.{Requests}
use Rattle.md_laws.specs.ReadInTurn.{LeadsReading}
use Rattle.md_metadata.specs.declared.stop_fault.StopFault.TheVariants.{Halted}
use Rattle.md_refusals.specs.declared.fault.CommandFault.{CommandFault}
use Rattle.md_refusals.specs.declared.fault.CommandFault.TheVariants.{Stop}
use Rattle.md_nbd.specs.declared.export.Export.{Export}
use Rattle.md_nbd.specs.declared.task.Task.{Task}
use Rattle.md_nbd.specs.declared.task.Task.TheVariants.{Flush, Read, Write}
use Rattle.md_nbd.specs.declared.reply.ErrorCode.TheVariants.{Io}
use Rattle.md_nbd.specs.NbdTasks.{task_of}
use Rattle.md_nbd.specs.SimpleReplies.{error_reply, success_reply}
use Rattle.md_nbd.specs.Server.Exchanges.{AnswersInTurn, AnswersRequest, Exchange}
use Rattle.md_write.specs.Writing.{Writes}
use Rattle.md_serve_commands.specs.declared.writer.ArrayWriter.{ArrayWriter}
use Rattle.md_nbd.specs.Export.{sector_bytes}
use Rattle.md_serve_commands.specs.Waiting.{ClearsMarks, FailsToClear, FailsToGive, FailsToWrite, GivesSectors, writer_store}
use Rattle.md_serve_commands.specs.Writable.{EndsServing}

-- ---- the bytes of writes
-- bytes and their places in the array, from the first on
abbrev pub cells : ℕ → List ℕ → List (ℕ × ℕ)
cells at [] = []
cells at (b ∷ bs) = (at, b) ∷ cells (at + 1) bs

-- a write: from which sector on, and its bytes
abbrev pub ArrayWrite : Type 0
ArrayWrite = ℕ × List ℕ

abbrev pub cells_of : ArrayWrite → List (ℕ × ℕ)
cells_of w = cells (sector_bytes * w.0) w.1

abbrev pub waiting_cells : ArrayWriter → List (ℕ × ℕ)
waiting_cells w = cells (sector_bytes * w.start) w.run.items

-- These writes were done, one after another, and nothing else: each member in sync has their bytes.
abbrev pub WritesInTurn : MirrorView → List ArrayWrite → MirrorView → Type 0
WritesInTurn old [] new = new ≡ old
WritesInTurn old (w ∷ ws) new = (mid : MirrorView) × Writes w.0 w.1 old mid × WritesInTurn mid ws new

-- What waited, and then what a client is told of, was written, each byte in its turn and at its place, or waits.
pub record KeepsBytes (told : List (ℕ × ℕ)) (old new : ArrayWriter × MirrorView) (mid : MirrorView)
    : Type 0 where
  pub writes : List ArrayWrite
  pub done : WritesInTurn old.1 writes mid
  pub bytes : waiting_cells old.0 ++ told ≡ flat_map cells_of writes ++ waiting_cells new.0

-- A write that is answered without an error is done, or waits behind all that was told of before; one that is to stand is done, nothing
-- waits, and the mirror runs.
pub record IsWriteTold (sector : ℕ) (bytes : List ℕ) (through : Bool) (old new : ArrayWriter × MirrorView)
    : Type 0 where
  pub keeps : KeepsBytes (cells_of (sector, bytes)) old new new.1
  pub stands : through ≡ true → new.0.run.items ≡ []
  pub running : through ≡ true → new.1.array.halted ≡ false

abbrev pub ToldWritesAreKept : Type 0
ToldWritesAreKept =
    (e : Export) (old new : ArrayWriter × MirrorView) (x : Exchange) (sector sectors : ℕ) (through : Bool)
    → AnswersRequest writer_store e old new x → task_of e x.request ≡ Write sector sectors through
    → x.reply ≡ success_reply x.request.cookie
    → IsWriteTold sector x.payload through old new

-- Once a flush is answered without an error nothing waits: all that was told of is done, and after it nothing but that marks may be
-- cleared. The mirror runs.
pub record IsFlushTold (old new : ArrayWriter × MirrorView) : Type 0 where
  pub mid : MirrorView
  pub keeps : KeepsBytes [] old new mid
  pub none : new.0.run.items ≡ []
  pub marks : (new.1 ≡ mid) ⊎ ClearsMarks mid new.1
  pub running : new.1.array.halted ≡ false

abbrev pub ToldFlushesStand : Type 0
ToldFlushesStand =
    (e : Export) (old new : ArrayWriter × MirrorView) (x : Exchange)
    → AnswersRequest writer_store e old new x → task_of e x.request ≡ Flush
    → x.reply ≡ success_reply x.request.cookie
    → IsFlushTold old new

-- What a client is told of by the reply to a request: the bytes of a write that is answered without an error, and else of none.
abbrev pub AddsTold : Task → ℕ → List ℕ → List ℕ → List (ℕ × ℕ) → Type 0
AddsTold (Write sector sectors through) cookie payload reply told =
    ((reply ≡ success_reply cookie) × (told ≡ cells_of (sector, payload)))
    ⊎ ((reply ≡ error_reply Io cookie) × (told ≡ []))
AddsTold task cookie payload reply told = told ≡ []

module _ (old new : MirrorView) where
  -- What the request itself may do and not be told of as written: its sectors are read, or its write is refused, or marks are cleared.
  abbrev pub IsNoneButAsked : Task → List ℕ → Type 0
  IsNoneButAsked (Read sector sectors) payload =
      ((bytes : List ℕ) × GivesSectors old new sector bytes) ⊎ FailsToGive old new sector sectors
  IsNoneButAsked (Write sector sectors through) payload = (new ≡ old) ⊎ FailsToWrite old new sector payload
  IsNoneButAsked Flush payload = (new ≡ old) ⊎ ClearsMarks old new ⊎ FailsToClear old new
  IsNoneButAsked task payload = new ≡ old

  -- No write is done but one that is refused, of what waits or of what the request writes.
  abbrev pub WritesNothing : Task → List ℕ → ArrayWriter → Type 0
  WritesNothing task payload waiting =
      FailsToWrite old new waiting.start waiting.run.items ⊎ IsNoneButAsked task payload

-- By a request, whatever it is answered, no byte is lost that waits or is told of: it is written in its turn, or waits still. And no
-- other is written.
pub record DropsNothing (task : Task) (old new : ArrayWriter × MirrorView) (x : Exchange) : Type 0 where
  pub told : List (ℕ × ℕ)
  pub adds : AddsTold task x.request.cookie x.payload x.reply told
  pub mid : MirrorView
  pub keeps : KeepsBytes told old new mid
  pub ends : WritesNothing mid new.1 task x.payload old.0

abbrev pub NothingIsDropped : Type 0
NothingIsDropped =
    (e : Export) (old new : ArrayWriter × MirrorView) (x : Exchange) → AnswersRequest writer_store e old new x
    → DropsNothing (task_of e x.request) old new x

-- the request asks for something that the array would have to do
abbrev pub IsForArray : Task → Type 0
IsForArray (Read sector sectors) = Unit {0}
IsForArray (Write sector sectors through) = Unit {0}
IsForArray Flush = Unit {0}
IsForArray task = ⊥

-- Of a halted mirror every such request is an error, whatever comes, and nothing changes any more.
abbrev pub HaltsForGood : Type 0
HaltsForGood =
    (e : Export) (old new : ArrayWriter × MirrorView) (x : Exchange) → old.1.array.halted ≡ true
    → AnswersRequest writer_store e old new x
    → (new.1 ≡ old.1) × (IsForArray (task_of e x.request) → x.reply ≡ error_reply Io x.request.cookie)

abbrev pub HaltsSession : Type 0
HaltsSession =
    (e : Export) (old new : ArrayWriter × MirrorView) (xs : List Exchange) → old.1.array.halted ≡ true
    → AnswersInTurn writer_store e old xs new → new.1 ≡ old.1

-- At the end of a session nothing is done of a halted mirror either, and the command says that it is halted.
abbrev pub HaltsEnd : Type 0
HaltsEnd =
    (last : ArrayWriter) (old new : MirrorView) (told result : Result (Unit {0}) CommandFault)
    → old.array.halted ≡ true → EndsServing last old new told result
    → (new ≡ old) × (result ≡ Err (Stop Halted))

-- By these events the one mirror went over into the other, whatever requests are in flight, and devices were read between them.
pub record GoesByEvents (old new : MirrorView) : Type 0 where
  pub events : List Event
  pub leads : (previous : Option Event) (requests : Requests) → AreInFlight old.array requests
      → LeadsReading previous old requests events new requests
  pub entries : new.array.requests.entries ≡ old.array.requests.entries

-- All that is done for requests, one after another, is such a list, unless the mirror is halted at the end.
abbrev pub SessionsAreCalls : Type 0
SessionsAreCalls =
    (e : Export) (old new : ArrayWriter × MirrorView) (xs : List Exchange) → new.1.array.halted ≡ false
    → AnswersInTurn writer_store e old xs new → GoesByEvents old.1 new.1
