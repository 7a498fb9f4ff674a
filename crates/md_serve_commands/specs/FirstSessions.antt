-- What the laws of sessions ask can be met: at a new array that is resynced, with a client that flushes.
use Rattle.std.specs.Prelude.{◌≡◌, true, false, None, List, [], ◌∷◌, length}
use Rattle.md_model.specs.Content.{Content, Holds}
use Rattle.md_model.specs.Events.{Event}
use Rattle.md_state.specs.View.{Disk, MirrorView, geometry_of}
use Rattle.md_array.specs.Open.Opened.{IsOpenedFrom}
use Rattle.md_array.specs.Worlds.{AreHonest, none_in_flight, world_of}
use Rattle.md_laws.specs.Fresh.{AreFresh}
use Rattle.md_laws.specs.Lives.{MirrorLifeWith}
use Rattle.md_laws.specs.Runs.{IsStart, Moment}
use Rattle.md_resync.specs.Resyncing.{Resyncs}
use Rattle.md_nbd.specs.declared.export.Export.{Export}
use Rattle.md_nbd.specs.declared.task.Task.TheVariants.{Flush}
use Rattle.md_nbd.specs.NbdRequests.{payload_of}
use Rattle.md_nbd.specs.NbdTasks.{task_of}
use Rattle.md_nbd.specs.SimpleReplies.{success_reply}
use Rattle.md_nbd.specs.Server.Exchanges.{AnswersInTurn, Exchange}
use Rattle.md_serve_commands.specs.declared.writer.ArrayWriter.{ArrayWriter}
use Rattle.md_serve_commands.specs.Waiting.{writer_store}
use Rattle.md_serve_commands.specs.Calls.{AreNone}
use Rattle.md_serve_commands.specs.Sessions.{AllServedWhole, EndsStanding}

-- A life that began with this opening has come to a mirror at which nothing is in flight, and its content there is this.
pub record HasComeTo (before : List Disk) (m new : MirrorView) : Type 0 where
  pub start : IsStart before m
  pub first : Content
  pub holds : Holds (geometry_of m.array) first (world_of m none_in_flight)
  pub events : List Event
  pub past : Moment
  pub content : Content
  pub life : MirrorLifeWith m first events [] m
      (record past { mirror = new; requests = none_in_flight }) content
  pub none : AreNone none_in_flight
  pub resynced : new.array.resynced ≡ true

-- The request is a flush, which came whole and was answered without an error, and not refused.
pub record IsFlushDone (e : Export) (x : Exchange) : Type 0 where
  pub asked : x.at_rest ≡ false
  pub flush : task_of e x.request ≡ Flush
  pub whole : length x.payload ≡ payload_of x.request
  pub told : x.reply ≡ success_reply x.request.cookie
  pub unrefused : x.fault ≡ None

-- Where nothing waits, a session may be such a request alone, after which all is to stand.
pub record MayBeFlushed (new : MirrorView) (none : AreNone none_in_flight) (e : Export) (w : ArrayWriter)
    (x : Exchange) : Type 0 where
  pub answers : AnswersInTurn writer_store e (w, new) (x ∷ []) (w, new)
  pub stands : EndsStanding e (x ∷ [])
  pub whole : AllServedWhole none_in_flight none e (w, new) (x ∷ []) (w, new) answers

pub record MayHaveSessions (before : List Disk) (m new : MirrorView) : Type 0 where
  pub comes : HasComeTo before m new
  pub running : new.array.halted ≡ false
  pub flushes : (e : Export) (w : ArrayWriter) (x : Exchange) → w.run.items ≡ [] → IsFlushDone e x
      → MayBeFlushed new comes.none e w x

-- Honest devices of a new array were opened, and the array was resynced.
abbrev pub SessionsMayBegin : Type 0
SessionsMayBegin =
    (before : List Disk) (m new : MirrorView) → AreHonest before → AreFresh before → IsOpenedFrom before m
    → Resyncs m new → MayHaveSessions before m new
