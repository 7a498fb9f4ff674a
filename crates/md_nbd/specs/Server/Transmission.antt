-- The requests of a session, from the first to the last (the NBD protocol, "Transmission").
use Rattle.std.specs.Prelude.{◌≡◌, ◌<◌, ℕ, ◌-◌, ◌^◌, true, false, List}
use Rattle.std.specs.List.{flat_map}
use Rattle.md_nbd.specs.declared.export.Export.{Export}
use Rattle.md_nbd.specs.declared.request.Request.{Request}
use Rattle.md_nbd.specs.declared.task.Task.TheVariants.{Disconnect}
use Rattle.md_nbd.specs.NbdRequests.{request_bytes}
use Rattle.md_nbd.specs.NbdTasks.{task_of}
use Rattle.md_nbd.specs.declared.server.store.Store.{Ghosts as Stores}
use Rattle.md_streams.specs.declared.source.Source.{Ghosts as Sources}
use Rattle.md_streams.specs.declared.sink.Sink.{Ghosts as Sinks}
use Rattle.md_nbd.specs.declared.server.transmission.Gone.{Gone}
use Rattle.md_nbd.specs.declared.server.transmission.Gone.TheVariants as gone
use Rattle.md_nbd.specs.declared.server.session_fault.SessionFault.{SessionFault}
use Rattle.md_nbd.specs.declared.server.session_fault.SessionFault.TheVariants as fault
use Rattle.md_streams.specs.Source.{Gives}
use Rattle.md_streams.specs.Sink.{Puts}
use Rattle.md_nbd.specs.Server.Exchanges.{AnswersInTurn, AnswersRequest, Exchange, asked_count, reply_of, exchange_bytes}
use Rattle.md_nbd.specs.Server.RequestsTaken.{EndsThere, EndsWithin, GivesNoRequest, GivesTooLong}
use Rattle.md_nbd.specs.Server.Told.{IsToldOfRefusal, IsToldOfRefusals}
use Rattle.md_nbd.specs.declared.server.refusal.RefusedRequest.{RefusedRequest}

-- The source gave these requests, the sink took their replies in this order and no other byte and holds none back, and the store is as
-- they left it, and as it rested between them.
pub record HasAnswered {S M I O : Type 0} (s : Stores S M) (i : Sources I) (o : Sinks O) (e : Export) (exchanges : List Exchange) (old new : S × M) (from to : I) (was now : O) : Type 0 where
  pub gives : Gives i.remaining i.failed from to (flat_map exchange_bytes exchanges)
  pub puts : Puts o.contents o.failed was now (flat_map reply_of exchanges)
  pub flushed : 0 < asked_count exchanges → o.is_flushed now
  pub runs : AnswersInTurn s e old exchanges new

-- A request came that asks the server to go.
pub record GivesDisconnect {I : Type 0} (i : Sources I) (e : Export) (at to : I) : Type 0 where
  pub request : Request
  pub asked : task_of e request ≡ Disconnect
  pub gives : Gives i.remaining i.failed at to (request_bytes request)

-- Why no request comes any more, after so many.
abbrev pub HasGone : {I : Type 0} → Sources I → Export → ℕ → I → I → Gone → Type 0
HasGone i e count at to gone.Disconnected = GivesDisconnect i e at to
HasGone i e count at to gone.Ended = EndsThere i at to
HasGone i e count at to gone.Cut = EndsWithin i at to
HasGone i e count at to gone.NoRequest = GivesNoRequest i at to
HasGone i e count at to gone.TooLong = GivesTooLong i at to
HasGone i e count at to gone.Exhausted = (count ≡ 2 ^ 64 - 1) × (to ≡ at)

-- Requests came and were answered, and then none came any more, for this reason.
pub record Transmits {S M I O : Type 0} (s : Stores S M) (i : Sources I) (o : Sinks O) (e : Export) (old new : S × M) (from to : I) (was now : O) (why : Gone) : Type 0 where
  pub exchanges : List Exchange
  pub at : I
  pub answered : HasAnswered s i o e exchanges old new from at was now
  pub gone : HasGone i e (asked_count exchanges) at to why

-- One more request was done, of which the reply was not put out, or not surely: nobody was told that it stands.
pub record IsUntold {S M I O : Type 0} (s : Stores S M) (i : Sources I) (o : Sinks O) (e : Export) (mid new : S × M) (at to : I) (now : O) : Type 0 where
  pub last : Exchange
  pub asked : last.at_rest ≡ false
  pub gives : Gives i.remaining i.failed at to (exchange_bytes last)
  pub answers : AnswersRequest s e mid new last
  pub failed : o.failed now ≡ true

-- The stream that is named has failed, or there is no memory for a request. Unless the sink has failed, nothing more was done.
abbrev pub HasFailed : {S M I O : Type 0} → Stores S M → Sources I → Sinks O → Export → S × M → S × M → I → I → O → O → SessionFault → Type 0
HasFailed s i o e mid new at to then now fault.Source = (i.failed to ≡ true) × (new ≡ mid) × (now ≡ then)
HasFailed s i o e mid new at to then now fault.NoMemory = (new ≡ mid) × (now ≡ then)
HasFailed s i o e mid new at to then now fault.Sink = IsUntold s i o e mid new at to now

-- Requests came and were answered, and then a stream failed, or memory.
pub record BreaksOff {S M I O : Type 0} (s : Stores S M) (i : Sources I) (o : Sinks O) (e : Export) (old new : S × M) (from to : I) (was now : O) (why : SessionFault) : Type 0 where
  pub exchanges : List Exchange
  pub mid : S × M
  pub at : I
  pub before : O
  pub answered : HasAnswered s i o e exchanges old mid from at was before
  pub failed : HasFailed s i o e mid new at to before now why

-- ---- who looks on
module _ {S M I O : Type 0} (s : Stores S M) (i : Sources I) (o : Sinks O) (e : Export) (has_refused : RefusedRequest → Type 0) where
  -- Requests came and were answered, and the watch was told of each that was refused.
  abbrev pub TransmitsTold : S × M → S × M → I → I → O → O → Gone → Type 0
  TransmitsTold old new from to was now why =
      (t : Transmits s i o e old new from to was now why) × IsToldOfRefusals has_refused t.exchanges

  -- Also of the last one, where its reply was not put out.
  abbrev pub IsToldOfLast : (mid new : S × M) (at to : I) (then now : O) (why : SessionFault) → HasFailed s i o e mid new at to then now why
      → Type 0
  IsToldOfLast mid new at to then now fault.Source h = Unit {0}
  IsToldOfLast mid new at to then now fault.NoMemory h = Unit {0}
  IsToldOfLast mid new at to then now fault.Sink h = IsToldOfRefusal has_refused h.last.request h.last.fault

  abbrev pub BreaksOffTold : S × M → S × M → I → I → O → O → SessionFault → Type 0
  BreaksOffTold old new from to was now why =
      (b : BreaksOff s i o e old new from to was now why) × IsToldOfRefusals has_refused b.exchanges
      × IsToldOfLast b.mid new b.at to b.before now why b.failed
