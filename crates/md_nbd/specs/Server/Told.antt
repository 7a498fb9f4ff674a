-- What a task asks for is done, and its reply put out; and who looks on is told of it where it is refused.
use Rattle.std.specs.Prelude.{◌≡◌, ◌⊎◌, ℕ, Bool, true, false, Option, IfSome, List, Result, MatchResult}
use Rattle.std.specs.List.{AllByRecursion}
use Rattle.md_nbd.specs.declared.export.Export.{Export}
use Rattle.md_nbd.specs.declared.request.Request.{Request}
use Rattle.md_nbd.specs.declared.task.Task.{Task}
use Rattle.md_nbd.specs.declared.task.Task.TheVariants.{Disconnect}
use Rattle.md_nbd.specs.declared.server.refusal.RequestFault.{RequestFault}
use Rattle.md_nbd.specs.declared.server.refusal.RefusedRequest.{RefusedRequest}
use Rattle.md_nbd.specs.NbdRequests.{payload_of}
use Rattle.md_nbd.specs.NbdTasks.{task_of}
use Rattle.md_nbd.specs.declared.server.store.Store.{Ghosts as Stores}
use Rattle.md_streams.specs.declared.sink.Sink.{Ghosts as Sinks}
use Rattle.md_streams.specs.Putting.{PutsOut}
use Rattle.md_nbd.specs.Server.Exchanges.{AnswersFor, DoesTask, Exchange, HasRested, IsWhyOf}
use Rattle.md_nbd.specs.Server.Refusals.{refused_for}

-- The watch was told of the request, and why it is refused, where it is.
abbrev pub IsToldOfRefusal : (RefusedRequest → Type 0) → Request → Option RequestFault → Type 0
IsToldOfRefusal has_refused r fault = IfSome fault (λ f. has_refused (refused_for r f))

-- The watch was told of each request among these that was refused.
abbrev pub IsToldOfRefusals : (RefusedRequest → Type 0) → List Exchange → Type 0
IsToldOfRefusals has_refused exchanges = AllByRecursion (λ x. IsToldOfRefusal has_refused x.request x.fault) exchanges

module _ {S M O : Type 0} (s : Stores S M) (o : Sinks O) (has_refused : RefusedRequest → Type 0) where
  -- The task is done, or refused for a fault that `is_why` says of it, of which the watch was told; and this is the reply.
  pub record AnswersTask (task : Task) (r : Request) (payload : List ℕ) (is_why : RequestFault → Type 0)
      (old new : S × M) (reply : List ℕ) : Type 0 where
    pub fault : Option RequestFault
    pub does : DoesTask s task r.cookie payload old new reply
    pub answers : AnswersFor is_why r.cookie reply fault
    pub told : IsToldOfRefusal has_refused r fault

  pub record TellsTask (task : Task) (r : Request) (payload : List ℕ) (is_why : RequestFault → Type 0)
      (old new : S × M) (was now : O) : Type 0 where
    pub reply : List ℕ
    pub done : AnswersTask task r payload is_why old new reply
    pub puts : PutsOut o was now reply

  -- The task is done or refused, but the sink failed.
  pub record FailsToTell (task : Task) (r : Request) (payload : List ℕ) (is_why : RequestFault → Type 0)
      (old new : S × M) (now : O) : Type 0 where
    pub reply : List ℕ
    pub done : AnswersTask task r payload is_why old new reply
    pub failed : o.failed now ≡ true

  abbrev pub TellsTaskOrFails : {T E : Type 0} → Task → Request → List ℕ → (RequestFault → Type 0) → S × M → S × M → O → O
      → Result T E → Type 0
  TellsTaskOrFails task r payload is_why old new was now result =
      MatchResult result (λ _. TellsTask task r payload is_why old new was now)
      (λ _. FailsToTell task r payload is_why old new now)

  -- The request asks the server to go, nothing came with it, and nothing is done for it.
  pub record IsAskedToGo (e : Export) (r : Request) (old new : S × M) (was now : O) : Type 0 where
    pub asked : task_of e r ≡ Disconnect
    pub empty : payload_of r ≡ 0
    pub store : new ≡ old
    pub sink : now ≡ was

  -- A request is answered, or it asks the server to go.
  abbrev pub AnswersOrGoes : Export → Request → List ℕ → S × M → S × M → O → O → Bool → Type 0
  AnswersOrGoes e r payload old new was now true =
      TellsTask (task_of e r) r payload (IsWhyOf s e r (task_of e r) payload old new) old new was now
  AnswersOrGoes e r payload old new was now false = IsAskedToGo e r old new was now

-- The watch was asked, and says that the client was not silent for long; or that it was, and the store rested, whatever came of it.
abbrev pub RestsIfSilent : {S M : Type 0} → Stores S M → (Bool → Type 0) → S × M → S × M → Type 0
RestsIfSilent s says_rested old new = (says_rested false × (new ≡ old)) ⊎ (says_rested true × HasRested s old new)
