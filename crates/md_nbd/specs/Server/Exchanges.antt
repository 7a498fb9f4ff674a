-- Requests that are answered, one after another.
use Rattle.std.specs.Prelude.{◌≡◌, ◌⊎◌, ℕ, ◌+◌, ◌*◌, Bool, true, false, Option, None, Some, List, [], ◌∷◌, ◌++◌, length, if◌then◌else◌}
use Rattle.md_nbd.specs.declared.export.Export.{Export}
use Rattle.md_nbd.specs.declared.reply.ErrorCode.{ErrorCode}
use Rattle.md_nbd.specs.declared.reply.ErrorCode.TheVariants.{Io}
use Rattle.md_nbd.specs.declared.request.Request.{Request}
use Rattle.md_nbd.specs.declared.task.Task.{Task}
use Rattle.md_nbd.specs.declared.task.Task.TheVariants.{Read, Write, Flush, Disconnect, Refuse}
use Rattle.md_nbd.specs.Export.{sector_bytes}
use Rattle.md_nbd.specs.NbdRequests.{payload_of, request_bytes}
use Rattle.md_nbd.specs.NbdTasks.{task_of}
use Rattle.md_nbd.specs.SimpleReplies.{error_reply, success_reply}
use Rattle.md_nbd.specs.declared.server.refusal.RequestFault.{RequestFault}
use Rattle.md_nbd.specs.declared.server.refusal.RequestFault.TheVariants.{Store}
use Rattle.md_nbd.specs.declared.server.store.StoreFault.{StoreFault}
use Rattle.md_nbd.specs.declared.server.store.Store.{Ghosts as Stores}
use Rattle.md_nbd.specs.Server.Refusals.{task_fault}

-- A request, the bytes that came with it, what it was answered, and why that is an error, where it is. Or a rest of the store, before a
-- request that came late: a flush for which no client asked, so that no byte came and nobody was told of it.
pub record Exchange : Type 0 where
  pub request : Request
  pub payload : List ℕ
  pub reply : List ℕ
  pub fault : Option RequestFault
  pub at_rest : Bool

abbrev pub exchange_bytes : Exchange → List ℕ
exchange_bytes x = if x.at_rest then [] else request_bytes x.request ++ x.payload

abbrev pub reply_of : Exchange → List ℕ
reply_of x = if x.at_rest then [] else x.reply

-- how many of them a client asked for
abbrev pub asked_count : List Exchange → ℕ
asked_count [] = 0
asked_count (x ∷ xs) = (if x.at_rest then 0 else 1) + asked_count xs

-- What a request is answered is an error where there is a fault, and no error where there is none.
abbrev pub AnswersFor : (RequestFault → Type 0) → ℕ → List ℕ → Option RequestFault → Type 0
AnswersFor is_why cookie reply None = (bytes : List ℕ) × (reply ≡ success_reply cookie ++ bytes)
AnswersFor is_why cookie reply (Some fault) = is_why fault × ((error : ErrorCode) × (reply ≡ error_reply error cookie))

-- The store was asked, and says why it is not done.
abbrev pub IsStoreFault : (StoreFault → Type 0) → RequestFault → Type 0
IsStoreFault is_why fault = (why : StoreFault) × (fault ≡ Store why) × is_why why

module _ {S M : Type 0} (s : Stores S M) where
  -- The bytes were read, as many as were asked for, and stand after the head of the reply.
  pub record RepliesWithBytes (old new : S × M) (sector sectors cookie : ℕ) (reply : List ℕ) : Type 0 where
    pub bytes : List ℕ
    pub whole : length bytes ≡ sector_bytes * sectors
    pub read : s.reads old new sector bytes
    pub told : reply ≡ success_reply cookie ++ bytes

  -- What a task asks for is done, and the reply says so. Or it is not, and the reply is an error and nothing else. A refusal
  -- changes nothing.
  abbrev pub DoesTask : Task → ℕ → List ℕ → S × M → S × M → List ℕ → Type 0
  DoesTask (Read sector sectors) cookie payload old new reply = RepliesWithBytes old new sector sectors cookie reply ⊎ (s.unread old new sector sectors × (reply ≡ error_reply Io cookie))
  DoesTask (Write sector sectors through) cookie payload old new reply = (s.writes old new sector payload through × (reply ≡ success_reply cookie)) ⊎ (s.unwritten old new sector payload × (reply ≡ error_reply Io cookie))
  DoesTask Flush cookie payload old new reply = (s.flushes old new × (reply ≡ success_reply cookie)) ⊎ (s.unflushed old new × (reply ≡ error_reply Io cookie))
  DoesTask Disconnect cookie payload old new reply = ⊥
  DoesTask (Refuse error) cookie payload old new reply = (new ≡ old) × (reply ≡ error_reply error cookie)

  -- Why a task is answered with an error: for what the store says, or for what is wrong with the request.
  abbrev pub IsWhyOf : Export → Request → Task → List ℕ → S × M → S × M → RequestFault → Type 0
  IsWhyOf e r (Read sector sectors) payload old new = IsStoreFault (s.why_unread old new sector sectors)
  IsWhyOf e r (Write sector sectors through) payload old new = IsStoreFault (s.why_unwritten old new sector payload)
  IsWhyOf e r Flush payload old new = IsStoreFault (s.why_unflushed old new)
  IsWhyOf e r Disconnect payload old new = λ fault. ⊥
  IsWhyOf e r (Refuse error) payload old new = λ fault. fault ≡ task_fault e r

  -- The store rested, or what was written does not surely stand.
  abbrev pub HasRested : S × M → S × M → Type 0
  HasRested old new = (s.flushes old new × s.rests old new) ⊎ s.unflushed old new

  -- A request came whole, and is answered as it asks; or it is a flush, by which the store rested.
  pub record AnswersRequest (e : Export) (old new : S × M) (x : Exchange) : Type 0 where
    pub payload : length x.payload ≡ payload_of x.request
    pub does : DoesTask (task_of e x.request) x.request.cookie x.payload old new x.reply
    pub rested : x.at_rest ≡ true → (task_of e x.request ≡ Flush) × HasRested old new
    pub why : x.at_rest ≡ false
        → AnswersFor (IsWhyOf e x.request (task_of e x.request) x.payload old new) x.request.cookie x.reply x.fault

  -- All of them, one after another.
  abbrev pub AnswersInTurn : Export → S × M → List Exchange → S × M → Type 0
  AnswersInTurn e old [] new = new ≡ old
  AnswersInTurn e old (x ∷ xs) new = (mid : S × M) × AnswersRequest e old mid x × AnswersInTurn e mid xs new
