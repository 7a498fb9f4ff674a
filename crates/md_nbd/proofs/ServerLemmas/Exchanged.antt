-- Requests, as they are taken and answered one after another.
use Rattle.std.proofs.Common.{◌≡◌, ℕ, Bool, ◌+◌, ◌-◌, ◌^◌, List, [], ◌∷◌, ◌++◌, length, take, refl, sym, ap, ◌∙◌, append_assoc, arith, inl, inr, true, false, true≢false, subst}
use Rattle.std.specs.Prelude.{if◌then◌else◌, Option, None}
use Rattle.std.specs.List.{flat_map, AllByRecursion}
use Rattle.std.proofs.lemmas.List.{append-nil, length-take-le}
use Rattle.md_nbd.specs.declared.export.Export.{Export}
use Rattle.md_nbd.specs.declared.request.Request.{Request}
use Rattle.md_nbd.specs.declared.reply.ErrorCode.TheVariants.{Io}
use Rattle.md_nbd.specs.declared.server.refusal.RefusedRequest.{RefusedRequest}
use Rattle.md_nbd.specs.declared.server.refusal.RequestFault.{RequestFault}
use Rattle.md_nbd.specs.declared.task.Task.{Task}
use Rattle.md_nbd.specs.declared.task.Task.TheVariants.{Disconnect, Flush}
use Rattle.md_nbd.specs.NbdRequests.{CMD_FLUSH, payload_of, request_bytes}
use Rattle.md_nbd.specs.NbdTasks.{task_of}
use Rattle.md_nbd.specs.SimpleReplies.{error_reply, success_reply}
use Rattle.md_nbd.specs.declared.server.store.Store.{Ghosts as Stores}
use Rattle.md_streams.specs.declared.source.Source.{Ghosts as Sources}
use Rattle.md_streams.specs.declared.sink.Sink.{Ghosts as Sinks}
use Rattle.md_nbd.specs.declared.server.transmission.Gone.{Gone}
use Rattle.md_nbd.specs.declared.server.transmission.Gone.TheVariants as gone
use Rattle.md_nbd.specs.declared.server.session_fault.SessionFault.{SessionFault}
use Rattle.md_nbd.specs.declared.server.session_fault.SessionFault.TheVariants as fault
use Rattle.md_nbd.specs.Server.Exchanges.{AnswersFor, AnswersInTurn, AnswersRequest, DoesTask, Exchange, HasRested, IsWhyOf, asked_count, exchange_bytes, reply_of}
use Rattle.md_nbd.specs.Server.RequestsTaken.{FailsToTake, GivesNone, TakesRequest}
use Rattle.md_nbd.specs.Server.Told.{AnswersTask, FailsToTell, IsAskedToGo, IsToldOfRefusal, IsToldOfRefusals, RestsIfSilent, TellsTask}
use Rattle.md_nbd.specs.Server.Transmission.{BreaksOff, BreaksOffTold, GivesDisconnect, HasAnswered, HasFailed, HasGone, IsToldOfLast, Transmits, TransmitsTold}
use Rattle.md_streams.proofs.Fronts.{gives_both}
use Rattle.md_nbd.proofs.ServerLemmas.Pieces.{gives_nothing}
use Rattle.md_nbd.proofs.ServerLemmas.ToldReplies.{puts_both, puts_nothing}

one_more : (f : Exchange → List ℕ) (xs : List Exchange) (x : Exchange) → flat_map f (xs ++ x ∷ []) ≡ flat_map f xs ++ f x
one_more f [] x = append-nil (f x)
one_more f (y ∷ xs) x = ap (λ (t : List ℕ). f y ++ t) (one_more f xs x) ∙ sym (append_assoc (f y) (flat_map f xs) (f x))

one_more_counted : (xs : List Exchange) (x : Exchange) → asked_count (xs ++ x ∷ []) ≡ asked_count xs + (if x.at_rest then 0 else 1)
one_more_counted [] x = omega arith
one_more_counted (y ∷ xs) x = omega (arith, one_more_counted xs x)

runs_on : {S M : Type 0} (s : Stores S M) (e : Export) (a b c : S × M) (xs : List Exchange) (x : Exchange) → AnswersInTurn s e a xs b → AnswersRequest s e b c x → AnswersInTurn s e a (xs ++ x ∷ []) c
runs_on s e a b c [] x h k = (c, rw (← h) k, refl)
runs_on s e a b c (y ∷ xs) x h k = (h.0, h.1, runs_on s e h.0 b c xs x h.2 k)

one_more_told : (P : Exchange → Type 0) (xs : List Exchange) (x : Exchange) → AllByRecursion P xs → P x → AllByRecursion P (xs ++ x ∷ [])
one_more_told P [] x h k = (k, tt)
one_more_told P (y ∷ xs) x h k = (h.0, one_more_told P xs x h.1 k)

pub record SoManyAnswered {S M I O : Type 0} (s : Stores S M) (i : Sources I) (o : Sinks O) (e : Export) (w : RefusedRequest → Type 0) (count : ℕ) (old new : S × M) (from to : I) (was now : O) : Type 0 where
  pub exchanges : List Exchange
  pub count_is : asked_count exchanges ≡ count
  pub answered : HasAnswered s i o e exchanges old new from to was now
  pub told : IsToldOfRefusals w exchanges

pub none_answered : {S M I O : Type 0} (s : Stores S M) (i : Sources I) (o : Sinks O) (e : Export) (w : RefusedRequest → Type 0) (old : S × M) (from : I) (was : O) → SoManyAnswered s i o e w 0 old old from from was was
none_answered s i o e w old from was = record {
  exchanges = [];
  count_is = refl;
  answered = record { gives = gives_nothing i.remaining i.failed from; puts = puts_nothing o.contents o.failed was; flushed = λ some. absurd (omega arith); runs = refl };
  told = tt;
}

abbrev pub exchange_of : Request → List ℕ → List ℕ → Option RequestFault → Exchange
exchange_of r buf reply fault = record { request = r; payload = take (payload_of r) buf; reply = reply; fault = fault; at_rest = false }

module _ {S M I O : Type 0} (s : Stores S M) (i : Sources I) (o : Sinks O) (e : Export) (w : RefusedRequest → Type 0) where
  -- What is done for a request, with the bytes that came with it, and answered.
  abbrev pub AnswersTaken : Request → List ℕ → S × M → S × M → List ℕ → Type 0
  AnswersTaken r buf mid new reply = AnswersTask s o w (task_of e r) r (take (payload_of r) buf) (IsWhyOf s e r (task_of e r) (take (payload_of r) buf) mid new) mid new reply

  abbrev pub TellsTaken : Request → List ℕ → S × M → S × M → O → O → Type 0
  TellsTaken r buf mid new was now = TellsTask s o w (task_of e r) r (take (payload_of r) buf) (IsWhyOf s e r (task_of e r) (take (payload_of r) buf) mid new) mid new was now

  request_answered : (mid new : S × M) (at to : I) (r : Request) (buf reply : List ℕ) → TakesRequest i at to buf r → (d : AnswersTaken r buf mid new reply)
      → AnswersRequest s e mid new (exchange_of r buf reply d.fault)
  request_answered mid new at to r buf reply t d = record { payload = length-take-le (payload_of r) buf t.room; does = d.does; rested = λ is. absurd (true≢false (sym is)); why = λ _. d.answers }

  pub one_more_answered : (count : ℕ) (old mid new : S × M) (from at to : I) (was amid now : O) (r : Request) (buf : List ℕ) → SoManyAnswered s i o e w count old mid from at was amid
      → TakesRequest i at to buf r → TellsTaken r buf mid new amid now → SoManyAnswered s i o e w (count + 1) old new from to was now
  one_more_answered count old mid new from at to was amid now r buf h t told =
      let x = exchange_of r buf told.reply told.done.fault in
      record {
        exchanges = h.exchanges ++ x ∷ [];
        count_is = omega (arith, h.count_is, one_more_counted h.exchanges x);
        answered = record {
          gives = rw (one_more exchange_bytes h.exchanges x) (gives_both i.remaining i.failed from at to (flat_map exchange_bytes h.exchanges) (exchange_bytes x) h.answered.gives t.gives);
          puts = rw (one_more reply_of h.exchanges x) (puts_both o.contents o.failed was amid now (flat_map reply_of h.exchanges) told.reply h.answered.puts told.puts.puts);
          flushed = λ some. told.puts.flushed;
          runs = runs_on s e old mid new h.exchanges x h.answered.runs (request_answered mid new at to r buf told.reply t told.done);
        };
        told = one_more_told (λ (y : Exchange). IsToldOfRefusal w y.request y.fault) h.exchanges x h.told told.done.told;
      }

-- ---- a rest
abbrev rest_of : List ℕ → Exchange
rest_of reply = record { request = record { flags = 0; kind = CMD_FLUSH; cookie = 0; offset = 0; length = 0 }; payload = []; reply = reply; fault = None; at_rest = true }

is_flush_of : (readonly : Bool) (size : ℕ) (reply : List ℕ) → task_of (record { size = size; readonly = readonly }) (rest_of reply).request ≡ Flush
is_flush_of true size reply = refl
is_flush_of false size reply = refl

is_flush : (e : Export) (reply : List ℕ) → task_of e (rest_of reply).request ≡ Flush
is_flush e reply = is_flush_of e.readonly e.size reply

module _ {S M I O : Type 0} (s : Stores S M) (i : Sources I) (o : Sinks O) (e : Export) (w : RefusedRequest → Type 0) (count : ℕ) (old mid new : S × M) (from at : I) (was amid : O) where
  one_more_rest : SoManyAnswered s i o e w count old mid from at was amid → (reply : List ℕ) → DoesTask s Flush 0 [] mid new reply → HasRested s mid new
      → SoManyAnswered s i o e w count old new from at was amid
  one_more_rest h reply does rested =
      let x = rest_of reply in
      let none : (f : Exchange → List ℕ) → f x ≡ [] → flat_map f (h.exchanges ++ x ∷ []) ≡ flat_map f h.exchanges =
      λ f is. one_more f h.exchanges x ∙ ap (λ (t : List ℕ). flat_map f h.exchanges ++ t) is ∙ append-nil (flat_map f h.exchanges) in
      let counted = one_more_counted h.exchanges x in
      record {
        exchanges = h.exchanges ++ x ∷ [];
        count_is = omega (arith, h.count_is, counted);
        answered = record {
          gives = rw (none exchange_bytes refl) h.answered.gives;
          puts = rw (none reply_of refl) h.answered.puts;
          flushed = λ some. h.answered.flushed (omega (arith, counted, some));
          runs = runs_on s e old mid new h.exchanges x h.answered.runs
              (record {
                payload = refl;
                does = subst (λ (t : Task). DoesTask s t 0 [] mid new reply) (sym (is_flush e reply)) does;
                rested = λ is. (is_flush e reply, rested);
                why = λ is. absurd (true≢false is);
              });
        };
        told = one_more_told (λ (y : Exchange). IsToldOfRefusal w y.request y.fault) h.exchanges x h.told tt;
      }

  -- The store rested, or the client was not silent for long.
  pub after_rest : (says_rested : Bool → Type 0) → SoManyAnswered s i o e w count old mid from at was amid → RestsIfSilent s says_rested mid new → SoManyAnswered s i o e w count old new from at was amid
  after_rest says_rested h (inl k) = rw k.1 h
  after_rest says_rested h (inr k) = by k.1
    where
      by : HasRested s mid new → SoManyAnswered s i o e w count old new from at was amid
      by (inl rests) = one_more_rest h (success_reply 0) (inl (rests.0, refl)) (inl rests)
      by (inr unflushed) = one_more_rest h (error_reply Io 0) (inr (unflushed, refl)) (inr unflushed)

-- ---- how it ends
gone_for : {I : Type 0} (i : Sources I) (e : Export) (count : ℕ) (at to : I) (why : Gone) → GivesNone i at to why → HasGone i e count at to why
gone_for i e count at to gone.Disconnected h = absurd h
gone_for i e count at to gone.Ended h = h
gone_for i e count at to gone.Cut h = h
gone_for i e count at to gone.NoRequest h = h
gone_for i e count at to gone.TooLong h = h
gone_for i e count at to gone.Exhausted h = absurd h

asked_to_go : {I : Type 0} (i : Sources I) (e : Export) (at to : I) (r : Request) (buf : List ℕ) → TakesRequest i at to buf r → task_of e r ≡ Disconnect → payload_of r ≡ 0 → GivesDisconnect i e at to
asked_to_go i e at to r buf t asked none =
    let empty : take (payload_of r) buf ≡ [] = ap (λ (n : ℕ). take n buf) none in
    let all : request_bytes r ++ take (payload_of r) buf ≡ request_bytes r = ap (λ (x : List ℕ). request_bytes r ++ x) empty ∙ append-nil (request_bytes r) in
    record { request = r; asked = asked; gives = rw (← all) t.gives }

module _ {S M I O : Type 0} (s : Stores S M) (i : Sources I) (o : Sinks O) (e : Export) (w : RefusedRequest → Type 0) where
  pub none_comes : (count : ℕ) (old mid : S × M) (from at to : I) (was amid : O) (why : Gone) → SoManyAnswered s i o e w count old mid from at was amid → GivesNone i at to why
      → TransmitsTold s i o e w old mid from to was amid why
  none_comes count old mid from at to was amid why h t =
      (record { exchanges = h.exchanges; at = at; answered = h.answered; gone = gone_for i e (asked_count h.exchanges) at to why t }, h.told)

  pub goes : (count : ℕ) (old mid new : S × M) (from at to : I) (was amid now : O) (r : Request) (buf : List ℕ) → SoManyAnswered s i o e w count old mid from at was amid → TakesRequest i at to buf r
      → IsAskedToGo s o w e r mid new amid now → TransmitsTold s i o e w old new from to was now gone.Disconnected
  goes count old mid new from at to was amid now r buf h t l =
      rw (l.store, l.sink) (record { exchanges = h.exchanges; at = at; answered = h.answered; gone = asked_to_go i e at to r buf t l.asked l.empty }, h.told)

  pub all_answered : (count : ℕ) (old mid : S × M) (from at : I) (was amid : O) → count ≡ 2 ^ 64 - 1 → SoManyAnswered s i o e w count old mid from at was amid → TransmitsTold s i o e w old mid from at was amid gone.Exhausted
  all_answered count old mid from at was amid full h = (record { exchanges = h.exchanges; at = at; answered = h.answered; gone = (h.count_is ∙ full, refl) }, h.told)

  not_taken : (mid : S × M) (at to : I) (amid : O) (why : SessionFault) → FailsToTake i to why → HasFailed s i o e mid mid at to amid amid why
  not_taken mid at to amid fault.Source h = (h, refl, refl)
  not_taken mid at to amid fault.NoMemory h = (refl, refl)
  not_taken mid at to amid fault.Sink h = absurd h

  none_last : (mid : S × M) (at to : I) (amid : O) (why : SessionFault) (h : FailsToTake i to why) → IsToldOfLast s i o e w mid mid at to amid amid why (not_taken mid at to amid why h)
  none_last mid at to amid fault.Source h = tt
  none_last mid at to amid fault.NoMemory h = tt
  none_last mid at to amid fault.Sink h = absurd h

  pub taking_failed : (count : ℕ) (old mid : S × M) (from at to : I) (was amid : O) (why : SessionFault) → SoManyAnswered s i o e w count old mid from at was amid → FailsToTake i to why
      → BreaksOffTold s i o e w old mid from to was amid why
  taking_failed count old mid from at to was amid why h failed =
      (record { exchanges = h.exchanges; mid = mid; at = at; before = amid; answered = h.answered; failed = not_taken mid at to amid why failed }, h.told, none_last mid at to amid why failed)

  pub sink_failed : (count : ℕ) (old mid new : S × M) (from at to : I) (was amid now : O) (r : Request) (buf : List ℕ) → SoManyAnswered s i o e w count old mid from at was amid → TakesRequest i at to buf r
      → FailsToTell s o w (task_of e r) r (take (payload_of r) buf) (IsWhyOf s e r (task_of e r) (take (payload_of r) buf) mid new) mid new now → BreaksOffTold s i o e w old new from to was now fault.Sink
  sink_failed count old mid new from at to was amid now r buf h t told = (
    record {
      exchanges = h.exchanges;
      mid = mid;
      at = at;
      before = amid;
      answered = h.answered;
      failed = record {
        last = exchange_of r buf told.reply told.done.fault;
        asked = refl;
        gives = t.gives;
        answers = request_answered s i o e w mid new at to r buf told.reply t told.done;
        failed = told.failed;
      };
    },
    h.told,
    told.done.told,
  )
