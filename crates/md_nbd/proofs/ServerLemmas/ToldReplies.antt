-- Replies that are put out.
use Rattle.std.proofs.Common.{◌≡◌, ℕ, Bool, true, Option, Some, None, Result, Ok, Err, List, [], ◌++◌, ap, sym, ◌∙◌, append_assoc, refl, subst}
use Rattle.std.specs.Prelude.{MatchResult}
use Rattle.std.specs.Io.KnownBytes.{Appends}
use Rattle.std.proofs.lemmas.List.{append-nil}
use Rattle.md_nbd.specs.declared.task.Task.{Task}
use Rattle.md_nbd.specs.declared.task.Task.TheVariants.{Refuse}
use Rattle.md_nbd.specs.declared.export.Export.{Export}
use Rattle.md_nbd.specs.declared.reply.ErrorCode.{ErrorCode}
use Rattle.md_nbd.specs.declared.request.Request.{Request}
use Rattle.md_nbd.specs.declared.server.refusal.RefusedRequest.{RefusedRequest}
use Rattle.md_nbd.specs.declared.server.refusal.RequestFault.{RequestFault}
use Rattle.md_nbd.specs.declared.server.store.Store.{Ghosts as Stores}
use Rattle.md_streams.specs.declared.sink.Sink.{Ghosts as Sinks}
use Rattle.md_streams.specs.Putting.{PutsOut}
use Rattle.md_streams.specs.Sink.{Puts}
use Rattle.md_nbd.specs.NbdTasks.{task_of}
use Rattle.md_nbd.specs.Server.Exchanges.{IsWhyOf}
use Rattle.md_nbd.specs.Server.Refusals.{task_fault}
use Rattle.md_nbd.specs.Server.Told.{AnswersTask, FailsToTell, TellsTask, TellsTaskOrFails}

appends_both : (a b c : Option (List ℕ)) (xs ys : List ℕ) → Appends a b xs → Appends b c ys → Appends a c (xs ++ ys)
appends_both None b c xs ys h k = tt
appends_both (Some u) None c xs ys h k = absurd h
appends_both (Some u) (Some v) None xs ys h k = absurd k
appends_both (Some u) (Some v) (Some w) xs ys h k = k ∙ ap (λ (t : List ℕ). t ++ ys) h ∙ append_assoc u xs ys

pub puts_both : {O : Type 0} (contents : O → Option (List ℕ)) (failed : O → Bool) (old mid new : O) (xs ys : List ℕ) → Puts contents failed old mid xs → Puts contents failed mid new ys → Puts contents failed old new (xs ++ ys)
puts_both contents failed old mid new xs ys g h = record { appends = appends_both (contents old) (contents mid) (contents new) xs ys g.appends h.appends; well = h.well ∙ g.well }

appends_none : (known : Option (List ℕ)) → Appends known known []
appends_none None = tt
appends_none (Some xs) = sym (append-nil xs)

-- nothing was put out
pub puts_nothing : {O : Type 0} (contents : O → Option (List ℕ)) (failed : O → Bool) (at : O) → Puts contents failed at at []
puts_nothing contents failed at = record { appends = appends_none (contents at); well = refl }

pub puts_as : {O : Type 0} (o : Sinks O) (old new : O) (xs ys : List ℕ) → xs ≡ ys → PutsOut o old new xs → PutsOut o old new ys
puts_as o old new xs ys e p = rw (← e) p

module _ {S M O : Type 0} (s : Stores S M) (o : Sinks O) (w : RefusedRequest → Type 0) where
  pub tells_as : {T E : Type 0} (task : Task) (r : Request) (payload : List ℕ) (is_why : RequestFault → Type 0) (old new : S × M) (was now : O) (xs reply : List ℕ) (result : Result T E) → xs ≡ reply
      → AnswersTask s o w task r payload is_why old new reply → MatchResult result (λ _. PutsOut o was now xs) (λ _. o.failed now ≡ true) → TellsTaskOrFails s o w task r payload is_why old new was now result
  tells_as task r payload is_why old new was now xs reply (Ok x) e d h = record { reply = reply; done = d; puts = puts_as o was now xs reply e h }
  tells_as task r payload is_why old new was now xs reply (Err x) e d h = record { reply = reply; done = d; failed = h }

  -- a request that is refused for itself
  module _ (e : Export) (r : Request) (error : ErrorCode) (why : RequestFault) (payload : List ℕ) (p : S × M) (is : Refuse error ≡ task_of e r) (same : why ≡ task_fault e r) where
    as_asked : (reply : List ℕ) → AnswersTask s o w (Refuse error) r [] (λ f. f ≡ why) p p reply → AnswersTask s o w (task_of e r) r payload (IsWhyOf s e r (task_of e r) payload p p) p p reply
    as_asked reply d =
        let as_found : AnswersTask s o w (Refuse error) r [] (λ f. f ≡ task_fault e r) p p reply = subst (λ (x : RequestFault). AnswersTask s o w (Refuse error) r [] (λ f. f ≡ x) p p reply) same d in
        subst (λ (t : Task). AnswersTask s o w t r payload (IsWhyOf s e r t payload p p) p p reply) is
        (record { fault = as_found.fault; does = as_found.does; answers = as_found.answers; told = as_found.told })

    pub tells_refused : (was now : O) → TellsTask s o w (Refuse error) r [] (λ f. f ≡ why) p p was now → TellsTask s o w (task_of e r) r payload (IsWhyOf s e r (task_of e r) payload p p) p p was now
    tells_refused was now h = record { reply = h.reply; done = as_asked h.reply h.done; puts = h.puts }

    pub fails_refused : (now : O) → FailsToTell s o w (Refuse error) r [] (λ f. f ≡ why) p p now → FailsToTell s o w (task_of e r) r payload (IsWhyOf s e r (task_of e r) payload p p) p p now
    fails_refused now h = record { reply = h.reply; done = as_asked h.reply h.done; failed = h.failed }
