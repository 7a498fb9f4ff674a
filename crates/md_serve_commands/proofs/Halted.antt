-- Of a halted mirror nothing is done any more.
use Rattle.std.proofs.Common.{◌≡◌, ◌∙◌, inl, inr, ⊎_elim, ℕ, Bool, true, false, List, [], ◌∷◌, Result, Ok, Err, refl, sym, ap, arith, true≢false}
use Rattle.std.specs.Prelude.{MatchResult, slice_index_or}
use Rattle.md_faults.specs.declared.step_fault.BeginFault.{BeginFault}
use Rattle.md_faults.specs.declared.step_fault.BeginFault.TheVariants as begin
use Rattle.md_state.specs.View.{MirrorView}
use Rattle.md_metadata.specs.declared.stop_fault.StopFault.{StopFault}
use Rattle.md_metadata.specs.declared.stop_fault.StopFault.TheVariants as stop
use Rattle.md_metadata.specs.Stopping.{RefusesStop}
use Rattle.md_refusals.specs.declared.fault.CommandFault.{CommandFault}
use Rattle.md_refusals.specs.declared.fault.CommandFault.TheVariants.{Stop}
use Rattle.md_read.specs.declared.fault.UnreadFault.{UnreadFault}
use Rattle.md_read.specs.declared.fault.UnreadFault.TheVariants as unread
use Rattle.md_read.specs.Reading.{RefusesRead}
use Rattle.md_write.specs.Writing.{RefusesWrite}
use Rattle.md_nbd.specs.declared.export.Export.{Export}
use Rattle.md_nbd.specs.declared.reply.ErrorCode.TheVariants.{Io}
use Rattle.md_nbd.specs.declared.task.Task.{Task}
use Rattle.md_nbd.specs.declared.task.Task.TheVariants as task
use Rattle.md_nbd.specs.NbdTasks.{task_of}
use Rattle.md_nbd.specs.SimpleReplies.{error_reply, success_reply}
use Rattle.md_nbd.specs.Server.Exchanges.{AnswersInTurn, AnswersRequest, DoesTask, Exchange}
use Rattle.md_serve_commands.specs.declared.writer.ArrayWriter.{ArrayWriter}
use Rattle.md_serve_commands.specs.Waiting.{FailsToClear, FailsToFlush, FailsToRead, FailsWaiting, FailsToTake, ReadsBehind, RefusesWaiting, WritesWaiting, TakesWrite, writer_store}
use Rattle.md_serve_commands.specs.Writable.{StopsThen, told_after}
use Rattle.md_serve_commands.specs.Told.{HaltsEnd, IsForArray}

-- ---- a reply without an error is none with one
pub not_both : (cookie : ℕ) → success_reply cookie ≡ error_reply Io cookie → ⊥
not_both cookie e = (let last : 0 ≡ 5 = ap (λ (l : List ℕ). slice_index_or l 7 0) e in absurd (omega (arith, last)))

-- ---- a halted mirror
module _ (old new : MirrorView) (halted : old.array.halted ≡ true) where
  runs_not : {X : Type 0} → old.array.halted ≡ false → X
  runs_not running = absurd (true≢false (sym halted ∙ running))

  unread_halted : (fault : UnreadFault) (sector : ℕ) (bytes : List ℕ) → RefusesRead sector bytes old new fault → new ≡ old
  unread_halted unread.Halted sector bytes h = h.unchanged
  unread_halted unread.OutOfRange sector bytes h = h.unchanged
  unread_halted unread.NotResynced sector bytes h = h.unchanged
  unread_halted (unread.Unreadable s) sector bytes h = runs_not h.0.running

  unwritten_halted : (fault : BeginFault) (sector : ℕ) (bytes : List ℕ) → RefusesWrite sector bytes old new fault → new ≡ old
  unwritten_halted begin.Halted sector bytes (inl h) = h.unchanged
  unwritten_halted begin.Halted sector bytes (inr h) = runs_not h.begins.may.running
  unwritten_halted begin.OutOfRange sector bytes h = h.unchanged
  unwritten_halted (begin.Overlaps n) sector bytes h = h.unchanged
  unwritten_halted begin.NotResynced sector bytes h = h.unchanged
  unwritten_halted begin.EventsFull sector bytes h = h.unchanged
  unwritten_halted begin.NumbersSpent sector bytes h = h.unchanged
  unwritten_halted begin.NoMemory sector bytes h = h.unchanged

  unflushed_halted : FailsToClear old new → new ≡ old
  unflushed_halted h = ⊎_elim (λ r. r.unchanged) (λ r. runs_not r.0) h.0

abbrev StaysWithError : Task → ℕ → ArrayWriter × MirrorView → ArrayWriter × MirrorView → List ℕ → Type 0
StaysWithError t cookie old new reply = (new.1 ≡ old.1) × (IsForArray t → reply ≡ error_reply Io cookie)

-- ---- what waits
module _ (p q : ArrayWriter × MirrorView) (halted : p.1.array.halted ≡ true) where
  waiting_halted : (mid : MirrorView) → WritesWaiting p.0 p.1 mid → mid ≡ p.1
  waiting_halted mid (inl h) = h.1
  waiting_halted mid (inr h) = runs_not p.1 mid halted h.0.begins.may.running

  fails_halted : FailsWaiting p q → q.1 ≡ p.1
  fails_halted h = unwritten_halted p.1 q.1 halted h.fault p.0.start p.0.run.items h.refused.refused

  -- what is done behind what waited, by a mirror that stays as it is
  behind : (mid : MirrorView) → WritesWaiting p.0 p.1 mid → (mid.array.halted ≡ true → q.1 ≡ mid) → q.1 ≡ p.1
  behind mid waited h =
      let same = waiting_halted mid waited in
      h (ap (λ (v : MirrorView). v.array.halted) same ∙ halted) ∙ same

  no_read : (sector : ℕ) (bytes : List ℕ) → ReadsBehind p q sector bytes → ⊥
  no_read sector bytes h =
      true≢false (sym (ap (λ (v : MirrorView). v.array.halted) (waiting_halted h.mid h.waited) ∙ halted) ∙ h.given.0.may.running)

  no_write : (sector : ℕ) (bytes : List ℕ) (through : Bool) → TakesWrite p q sector bytes through → ⊥
  no_write sector bytes true h = true≢false (sym halted ∙ h.running)
  no_write sector bytes false (inl h) = true≢false (sym halted ∙ h.running)
  no_write sector bytes false (inr (inl h)) = true≢false (sym halted ∙ h.running)
  no_write sector bytes false (inr (inr h)) = true≢false (sym halted ∙ h.running)

  lacks_halted : (sector sectors : ℕ) → FailsToRead p q sector sectors → q.1 ≡ p.1
  lacks_halted sector sectors (inl h) = fails_halted h
  lacks_halted sector sectors (inr h) = behind h.mid h.waited (λ on. unread_halted h.mid q.1 on h.refused.fault sector h.refused.bytes h.refused.refused)

  untaken_halted : (sector : ℕ) (bytes : List ℕ) → FailsToTake p q sector bytes → q.1 ≡ p.1
  untaken_halted sector bytes (inl h) = h.mirror
  untaken_halted sector bytes (inr (inl h)) = fails_halted h
  untaken_halted sector bytes (inr (inr (inl h))) = waiting_halted q.1 h.waited
  untaken_halted sector bytes (inr (inr (inr h))) = behind h.mid h.waited (λ on. unwritten_halted h.mid q.1 on h.refused.fault sector bytes h.refused.refused)

  unflushed_too : FailsToFlush p q → q.1 ≡ p.1
  unflushed_too (inl h) = h.mirror
  unflushed_too (inr (inl h)) = fails_halted h
  unflushed_too (inr (inr h)) = behind h.mid h.waited (λ on. unflushed_halted h.mid q.1 on h.refused)

task_halted : (t : Task) (cookie : ℕ) (payload : List ℕ) (old new : ArrayWriter × MirrorView) (reply : List ℕ) → old.1.array.halted ≡ true → DoesTask writer_store t cookie payload old new reply
    → StaysWithError t cookie old new reply
task_halted (task.Read sector sectors) cookie payload old new reply halted (inl h) = absurd (no_read old new halted sector h.bytes h.read)
task_halted (task.Read sector sectors) cookie payload old new reply halted (inr h) = (lacks_halted old new halted sector sectors h.0, λ _. h.1)
task_halted (task.Write sector sectors through) cookie payload old new reply halted (inl h) = absurd (no_write old new halted sector payload through h.0)
task_halted (task.Write sector sectors through) cookie payload old new reply halted (inr h) = (untaken_halted old new halted sector payload h.0, λ _. h.1)
task_halted task.Flush cookie payload old new reply halted (inl h) = absurd (true≢false (sym halted ∙ h.0.running))
task_halted task.Flush cookie payload old new reply halted (inr h) = (unflushed_too old new halted h.0, λ _. h.1)
task_halted task.Disconnect cookie payload old new reply halted h = absurd h
task_halted (task.Refuse error) cookie payload old new reply halted h = (ap (λ (p : ArrayWriter × MirrorView). p.1) h.0, λ no. absurd no)

pub request_halted : (e : Export) (old new : ArrayWriter × MirrorView) (x : Exchange) → old.1.array.halted ≡ true → AnswersRequest writer_store e old new x
    → StaysWithError (task_of e x.request) x.request.cookie old new x.reply
request_halted e old new x halted answers = task_halted (task_of e x.request) x.request.cookie x.payload old new x.reply halted answers.does

pub session_halted : (e : Export) (old new : ArrayWriter × MirrorView) (xs : List Exchange) → old.1.array.halted ≡ true → AnswersInTurn writer_store e old xs new → new.1 ≡ old.1
session_halted e old new [] halted h = ap (λ (p : ArrayWriter × MirrorView). p.1) h
session_halted e old new (x ∷ xs) halted h =
    let first = (request_halted e old h.0 x halted h.1).0 in
    session_halted e h.0 new xs (ap (λ (v : MirrorView). v.array.halted) first ∙ halted) h.2 ∙ first

-- ---- the end
module _ (old new : MirrorView) (halted : old.array.halted ≡ true) where
  stop_halted : (fault : StopFault) → RefusesStop old new fault → (new ≡ old) × (fault ≡ stop.Halted)
  stop_halted stop.Halted (inl h) = (h.unchanged, refl)
  stop_halted stop.Halted (inr h) = runs_not old new halted h.may.idle.running
  stop_halted (stop.InFlight n) h = runs_not old new halted h.reason.running
  stop_halted stop.EventsFull h = runs_not old new halted h.reason.idle.running
  stop_halted (stop.MemberFailed k) h = runs_not old new halted h.may.idle.running

  abbrev stopped_for : StopFault → Result (Unit {0}) CommandFault
  stopped_for fault = Err (Stop fault)

  pub stops_halted : (told result : Result (Unit {0}) CommandFault) → StopsThen told old new result → (new ≡ old) × (result ≡ Err (Stop stop.Halted))
  stops_halted told result (inl h) = runs_not old new halted h.0.may.idle.running
  stops_halted told result (inr h) =
      let x = stop_halted h.0 h.1 in (x.0, h.2 ∙ ap stopped_for x.1)

pub late_halted : (w : ArrayWriter) (old new : MirrorView) → old.array.halted ≡ true → (kept : Result (Unit {0}) BeginFault) → MatchResult kept (λ _. WritesWaiting w old new) (RefusesWaiting w old new)
    → new ≡ old
late_halted w old new halted (Ok x) (inl h) = h.1
late_halted w old new halted (Ok x) (inr h) = runs_not old new halted h.0.begins.may.running
late_halted w old new halted (Err fault) h = unwritten_halted old new halted fault w.start w.run.items h.refused

pub end_halted : HaltsEnd
end_halted last old new told result halted ends =
    let same = late_halted last old ends.written halted ends.kept ends.late in
    let stops = stops_halted ends.written new (ap (λ (v : MirrorView). v.array.halted) same ∙ halted) (told_after ends.kept told) result ends.stops in
    (stops.0 ∙ same, stops.1)
