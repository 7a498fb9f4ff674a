-- After a flush nothing waits and the mirror runs; and what is done at the end of a session.
use Rattle.std.proofs.Common.{◌≡◌, ◌∙◌, inl, inr, ℕ, Bool, true, false, List, [], ◌∷◌, Result, Ok, Err, refl, sym, ap, subst, true≢false}
use Rattle.std.specs.Prelude.{MatchResult}
use Rattle.md_model.specs.Content.{Content}
use Rattle.md_faults.specs.declared.step_fault.BeginFault.{BeginFault}
use Rattle.md_state.specs.View.{MirrorView}
use Rattle.md_metadata.specs.declared.stop_fault.StopFault.{StopFault}
use Rattle.md_metadata.specs.declared.stop_fault.StopFault.TheVariants as stop
use Rattle.md_metadata.specs.Stopping.{RefusesStop, StopsMirror}
use Rattle.md_refusals.specs.declared.fault.CommandFault.{CommandFault}
use Rattle.md_refusals.specs.declared.fault.CommandFault.TheVariants.{Stop}
use Rattle.md_nbd.specs.declared.export.Export.{Export}
use Rattle.md_nbd.specs.declared.task.Task.{Task}
use Rattle.md_nbd.specs.declared.task.Task.TheVariants as task
use Rattle.md_nbd.specs.NbdTasks.{task_of}
use Rattle.md_nbd.specs.SimpleReplies.{success_reply}
use Rattle.md_nbd.specs.Server.Exchanges.{AnswersInTurn, DoesTask, Exchange}
use Rattle.md_serve_commands.specs.declared.writer.ArrayWriter.{ArrayWriter}
use Rattle.md_serve_commands.specs.Waiting.{RefusesWaiting, TakesWrite, WritesWaiting, writer_store}
use Rattle.md_serve_commands.specs.Writable.{StopsThen}
use Rattle.md_serve_commands.specs.Calls.{contents_after}
use Rattle.md_serve_commands.specs.Serving.{late_by, refused_stop_by, stop_by}
use Rattle.md_serve_commands.specs.Sessions.{EndsStanding, IsToStand, WaitsBeside, WaitsWhole, with_waiting}
use Rattle.md_serve_commands.specs.WholeSessions.{KeepsTold, SaysStopped}
use Rattle.md_serve_commands.proofs.Halted.{late_halted, not_both, stops_halted}
use Rattle.md_serve_commands.proofs.Running.{flushed_runs, stopped_runs, through_runs}
use Rattle.md_serve_commands.proofs.SessionContents.{IsClearBy, IsWholeBy, Served, not_written, run_clear, run_content, run_whole}

-- ---- after a flush
abbrev pub HasStood : Served → Type 0
HasStood q = (q.0.run.items ≡ []) × (q.1.array.halted ≡ false)

through_stood : (p q : Served) (sector : ℕ) (bytes : List ℕ) (through : Bool) → through ≡ true → TakesWrite p q sector bytes through → HasStood q
through_stood p q sector bytes true is h = (h.none, through_runs p q sector bytes h)
through_stood p q sector bytes false is h = absurd (true≢false (sym is))

task_stood : (t : Task) (p q : Served) (cookie : ℕ) (payload reply : List ℕ) → IsToStand t → reply ≡ success_reply cookie → DoesTask writer_store t cookie payload p q reply → HasStood q
task_stood (task.Read sector sectors) p q cookie payload reply is told h = absurd is
task_stood (task.Write sector sectors through) p q cookie payload reply is told (inl h) = through_stood p q sector payload through is h.0
task_stood (task.Write sector sectors through) p q cookie payload reply is told (inr h) = absurd (not_both cookie (sym told ∙ h.1))
task_stood task.Flush p q cookie payload reply is told (inl h) = (h.0.none, flushed_runs p q h.0)
task_stood task.Flush p q cookie payload reply is told (inr h) = absurd (not_both cookie (sym told ∙ h.1))
task_stood task.Disconnect p q cookie payload reply is told h = absurd is
task_stood (task.Refuse error) p q cookie payload reply is told h = absurd is

pub all_stood : (e : Export) (p : Served) (xs : List Exchange) (q : Served) → AnswersInTurn writer_store e p xs q → EndsStanding e xs → HasStood q
all_stood e p [] q answers ends = absurd ends
all_stood e p (x ∷ []) q answers ends =
    subst HasStood (sym answers.2) (task_stood (task_of e x.request) p answers.0 x.request.cookie x.payload x.reply ends.0 ends.1 answers.1.does)
all_stood e p (x ∷ y ∷ xs) q answers ends = all_stood e answers.0 (y ∷ xs) q answers.2 ends

-- ---- what waits at the end
module _ (w : ArrayWriter) (served written : MirrorView) where
  abbrev pub Late : Result (Unit {0}) BeginFault → Type 0
  Late kept = MatchResult kept (λ _. WritesWaiting w served written) (RefusesWaiting w served written)

  pub late_whole : (kept : Result (Unit {0}) BeginFault) (h : Late kept) → WaitsWhole w → IsWholeBy served written (late_by w served kept written h)
  late_whole (Ok x) h whole = (run_whole w served written h whole, tt, tt)
  late_whole (Err fault) h whole = (tt, tt, (not_written fault w.start w.run.items served written h.refused).whole whole)

  pub late_clear : (kept : Result (Unit {0}) BeginFault) (h : Late kept) (s : ℕ) → WaitsBeside w s → IsClearBy served written (late_by w served kept written h) s
  late_clear (Ok x) h s off = (run_clear w served written h s off, tt, tt)
  late_clear (Err fault) h s off = (tt, tt, (not_written fault w.start w.run.items served written h.refused).clear s off)

  -- the content then, and what was told of
  pub late_keeps : (kept : Result (Unit {0}) BeginFault) (h : Late kept) (a told : Content) → told ≡ with_waiting w a
      → KeepsTold w kept told (contents_after (late_by w served kept written h).asked (contents_after (late_by w served kept written h).first a))
  late_keeps (Ok x) h a told is = run_content w served written h a ∙ sym is
  late_keeps (Err fault) h a told is = is

  -- where the mirror runs after it, it ran before
  pub late_ran : (kept : Result (Unit {0}) BeginFault) → Late kept → written.array.halted ≡ false → served.array.halted ≡ false
  late_ran kept h running = by (served.array.halted) refl
    where
      by : (b : Bool) → served.array.halted ≡ b → served.array.halted ≡ false
      by false is = is
      by true is = absurd (true≢false (sym (ap (λ (v : MirrorView). v.array.halted) (late_halted w served written is kept h) ∙ is) ∙ running))

-- ---- the stop
module _ (written new : MirrorView) (result : Result (Unit {0}) CommandFault) (told : Result (Unit {0}) CommandFault) where
  pub stop_whole : (h : StopsThen told written new result) → IsWholeBy written new (stop_by new result told written h)
  stop_whole (inl h) = (tt, tt, tt)
  stop_whole (inr h) = by h.0 h.1
    where
      by : (fault : StopFault) (r : RefusesStop written new fault) → IsWholeBy written new (refused_stop_by fault written new r)
      by stop.Halted (inl r) = (tt, tt, tt)
      by stop.Halted (inr r) = (tt, tt, tt)
      by (stop.InFlight n) r = (tt, tt, tt)
      by stop.EventsFull r = (tt, tt, tt)
      by (stop.MemberFailed k) r = (tt, tt, tt)

  pub stop_clear : (h : StopsThen told written new result) (s : ℕ) → IsClearBy written new (stop_by new result told written h) s
  stop_clear (inl h) s = (tt, tt, tt)
  stop_clear (inr h) s = by h.0 h.1
    where
      by : (fault : StopFault) (r : RefusesStop written new fault) → IsClearBy written new (refused_stop_by fault written new r) s
      by stop.Halted (inl r) = (tt, tt, tt)
      by stop.Halted (inr r) = (tt, tt, tt)
      by (stop.InFlight n) r = (tt, tt, tt)
      by stop.EventsFull r = (tt, tt, tt)
      by (stop.MemberFailed k) r = (tt, tt, tt)

  pub stop_content : (h : StopsThen told written new result) (a : Content)
      → contents_after (stop_by new result told written h).asked (contents_after (stop_by new result told written h).first a) ≡ a
  stop_content (inl h) a = refl
  stop_content (inr h) a = by h.0 h.1
    where
      by : (fault : StopFault) (r : RefusesStop written new fault)
          → contents_after (refused_stop_by fault written new r).asked (contents_after (refused_stop_by fault written new r).first a) ≡ a
      by stop.Halted (inl r) = refl
      by stop.Halted (inr r) = refl
      by (stop.InFlight n) r = refl
      by stop.EventsFull r = refl
      by (stop.MemberFailed k) r = refl

  -- where the mirror runs after it, it ran before
  pub stop_ran : StopsThen told written new result → new.array.halted ≡ false → written.array.halted ≡ false
  stop_ran (inl h) running = h.0.may.idle.running
  stop_ran (inr h) running = by h.0 h.1
    where
      stayed : new ≡ written → written.array.halted ≡ false
      stayed same = ap (λ (v : MirrorView). v.array.halted) (sym same) ∙ running

      by : (fault : StopFault) → RefusesStop written new fault → written.array.halted ≡ false
      by stop.Halted (inl r) = stayed r.unchanged
      by stop.Halted (inr r) = r.may.idle.running
      by (stop.InFlight n) r = stayed r.unchanged
      by stop.EventsFull r = stayed r.unchanged
      by (stop.MemberFailed k) r = r.may.idle.running

  -- where it is halted after it, that is answered
  module _ (halted : new.array.halted ≡ true) where
    is_running : {X : Type 0} → new.array.halted ≡ false → X
    is_running running = absurd (true≢false (sym halted ∙ running))

    stop_refused : written.array.halted ≡ false → (fault : StopFault) → RefusesStop written new fault → result ≡ Err (Stop fault) → result ≡ Err (Stop stop.Halted)
    stop_refused running stop.Halted r is = is
    stop_refused running (stop.InFlight n) r is = is_running (ap (λ (v : MirrorView). v.array.halted) r.unchanged ∙ running)
    stop_refused running stop.EventsFull r is = is_running (ap (λ (v : MirrorView). v.array.halted) r.unchanged ∙ running)
    stop_refused running (stop.MemberFailed k) r is = is_running r.running

    pub stop_says_halted : StopsThen told written new result → result ≡ Err (Stop stop.Halted)
    stop_says_halted h = by (written.array.halted) refl
      where
        by : (b : Bool) → written.array.halted ≡ b → result ≡ Err (Stop stop.Halted)
        by true is = (stops_halted written new is told result h).1
        by false is = elim h [ inl x ↦ is_running (stopped_runs written new x.0) | inr x ↦ stop_refused is x.0 x.1 x.2 ]

  -- where it is stopped
  pub stop_done : SaysStopped result → StopsThen told written new result → StopsMirror written new
  stop_done says (inl h) = h.0
  stop_done says (inr h) = absurd (subst SaysStopped h.2 says)
