-- A request that halts the mirror is answered with an error, and so is each after it.
use Rattle.std.proofs.Common.{◌≡◌, ◌∙◌, inl, inr, ℕ, Bool, true, false, List, [], ◌∷◌, sym, ap, true≢false}
use Rattle.md_model.specs.Content.{Content}
use Rattle.md_state.specs.View.{ArrayView, MirrorView}
use Rattle.md_nbd.specs.declared.export.Export.{Export}
use Rattle.md_nbd.specs.declared.reply.ErrorCode.TheVariants.{Io}
use Rattle.md_nbd.specs.declared.task.Task.{Task}
use Rattle.md_nbd.specs.declared.task.Task.TheVariants as task
use Rattle.md_nbd.specs.SimpleReplies.{error_reply}
use Rattle.md_nbd.specs.Server.Exchanges.{AnswersInTurn, DoesTask, Exchange}
use Rattle.md_serve_commands.specs.declared.writer.ArrayWriter.{ArrayWriter}
use Rattle.md_serve_commands.specs.Waiting.{ReadsBehind, TakesWrite, writer_store}
use Rattle.md_serve_commands.specs.Told.{IsForArray}
use Rattle.md_serve_commands.specs.Sessions.{AnswersAs, AreRefused}
use Rattle.md_serve_commands.proofs.Halted.{not_both, request_halted}
use Rattle.md_serve_commands.proofs.Running.{flushed_runs, through_runs, waiting_runs}

module _ (p q : ArrayWriter × MirrorView) where
  read_runs : (sector : ℕ) (bytes : List ℕ) → ReadsBehind p q sector bytes → q.1.array.halted ≡ false
  read_runs sector bytes h = ap (λ (a : ArrayView). a.halted) h.given.0.rests.array ∙ h.given.0.may.running

  taken_runs : (sector : ℕ) (bytes : List ℕ) (through : Bool) → TakesWrite p q sector bytes through → q.1.array.halted ≡ false
  taken_runs sector bytes true h = through_runs p q sector bytes h
  taken_runs sector bytes false (inl h) = ap (λ (v : MirrorView). v.array.halted) h.mirror ∙ h.running
  taken_runs sector bytes false (inr (inl h)) = waiting_runs p.0 p.1 q.1 h.running h.waited
  taken_runs sector bytes false (inr (inr h)) = through_runs p q sector bytes h

  module _ (halted : q.1.array.halted ≡ true) where
    not_running : {X : Type 0} → q.1.array.halted ≡ false → X
    not_running running = absurd (true≢false (sym halted ∙ running))

    pub halting_refused : (t : Task) (cookie : ℕ) (payload reply : List ℕ) → DoesTask writer_store t cookie payload p q reply → IsForArray t → reply ≡ error_reply Io cookie
    halting_refused (task.Read sector sectors) cookie payload reply (inl h) of = not_running (read_runs sector h.bytes h.read)
    halting_refused (task.Read sector sectors) cookie payload reply (inr h) of = h.1
    halting_refused (task.Write sector sectors through) cookie payload reply (inl h) of = not_running (taken_runs sector payload through h.0)
    halting_refused (task.Write sector sectors through) cookie payload reply (inr h) of = h.1
    halting_refused task.Flush cookie payload reply (inl h) of = not_running (flushed_runs p q h.0)
    halting_refused task.Flush cookie payload reply (inr h) of = h.1
    halting_refused task.Disconnect cookie payload reply h of = absurd of
    halting_refused (task.Refuse error) cookie payload reply h of = absurd of

pub all_refused : (e : Export) (p : ArrayWriter × MirrorView) (xs : List Exchange) (q : ArrayWriter × MirrorView) → p.1.array.halted ≡ true → AnswersInTurn writer_store e p xs q → AreRefused e xs
all_refused e p [] q halted answers = tt
all_refused e p (x ∷ xs) q halted answers =
    let stays = request_halted e p answers.0 x halted answers.1 in
    (stays.1, all_refused e answers.0 xs q (ap (λ (v : MirrorView). v.array.halted) stays.0 ∙ halted) answers.2)

-- what is refused changes nothing of what is told of
pub refused_same : (t : Task) (x : Exchange) (a b : Content) → (IsForArray t → x.reply ≡ error_reply Io x.request.cookie) → AnswersAs t a x b → b ≡ a
refused_same (task.Read sector sectors) x a b refused h = h.1
refused_same (task.Write sector sectors through) x a b refused (inl h) = absurd (not_both x.request.cookie (sym h.0 ∙ refused tt))
refused_same (task.Write sector sectors through) x a b refused (inr h) = h.1
refused_same task.Flush x a b refused h = h.1
refused_same task.Disconnect x a b refused h = absurd h
refused_same (task.Refuse error) x a b refused h = h.1
