-- What each request keeps, a session keeps.
use Rattle.std.proofs.Common.{◌≡◌, inl, inr, ⊎_elim, ℕ, Bool, true, false, List, [], ◌∷◌, sym, subst}
use Rattle.md_state.specs.View.{MirrorView}
use Rattle.md_streams.specs.declared.sink.Sink.{Ghosts as Sinks}
use Rattle.md_streams.specs.declared.source.Source.{Ghosts as Sources}
use Rattle.md_nbd.specs.declared.export.Export.{Export}
use Rattle.md_nbd.specs.declared.server.session.SessionEnd.{SessionEnd}
use Rattle.md_nbd.specs.declared.server.session.SessionEnd.TheVariants.{NoFlags, UnknownFlags, Unagreed, Gone}
use Rattle.md_nbd.specs.declared.server.session_fault.SessionFault.{SessionFault}
use Rattle.md_nbd.specs.declared.server.session_fault.SessionFault.TheVariants as stream
use Rattle.md_nbd.specs.declared.task.Task.{Task}
use Rattle.md_nbd.specs.declared.task.Task.TheVariants as task
use Rattle.md_nbd.specs.NbdTasks.{task_of}
use Rattle.md_nbd.specs.Server.Exchanges.{AnswersInTurn, DoesTask, Exchange}
use Rattle.md_nbd.specs.Server.Sessions.{BreaksSession, EndsSession}
use Rattle.md_nbd.specs.Server.Transmission.{HasFailed}
use Rattle.md_serve_commands.specs.declared.writer.ArrayWriter.{ArrayWriter}
use Rattle.md_serve_commands.specs.Waiting.{ClearsMarks, FailsToClear, FailsToFlush, FailsToGive, FailsToRead, FailsWaiting, FailsToTake, FailsToWrite, FlushesAll, GivesSectors, ReadsBehind, RefusesWaiting, WritesWaiting, TakesWrite, WritesSectors, WritesThrough, writer_store}
use Rattle.md_faults.specs.declared.step_fault.BeginFault.{BeginFault}

-- what each call on the mirror keeps
pub record EachKeeps (R : MirrorView → MirrorView → Type 0) : Type 0 where
  pub same : (v : MirrorView) → R v v
  pub on : (a b c : MirrorView) → R a b → R b c → R a c
  pub given : (sector : ℕ) (bytes : List ℕ) (old new : MirrorView) → GivesSectors old new sector bytes → R old new
  pub ungiven : (sector sectors : ℕ) (old new : MirrorView) → FailsToGive old new sector sectors → R old new
  pub written : (sector : ℕ) (bytes : List ℕ) (old new : MirrorView) → WritesSectors old new sector bytes → R old new
  pub unwritten : (sector : ℕ) (bytes : List ℕ) (old new : MirrorView) → FailsToWrite old new sector bytes → R old new
  pub cleared : (old new : MirrorView) → ClearsMarks old new → R old new
  pub uncleared : (old new : MirrorView) → FailsToClear old new → R old new

module _ (R : MirrorView → MirrorView → Type 0) (keeps : EachKeeps R) where
  unchanged : (old new : ArrayWriter × MirrorView) → new ≡ old → R old.1 new.1
  unchanged old new same = subst (λ (p : ArrayWriter × MirrorView). R old.1 p.1) (sym same) (keeps.same old.1)

  -- ---- what waits
  same_mirror : (old new : MirrorView) → new ≡ old → R old new
  same_mirror old new same = subst (λ (v : MirrorView). R old v) (sym same) (keeps.same old)

  pub waiting_keeps : (w : ArrayWriter) (old new : MirrorView) → WritesWaiting w old new → R old new
  waiting_keeps w old new (inl h) = same_mirror old new h.1
  waiting_keeps w old new (inr h) = keeps.written w.start w.run.items old new h

  pub refused_keeps : (w : ArrayWriter) (old new : MirrorView) (fault : BeginFault) → RefusesWaiting w old new fault → R old new
  refused_keeps w old new fault h =
      keeps.unwritten w.start w.run.items old new (record { fault = fault; refused = h.refused; pending = h.pending })

  fails_keeps : (p q : ArrayWriter × MirrorView) → FailsWaiting p q → R p.1 q.1
  fails_keeps p q h = refused_keeps p.0 p.1 q.1 h.fault h.refused

  -- ---- the calls of the store
  read_keeps : (p q : ArrayWriter × MirrorView) (sector : ℕ) (bytes : List ℕ) → ReadsBehind p q sector bytes → R p.1 q.1
  read_keeps p q sector bytes h = keeps.on p.1 h.mid q.1 (waiting_keeps p.0 p.1 h.mid h.waited) (keeps.given sector bytes h.mid q.1 h.given)

  unread_keeps : (p q : ArrayWriter × MirrorView) (sector sectors : ℕ) → FailsToRead p q sector sectors → R p.1 q.1
  unread_keeps p q sector sectors (inl h) = fails_keeps p q h
  unread_keeps p q sector sectors (inr h) = keeps.on p.1 h.mid q.1 (waiting_keeps p.0 p.1 h.mid h.waited) (keeps.ungiven sector sectors h.mid q.1 h.refused)

  through_keeps : (p q : ArrayWriter × MirrorView) (sector : ℕ) (bytes : List ℕ) → WritesThrough p q sector bytes → R p.1 q.1
  through_keeps p q sector bytes h = keeps.on p.1 h.mid q.1 (waiting_keeps p.0 p.1 h.mid h.waited) (keeps.written sector bytes h.mid q.1 h.written)

  taken_keeps : (p q : ArrayWriter × MirrorView) (sector : ℕ) (bytes : List ℕ) (through : Bool) → TakesWrite p q sector bytes through → R p.1 q.1
  taken_keeps p q sector bytes true h = through_keeps p q sector bytes h
  taken_keeps p q sector bytes false (inl h) = same_mirror p.1 q.1 h.mirror
  taken_keeps p q sector bytes false (inr (inl h)) = waiting_keeps p.0 p.1 q.1 h.waited
  taken_keeps p q sector bytes false (inr (inr h)) = through_keeps p q sector bytes h

  untaken_keeps : (p q : ArrayWriter × MirrorView) (sector : ℕ) (bytes : List ℕ) → FailsToTake p q sector bytes → R p.1 q.1
  untaken_keeps p q sector bytes (inl h) = same_mirror p.1 q.1 h.mirror
  untaken_keeps p q sector bytes (inr (inl h)) = fails_keeps p q h
  untaken_keeps p q sector bytes (inr (inr (inl h))) = waiting_keeps p.0 p.1 q.1 h.waited
  untaken_keeps p q sector bytes (inr (inr (inr h))) = keeps.on p.1 h.mid q.1 (waiting_keeps p.0 p.1 h.mid h.waited) (keeps.unwritten sector bytes h.mid q.1 h.refused)

  flushed_keeps : (p q : ArrayWriter × MirrorView) → FlushesAll p q → R p.1 q.1
  flushed_keeps p q h = keeps.on p.1 h.mid q.1 (waiting_keeps p.0 p.1 h.mid h.waited) (⊎_elim (λ s. same_mirror h.mid q.1 s) (λ c. keeps.cleared h.mid q.1 c) h.marks)

  unflushed_keeps : (p q : ArrayWriter × MirrorView) → FailsToFlush p q → R p.1 q.1
  unflushed_keeps p q (inl h) = same_mirror p.1 q.1 h.mirror
  unflushed_keeps p q (inr (inl h)) = fails_keeps p q h
  unflushed_keeps p q (inr (inr h)) = keeps.on p.1 h.mid q.1 (waiting_keeps p.0 p.1 h.mid h.waited) (keeps.uncleared h.mid q.1 h.refused)

  task_keeps : (t : Task) (cookie : ℕ) (payload : List ℕ) (old new : ArrayWriter × MirrorView) (reply : List ℕ) → DoesTask writer_store t cookie payload old new reply → R old.1 new.1
  task_keeps (task.Read sector sectors) cookie payload old new reply (inl h) = read_keeps old new sector h.bytes h.read
  task_keeps (task.Read sector sectors) cookie payload old new reply (inr h) = unread_keeps old new sector sectors h.0
  task_keeps (task.Write sector sectors through) cookie payload old new reply (inl h) = taken_keeps old new sector payload through h.0
  task_keeps (task.Write sector sectors through) cookie payload old new reply (inr h) = untaken_keeps old new sector payload h.0
  task_keeps task.Flush cookie payload old new reply (inl h) = flushed_keeps old new h.0
  task_keeps task.Flush cookie payload old new reply (inr h) = unflushed_keeps old new h.0
  task_keeps task.Disconnect cookie payload old new reply h = absurd h
  task_keeps (task.Refuse error) cookie payload old new reply h = unchanged old new h.0

  in_turn_keeps : (e : Export) (old : ArrayWriter × MirrorView) (exchanges : List Exchange) (new : ArrayWriter × MirrorView) → AnswersInTurn writer_store e old exchanges new → R old.1 new.1
  in_turn_keeps e old [] new h = unchanged old new h
  in_turn_keeps e old (x ∷ xs) new h =
      keeps.on old.1 h.0.1 new.1 (task_keeps (task_of e x.request) x.request.cookie x.payload old h.0 x.reply h.1.does) (in_turn_keeps e h.0 xs new h.2)

  module _ {I S : Type 0} (i : Sources I) (o : Sinks S) (e : Export) (old new : ArrayWriter × MirrorView) (from to : I) (was now : S) where
    pub session_keeps : (end : SessionEnd) → EndsSession writer_store i o e old new from to was now end → R old.1 new.1
    session_keeps NoFlags h = unchanged old new h.1
    session_keeps UnknownFlags h = unchanged old new h.1
    session_keeps (Unagreed why) h = unchanged old new h.store
    session_keeps (Gone why) h = in_turn_keeps e old h.transmits.exchanges new h.transmits.answered.runs

    failed_keeps : (mid : ArrayWriter × MirrorView) (at : I) (earlier : S) (why : SessionFault) → HasFailed writer_store i o e mid new at to earlier now why → R mid.1 new.1
    failed_keeps mid at earlier stream.Source h = unchanged mid new h.1
    failed_keeps mid at earlier stream.NoMemory h = unchanged mid new h.0
    failed_keeps mid at earlier stream.Sink h = task_keeps (task_of e h.last.request) h.last.request.cookie h.last.payload mid new h.last.reply h.answers.does

    pub broken_keeps : (fault : SessionFault) → BreaksSession writer_store i o e old new from to was now fault → R old.1 new.1
    broken_keeps fault (inl h) = unchanged old new h.store
    broken_keeps fault (inr (inl h)) = unchanged old new h.store
    broken_keeps fault (inr (inr h)) =
        keeps.on old.1 h.breaks.mid.1 new.1
        (in_turn_keeps e old h.breaks.exchanges h.breaks.mid h.breaks.answered.runs)
        (failed_keeps h.breaks.mid h.breaks.at h.breaks.before fault h.breaks.failed)
