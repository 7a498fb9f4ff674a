-- After a call that is done the mirror runs.
use Rattle.std.proofs.Common.{◌≡◌, ◌∙◌, inl, inr, ⊎_elim, ℕ, Bool, true, false, cond, List, [], ◌∷◌, ◌++◌, Option, Some, None, refl, sym, ap}
use Rattle.md_model.specs.Events.{Event}
use Rattle.md_state.specs.Steps.MakeClean.{made_clean}
use Rattle.md_state.specs.View.{ArrayView, MirrorView}
use Rattle.md_array.specs.InTurn.{Leads, Requests}
use Rattle.md_metadata.specs.declared.stop_fault.StopFault.{StopFault}
use Rattle.md_metadata.specs.declared.stop_fault.StopFault.TheVariants as stop
use Rattle.md_metadata.specs.Stopping.{StopsMirror, makes_clean}
use Rattle.md_write.specs.Writing.{Writes}
use Rattle.md_commands.proofs.DeviceCounts.{none_in_flight, nothing}
use Rattle.md_serve_commands.specs.declared.writer.ArrayWriter.{ArrayWriter}
use Rattle.md_serve_commands.specs.Waiting.{ClearsMarks, FlushesAll, RunsOn, WritesThrough, WritesWaiting}

-- the last event of a write is that it is finished
finish_runs : (n : ℕ) (es : List Event) (previous : Option Event) (old new : MirrorView) (before after : Requests) → Leads previous old before (es ++ Event.Finish n ∷ []) new after
    → new.array.halted ≡ false
finish_runs n [] previous old new before after t =
    ap (λ (v : MirrorView). v.array.halted) (sym t.5.0) ∙ ap (λ (a : ArrayView). a.halted) t.3.3.array ∙ t.3.3.may.running
finish_runs n (e ∷ es) previous old new before after t = finish_runs n es (Some e) t.0 new t.1 after t.5

pub written_runs : (sector : ℕ) (bytes : List ℕ) (old new : MirrorView) → Writes sector bytes old new → new.array.halted ≡ false
written_runs sector bytes old new w =
    let n : ℕ = w.request.ticket.number in
    finish_runs n (Event.Begin n _ ∷ w.events) None old new nothing nothing (w.happens None nothing (none_in_flight old.array)).done

same_halted : (a : ArrayView) (b : Bool) → (cond b (made_clean a) a).halted ≡ a.halted
same_halted a true = refl
same_halted a false = refl

pub stopped_runs : (old new : MirrorView) → StopsMirror old new → new.array.halted ≡ false
stopped_runs old new h =
    h.stores.ready.halted ∙ ap (λ (a : ArrayView). a.halted) h.cleans.array.array ∙ same_halted old.array (makes_clean old.array) ∙ h.may.idle.running

same_runs : (old new : MirrorView) → new ≡ old → old.array.halted ≡ false → new.array.halted ≡ false
same_runs old new same running = ap (λ (v : MirrorView). v.array.halted) same ∙ running

stays_running : (fault : StopFault) (old new : MirrorView) → old.array.halted ≡ false → RunsOn old new fault → new.array.halted ≡ false
stays_running stop.Halted old new running h = absurd h
stays_running (stop.InFlight n) old new running h = same_runs old new h.unchanged running
stays_running stop.EventsFull old new running h = same_runs old new h.unchanged running
stays_running (stop.MemberFailed k) old new running h = h.running

cleared_runs : (old new : MirrorView) → ClearsMarks old new → new.array.halted ≡ false
cleared_runs old new h = ⊎_elim (λ s. stopped_runs old new s) (λ r. stays_running r.0 old new h.running r.1) h.stops

pub waiting_runs : (w : ArrayWriter) (old new : MirrorView) → old.array.halted ≡ false → WritesWaiting w old new → new.array.halted ≡ false
waiting_runs w old new running (inl h) = same_runs old new h.1 running
waiting_runs w old new running (inr h) = written_runs w.start w.run.items old new h.0

-- ---- requests after which all is to stand
module _ (p q : ArrayWriter × MirrorView) where
  pub flushed_runs : FlushesAll p q → q.1.array.halted ≡ false
  flushed_runs h =
      ⊎_elim (λ same. same_runs h.mid q.1 same (waiting_runs p.0 p.1 h.mid h.running h.waited)) (λ cleared. cleared_runs h.mid q.1 cleared) h.marks

  pub through_runs : (sector : ℕ) (bytes : List ℕ) → WritesThrough p q sector bytes → q.1.array.halted ≡ false
  through_runs sector bytes h = written_runs sector bytes h.mid q.1 h.written.0
