-- An array is served, and written to.
use Rattle.std.proofs.Common.{◌≡◌, ◌∙◌, ◌*◌, ⊎_elim, Bool, true, false, refl, sym, ap, subst, true≢false, Result, Ok, Err}
use Rattle.std.specs.Prelude.{MatchResult}
use Rattle.md_bitmap.specs.declared.chunks.Chunks.{Chunks}
use Rattle.md_resync.proofs.Told.{resynced_array}
use Rattle.md_state.specs.View.{ArrayView, MirrorView}
use Rattle.md_streams.specs.declared.sink.Sink.{Ghosts as Sinks}
use Rattle.md_streams.specs.Sink.{Flushes}
use Rattle.md_commands.specs.Resyncing.{ResyncsIfNeeded, needs_resync}
use Rattle.md_streams.specs.declared.source.Source.{Ghosts as Sources}
use Rattle.md_nbd.specs.declared.export.Export.{Export}
use Rattle.md_nbd.specs.declared.server.session.SessionEnd.{SessionEnd}
use Rattle.md_nbd.specs.declared.server.session_fault.SessionFault.{SessionFault}
use Rattle.md_nbd.specs.Export.{sector_bytes}
use Rattle.md_nbd.specs.Server.Sessions.{BreaksSession, EndsSession, is_orderly}
use Rattle.md_serve_commands.specs.declared.writer.ArrayWriter.{ArrayWriter}
use Rattle.md_serve_commands.specs.Waiting.{KeepsPending, writer_store}
use Rattle.md_serve_commands.specs.Writable.{IsReadyToServe, MayBeWritten, ServesClient, writable_export}
use Rattle.md_serve_commands.proofs.Exchanged.{EachKeeps, broken_keeps, session_keeps}

-- ---- requests in flight stay so
pending_keeps : EachKeeps KeepsPending
pending_keeps = record {
  same = λ v p h. h;
  on = λ a b c ab bc p h. bc p (ab p h);
  given = λ sector bytes old new h. h.1;
  ungiven = λ sector sectors old new h. h.pending;
  written = λ sector bytes old new h. h.1;
  unwritten = λ sector bytes old new h. h.pending;
  cleared = λ old new h. h.pending;
  uncleared = λ old new h. h.1;
}

module _ {I S : Type 0} (i : Sources I) (o : Sinks S) (e : Export) (old new : ArrayWriter × MirrorView) (from to : I) (was now : S) where
  pub session_pending : (end : SessionEnd) → EndsSession writer_store i o e old new from to was now end → KeepsPending old.1 new.1
  session_pending end h = session_keeps KeepsPending pending_keeps i o e old new from to was now end h

  pub broken_pending : (fault : SessionFault) → BreaksSession writer_store i o e old new from to was now fault → KeepsPending old.1 new.1
  broken_pending fault h = broken_keeps KeepsPending pending_keeps i o e old new from to was now fault h

-- ---- the session of an array
-- what clients are told of, by the mirror's chunks
abbrev pub export_by : Chunks → Export
export_by k = record { size = sector_bytes * k.size; readonly = false }

module _ {I S : Type 0} (i : Sources I) (o : Sinks S) (k : Chunks) (first last : ArrayWriter) (old new : MirrorView) (from to : I) (was now : S) (is : k ≡ old.array.chunks) where
  pub session_told : (end : SessionEnd) → EndsSession writer_store i o (export_by k) (first, old) (last, new) from to was now end
      → EndsSession writer_store i o (writable_export old.array) (first, old) (last, new) from to was now end
  session_told end h = subst (λ (e : Export). EndsSession writer_store i o e (first, old) (last, new) from to was now end) (ap export_by is) h

  pub broken_told : (fault named : SessionFault) → fault ≡ named → BreaksSession writer_store i o (export_by k) (first, old) (last, new) from to was now fault
      → BreaksSession writer_store i o (writable_export old.array) (first, old) (last, new) from to was now named
  broken_told fault named same h =
      subst (λ (f : SessionFault). BreaksSession writer_store i o (writable_export old.array) (first, old) (last, new) from to was now f) same
      (subst (λ (e : Export). BreaksSession writer_store i o e (first, old) (last, new) from to was now fault) (ap export_by is) h)

pub served_client : {I S : Type 0} (i : Sources I) (o : Sinks S) (first last : ArrayWriter) (old new : MirrorView) (from to : I) (was told now : S) (end : SessionEnd) → is_orderly end ≡ true
    → EndsSession writer_store i o (writable_export old.array) (first, old) (last, new) from to was told end
    → Flushes o.contents o.failed o.is_flushed told now → ServesClient i o first last old new from to was now
served_client i o first last old new from to was told now end orderly session flushes = record {
  end = end;
  orderly = orderly;
  told = told;
  session = session;
  flushed = record { puts = flushes.puts; flushed = flushes.flushed };
}

-- ---- after it
pub answer_is : {T E : Type 0} (r : Result T E) → MatchResult r (λ x. r ≡ Ok x) (λ e. r ≡ Err e)
answer_is (Ok x) = refl
answer_is (Err e) = refl

-- ---- before it
pub is_ready : (old ready : MirrorView) → MayBeWritten old.array → ResyncsIfNeeded old ready → IsReadyToServe old ready
is_ready old ready may readied = record { may = may; readied = readied; resynced = by (needs_resync old.array) refl }
  where
    by : (needs : Bool) → needs_resync old.array ≡ needs → ready.array.resynced ≡ true
    by true is = ap (λ (a : ArrayView). a.resynced) (resynced_array old ready (readied.resynced is))
    by false is = ap (λ (v : MirrorView). v.array.resynced) (readied.untouched is)
        ∙ ⊎_elim (λ yes. yes) (λ needs. absurd (true≢false (sym needs ∙ is))) may.ready
