-- An array that is served is only read.
use Rattle.std.proofs.Common.{◌≡◌, ◌∙◌, ◌⊎◌, inl, inr, ℕ, ◌+◌, ◌*◌, ◌-◌, ◌/◌, ◌%◌, ◌<◌, Bool, true, false, true≢false, List, [], ◌∷◌, length, Result, Ok, Err, refl, sym, ap, subst, arith}
use Rattle.std.specs.Prelude.{IfErr, MatchResult}
use Rattle.md_bitmap.specs.declared.chunks.Chunks.{Chunks}
use Rattle.md_device.specs.Device.{held}
use Rattle.md_laws.proofs.Runs.Rests.{rests_same, rests_then}
use Rattle.md_state.specs.Rests.{Rests}
use Rattle.md_state.specs.View.{MirrorView}
use Rattle.md_read.specs.declared.fault.UnreadFault.{UnreadFault}
use Rattle.md_read.specs.declared.fault.UnreadFault.TheVariants.{Unreadable}
use Rattle.md_streams.specs.declared.sink.Sink.{Ghosts as Sinks}
use Rattle.md_streams.specs.Sink.{Flushes}
use Rattle.md_refusals.specs.declared.fault.CommandFault.TheVariants.{Read}
use Rattle.md_streams.specs.declared.source.Source.{Ghosts as Sources}
use Rattle.md_nbd.specs.declared.export.Export.{Export}
use Rattle.md_nbd.specs.declared.server.session.SessionEnd.{SessionEnd}
use Rattle.md_nbd.specs.declared.server.session.SessionEnd.TheVariants.{NoFlags, UnknownFlags, Unagreed, Gone}
use Rattle.md_nbd.specs.declared.server.session_fault.SessionFault.{SessionFault}
use Rattle.md_nbd.specs.declared.server.session_fault.SessionFault.TheVariants as stream
use Rattle.md_nbd.specs.declared.task.Task.{Task}
use Rattle.md_nbd.specs.declared.task.Task.TheVariants as task
use Rattle.md_nbd.specs.Export.{sector_bytes}
use Rattle.md_nbd.specs.NbdTasks.{task_of}
use Rattle.md_nbd.specs.Server.Exchanges.{AnswersInTurn, DoesTask, Exchange}
use Rattle.md_nbd.specs.Server.Sessions.{BreaksSession, EndsSession, is_orderly}
use Rattle.md_nbd.specs.Server.Transmission.{HasFailed}
use Rattle.md_streams.specs.declared.gaps.Gaps.{Gaps}
use Rattle.md_read_commands.specs.declared.reader.ArrayReader.{ArrayReader}
use Rattle.md_read_commands.specs.declared.way.Way.{Way}
use Rattle.md_read_commands.specs.declared.way.Way.TheVariants.{Resynced, Unresynced}
use Rattle.md_read_commands.specs.Filling.{IsFilled, IsFirstGap}
use Rattle.md_streams.specs.Gaps.{IsGap, no_gaps}
use Rattle.md_read_commands.specs.Holes.{capacity_of}
use Rattle.md_read_commands.specs.Others.{IsNotGiven, IsTakenFromOther}
use Rattle.md_read_commands.specs.Ways.{ReadsBy}
use Rattle.md_nbd.specs.declared.server.store.StoreFault.{StoreFault}
use Rattle.md_nbd.specs.declared.server.store.StoreFault.TheVariants.{NoMemory}
use Rattle.md_read_commands.proofs.Filled.{filled, read_fills}
use Rattle.md_read_commands.proofs.Noted.{nothing_noted}
use Rattle.md_read_commands.specs.Serving.{GivesRequest, LacksAsTold, LacksSector, ReadsRequest, RefusesRequest, ServesClient, StopsServing, WhyRefused, export_of, reader_store}
use Rattle.md_read_commands.proofs.Ways.{reads_rests}

-- ---- a sector that is not given
pub lacks_rests : (way : Way) (sector sectors : ℕ) (old new : MirrorView) → LacksSector way sector sectors old new → Rests old new
lacks_rests way sector sectors old new h =
    rests_then old h.asked new h.before (rests_then h.asked h.over new h.within h.after)

-- another member gave it
taken_not_given : (way : Way) (s : ℕ) (block : List ℕ) (old new : MirrorView) → IsTakenFromOther way s block old new → IsNotGiven way s old new
taken_not_given Resynced s block old new taken = taken.not_given
taken_not_given Unresynced s block old new (inl taken) = inr (taken.0, taken.1)
taken_not_given Unresynced s block old new (inr taken) = taken.not_given

-- it was filled, and not noted beside those before
pub lacks_gap : (way : Way) (sector : ℕ) (bytes : List ℕ) (gaps : Gaps) (old new : MirrorView) → IsFilled way sector bytes gaps old new → (s : ℕ) → IsGap gaps s
    → (sectors : ℕ) → length bytes / 512 ≡ sectors → LacksSector way sector sectors old new
lacks_gap way sector bytes gaps old new h s gap sectors many =
    let inside = h.within s gap in
    let low = inside.0 in
    let high = inside.1 in
    let i : ℕ = s - sector in
    let is : sector + i ≡ s = omega arith in
    let among : i < length bytes / 512 = omega arith in
    record {
      s = sector + i;
      from = omega arith;
      below = omega arith;
      asked = h.fills.asked i;
      over = h.fills.over i;
      before = h.fills.begins i among;
      within = h.fills.within i among;
      after = h.fills.ends i among;
      lost = elim (subst (λ (t : ℕ). IsGap gaps t) (sym is) gap) [
        | inl bad ↦ (h.fills.lost i among bad).1
        | inr bad ↦ taken_not_given way (sector + i) (held bytes i 512) (h.fills.asked i) (h.fills.over i) (h.fills.taken i among bad)
      ];
    }

-- ---- one request
-- each sector of it was given
reads_request : (fill : Bool) (way : Way) (sector : ℕ) (bytes : List ℕ) (was : Gaps) (old new : MirrorView) → length bytes % 512 ≡ 0 → Rests old new → ReadsBy way sector bytes old new
    → ReadsRequest way fill sector bytes was was old new
reads_request true way sector bytes was old new whole rests reads = record {
  gaps = no_gaps;
  filled = filled way sector bytes no_gaps old new (read_fills way sector bytes no_gaps old new whole rests (λ some. reads) (λ s gap. elim gap [ inl bad ↦ absurd bad | inr bad ↦ absurd bad ]));
  noted = nothing_noted was no_gaps (refl, refl);
}
reads_request false way sector bytes was old new whole rests reads = (reads, refl)

-- it is not filled, or longer than what there is room for
pub served_given : (r : Result (Unit {0}) StoreFault) (p : ArrayReader) (old new : MirrorView) (sector : ℕ) (bytes : List ℕ) (sectors : ℕ) → length bytes % 512 ≡ 0
    → (p.fill ≡ false) ⊎ (capacity_of p.holes < sectors) → Rests old new
    → MatchResult r (λ _. ReadsBy p.way sector bytes old new) (λ _. LacksSector p.way sector sectors old new)
    → MatchResult r (λ _. GivesRequest (p, old) (p, new) sector bytes) (λ _. RefusesRequest (p, old) (p, new) sector sectors)
served_given (Ok x) p old new sector bytes sectors whole why rests reads =
    (record { way = refl; fill = refl; room = (refl, refl) }, reads_request p.fill p.way sector bytes p.gaps old new whole rests reads)
served_given (Err e) p old new sector bytes sectors whole why rests lacks = (
  record { way = refl; fill = refl; room = (refl, refl) },
  refl,
  lacks,
  λ fills within. elim why [ inl off ↦ absurd (true≢false (sym fills ∙ off)) | inr more ↦ absurd (omega arith) ],
)

-- why it was not
pub why_given : (r : Result (Unit {0}) StoreFault) (p q : ArrayReader × MirrorView) (sector sectors : ℕ) → IfErr r (LacksAsTold p.0.way sector sectors p.1 q.1)
    → IfErr r (λ why. WhyRefused p q sector sectors why)
why_given (Ok x) p q sector sectors h = tt
why_given (Err e) p q sector sectors h = inl h

pub why_filled : (r : Result (Unit {0}) StoreFault) (p q : ArrayReader × MirrorView) (sector sectors : ℕ) → p.0.fill ≡ true → IfErr r (λ why. why ≡ NoMemory)
    → IfErr r (λ why. WhyRefused p q sector sectors why)
why_filled (Ok x) p q sector sectors fills h = tt
why_filled (Err e) p q sector sectors fills h = inr (fills, h)

given_rests : (fill : Bool) (way : Way) (sector : ℕ) (bytes : List ℕ) (was now : Gaps) (old new : MirrorView) → ReadsRequest way fill sector bytes was now old new → Rests old new
given_rests true way sector bytes was now old new h = h.filled.fills.rests
given_rests false way sector bytes was now old new h = reads_rests way sector bytes old new h.0

same_rests : (old new : ArrayReader × MirrorView) → new ≡ old → Rests old.1 new.1
same_rests old new same = subst (λ (p : ArrayReader × MirrorView). Rests old.1 p.1) (sym same) (rests_same old.1)

task_rests : (t : Task) (cookie : ℕ) (payload : List ℕ) (old new : ArrayReader × MirrorView) (reply : List ℕ) → DoesTask reader_store t cookie payload old new reply → Rests old.1 new.1
task_rests (task.Read sector sectors) cookie payload old new reply (inl h) = given_rests old.0.fill old.0.way sector h.bytes old.0.gaps new.0.gaps old.1 new.1 h.read.1
task_rests (task.Read sector sectors) cookie payload old new reply (inr h) = lacks_rests old.0.way sector sectors old.1 new.1 h.0.2
task_rests (task.Write sector sectors through) cookie payload old new reply (inl h) = absurd h.0
task_rests (task.Write sector sectors through) cookie payload old new reply (inr h) = same_rests old new h.0
task_rests task.Flush cookie payload old new reply (inl h) = same_rests old new h.0
task_rests task.Flush cookie payload old new reply (inr h) = absurd h.0
task_rests task.Disconnect cookie payload old new reply h = absurd h
task_rests (task.Refuse error) cookie payload old new reply h = same_rests old new h.0

-- ---- a session
in_turn_rests : (e : Export) (old : ArrayReader × MirrorView) (exchanges : List Exchange) (new : ArrayReader × MirrorView) → AnswersInTurn reader_store e old exchanges new → Rests old.1 new.1
in_turn_rests e old [] new h = same_rests old new h
in_turn_rests e old (x ∷ xs) new h =
    rests_then old.1 h.0.1 new.1 (task_rests (task_of e x.request) x.request.cookie x.payload old h.0 x.reply h.1.does) (in_turn_rests e h.0 xs new h.2)

module _ {I S : Type 0} (i : Sources I) (o : Sinks S) (e : Export) (old new : ArrayReader × MirrorView) (from to : I) (was now : S) where
  pub session_rests : (end : SessionEnd) → EndsSession reader_store i o e old new from to was now end → Rests old.1 new.1
  session_rests NoFlags h = same_rests old new h.1
  session_rests UnknownFlags h = same_rests old new h.1
  session_rests (Unagreed why) h = same_rests old new h.store
  session_rests (Gone why) h = in_turn_rests e old h.transmits.exchanges new h.transmits.answered.runs

  failed_rests : (mid : ArrayReader × MirrorView) (at : I) (earlier : S) (why : SessionFault) → HasFailed reader_store i o e mid new at to earlier now why → Rests mid.1 new.1
  failed_rests mid at earlier stream.Source h = same_rests mid new h.1
  failed_rests mid at earlier stream.NoMemory h = same_rests mid new h.0
  failed_rests mid at earlier stream.Sink h = task_rests (task_of e h.last.request) h.last.request.cookie h.last.payload mid new h.last.reply h.answers.does

  pub broken_rests : (fault : SessionFault) → BreaksSession reader_store i o e old new from to was now fault → Rests old.1 new.1
  broken_rests fault (inl h) = same_rests old new h.store
  broken_rests fault (inr (inl h)) = same_rests old new h.store
  broken_rests fault (inr (inr h)) =
      rests_then old.1 h.breaks.mid.1 new.1
      (in_turn_rests e old h.breaks.exchanges h.breaks.mid h.breaks.answered.runs)
      (failed_rests h.breaks.mid h.breaks.at h.breaks.before fault h.breaks.failed)

-- ---- the command
-- what clients are told of, by the mirror's chunks
abbrev pub export_by : Chunks → Export
export_by k = record { size = sector_bytes * k.size; readonly = true }

pub session_told : {I S : Type 0} (i : Sources I) (o : Sinks S) (k : Chunks) (first last : ArrayReader) (old new : MirrorView) (from to : I) (was now : S) → k ≡ old.array.chunks
    → (end : SessionEnd) → EndsSession reader_store i o (export_by k) (first, old) (last, new) from to was now end
    → EndsSession reader_store i o (export_of old.array) (first, old) (last, new) from to was now end
session_told i o k first last old new from to was now is end h =
    subst (λ (e : Export). EndsSession reader_store i o e (first, old) (last, new) from to was now end) (ap export_by is) h

pub broken_told : {I S : Type 0} (i : Sources I) (o : Sinks S) (k : Chunks) (first last : ArrayReader) (old new : MirrorView) (from to : I) (was now : S) → k ≡ old.array.chunks
    → (fault named : SessionFault) → fault ≡ named → BreaksSession reader_store i o (export_by k) (first, old) (last, new) from to was now fault
    → BreaksSession reader_store i o (export_of old.array) (first, old) (last, new) from to was now named
broken_told i o k first last old new from to was now is fault named same h =
    subst (λ (f : SessionFault). BreaksSession reader_store i o (export_of old.array) (first, old) (last, new) from to was now f) same
    (subst (λ (e : Export). BreaksSession reader_store i o e (first, old) (last, new) from to was now fault) (ap export_by is) h)

module _ {I S : Type 0} (i : Sources I) (o : Sinks S) (first last : ArrayReader) (old new : MirrorView) (from to : I) (was told now : S) where
  pub served_client : (end : SessionEnd) → is_orderly end ≡ true → EndsSession reader_store i o (export_of old.array) (first, old) (last, new) from to was told end
      → Flushes o.contents o.failed o.is_flushed told now → ServesClient i o first last old new from to was now
  served_client end orderly session flushes = record {
    end = end;
    orderly = orderly;
    told = told;
    session = session;
    flushed = record { puts = flushes.puts; flushed = flushes.flushed };
  }

  pub gave_zeros : ServesClient i o first last old new from to was now → (fault : UnreadFault) → IsFirstGap last.gaps fault → StopsServing i o first last old new from to was now (Read fault)
  gave_zeros served (Unreadable s) h = (served, h)
  gave_zeros served fault h = absurd h
