-- A new array that is resynced has a life in which sessions are told of.
use Rattle.std.proofs.Common.{◌≡◌, ◌∙◌, inl, true≢false, false, List, [], ◌∷◌, ◌++◌, refl, sym, ap, subst}
use Rattle.std.proofs.lemmas.List.{append-nil}
use Rattle.md_model.specs.Content.{Content}
use Rattle.md_model.specs.Events.{Event}
use Rattle.md_state.specs.View.{ArrayView, Disk, MirrorView, geometry_of}
use Rattle.md_array.specs.InTurn.{AllOf}
use Rattle.md_array.specs.Open.Opened.{IsOpenedFrom}
use Rattle.md_array.specs.Worlds.{AreHonest, none_in_flight, world_of}
use Rattle.md_laws.specs.Fresh.{AreFresh}
use Rattle.md_laws.specs.Runs.{IsStart, MirrorRun, MirrorRunTellsEnrolments, Moment, opened_as, then_as}
use Rattle.md_laws.proofs.Openings.Fresh.{starts_fresh}
use Rattle.md_laws.proofs.Runs.MirrorContents.{content_at_first, content_told}
use Rattle.md_laws.proofs.Runs.Moments.{IsSoundAt, sound_when_opened}
use Rattle.md_resync.specs.Resyncing.{Resyncs}
use Rattle.md_nbd.specs.declared.export.Export.{Export}
use Rattle.md_nbd.specs.declared.task.Task.{Task}
use Rattle.md_nbd.specs.declared.task.Task.TheVariants as task
use Rattle.md_nbd.specs.NbdTasks.{task_of}
use Rattle.md_nbd.specs.SimpleReplies.{success_reply}
use Rattle.md_nbd.specs.declared.server.refusal.RequestFault.{RequestFault}
use Rattle.md_nbd.specs.Server.Exchanges.{AnswersFor, DoesTask, Exchange, IsWhyOf}
use Rattle.md_serve_commands.specs.declared.writer.ArrayWriter.{ArrayWriter}
use Rattle.md_serve_commands.specs.Waiting.{writer_store}
use Rattle.md_serve_commands.specs.Calls.{AreNone}
use Rattle.md_serve_commands.specs.Serving.{task_by}
use Rattle.md_serve_commands.specs.Sessions.{IsToStand, ServedLeftWhole}
use Rattle.md_serve_commands.specs.FirstSessions.{HasComeTo, IsFlushDone, MayBeFlushed, SessionsMayBegin}
use Rattle.md_serve_commands.proofs.GivenAfter.{IsGiving}
use Rattle.md_serve_commands.proofs.Readied.{none_here, resync_giving, resync_reaches, resync_run}

none_told : (es : List Event) → AllOf IsGiving es → (t : Moment) (a : Content) (last : Moment) (r : MirrorRun t es last) → MirrorRunTellsEnrolments t a es last r
none_told [] of t a last r = tt
none_told (e ∷ es) of t a last r =
    (none_here e of.0 (geometry_of t.mirror.array) (world_of t.mirror t.requests) a, λ b becomes. none_told es of.1 (then_as t e r.0 r.1) b last r.3)

none_now : AreNone none_in_flight
none_now n = refl

module _ (before : List Disk) (m new : MirrorView) (honest : AreHonest before) (fresh : AreFresh before) (opened : IsOpenedFrom before m) (r : Resyncs m new) where
  abbrev t : Moment
  t = opened_as m

  at : IsSoundAt (opened_as m)
  at = sound_when_opened before m honest opened

  abbrev events : List Event
  events = r.tells.goes.events ++ r.then.goes.events

  abbrev last : Moment
  last = record (resync_reaches (opened_as m) at new r).0 { mirror = new; requests = none_in_flight }

  whole_run : MirrorRun (opened_as m) events last
  whole_run = resync_run (opened_as m) at new r

  start : IsStart before m
  start = starts_fresh before m honest opened fresh

  comes_to : HasComeTo before m new
  comes_to =
      let c = content_at_first before m start in
      let b = content_told before m c.0 start c.1 events [] m last (refl, whole_run) (none_told events (resync_giving (opened_as m) at new r) t c.0 last whole_run) in
      record {
        start = start;
        first = c.0;
        holds = c.1;
        events = events;
        past = (resync_reaches (opened_as m) at new r).0;
        content = b.0;
        life = b.1;
        none = none_now;
        resynced = ap (λ (a : ArrayView). a.resynced) r.then.array.array;
      }

  runs_there : new.array.halted ≡ false
  runs_there = ap (λ (a : ArrayView). a.halted) r.then.array.array ∙ r.then.idle.running

-- ---- a flush alone
module _ (new : MirrorView) (running : new.array.halted ≡ false) (none : AreNone none_in_flight) (e : Export) (w : ArrayWriter) (x : Exchange) (nothing_waits : w.run.items ≡ [])
    (flush : IsFlushDone e x) where
  abbrev Flushes : Task → Type 0
  Flushes u =
      (does : DoesTask writer_store u x.request.cookie x.payload (w, new) (w, new) x.reply)
      × ServedLeftWhole none_in_flight none new new (task_by (w, new) (w, new) u x.request.cookie x.payload x.reply does)

  as_flush : Flushes task.Flush
  as_flush = (inl (record { running = running; mid = new; waited = inl (nothing_waits, refl); none = nothing_waits; marks = inl refl }, flush.told), (tt, tt))

  done_so : Flushes (task_of e x.request)
  done_so = subst Flushes (sym flush.flush) as_flush

  abbrev is_why : RequestFault → Type 0
  is_why = IsWhyOf writer_store e x.request (task_of e x.request) x.payload (w, new) (w, new)

  unrefused : AnswersFor is_why x.request.cookie x.reply x.fault
  unrefused =
      let told : x.reply ≡ success_reply x.request.cookie ++ [] = flush.told ∙ sym (append-nil (success_reply x.request.cookie)) in
      subst (AnswersFor is_why x.request.cookie x.reply) (sym flush.unrefused) ([], told)

  flushed_alone : MayBeFlushed new none e w x
  flushed_alone = record {
    answers = ((w, new), record { payload = flush.whole; does = done_so.0; rested = λ is. absurd (true≢false (sym is ∙ flush.asked)); why = λ _. unrefused }, refl);
    stands = (subst IsToStand (sym flush.flush) tt, flush.told);
    whole = (done_so.1, tt);
  }

pub sessions_begin : SessionsMayBegin
sessions_begin before m new honest fresh opened r = record {
  comes = comes_to before m new honest fresh opened r;
  running = runs_there before m new honest fresh opened r;
  flushes = λ e w x nothing_waits flush.
      flushed_alone new (runs_there before m new honest fresh opened r) (comes_to before m new honest fresh opened r).none e w x nothing_waits flush;
}
