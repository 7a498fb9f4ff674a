-- What a client was told of from the opening of a session on is what the array holds at its end.
use Rattle.std.proofs.Common.{◌≡◌, ◌∙◌, inl, inr, ℕ, true, false, List, [], ◌∷◌, ◌++◌, Result, Ok, Err, refl, sym, ap, subst}
use Rattle.md_model.specs.Content.{Content, Holds}
use Rattle.md_model.specs.Devices.{Super}
use Rattle.md_model.specs.Events.{Event}
use Rattle.md_model.specs.Openings.{IsWithinLimits}
use Rattle.md_model.specs.Sectors.{Geometry}
use Rattle.md_faults.specs.declared.step_fault.BeginFault.{BeginFault}
use Rattle.md_state.specs.View.{Disk, MirrorView, geometry_of}
use Rattle.md_array.specs.Worlds.{none_in_flight, super_of, world_of}
use Rattle.md_laws.specs.Lives.{MirrorLifeWith}
use Rattle.md_laws.specs.Runs.{IsStart, Moment}
use Rattle.md_laws.proofs.Runs.LeftBehind.{held_along}
use Rattle.md_laws.proofs.Runs.MirrorContents.{IsHeldAt, life_held_at, starts_small}
use Rattle.md_call_laws.proofs.RebuildLemmas.RebuildRun.{life_on}
use Rattle.md_streams.specs.declared.sink.Sink.{Ghosts as Sinks}
use Rattle.md_refusals.specs.declared.fault.CommandFault.{CommandFault}
use Rattle.md_refusals.specs.declared.fault.CommandFault.TheVariants.{InputFault, NoPieceMemory, OutputFault}
use Rattle.md_streams.specs.declared.source.Source.{Ghosts as Sources}
use Rattle.md_nbd.specs.declared.export.Export.{Export}
use Rattle.md_nbd.specs.declared.task.Task.{Task}
use Rattle.md_nbd.specs.declared.task.Task.TheVariants as task
use Rattle.md_nbd.specs.NbdTasks.{task_of}
use Rattle.md_nbd.specs.Server.Exchanges.{AnswersInTurn, Exchange}
use Rattle.md_serve_commands.specs.declared.writer.ArrayWriter.{ArrayWriter}
use Rattle.md_serve_commands.specs.Waiting.{writer_store}
use Rattle.md_serve_commands.specs.Writable.{HasServed, StopsThen, told_after}
use Rattle.md_serve_commands.specs.Calls.{AreNone, GoesAlong, contents_after}
use Rattle.md_serve_commands.specs.Serving.{IsDoneByCalls, all_events}
use Rattle.md_serve_commands.specs.Sessions.{AllLeaveSector, AllServedWhole, AnswersAllAs, AnswersAs, EndsStanding, HoldsTold, LeavesSector, ServedLeftWhole, SomeEnd, TellsContent, WaitsBeside, late_of, session_events, stop_of}
use Rattle.md_serve_commands.specs.WholeSessions.{AnySector, KeepsTold, NoEvent, SaysKept, SessionsAreWhole, SessionsEndAsTold, StandsAtEnd, TellsToTheEnd, answers_of, end_served, end_serving_events, export_served, last_served, requests_of}
use Rattle.md_serve_commands.proofs.CallContents.{along_then}
use Rattle.md_serve_commands.proofs.Halted.{not_both}
use Rattle.md_serve_commands.proofs.JoinedWrites.{write_off}
use Rattle.md_serve_commands.proofs.Readied.{readied_there}
use Rattle.md_serve_commands.proofs.SessionContents.{Served, beside_none, covered_there, rests_there, served_one, tells_all, waits_none}
use Rattle.md_serve_commands.proofs.SessionCrashes.{at_rest_there, on_to, stands}
use Rattle.md_serve_commands.proofs.SessionEnds.{all_stood, late_keeps, late_ran, stop_content, stop_done, stop_ran, stop_says_halted}
use Rattle.md_serve_commands.proofs.SessionExchanges.{sessions_exchange}
use Rattle.md_serve_commands.proofs.Stopped.{is_stopped}

-- ---- since a flush
in_turn_parts : (e : Export) (p : Served) (xs ys : List Exchange) (q : Served) → AnswersInTurn writer_store e p (xs ++ ys) q
    → (mid : Served) × AnswersInTurn writer_store e p xs mid × AnswersInTurn writer_store e mid ys q
in_turn_parts e p [] ys q h = (p, refl, h)
in_turn_parts e p (x ∷ xs) ys q h =
    let rest = in_turn_parts e h.0 xs ys q h.2 in
    (rest.0, (h.0, h.1, rest.1), rest.2)

waits_aside : (e : Export) (p : Served) (xs : List Exchange) (q : Served) → AnswersInTurn writer_store e p xs q → (s : ℕ) → AllLeaveSector e xs s → WaitsBeside p.0 s → WaitsBeside q.0 s
waits_aside e p [] q h s leave off = subst (λ (r : Served). WaitsBeside r.0 s) (sym h) off
waits_aside e p (x ∷ xs) q h s leave off = waits_aside e h.0 xs q h.2 s leave.1 ((served_one e p h.0 x h.1).clear s off leave.0).1

waits_since : (e : Export) (p : Served) (ys zs : List Exchange) (q : Served) → AnswersInTurn writer_store e p (ys ++ zs) q → EndsStanding e ys → (s : ℕ) → AllLeaveSector e zs s → WaitsBeside q.0 s
waits_since e p ys zs q h standing s leave =
    let parts = in_turn_parts e p ys zs q h in
    waits_aside e parts.0 zs q parts.2 s leave (beside_none (parts.0).0 (all_stood e p ys parts.0 parts.1 standing).0 s)

-- what is told of goes one way
as_one : (t : Task) (x : Exchange) (a b c : Content) → AnswersAs t a x b → AnswersAs t a x c → b ≡ c
as_one (task.Read sector sectors) x a b c h k = h.1 ∙ sym k.1
as_one (task.Write sector sectors through) x a b c (inl h) (inl k) = h.1 ∙ sym k.1
as_one (task.Write sector sectors through) x a b c (inl h) (inr k) = absurd (not_both x.request.cookie (sym h.0 ∙ k.0))
as_one (task.Write sector sectors through) x a b c (inr h) (inl k) = absurd (not_both x.request.cookie (sym k.0 ∙ h.0))
as_one (task.Write sector sectors through) x a b c (inr h) (inr k) = h.1 ∙ sym k.1
as_one task.Flush x a b c h k = h.1 ∙ sym k.1
as_one task.Disconnect x a b c h k = absurd h
as_one (task.Refuse error) x a b c h k = h.1 ∙ sym k.1

as_aside : (t : Task) (x : Exchange) (a b : Content) (s : ℕ) → AnswersAs t a x b → LeavesSector t x.payload s → b s ≡ a s
as_aside (task.Read sector sectors) x a b s h off = ap (λ (f : Content). f s) h.1
as_aside (task.Write sector sectors through) x a b s (inl h) off = ap (λ (f : Content). f s) h.1 ∙ write_off sector x.payload a s off
as_aside (task.Write sector sectors through) x a b s (inr h) off = ap (λ (f : Content). f s) h.1
as_aside task.Flush x a b s h off = ap (λ (f : Content). f s) h.1
as_aside task.Disconnect x a b s h off = absurd h
as_aside (task.Refuse error) x a b s h off = ap (λ (f : Content). f s) h.1

all_aside : (e : Export) (a : Content) (xs : List Exchange) (b : Content) (s : ℕ) → AnswersAllAs e a xs b → AllLeaveSector e xs s → b s ≡ a s
all_aside e a [] b s h leave = ap (λ (f : Content). f s) h
all_aside e a (x ∷ xs) b s h leave = all_aside e h.0 xs b s h.2 leave.1 ∙ as_aside (task_of e x.request) x a h.0 s h.1 leave.0

told_since : (e : Export) (a : Content) (ys zs : List Exchange) (b c : Content) (s : ℕ) → AnswersAllAs e a (ys ++ zs) b → AnswersAllAs e a ys c → AllLeaveSector e zs s → b s ≡ c s
told_since e a [] zs b c s h k leave = all_aside e a zs b s h leave ∙ ap (λ (f : Content). f s) (sym k)
told_since e a (x ∷ ys) zs b c s h k leave =
    let same : k.0 ≡ h.0 = as_one (task_of e x.request) x a k.0 h.0 k.1 h.1 in
    told_since e h.0 ys zs b c s h.2 (subst (λ (d : Content). AnswersAllAs e d ys c) same k.2) leave

keeps_at : (w : ArrayWriter) (kept : Result (Unit {0}) BeginFault) (told b : Content) (s : ℕ) → KeepsTold w kept told b → WaitsBeside w s → b s ≡ told s
keeps_at w (Ok x) told b s is off = ap (λ (f : Content). f s) is
keeps_at w (Err fault) told b s is off = sym (ap (λ (f : Content). f s) is ∙ write_off w.start w.run.items b s off)

-- ---- to the end
module _ (before : List Disk) (m : MirrorView) (start_content : Content) (start : IsStart before m) (holds : Holds (geometry_of m.array) start_content (world_of m none_in_flight)) (final : MirrorView)
    (es : List Event) (rest : List (List Event)) (t : Moment) (a : Content) (life : MirrorLifeWith m start_content es rest final t a) (none : AreNone t.requests) (e : Export)
    (first : ArrayWriter) (fresh : first.run.items ≡ []) (xs : List Exchange) (last : Served) (answers : AnswersInTurn writer_store e (first, t.mirror) xs last) (end : SomeEnd last)
    (whole : AllServedWhole t.requests none e (first, t.mirror) xs last answers)
    (whole_late : ServedLeftWhole t.requests none last.1 end.ends.written (late_of last end))
    (whole_stop : ServedLeftWhole t.requests none end.ends.written end.new (stop_of last end)) where
  abbrev g : Geometry
  g = geometry_of m.array

  abbrev opened : Super
  opened = super_of final.array.shared

  small : IsWithinLimits (geometry_of m.array)
  small = starts_small before m start

  held_first : IsHeldAt (geometry_of m.array) (super_of final.array.shared) t a
  held_first = life_held_at before m start_content start holds es rest final t a life

  tells : TellsContent t a e first xs last answers
  tells = tells_all (geometry_of m.array) small (super_of final.array.shared) e xs t first a held_first none last answers whole

  answered : AnswersAllAs e a xs tells.told
  answered = subst (λ (c : Content). AnswersAllAs e c xs tells.told) (waits_none first a fresh) tells.answered

  module _ (running : end.new.array.halted ≡ false) where
    running_written : end.ends.written.array.halted ≡ false
    running_written = stop_ran end.ends.written end.new end.result (told_after end.ends.kept end.told) end.ends.stops running

    at_last : HoldsTold (session_events e (first, t.mirror) xs last answers) t a last tells.told
    at_last = tells.holds (late_ran last.0 last.1 end.ends.written end.ends.kept end.ends.late running_written)

    -- the moment after the requests, after what waited, and after the stop
    abbrev u : Moment
    u = record at_last.goes.past { mirror = last.1; requests = t.requests }

    life_u : (fs : List Event) × (rests : List (List Event)) × MirrorLifeWith m start_content fs rests final u at_last.content
    life_u = life_on m start_content es rest final t a life (session_events e (first, t.mirror) xs last answers) u at_last.content at_last.goes.run

    abbrev late : IsDoneByCalls last.1 end.ends.written
    late = late_of last end

    abbrev stops : IsDoneByCalls end.ends.written end.new
    stops = stop_of last end

    abbrev content : Content
    content = contents_after late.asked (contents_after late.first at_last.content)

    late_on : (along : GoesAlong (all_events last.1 end.ends.written late) u at_last.content end.ends.written content) × (last.1.array.resynced ≡ true → end.ends.written.array.resynced ≡ true)
    late_on = on_to before m start_content start holds final [] life_u.0 life_u.1 u at_last.content life_u.2 none end.ends.written late whole_late running_written

    life_v : (fs : List Event) × (rests : List (List Event)) × MirrorLifeWith m start_content fs rests final (record (late_on.0).past { mirror = end.ends.written; requests = t.requests }) content
    life_v = life_on m start_content life_u.0 life_u.1 final u at_last.content life_u.2 (all_events last.1 end.ends.written late)
        (record (late_on.0).past { mirror = end.ends.written; requests = t.requests }) content (late_on.0).run

    abbrev v : Moment
    v = record (late_on.0).past { mirror = end.ends.written; requests = t.requests }

    abbrev content_after_stop : Content
    content_after_stop = contents_after stops.asked (contents_after stops.first content)

    stop_on : (along : GoesAlong (all_events end.ends.written end.new stops) v content end.new content_after_stop) × (end.ends.written.array.resynced ≡ true → end.new.array.resynced ≡ true)
    stop_on = on_to before m start_content start holds final [] life_v.0 life_v.1 v content life_v.2 none end.new stops whole_stop running

    stop_along : GoesAlong (all_events end.ends.written end.new stops) v content end.new content
    stop_along = subst (λ (f : Content). GoesAlong (all_events end.ends.written end.new stops) v content end.new f)
        (stop_content end.ends.written end.new end.result (told_after end.ends.kept end.told) end.ends.stops content) stop_on.0

    abbrev events : List Event
    events = session_events e (first, t.mirror) xs last answers ++ end_serving_events last end

    goes : GoesAlong (session_events e (first, t.mirror) xs last answers ++ end_serving_events last end) t a end.new content
    goes = along_then (session_events e (first, t.mirror) xs last answers) (end_serving_events last end) t a at_last.content content last.1 end.new at_last.goes
        (along_then (all_events last.1 end.ends.written late) (all_events end.ends.written end.new stops) u at_last.content content content end.ends.written end.new late_on.0 stop_along)

    abbrev z : Moment
    z = record goes.past { mirror = end.new; requests = t.requests }

    held_z : IsHeldAt (geometry_of m.array) (super_of final.array.shared) (record goes.past { mirror = end.new; requests = t.requests }) content
    held_z = held_along (geometry_of m.array) small (super_of final.array.shared) events t a z content goes.run held_first

    life_z : (fs : List Event) × (rests : List (List Event)) × MirrorLifeWith m start_content fs rests final (record goes.past { mirror = end.new; requests = t.requests }) content
    life_z = life_on m start_content es rest final t a life events z content goes.run

    settled : t.mirror.array.resynced ≡ true → end.new.array.resynced ≡ true
    settled was = stop_on.1 (late_on.1 (at_last.resynced was))

    kept : KeepsTold last.0 end.ends.kept tells.told content
    kept = late_keeps last.0 last.1 end.ends.written end.ends.kept end.ends.late at_last.content tells.told at_last.waits

    flushed : (ys zs : List Exchange) → xs ≡ ys ++ zs → EndsStanding e ys → (b : Content) → AnswersAllAs e a ys b → (s : ℕ) → AllLeaveSector e zs s → content s ≡ b s
    flushed ys zs parts standing b until s leave =
        let all : AnswersInTurn writer_store e (first, t.mirror) (ys ++ zs) last = subst (λ (l : List Exchange). AnswersInTurn writer_store e (first, t.mirror) l last) parts answers in
        let told_all : AnswersAllAs e a (ys ++ zs) tells.told = subst (λ (l : List Exchange). AnswersAllAs e a l tells.told) parts answered in
        keeps_at last.0 end.ends.kept tells.told content s kept (waits_since e (first, t.mirror) ys zs last all standing s leave)
        ∙ told_since e a ys zs tells.told b s told_all until leave

    stands_at_end : StandsAtEnd final t a e first xs last answers end tells.told
    stands_at_end = record {
      content = content;
      kept = kept;
      flushed = flushed;
      goes = goes;
      held = rests_there (geometry_of m.array) (super_of final.array.shared) z content held_z;
      covered = covered_there (geometry_of m.array) small (super_of final.array.shared) z content held_z;
      resynced = settled;
      stopped = λ says.
          is_stopped end.ends.written end.new (stop_done end.ends.written end.new end.result (told_after end.ends.kept end.told) says end.ends.stops);
      stands = λ was left same.
          stands before m start_content start holds final NoEvent life_z.0 life_z.1 z content life_z.2 (settled was) left AnySector
          (at_rest_there before m start_content start holds final left life_z.0 life_z.1 z content life_z.2 none AnySector same);
    }

  pub tells_to_the_end : TellsToTheEnd final t a e first xs last answers end
  tells_to_the_end = record {
    told = tells.told;
    answered = answered;
    running = λ running. stands_at_end running;
    halted = λ halted. stop_says_halted end.ends.written end.new end.result (told_after end.ends.kept end.told) halted end.ends.stops;
  }

pub sessions_end_as_told : SessionsEndAsTold
sessions_end_as_told before m start_content start holds es rest final t a life none e first fresh xs last answers end whole whole_late whole_stop =
    tells_to_the_end before m start_content start holds final es rest t a life none e first fresh xs last answers end whole whole_late whole_stop

-- ---- what the command says
module _ {I S : Type 0} (i : Sources I) (o : Sinks S) (first last : ArrayWriter) (ready served written new : MirrorView) (from to : I) (was now : S) where
  told_so : (told : Result (Unit {0}) CommandFault) → HasServed i o first last ready served from to was now told → (done : Unit {0}) → SaysKept told (Ok done)
  told_so (Ok x) h done = tt
  told_so (Err InputFault) h done = tt
  told_so (Err OutputFault) h done = tt
  told_so (Err NoPieceMemory) h done = tt
  told_so (Err fault) h done = absurd h

  told_after_so : (told : Result (Unit {0}) CommandFault) → HasServed i o first last ready served from to was now told → (kept : Result (Unit {0}) BeginFault) → SaysKept (told_after kept told) kept
  told_after_so told h (Ok x) = told_so told h x
  told_after_so told h (Err fault) = refl

  says_kept : (told result : Result (Unit {0}) CommandFault) → HasServed i o first last ready served from to was now told → (kept : Result (Unit {0}) BeginFault)
      → StopsThen (told_after kept told) written new result → SaysKept result kept
  says_kept told result h kept (inl stop) = subst (λ (r : Result (Unit {0}) CommandFault). SaysKept r kept) (sym stop.1) (told_after_so told h kept)
  says_kept told result h kept (inr stop) = subst (λ (r : Result (Unit {0}) CommandFault). SaysKept r kept) (sym stop.2) tt

module _ {I S : Type 0} (i : Sources I) (o : Sinks S) where
  pub sessions_whole : SessionsAreWhole i o
  sessions_whole before m start_content start holds es rest final t a life none new from to was now result serves =
      let held = life_held_at before m start_content start holds es rest final t a life in
      let readied = readied_there (geometry_of m.array) (starts_small before m start) (super_of final.array.shared) t a held serves.ready serves.readied.readied in
      let u : Moment = record readied.1.goes.past { mirror = serves.ready; requests = t.requests } in
      let on = life_on m start_content es rest final t a life readied.1.events u readied.0 readied.1.goes.run in
      let come = sessions_exchange i o serves.first serves.last serves.ready serves.served from to was now serves.told serves.session in
      record {
        begun = readied.0;
        readied = readied.1;
        come = come;
        said = says_kept i o serves.first serves.last serves.ready serves.served serves.ends.written new from to was now serves.told result serves.session serves.ends.kept serves.ends.stops;
        tells = λ whole whole_late whole_stop.
            sessions_end_as_told before m start_content start holds on.0 on.1 final u readied.0 on.2 none (export_served i o t new from to was now result serves) serves.first serves.fresh.none
            (requests_of i o t new from to was now result serves come) (last_served i o t new from to was now result serves) (answers_of i o t new from to was now result serves come)
            (end_served i o t new from to was now result serves) whole whole_late whole_stop;
      }
