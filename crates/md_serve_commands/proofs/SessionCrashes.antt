-- What a client was told of stands at a crash within the session.
use Rattle.std.proofs.Common.{◌≡◌, ◌∙◌, inl, inr, ℕ, ◌<◌, true, false, List, [], ◌∷◌, ◌++◌, refl, sym, subst, true≢false}
use Rattle.md_model.specs.Content.{Content, Holds, IsGiven}
use Rattle.md_model.specs.Devices.{Super}
use Rattle.md_model.specs.Events.{Event}
use Rattle.md_model.specs.Openings.{IsWithinLimits}
use Rattle.md_model.specs.Sectors.{Geometry}
use Rattle.md_state.specs.View.{Disk, MirrorView, geometry_of}
use Rattle.md_array.specs.Worlds.{none_in_flight, super_of, world_of}
use Rattle.md_laws.specs.Left.{contents_of}
use Rattle.md_laws.specs.Lives.{IsReopened, MirrorLifeWith}
use Rattle.md_laws.specs.Runs.{IsStart, Moment, opened_as}
use Rattle.md_laws.proofs.Openings.Reopened.{same_geometry}
use Rattle.md_laws.proofs.Runs.LeftBehind.{held_along}
use Rattle.md_laws.proofs.Runs.MirrorContents.{IsHeldAt, final_geometry, life_held_at, starts_small}
use Rattle.md_laws.proofs.Runs.Moments.{IsSoundAt, sound_when_opened}
use Rattle.md_laws.proofs.Runs.Rests.{at_rest}
use Rattle.md_call_laws.proofs.RebuildLemmas.RebuildRun.{life_on}
use Rattle.md_nbd.specs.declared.export.Export.{Export}
use Rattle.md_nbd.specs.NbdTasks.{task_of}
use Rattle.md_nbd.specs.Server.Exchanges.{AnswersInTurn, Exchange}
use Rattle.md_serve_commands.specs.declared.writer.ArrayWriter.{ArrayWriter}
use Rattle.md_serve_commands.specs.Waiting.{writer_store}
use Rattle.md_serve_commands.specs.Calls.{AreNone, CallsLeftWhole, CrashesAlong, GoesAlong, IsClearOf, IsClearOfHalt, WentAtHalt, WentBehind, WentInCalls, calls_events, contents_after}
use Rattle.md_serve_commands.specs.Serving.{EndsCalls, IsDoneByCalls, all_events, calls_of}
use Rattle.md_serve_commands.specs.Sessions.{AllLeaveSector, CrashesAtEnd, CrashesHereOrLater, CrashesInSession, CrashesServing, CrashesThen, FlushedStands, HoldsTold, IsUnwritten, MayEnd, ServedLeftWhole, SessionsTellContent, StandsAfterFlush, StandsAtCrash, TellsContent, WaitsBeside, WaitsWhole, WentAtEnd, WentHereOrLater, WentServing, WentThen, WentUpTo, late_of, session_events, stop_of}
use Rattle.md_serve_commands.proofs.CallContents.{along_then, calls_along, sound_along}
use Rattle.md_serve_commands.proofs.CrashedCalls.{AllAside, calls_same, calls_settle, crash_at_halt, crash_in_calls, crash_later, fewer_aside, none_quiet}
use Rattle.md_serve_commands.proofs.GivenAfter.{given_resynced}
use Rattle.md_serve_commands.proofs.NextOpening.{given_next}
use Rattle.md_serve_commands.proofs.SessionContents.{IsClearAtEnd, IsClearBy, IsWholeAtEnd, IsWholeBy, Served, beside_none, covered_there, served_one, tells_all, went_on, whole_none}
use Rattle.md_serve_commands.proofs.SessionEnds.{all_stood, late_clear, late_whole, stop_clear, stop_whole}
use Rattle.md_serve_commands.proofs.WholeTasks.{whole_task}

module _ (before : List Disk) (m : MirrorView) (start_content : Content) (start : IsStart before m) (holds : Holds (geometry_of m.array) start_content (world_of m none_in_flight)) (final : MirrorView) where
  abbrev g : Geometry
  g = geometry_of m.array

  abbrev opened : Super
  opened = super_of final.array.shared

  abbrev small : IsWithinLimits (geometry_of m.array)
  small = starts_small before m start

  abbrev held : (es : List Event) (rest : List (List Event)) (t : Moment) (a : Content) → MirrorLifeWith m start_content es rest final t a → IsHeldAt g opened t a
  held es rest t a life = life_held_at before m start_content start holds es rest final t a life

  module _ (left : List Disk) where
    module _ (es : List Event) (rest : List (List Event)) (t : Moment) (a : Content) (life : MirrorLifeWith m start_content es rest final t a) (none : AreNone t.requests) where
      abbrev is : IsHeldAt g opened t a
      is = held es rest t a life

      module _ (new : MirrorView) (by : IsDoneByCalls t.mirror new) where
        abbrev IsAside : ℕ → Type 0
        IsAside = IsClearBy t.mirror new by

        abbrev b : Content
        b = contents_after by.first a

        abbrev c : Content
        c = contents_after by.asked b

        abbrev first_events : List Event
        first_events = calls_events by.first t.mirror by.between by.waited

        abbrev asked_events : List Event
        asked_events = calls_events by.asked by.between by.mid by.done

        abbrev done : List Event
        done = first_events ++ asked_events

        pub same_aside : (s : ℕ) → IsAside s → c s ≡ a s
        same_aside s off = calls_same by.asked b s off.1 ∙ calls_same by.first a s off.0

        module _ (whole : CallsLeftWhole t.requests none by.first t.mirror by.between by.waited) where
          pub first_along : GoesAlong first_events t a by.between b
          first_along = calls_along by.first t is.sound none by.between by.waited whole a

          pub first_settles : t.mirror.array.resynced ≡ true → by.between.array.resynced ≡ true
          first_settles was = calls_settle by.first t is.sound none by.between by.waited whole a was

          abbrev there : Moment
          there = record first_along.past { mirror = by.between; requests = t.requests }

          sound_there : IsSoundAt there
          sound_there = sound_along first_events t a b by.between first_along is.sound

          module _ (whole_too : CallsLeftWhole t.requests none by.asked by.between by.mid by.done) where
            pub by_along : GoesAlong done t a by.mid c
            by_along = along_then first_events asked_events t a b c by.between by.mid first_along (calls_along by.asked there sound_there none by.mid by.done whole_too b)

            pub by_settles : t.mirror.array.resynced ≡ true → by.mid.array.resynced ≡ true
            by_settles was = calls_settle by.asked there sound_there none by.mid by.done whole_too b (first_settles was)

        -- at the call that halted the mirror
        at_end : (x : GoesAlong done t a by.mid c) → (t.mirror.array.resynced ≡ true → by.mid.array.resynced ≡ true) → (ends : EndsCalls by.mid new) → IsWholeAtEnd by.mid new ends
            → (stop : CrashesAtEnd t.requests none left by.mid new ends)
            → CrashesAlong (WentBehind done (WentAtEnd t.requests none left by.mid new ends stop)) t a left (λ s. (c s ≡ a s) × IsClearAtEnd by.mid new ends s)
        at_end x settled (inl same) whole stop = absurd stop
        at_end x settled (inr h) whole stop =
            let u : Moment = record x.past { mirror = by.mid; requests = t.requests } in
            let on = life_on m start_content es rest final t a life done u c x.run in
            let Went : List Event → Type 0 = WentAtHalt t.requests none left by.mid new h stop in
            let There : ℕ → Type 0 = λ s. (c s ≡ a s) × IsClearOfHalt by.mid new h s in
            crash_later done Went There t a c by.mid left x settled (λ s off. off.0)
            (fewer_aside Went (IsClearOfHalt by.mid new h) There u c left (λ s off. off.1)
            (crash_at_halt before m start_content start holds final left on.0 on.1 u c on.2 none new h whole stop))

        pub crash_serving : IsWholeBy t.mirror new by → (stop : CrashesServing t.requests none left t.mirror new by)
            → CrashesAlong (WentServing t.requests none left t.mirror new by stop) t a left IsAside
        crash_serving entire (inl stop) =
            fewer_aside (WentInCalls t.requests none left by.first t.mirror by.between by.waited stop) (IsClearOf by.first) IsAside t a left (λ s off. off.0)
            (crash_in_calls before m start_content start holds final left by.first es rest t a life none by.between by.waited entire.0 stop)
        crash_serving entire (inr (whole, inl stop)) =
            let so_far : GoesAlong first_events t a by.between b = first_along whole in
            let on = life_on m start_content es rest final t a life first_events (there whole) b so_far.run in
            let Went : List Event → Type 0 = WentInCalls t.requests none left by.asked by.between by.mid by.done stop in
            crash_later first_events Went IsAside t a b by.between left so_far (first_settles whole) (λ s off. calls_same by.first a s off.0)
            (fewer_aside Went (IsClearOf by.asked) IsAside (there whole) b left (λ s off. off.1)
            (crash_in_calls before m start_content start holds final left by.asked on.0 on.1 (there whole) b on.2 none by.mid by.done entire.1 stop))
        crash_serving entire (inr (whole, inr stop)) =
            fewer_aside (WentBehind done (WentAtEnd t.requests none left by.mid new by.ends stop.1)) (λ s. (c s ≡ a s) × IsClearAtEnd by.mid new by.ends s) IsAside t a left
            (λ s off. (same_aside s off, off.2))
            (at_end (by_along whole stop.0) (by_settles whole stop.0) by.ends entire.2 stop.1)

        -- and where it goes on
        module _ (whole : ServedLeftWhole t.requests none t.mirror new by) (running : new.array.halted ≡ false) where
          abbrev OnTo : Type 0
          OnTo = (along : GoesAlong (all_events t.mirror new by) t a new c) × (t.mirror.array.resynced ≡ true → new.array.resynced ≡ true)

          pub on_to : OnTo
          on_to = elim (went_on done t a c by.mid new by.ends (by_along whole.0 whole.1) (by_settles whole.0 whole.1)) [
            | inl on ↦ on
            | inr halted ↦ absurd (true≢false (sym halted ∙ running))
          ]

          abbrev next : Moment
          next = record (on_to.0).past { mirror = new; requests = t.requests }

          pub next_life : (fs : List Event) × (rests : List (List Event)) × MirrorLifeWith m start_content fs rests final next c
          next_life = life_on m start_content es rest final t a life (all_events t.mirror new by) next c (on_to.0).run

          pub served_later : (Went : List Event → Type 0) (IsLater IsToo : ℕ → Type 0) → ((s : ℕ) → IsToo s → IsAside s × IsLater s) → CrashesAlong Went next c left IsLater
              → CrashesAlong (WentBehind (all_events t.mirror new by) Went) t a left IsToo
          served_later Went IsLater IsToo f crash =
              crash_later (all_events t.mirror new by) Went IsToo t a c new left on_to.0 on_to.1 (λ s off. same_aside s (f s off).0)
              (fewer_aside Went IsLater IsToo next c left (λ s off. (f s off).1) crash)

        -- what was done, or what comes later
        pub here_or_later : (Later : Type 0) (Went : Later → List Event → Type 0) (IsLater IsToo : ℕ → Type 0) → IsWholeBy t.mirror new by → ((s : ℕ) → IsToo s → IsAside s × IsLater s)
            → ((whole : ServedLeftWhole t.requests none t.mirror new by) (running : new.array.halted ≡ false) (stop : Later) → CrashesAlong (Went stop) (next whole running) c left IsLater)
            → (stop : CrashesHereOrLater t.requests none left t.mirror new by Later) → CrashesAlong (WentHereOrLater t.requests none left t.mirror new by Later Went stop) t a left IsToo
        here_or_later Later Went IsLater IsToo entire f then (inl stop) =
            fewer_aside (WentServing t.requests none left t.mirror new by stop) IsAside IsToo t a left (λ s off. (f s off).0) (crash_serving entire stop)
        here_or_later Later Went IsLater IsToo entire f then (inr later) =
            served_later later.0 later.1 (Went later.2) IsLater IsToo f (then later.0 later.1 later.2)

    -- ---- between two requests
    pub at_rest_there : (es : List Event) (rest : List (List Event)) (t : Moment) (a : Content) → MirrorLifeWith m start_content es rest final t a → (none : AreNone t.requests) (IsAside : ℕ → Type 0)
        → contents_of left ≡ contents_of t.mirror.disks → CrashesAlong (λ events. events ≡ []) t a left IsAside
    at_rest_there es rest t a life none IsAside stop = record {
      events = [];
      went = refl;
      at = t;
      content = a;
      run = (at_rest t, refl);
      is_left = inl stop;
      resynced = λ was. was;
      same = λ s off. refl;
      quiet = λ s off. none_quiet t.mirror t.requests none s;
    }

    -- ---- the end
    module _ (es : List Event) (rest : List (List Event)) (t : Moment) (a : Content) (life : MirrorLifeWith m start_content es rest final t a) (none : AreNone t.requests) (w : ArrayWriter) where
      crash_then : (end : MayEnd (w, t.mirror)) → WaitsWhole w → (stop : CrashesThen t.requests none left (w, t.mirror) end)
          → CrashesAlong (WentThen t.requests none left (w, t.mirror) end stop) t a left (WaitsBeside w)
      crash_then (inl goes_on) entire stop = at_rest_there es rest t a life none (WaitsBeside w) stop
      crash_then (inr end) entire stop =
          let late = late_of (w, t.mirror) end in
          let stops = stop_of (w, t.mirror) end in
          let Left : Type 0 = contents_of left ≡ contents_of end.new.disks in
          let NoFurther : Left → List Event → Type 0 = λ same events. events ≡ [] in
          here_or_later es rest t a life none end.ends.written late
          (CrashesHereOrLater t.requests none left end.ends.written end.new stops Left)
          (WentHereOrLater t.requests none left end.ends.written end.new stops Left NoFurther) AllAside (WaitsBeside w)
          (late_whole w t.mirror end.ends.written end.ends.kept end.ends.late entire) (λ s off. (late_clear w t.mirror end.ends.written end.ends.kept end.ends.late s off, tt))
          (λ whole running later.
          let on = next_life es rest t a life none end.ends.written late whole running in
          let u : Moment = next es rest t a life none end.ends.written late whole running in
          let b : Content = c es rest t a life none end.ends.written late in
          here_or_later on.0 on.1 u b on.2 none end.new stops Left NoFurther AllAside AllAside
          (stop_whole end.ends.written end.new end.result _ end.ends.stops) (λ s off. (stop_clear end.ends.written end.new end.result _ end.ends.stops s, tt))
          (λ whole_too running_too stop_then.
          let on_then = next_life on.0 on.1 u b on.2 none end.new stops whole_too running_too in
          at_rest_there on_then.0 on_then.1 (next on.0 on.1 u b on.2 none end.new stops whole_too running_too) (c on.0 on.1 u b on.2 none end.new stops) on_then.2 none AllAside stop_then)
          later)
          stop

    -- ---- a session
    crash_in_session : (e : Export) (xs : List Exchange) (es : List Event) (rest : List (List Event)) (t : Moment) (a : Content) → MirrorLifeWith m start_content es rest final t a
        → (none : AreNone t.requests) (w : ArrayWriter) (q : Served) (answers : AnswersInTurn writer_store e (w, t.mirror) xs q) (end : MayEnd q) → WaitsWhole w
        → (stop : CrashesInSession t.requests none left e (w, t.mirror) xs q answers (CrashesThen t.requests none left q end))
        → CrashesAlong (WentUpTo t.requests none left e (w, t.mirror) xs q answers end stop) t a left (IsUnwritten e w xs)
    crash_in_session e [] es rest t a life none w q answers end entire stop =
        fewer_aside (WentThen t.requests none left q end stop) (WaitsBeside w) (IsUnwritten e w []) t a left (λ s off. off.0)
        (at_that q answers end stop)
      where
        at_that : (p : Served) → p ≡ (w, t.mirror) → (there : MayEnd p) (x : CrashesThen t.requests none left p there) → CrashesAlong (WentThen t.requests none left p there x) t a left (WaitsBeside w)
        at_that p same = subst (λ (r : Served). (there : MayEnd r) (x : CrashesThen t.requests none left r there) → CrashesAlong (WentThen t.requests none left r there x) t a left (WaitsBeside w)) (sym same)
            (λ there x. crash_then es rest t a life none w there entire x)
    crash_in_session e (x ∷ xs) es rest t a life none w q answers end entire stop =
        let by = calls_of (w, t.mirror) answers.0 e x answers.1 in
        let here = served_one e (w, t.mirror) answers.0 x answers.1 in
        let whole_too = here.whole entire (whole_task e x.request x.payload answers.1.payload (task_of e x.request) refl) in
        here_or_later es rest t a life none answers.0.1 by
        (CrashesInSession t.requests none left e answers.0 xs q answers.2 (CrashesThen t.requests none left q end))
        (WentUpTo t.requests none left e answers.0 xs q answers.2 end) (IsUnwritten e answers.0.0 xs) (IsUnwritten e w (x ∷ xs)) whole_too.0
        (λ s off. let clear = here.clear s off.0 off.1.0 in (clear.0, (clear.1, off.1.1)))
        (λ whole running later.
        let on = next_life es rest t a life none answers.0.1 by whole running in
        crash_in_session e xs on.0 on.1 (next es rest t a life none answers.0.1 by whole running) (c es rest t a life none answers.0.1 by) on.2 none answers.0.0 q answers.2 end whole_too.1 later)
        stop

  -- ---- what the next opening finds
  module _ (Went : List Event → Type 0) (es : List Event) (rest : List (List Event)) (t : Moment) (a : Content) (life : MirrorLifeWith m start_content es rest final t a)
      (was : t.mirror.array.resynced ≡ true) (left : List Disk) (IsAside : ℕ → Type 0) (crash : CrashesAlong Went t a left IsAside) where
    abbrev at : IsHeldAt g opened t a
    at = held es rest t a life

    held_at : IsHeldAt g opened crash.at crash.content
    held_at = held_along g small opened crash.events t a crash.at crash.content crash.run at

    low_in : (s : ℕ) → s < t.mirror.array.chunks.size → s < (geometry_of m.array).size
    low_in s low = subst (λ (x : Geometry). s < x.size) at.geometry low

    at_final : geometry_of final.array ≡ g
    at_final = final_geometry before m start_content start holds es rest final t a life

    given_there : (next_one : MirrorView) → IsReopened final crash.at next_one → (s : ℕ) → s < t.mirror.array.chunks.size → IsAside s → IsGiven (world_of next_one none_in_flight) a s
    given_there next_one again s low off k on clear =
        given_next g small final at_final crash.at crash.content held_at (crash.resynced was) next_one again s (low_in s low) (crash.quiet s off) k on clear ∙ crash.same s off

    pub stands : StandsAtCrash final Went t a left IsAside
    stands = record {
      crash = crash;
      covered = covered_there g small opened crash.at crash.content held_at;
      given = given_there;
      resynced = λ next_one again new r s low off.
          given_resynced a s (opened_as next_one) (sound_when_opened again.before next_one again.devices.honest again.opens) new r (given_there next_one again s low off);
      content = λ next_one again b becomes s low off.
          let geometry : geometry_of next_one.array ≡ g = same_geometry crash.at held_at.sound again.before next_one.array again.devices again.opens.array ∙ held_at.geometry in
          becomes.kept s (subst (λ (x : Geometry). s < x.size) (sym geometry) (low_in s low))
          (given_next g small final at_final crash.at crash.content held_at (crash.resynced was) next_one again s (low_in s low) (crash.quiet s off))
          ∙ crash.same s off;
    }

  -- ---- a crash after a flush
  module _ (es : List Event) (rest : List (List Event)) (t : Moment) (a : Content) (life : MirrorLifeWith m start_content es rest final t a) (none : AreNone t.requests)
      (was : t.mirror.array.resynced ≡ true) (e : Export) (w : ArrayWriter) (xs : List Exchange) (mid : Served) (answers : AnswersInTurn writer_store e (w, t.mirror) xs mid)
      (waits_none : mid.0.run.items ≡ []) (ys : List Exchange) (q : Served) (more : AnswersInTurn writer_store e mid ys q) (end : MayEnd q) (left : List Disk) where
    abbrev session : List Event
    session = session_events e (w, t.mirror) xs mid answers

    pub stands_since : (tells : TellsContent t a e w xs mid answers) → HoldsTold session t a mid tells.told
        → (stop : CrashesInSession t.requests none left e mid ys q more (CrashesThen t.requests none left q end))
        → StandsAfterFlush final t a e w xs mid answers (WentUpTo t.requests none left e mid ys q more end stop) left (AllLeaveSector e ys)
    stands_since tells holds_told stop =
        let goes : GoesAlong session t a mid.1 tells.told = subst (λ (b : Content). GoesAlong session t a mid.1 b) (sym (holds_told.flushed waits_none)) holds_told.goes in
        let u : Moment = record goes.past { mirror = mid.1; requests = t.requests } in
        let on = life_on m start_content es rest final t a life session u tells.told goes.run in
        let Went : List Event → Type 0 = WentUpTo t.requests none left e mid ys q more end stop in
        record {
          told = tells.told;
          answered = tells.answered;
          goes = goes;
          stands = stands Went on.0 on.1 u tells.told on.2 (holds_told.resynced was) left (AllLeaveSector e ys)
              (fewer_aside Went (IsUnwritten e mid.0 ys) (AllLeaveSector e ys) u tells.told left (λ s off. (beside_none mid.0 waits_none s, off))
              (crash_in_session left e ys on.0 on.1 u tells.told on.2 none mid.0 q more end (whole_none mid.0 waits_none) stop));
        }

pub sessions_tell : SessionsTellContent
sessions_tell before m start_content start holds es rest final t a life none e first xs last answers = record {
  tells = λ whole.
      tells_all (geometry_of m.array) (starts_small before m start) (super_of final.array.shared) e xs t first a (life_held_at before m start_content start holds es rest final t a life) none last answers whole;
  stands = λ was entire end left stop.
      stands before m start_content start holds final (WentUpTo t.requests none left e (first, t.mirror) xs last answers end stop) es rest t a life was left (IsUnwritten e first xs)
      (crash_in_session before m start_content start holds final left e xs es rest t a life none first last answers end entire stop);
}

pub flushed_stands : FlushedStands
flushed_stands before m start_content start holds es rest final t a life none was e first xs mid answers standing whole ys last more end left stop =
    let stood = all_stood e (first, t.mirror) xs mid answers standing in
    let tells = tells_all (geometry_of m.array) (starts_small before m start) (super_of final.array.shared) e xs t first a (life_held_at before m start_content start holds es rest final t a life) none mid answers whole in
    stands_since before m start_content start holds final es rest t a life none was e first xs mid answers stood.0 ys last more end left tells (tells.holds stood.1) stop
