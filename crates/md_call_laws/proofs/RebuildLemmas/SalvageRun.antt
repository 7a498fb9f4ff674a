-- A salvage in the life of a mirror is a run, along which the content stays.
use Rattle.std.proofs.Common.{◌≡◌, ◌∙◌, ℕ, Bool, true, false, List, [], ◌∷◌, ◌++◌, None, refl, sym, ap, subst}
use Rattle.md_bitmap.specs.Marks.{Bitmap}
use Rattle.md_kept_members.specs.SectorLists.{in_chunks_but, in_runs}
use Rattle.md_model.specs.Content.{Content, Holds}
use Rattle.md_model.specs.Events.{Event}
use Rattle.md_state.specs.Steps.MakeClean.{first_number}
use Rattle.md_state.specs.Requests.{AreInFlight}
use Rattle.md_state.specs.View.{ArrayView, Disk, MirrorView, geometry_of}
use Rattle.md_array.specs.Consistency.{IsConsistent}
use Rattle.md_array.specs.Steps.Enrol.{Enrols, HoldsContent, MayEnrolSectors}
use Rattle.md_array.specs.Steps.EnrolEvents.{IsHeldBy, enrol_event, prepared}
use Rattle.md_array.specs.InTurn.{AllLeftWhole, AllOf, InTurn, Requests}
use Rattle.md_array.specs.Worlds.{lists_of, none_in_flight, world_of}
use Rattle.md_array.proofs.StepLemmas.Turns.{all_on, all_such}
use Rattle.md_laws.specs.CallCrashes.{CrashesIn}
use Rattle.md_laws.specs.Lives.{MirrorLifeWith}
use Rattle.md_laws.specs.Runs.{IsStart, MirrorRun, MirrorRunWith, Moment}
use Rattle.md_laws.proofs.Runs.ContentRuns.{without_content}
use Rattle.md_laws.proofs.Runs.MirrorContents.{life_held_at}
use Rattle.md_metadata.specs.Going.{GoesOn, only_others}
use Rattle.md_metadata.specs.Storing.{IsStoring}
use Rattle.md_copy.specs.RebuildEvents.{IsBeforeEnrol, IsOfRebuild}
use Rattle.md_copy.specs.Salvaging.Steps.{Salvages}
use Rattle.md_copy.specs.declared.salvaging.salvaged.Salvaged.{Salvaged}
use Rattle.md_copy.proofs.Leads.RebuildLeads.{before_of, storing_before}
use Rattle.md_call_laws.specs.Rebuilds.RebuildCrashes.{IsCrashEnrolled}
use Rattle.md_call_laws.specs.Rebuilds.RebuildRuns.{RunsTo, StaysReadable}
use Rattle.md_call_laws.specs.Rebuilds.RebuiltInLife.{HeldWhatItHad}
use Rattle.md_call_laws.specs.Rebuilds.SalvageCrashes.{HasSalvagedBut}
use Rattle.md_call_laws.specs.Rebuilds.SalvageRuns.{CrashesStoringSalvaged, SalvageIsARun, SalvageRunsOn}
use Rattle.md_call_laws.proofs.RebuildLemmas.EnrolledRun.{at_end, enrolled_readable, enrolled_run_with}
use Rattle.md_call_laws.proofs.RebuildLemmas.HeldAtSalvage.{is_held}
use Rattle.md_call_laws.proofs.RebuildLemmas.HeldOnDisks.{has_content}
use Rattle.md_call_laws.proofs.RebuildLemmas.Readable.{LeavesShifts, before_leaves, readable_on, run_readable}
use Rattle.md_call_laws.proofs.RebuildLemmas.RebuildCrashes.{crashes_in, on_members}
use Rattle.md_call_laws.proofs.RebuildLemmas.RebuildRun.{life_on, run_with_then, stays_along}
use Rattle.md_call_laws.proofs.RebuildLemmas.SalvageCrashes.{all_stored, go_now, salvaging, to_filled}
use Rattle.md_call_laws.proofs.RebuildLemmas.Steady.{Comes, IsSteadyAt, end, end_steady, run_steady, steady_with}

-- ---- from where the target may come into sync
module _ (target : ℕ) (copied lost : ℕ → Bool) (t : Moment) (at : IsSteadyAt t) (stored : MirrorView) (until : Comes (IsBeforeEnrol target) t stored) (may : MayEnrolSectors target copied lost stored) (new : MirrorView)
    (r : Enrols target copied lost stored new) (consistent : IsConsistent new) (content : Content) (held : IsHeldBy target (lists_of stored.array r.member) content (prepared r)) where
  abbrev mid : Moment
  mid = end until

  mid_steady : IsSteadyAt (end until)
  mid_steady = end_steady until at

  abbrev more : List Event
  more = Event.Prepare target ∷ enrol_event r ∷ []

  abbrev last : Moment
  last = at_end target copied lost stored new mid_steady.sound.sound consistent r may mid_steady.sound.honest content held mid refl mid_steady.sound.in_flight

  abbrev events : List Event
  events = until.events ++ more

  steps : AllOf (IsOfRebuild target) events
  steps = all_on (IsOfRebuild target) until.events more (all_such (IsBeforeEnrol target) (IsOfRebuild target) (before_of target) until.events until.steps) (refl, (refl, tt))

  run_with : MirrorRunWith t content events last content
  run_with =
      run_with_then until.events more t mid last content content content (stays_along target until.events t content mid until.steps until.run)
      (enrolled_run_with target copied lost stored new mid_steady.sound.sound consistent r may mid_steady.sound.honest content held mid refl mid_steady.sound.in_flight)

  run_alone : MirrorRun t events last
  run_alone = without_content events t content last content run_with

  readable : StaysReadable t last
  readable =
      readable_on t mid last until.readable
      (enrolled_readable target copied lost stored new mid_steady.sound.sound consistent r may mid_steady.sound.honest content held mid refl mid_steady.sound.in_flight)

  pub enrolled_runs : RunsTo (IsOfRebuild target) t content new
  enrolled_runs = record { events = events; steps = steps; at = last; run = run_with; there = refl; readable = readable }

  -- ---- while what is due then is stored
  then_steady : IsSteadyAt last
  then_steady = run_steady events t last run_alone at

  -- so many events more
  after_them : (es : List Event) → AllOf (IsBeforeEnrol target) es → AllOf (IsOfRebuild target) (events ++ es)
  after_them es all = all_on (IsOfRebuild target) events es steps (all_such (IsBeforeEnrol target) (IsOfRebuild target) (before_of target) es all)

  with_them : (es : List Event) → AllOf (IsBeforeEnrol target) es → (x : Moment) → MirrorRun last es x → MirrorRunWith t content (events ++ es) x content
  with_them es all x run = run_with_then events es t last x content content content run_with (stays_along target es last content x all run)

  module _ (records_stored : MirrorView) (g : GoesOn only_others only_others IsStoring new records_stored) (in_flight : AreInFlight new.array t.requests) where
    abbrev Then : MirrorView → Requests → Type 0
    Then m q = (m ≡ records_stored) × (q ≡ t.requests)

    abbrev turn : InTurn None new t.requests g.events Then
    turn = g.leads None t.requests in_flight

    pub settled_runs : AllLeftWhole g.events None new t.requests Then turn → RunsTo (IsOfRebuild target) t content records_stored
    settled_runs whole =
        let others = all_such IsStoring (IsBeforeEnrol target) (storing_before target) g.events g.steps in
        let x = run_readable g.events None last Then turn (all_such (IsBeforeEnrol target) LeavesShifts (before_leaves target) g.events others) then_steady.sound.honest whole in
        record { events = events ++ g.events; steps = after_them g.events others; at = x.0; run = with_them g.events others x.0 x.1; there = x.2.0; readable = readable_on t last x.0 readable x.3 }

    pub settling_stop : AllLeftWhole g.events None new t.requests Then turn → (left : List Disk) → CrashesIn g.events None new t.requests Then turn left → IsCrashEnrolled target t content left
    settling_stop whole left stop =
        let x = (crashes_in IsStoring on_members g.events None last Then turn g.steps then_steady.sound whole left stop).after in
        let others = all_such IsStoring (IsBeforeEnrol target) (storing_before target) x.events x.steps in
        let all = with_them x.events others x.at x.run in
        record {
          after = record {
            events = events ++ x.events;
            steps = after_them x.events others;
            at = x.at;
            run = without_content (events ++ x.events) t content x.at content all;
            is_left = x.is_left;
            readable = readable_on t last x.at readable x.readable;
          };
          content_stays = all;
        }

-- ---- in lives
module _ (before : List Disk) (m : MirrorView) (a : Content) (start : IsStart before m) (holds : Holds (geometry_of m.array) a (world_of m none_in_flight)) (es : List Event) (rest : List (List Event)) (final : MirrorView)
    (t : Moment) (b : Content) (life : MirrorLifeWith m a es rest final t b) (target : ℕ) (told : Salvaged) (new : MirrorView) (h : Salvages target told t.mirror new) (had : HeldWhatItHad target b t.mirror) where
  at : IsSteadyAt t
  at = steady_with before m a start holds es rest final t b life

  abbrev but : ℕ → Bool
  but = in_chunks_but h.salvages.filled.array.chunks h.salvages.missing told.listed

  abbrev gone : ℕ → Bool
  gone = in_runs told.listed

  filled_then : Comes (IsBeforeEnrol target) t h.salvages.filled
  filled_then = salvaging target h.salvages.copied told.lost t (steady_with before m a start holds es rest final t b life) h.salvages.filled (to_filled target told t (steady_with before m a start holds es rest final t b life) new h)

  pub salvaged_but : HasSalvagedBut target but gone t.mirror h.salvages.enrols.stored
  salvaged_but = record {
    set = h.salvages.copied;
    found = told.lost;
    filled = h.salvages.filled;
    to = to_filled target told t at new h;
    listed = told.listed;
    noted = h.salvages.enrols.noted;
    lists = h.salvages.enrols.lists;
    may = h.salvages.enrols.may;
  }

  pub stored_then : Comes (IsBeforeEnrol target) t h.salvages.enrols.stored
  stored_then = all_stored target but gone t at h.salvages.enrols.stored salvaged_but

  -- the content is held at a moment that events lead to
  held_after : (mid : MirrorView) (c : Comes (IsBeforeEnrol target) t mid) → first_number mid.array ≡ None → mid.array.halted ≡ false → mid.array.resynced ≡ true → HoldsContent mid.disks mid.array b
  held_after mid c none running resynced =
      let more = life_on m a es rest final t b life c.events (end c) b (stays_along target c.events t b (end c) c.steps c.run) in
      let there = life_held_at before m a start holds more.0 more.1 final (end c) b more.2 in
      has_content (end c) there.sound (record { running = running; none = none }) resynced b (subst (λ g. Holds g b (world_of mid t.requests)) (sym there.geometry) there.held.holds)

  has_filled : HoldsContent h.salvages.filled.disks h.salvages.filled.array b
  has_filled =
      let goes = (go_now target h.salvages.copied told.lost t at h.salvages.filled (to_filled target told t at new h)).ready.goes in
      held_after h.salvages.filled filled_then goes.idle.none goes.idle.running goes.resynced

  has_stored : HoldsContent h.salvages.enrols.stored.disks h.salvages.enrols.stored.array b
  has_stored = held_after h.salvages.enrols.stored stored_then h.salvages.enrols.may.idle h.salvages.enrols.enrols.may.running h.salvages.enrols.may.resynced

  pub held_then : IsHeldBy target (lists_of h.salvages.enrols.stored.array h.salvages.enrols.enrols.member) b (prepared h.salvages.enrols.enrols)
  held_then = is_held target told t.mirror new h b (end_steady filled_then at).sound.honest has_filled (end_steady stored_then at).sound.honest has_stored had

pub salvage_is_a_run : SalvageIsARun
salvage_is_a_run before m a start holds es rest final t b life target told new h had =
    enrolled_runs target (in_chunks_but h.salvages.filled.array.chunks h.salvages.missing told.listed) (in_runs told.listed) t (steady_with before m a start holds es rest final t b life) h.salvages.enrols.stored
    (stored_then before m a start holds es rest final t b life target told new h had) h.salvages.enrols.may h.salvages.enrolled h.salvages.enrols.enrols h.salvages.sound b
    (held_then before m a start holds es rest final t b life target told new h had)

pub salvage_runs_on : SalvageRunsOn
salvage_runs_on before m a start holds es rest final t b life target told new h had records_stored g in_flight whole =
    settled_runs target (in_chunks_but h.salvages.filled.array.chunks h.salvages.missing told.listed) (in_runs told.listed) t (steady_with before m a start holds es rest final t b life) h.salvages.enrols.stored
    (stored_then before m a start holds es rest final t b life target told new h had) h.salvages.enrols.may h.salvages.enrolled h.salvages.enrols.enrols h.salvages.sound b
    (held_then before m a start holds es rest final t b life target told new h had) records_stored g in_flight whole

pub crashes_storing_salvaged : CrashesStoringSalvaged
crashes_storing_salvaged before m a start holds es rest final t b life target told new h had records_stored g in_flight whole left stop =
    settling_stop target (in_chunks_but h.salvages.filled.array.chunks h.salvages.missing told.listed) (in_runs told.listed) t (steady_with before m a start holds es rest final t b life) h.salvages.enrols.stored
    (stored_then before m a start holds es rest final t b life target told new h had) h.salvages.enrols.may h.salvages.enrolled h.salvages.enrols.enrols h.salvages.sound b
    (held_then before m a start holds es rest final t b life target told new h had) records_stored g in_flight whole left stop
