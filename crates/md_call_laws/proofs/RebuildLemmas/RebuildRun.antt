-- A rebuild in the life of a mirror is a run, along which the content stays.
use Rattle.std.proofs.Common.{◌≡◌, ℕ, List, [], ◌∷◌, ◌++◌, None, inl, inr, refl, sym, subst}
use Rattle.md_array.proofs.Rebuilding.ByChunks.{may_by_chunks}
use Rattle.md_kept_members.specs.SectorLists.{in_chunks}
use Rattle.md_bitmap.specs.Marks.{Bitmap}
use Rattle.md_model.specs.Content.{Becomes, Content, Holds}
use Rattle.md_model.specs.Events.{Event}
use Rattle.md_model.specs.Runs.{spoiled_after}
use Rattle.md_model.specs.Worlds.{World}
use Rattle.md_state.specs.DiskWrites.{AtDevice}
use Rattle.md_state.specs.Requests.{AreInFlight}
use Rattle.md_state.specs.View.{ArrayView, Disk, MirrorView, geometry_of}
use Rattle.md_array.specs.Consistency.{IsConsistent}
use Rattle.md_array.specs.Steps.Enrol.{EnrolsChunks, HoldsContent}
use Rattle.md_array.specs.Steps.EnrolEvents.{IsHeldBy, enrol_event, prepared}
use Rattle.md_array.specs.InTurn.{AllLeftWhole, AllOf, InTurn, Requests}
use Rattle.md_array.specs.ReadAsKept.{misread_after}
use Rattle.md_array.specs.Worlds.{block_on, lists_of, none_in_flight, world_of}
use Rattle.md_array.proofs.General.Resting.{geometry_rests, world_rests}
use Rattle.md_array.proofs.StepLemmas.Turns.{all_on, all_such}
use Rattle.md_laws.specs.Left.{contents_of}
use Rattle.md_laws.specs.Lives.{MirrorLifeWith}
use Rattle.md_laws.specs.Runs.{HasRested, IsStart, MirrorRun, MirrorRunWith, Moment, log_unknown_after, opened_as, then_as}
use Rattle.md_laws.specs.CrashesWithin.{MayAllBeLeft}
use Rattle.md_laws.proofs.Runs.ContentRuns.{without_content}
use Rattle.md_laws.proofs.Runs.MirrorContents.{life_held_at}
use Rattle.md_laws.proofs.Runs.MirrorRuns.{rests_run}
use Rattle.md_laws.proofs.Runs.Rests.{rests_then}
use Rattle.md_laws.specs.CallCrashes.{CrashesIn}
use Rattle.md_metadata.specs.Going.{GoesOn, only_others}
use Rattle.md_metadata.specs.Storing.{IsStoring}
use Rattle.md_copy.specs.declared.rebuilt.Rebuilt.{Rebuilt}
use Rattle.md_copy.specs.RebuildEvents.{IsBeforeEnrol, IsOfRebuild}
use Rattle.md_copy.specs.Rebuilding.{Rebuilds}
use Rattle.md_copy.proofs.Passing.PassesTold.{filled_ready}
use Rattle.md_copy.proofs.Leads.RebuildLeads.{before_of, begin_holds, storing_before}
use Rattle.md_call_laws.specs.Rebuilds.RebuildRuns.{RebuildIsARun, RebuildRunsOn, RunsTo, StaysReadable}
use Rattle.md_call_laws.specs.Rebuilds.RebuiltInLife.{HeldWhatItHad}
use Rattle.md_call_laws.specs.Rebuilds.RebuildCrashes.{HasFilled, IsCrashEnrolled, CrashesAnyhow, CrashesEnrolled, CrashesInRebuild, CrashesStoringRecords}
use Rattle.md_call_laws.proofs.RebuildLemmas.EnrolledRun.{at_end, enrolled_readable, enrolled_run_with}
use Rattle.md_call_laws.proofs.RebuildLemmas.Readable.{LeavesShifts, before_leaves, readable_on, run_readable}
use Rattle.md_call_laws.proofs.RebuildLemmas.HeldAtEnrol.{is_held}
use Rattle.md_call_laws.proofs.RebuildLemmas.HeldOnDisks.{has_content}
use Rattle.md_call_laws.proofs.RebuildLemmas.SpoiledRebuilds.{begun_anyhow, enrolling_anyhow, made_anyhow}
use Rattle.md_call_laws.proofs.RebuildLemmas.Steady.{Comes, IsSteadyAt, end, end_steady, run_steady, steady_with}
use Rattle.md_call_laws.proofs.RebuildLemmas.RebuildCrashes.{all_filled, begun_crash, enrolling_crash, filled_unspoiled, in_enrolled, made_crash, on_members, crashes_in}

-- ---- the content
-- along these events it stays
pub stays_along : (target : ℕ) (es : List Event) (t : Moment) (a : Content) (last : Moment) → AllOf (IsBeforeEnrol target) es → MirrorRun t es last → MirrorRunWith t a es last a
stays_along target [] t a last of run = (run, refl)
stays_along target (Event.Record k ∷ es) t a last of run = (run.0, run.1, a, run.2, refl, stays_along target es (then_as t (Event.Record k) run.0 run.1) a last of.1 run.3)
stays_along target (Event.StoreMarks k b ∷ es) t a last of run = (run.0, run.1, a, run.2, refl, stays_along target es (then_as t (Event.StoreMarks k b) run.0 run.1) a last of.1 run.3)
stays_along target (Event.WriteFails k part ∷ es) t a last of run = (run.0, run.1, a, run.2, refl, stays_along target es (then_as t (Event.WriteFails k part) run.0 run.1) a last of.1 run.3)
stays_along target (Event.LowerOffset k s ∷ es) t a last of run = (run.0, run.1, a, run.2, refl, stays_along target es (then_as t (Event.LowerOffset k s) run.0 run.1) a last of.1 run.3)
stays_along target (Event.Fill k ∷ es) t a last of run = (run.0, run.1, a, run.2, refl, stays_along target es (then_as t (Event.Fill k) run.0 run.1) a last of.1 run.3)
stays_along target (Event.Prepare k ∷ es) t a last of run = (run.0, run.1, a, run.2, refl, stays_along target es (then_as t (Event.Prepare k) run.0 run.1) a last of.1 run.3)
stays_along target (Event.RecordTargetFails k ∷ es) t a last of run = (run.0, run.1, a, run.2, refl, stays_along target es (then_as t (Event.RecordTargetFails k) run.0 run.1) a last of.1 run.3)
stays_along target (Event.Admit k role listed ∷ es) t a last of run = (run.0, run.1, a, run.2, refl, stays_along target es (then_as t (Event.Admit k role listed) run.0 run.1) a last of.1 run.3)
stays_along target (Event.Checkpoint k sure listed ∷ es) t a last of run =
    (run.0, run.1, a, run.2, refl, stays_along target es (then_as t (Event.Checkpoint k sure listed) run.0 run.1) a last of.1 run.3)
stays_along target (Event.NoteBad k more ∷ es) t a last of run = (run.0, run.1, a, run.2, refl, stays_along target es (then_as t (Event.NoteBad k more) run.0 run.1) a last of.1 run.3)
stays_along target (Event.StoreLog k listed ∷ es) t a last of run = (run.0, run.1, a, run.2, refl, stays_along target es (then_as t (Event.StoreLog k listed) run.0 run.1) a last of.1 run.3)
stays_along target (e ∷ es) t a last of run = absurd (of.0)

-- one run after another
rests_run_with : (es : List Event) (t mid last : Moment) (a b : Content) → HasRested t mid → MirrorRunWith mid a es last b → MirrorRunWith t a es last b
rests_run_with [] t mid last a b r s = (rests_run [] t mid last r s.0, s.1)
rests_run_with (e ∷ es) t mid last a b r s =
    let x = subst (λ (m : Moment). MirrorRunWith m a (e ∷ es) last b) r.is s in
    let becomes = subst (λ g. Becomes g e (world_of t.mirror t.requests) a x.2) (geometry_rests t.mirror mid.mirror r.rests)
    (subst (λ (w : World). Becomes (geometry_of mid.mirror.array) e w a x.2) (world_rests t.mirror mid.mirror r.rests t.requests) x.4) in
    let rest = subst (λ (v : ArrayView). MirrorRunWith (record (then_as t e x.0 x.1) { misread = misread_after e v (world_of t.mirror t.requests) t.misread }) x.2 es last b) r.rests.array
    (subst (λ (w : World). MirrorRunWith (record (then_as t e x.0 x.1) {
      spoiled = spoiled_after e w t.spoiled;
      misread = misread_after e mid.mirror.array w t.misread;
      offset_unknown = spoiled_after e w t.offset_unknown;
      log_unknown = log_unknown_after e w t.log_unknown;
    }) x.2 es last b)
    (world_rests t.mirror mid.mirror r.rests t.requests) x.5) in
    (x.0, x.1, x.2, record { mid = x.3.mid; rests = rests_then t.mirror mid.mirror x.3.mid r.rests x.3.rests; does = x.3.does }, becomes, rest)

pub run_with_then : (es more : List Event) (t mid last : Moment) (a b c : Content) → MirrorRunWith t a es mid b → MirrorRunWith mid b more last c → MirrorRunWith t a (es ++ more) last c
run_with_then [] more t mid last a b c r s = rests_run_with more t mid last a c r.0 (subst (λ (x : Content). MirrorRunWith mid x more last c) r.1 s)
run_with_then (e ∷ es) more t mid last a b c r s = (r.0, r.1, r.2, r.3, r.4, run_with_then es more (then_as t e r.0 r.1) mid last r.2 b c r.5 s)

-- a life goes on
pub life_on : (m : MirrorView) (a : Content) (es : List Event) (rest : List (List Event)) (final : MirrorView) (t : Moment) (b : Content) → MirrorLifeWith m a es rest final t b
    → (more : List Event) (last : Moment) (c : Content) → MirrorRunWith t b more last c → (fs : List Event) × (rests : List (List Event)) × MirrorLifeWith m a fs rests final last c
life_on m a es [] final t b life more last c run = (es ++ more, [], (life.0, run_with_then es more (opened_as m) t last a b c life.1 run))
life_on m a es (x ∷ rest) final t b life more last c run =
    let y = life_on life.1 life.3 x rest final t b life.7 more last c run in
    (es, y.0 ∷ y.1, (life.0, life.1, life.2, life.3, life.4, life.5, life.6, y.2))

-- ---- all of it
module _ (target : ℕ) (kept orphans : Bitmap) (t : Moment) (at : IsSteadyAt t) (filled : MirrorView) (h : HasFilled target kept orphans t.mirror filled) (new : MirrorView)
    (r : EnrolsChunks target kept orphans filled new) (consistent : IsConsistent new) (content : Content) (held : IsHeldBy target (lists_of filled.array r.member) content (prepared r)) where
  abbrev until : Comes (IsBeforeEnrol target) t filled
  until = all_filled target kept orphans t at filled h

  abbrev mid : Moment
  mid = end until

  mid_steady : IsSteadyAt (end (all_filled target kept orphans t at filled h))
  mid_steady = end_steady (all_filled target kept orphans t at filled h) at

  abbrev more : List Event
  more = Event.Prepare target ∷ enrol_event r ∷ []

  abbrev last : Moment
  last = at_end target (in_chunks filled.array.chunks kept) (in_chunks filled.array.chunks orphans) filled new h.fills.sound consistent r (may_by_chunks target kept orphans filled h.fills.sound h.fills.has.may) mid_steady.sound.honest content held mid refl mid_steady.sound.in_flight

  abbrev events : List Event
  events = until.events ++ more

  steps : AllOf (IsOfRebuild target) events
  steps = all_on (IsOfRebuild target) until.events more (all_such (IsBeforeEnrol target) (IsOfRebuild target) (before_of target) until.events until.steps) (refl, (refl, tt))

  run_with : MirrorRunWith t content events last content
  run_with =
      run_with_then until.events more t mid last content content content (stays_along target until.events t content mid until.steps until.run)
      (enrolled_run_with target (in_chunks filled.array.chunks kept) (in_chunks filled.array.chunks orphans) filled new h.fills.sound consistent r (may_by_chunks target kept orphans filled h.fills.sound h.fills.has.may) mid_steady.sound.honest content held mid refl mid_steady.sound.in_flight)

  run_alone : MirrorRun t events last
  run_alone = without_content events t content last content run_with

  readable : StaysReadable t last
  readable =
      readable_on t mid last until.readable
      (enrolled_readable target (in_chunks filled.array.chunks kept) (in_chunks filled.array.chunks orphans) filled new h.fills.sound consistent r (may_by_chunks target kept orphans filled h.fills.sound h.fills.has.may) mid_steady.sound.honest content held mid refl mid_steady.sound.in_flight)

  pub rebuild_run : RunsTo (IsOfRebuild target) t content new
  rebuild_run = record { events = events; steps = steps; at = last; run = run_with; there = refl; readable = readable }

  -- ---- a crash right after it
  pub enrolled_crash : (left : List Disk) → MayAllBeLeft filled.disks new.disks (contents_of left) → AtDevice target new.disks left (λ d e. block_on e.content ≡ block_on d.content) → IsCrashEnrolled target t content left
  enrolled_crash left within super = record {
    after = record {
      events = events;
      steps = steps;
      at = last;
      run = run_alone;
      is_left = in_enrolled last left (record {
        on = target;
        copied = in_chunks filled.array.chunks kept;
        lost = in_chunks filled.array.chunks orphans;
        before = filled;
        sound = h.fills.sound;
        honest = mid_steady.sound.honest;
        failed_at = mid.failed_at;
        spoiled = mid.misread;
        read = mid_steady.sound.read;
        unspoiled = (filled_unspoiled target kept orphans t at filled h).unspoiled;
        call = r;
        within = within;
        super = super;
      });
      readable = readable;
    };
    content_stays = run_with;
  }

  -- ---- while what is due then is stored
  then_steady : IsSteadyAt last
  then_steady = run_steady events t last run_alone at

  -- so many events more
  after_them : (es : List Event) (steps_more : AllOf (IsBeforeEnrol target) es) → AllOf (IsOfRebuild target) (events ++ es)
  after_them es all = all_on (IsOfRebuild target) events es steps (all_such (IsBeforeEnrol target) (IsOfRebuild target) (before_of target) es all)

  with_them : (es : List Event) → AllOf (IsBeforeEnrol target) es → (x : Moment) → MirrorRun last es x → MirrorRunWith t content (events ++ es) x content
  with_them es all x run = run_with_then events es t last x content content content run_with (stays_along target es last content x all run)

  module _ (records_stored : MirrorView) (g : GoesOn only_others only_others IsStoring new records_stored) (in_flight : AreInFlight new.array t.requests) where
    abbrev Then : MirrorView → Requests → Type 0
    Then m q = (m ≡ records_stored) × (q ≡ t.requests)

    abbrev turn : InTurn None new t.requests g.events Then
    turn = g.leads None t.requests in_flight

    pub settled_run : AllLeftWhole g.events None new t.requests Then turn → RunsTo (IsOfRebuild target) t content records_stored
    settled_run whole =
        let others = all_such IsStoring (IsBeforeEnrol target) (storing_before target) g.events g.steps in
        let x = run_readable g.events None last Then turn (all_such (IsBeforeEnrol target) LeavesShifts (before_leaves target) g.events others) then_steady.sound.honest whole in
        record { events = events ++ g.events; steps = after_them g.events others; at = x.0; run = with_them g.events others x.0 x.1; there = x.2.0; readable = readable_on t last x.0 readable x.3 }

    pub settling_crash : AllLeftWhole g.events None new t.requests Then turn → (left : List Disk) → CrashesIn g.events None new t.requests Then turn left → IsCrashEnrolled target t content left
    settling_crash whole left stop =
        let x = (crashes_in IsStoring on_members g.events None last Then turn g.steps then_steady.sound whole left stop).after in
        let others = all_such IsStoring (IsBeforeEnrol target) (storing_before target) x.events x.steps in
        let all = with_them x.events others x.at x.run in
        record {
          after = record {
            events = events ++ x.events;
            steps = after_them x.events others;
            at = x.at;
            run = without_content (events ++ x.events) t content x.at content all;
            is_left = x.is_left;
            readable = readable_on t last x.at readable x.readable;
          };
          content_stays = all;
        }

-- ---- in lives
-- the target holds the content as its enrolment asks
module _ (before : List Disk) (m : MirrorView) (a : Content) (start : IsStart before m) (holds : Holds (geometry_of m.array) a (world_of m none_in_flight)) (es : List Event) (rest : List (List Event)) (final : MirrorView)
    (t : Moment) (b : Content) (life : MirrorLifeWith m a es rest final t b) (target : ℕ) (kept orphans : Bitmap) (filled new : MirrorView) (h : HasFilled target kept orphans t.mirror filled)
    (r : EnrolsChunks target kept orphans filled new) (had : HeldWhatItHad target b t.mirror) where
  at : IsSteadyAt t
  at = steady_with before m a start holds es rest final t b life

  abbrev c : Comes (IsBeforeEnrol target) t filled
  c = all_filled target kept orphans t (steady_with before m a start holds es rest final t b life) filled h

  has_filled : HoldsContent filled.disks filled.array b
  has_filled =
      let more = life_on m a es rest final t b life c.events (end c) b (stays_along target c.events t b (end c) c.steps c.run) in
      let there = life_held_at before m a start holds more.0 more.1 final (end c) b more.2 in
      let ready = filled_ready target h.begins.now h.passes h.none h.copied h.ready filled h.fills.copies (begin_holds target t.mirror h.ready h.none h.begins) in
      has_content (end c) there.sound ready.goes.idle ready.goes.resynced b (subst (λ g. Holds g b (world_of filled t.requests)) (sym there.geometry) there.held.holds)

  pub held_then : IsHeldBy target (lists_of filled.array r.member) b (prepared r)
  held_then = is_held target kept orphans t.mirror filled new h r (end_steady c at).sound.honest b has_filled had

-- what a rebuild that is done comes to
abbrev pub filled_by : (target : ℕ) (told : Rebuilt) (old new : MirrorView) (h : Rebuilds target told old new)
    → HasFilled target h.rebuilds.kept h.rebuilds.orphans old h.rebuilds.by.filled
filled_by target told old new h = record {
  ready = h.ready;
  none = h.none;
  begins = h.begins;
  passes = h.rebuilds.passes;
  copied = h.rebuilds.copied;
  chunks = h.rebuilds.chunks;
  fills = h.rebuilds.by.fills;
}

pub rebuild_is_a_run : RebuildIsARun
rebuild_is_a_run before m a start holds es rest final t b life target told new h had =
    let by = h.rebuilds.by in
    let f = filled_by target told t.mirror new h in
    rebuild_run target h.rebuilds.kept h.rebuilds.orphans t (steady_with before m a start holds es rest final t b life) by.filled f by.enrolled by.enrols by.sound b
    (held_then before m a start holds es rest final t b life target h.rebuilds.kept h.rebuilds.orphans by.filled by.enrolled f by.enrols had)

pub crashes_enrolled : CrashesEnrolled
crashes_enrolled before m a start holds es rest final t b life target kept orphans filled new h r consistent had left within super =
    enrolled_crash target kept orphans t (steady_with before m a start holds es rest final t b life) filled h new r consistent b
    (held_then before m a start holds es rest final t b life target kept orphans filled new h r had) left within super

pub crashes_storing_records : CrashesStoringRecords
crashes_storing_records before m a start holds es rest final t b life target told new h had records_stored g in_flight whole left stop =
    let by = h.rebuilds.by in
    let f = filled_by target told t.mirror new h in
    settling_crash target h.rebuilds.kept h.rebuilds.orphans t (steady_with before m a start holds es rest final t b life) by.filled f by.enrolled by.enrols by.sound b
    (held_then before m a start holds es rest final t b life target h.rebuilds.kept h.rebuilds.orphans by.filled by.enrolled f by.enrols had) records_stored g in_flight whole left stop

pub rebuild_runs_on : RebuildRunsOn
rebuild_runs_on before m a start holds es rest final t b life target told new h had records_stored g in_flight whole =
    let by = h.rebuilds.by in
    let f = filled_by target told t.mirror new h in
    settled_run target h.rebuilds.kept h.rebuilds.orphans t (steady_with before m a start holds es rest final t b life) by.filled f by.enrolled by.enrols by.sound b
    (held_then before m a start holds es rest final t b life target h.rebuilds.kept h.rebuilds.orphans by.filled by.enrolled f by.enrols had) records_stored g in_flight whole

-- ---- within all of it
pub crashes_in_rebuild : CrashesInRebuild
crashes_in_rebuild before m a start holds es rest final t b life target told new h had in_flight left stop =
    let at = steady_with before m a start holds es rest final t b life in
    let by = h.rebuilds.by in
    let kept = h.rebuilds.kept in
    let orphans = h.rebuilds.orphans in
    let f = filled_by target told t.mirror new h in
    elim stop [
      | inl first ↦ inl (begun_crash target kept orphans t at by.filled f first.0 left first.1)
      | inr (inl passes) ↦ inl (made_crash target kept orphans t at by.filled f left passes)
      | inr (inr (inl enrols)) ↦ elim enrols.1 [
        | inl as_before ↦ inl (enrolling_crash target kept orphans t at by.filled f by.enrolled by.enrols left enrols.0 as_before)
        | inr as_after ↦ inr (crashes_enrolled before m a start holds es rest final t b life target kept orphans by.filled by.enrolled f by.enrols by.sound had left enrols.0 as_after)
      ]
      | inr (inr (inr stores_until_done)) ↦ inr (crashes_storing_records before m a start holds es rest final t b life target told new h had stores_until_done.0 stores_until_done.1 stores_until_done.2 stores_until_done.3 left stores_until_done.4)
    ]

pub crashes_anyhow : CrashesAnyhow
crashes_anyhow before m a start holds es rest final t b life target told new h had in_flight left stop =
    let at = steady_with before m a start holds es rest final t b life in
    let by = h.rebuilds.by in
    let kept = h.rebuilds.kept in
    let orphans = h.rebuilds.orphans in
    let f = filled_by target told t.mirror new h in
    elim stop [
      | inl first ↦ inl (begun_anyhow target kept orphans t at by.filled f first.0 left first.1)
      | inr (inl passes) ↦ inl (made_anyhow target kept orphans t at by.filled f left passes)
      | inr (inr (inl enrols)) ↦ inl (enrolling_anyhow target kept orphans t at by.filled f by.enrolled by.enrols left enrols.0)
      | inr (inr (inr stores_until_done)) ↦ inr (crashes_storing_records before m a start holds es rest final t b life target told new h had stores_until_done.0 stores_until_done.1 stores_until_done.2 stores_until_done.3 left stores_until_done.4)
    ]
