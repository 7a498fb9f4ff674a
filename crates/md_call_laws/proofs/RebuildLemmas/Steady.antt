-- A moment of a mirror's life, and moments to which events lead from there.
use Rattle.std.proofs.Common.{◌≡◌, ℕ, true, List, [], ◌++◌, None, refl, sym, subst}
use Rattle.md_model.specs.Content.{Content, Holds}
use Rattle.md_model.specs.Devices.{Super}
use Rattle.md_model.specs.Events.{Event}
use Rattle.md_model.specs.Openings.{IsWithinLimits}
use Rattle.md_model.specs.Sectors.{Geometry}
use Rattle.md_model.proofs.Steps.Keeps.{IsKept, kept_run}
use Rattle.md_state.specs.Steps.MakeClean.{IsIdle}
use Rattle.md_state.specs.View.{Disk, MirrorView, geometry_of}
use Rattle.md_array.specs.Steps.Enrol.{HoldsContent}
use Rattle.md_array.specs.InTurn.{AllLeftWhole, AllOf, Leads}
use Rattle.md_array.specs.Worlds.{none_in_flight, super_of, world_of}
use Rattle.md_array.proofs.StepLemmas.Turns.{all_on, all_such}
use Rattle.md_laws.specs.Lives.{MirrorLife, MirrorLifeWith}
use Rattle.md_laws.specs.Runs.{IsStart, MirrorRun, Moment, history_of}
use Rattle.md_laws.proofs.Runs.MirrorContents.{IsHeldAt, life_held_at, starts_small}
use Rattle.md_laws.proofs.Runs.MirrorLives.{keeps_geometry, life_kept}
use Rattle.md_laws.proofs.Runs.MirrorRuns.{model_run}
use Rattle.md_laws.proofs.Runs.Moments.{IsSoundAt, geometry_kept, life_keeps, run_keeps, run_then, sound_when_opened}
use Rattle.md_laws.proofs.Runs.Rests.{at_rest}
use Rattle.md_copy.specs.RebuildEvents.{IsBeforeEnrol}
use Rattle.md_call_laws.specs.Rebuilds.RebuildRuns.{StaysReadable}
use Rattle.md_call_laws.proofs.RebuildLemmas.HeldOnDisks.{some_content}
use Rattle.md_call_laws.proofs.RebuildLemmas.Readable.{before_leaves, readable_on, run_readable, LeavesShifts}

-- ---- at a moment of a life
pub record IsSteadyAt (t : Moment) : Type 0 where
  pub sound : IsSoundAt t
  pub small : IsWithinLimits (geometry_of t.mirror.array)
  pub opened : Super
  pub kept : IsKept (geometry_of t.mirror.array) opened (history_of t)

pub steady_at : (before : List Disk) (m : MirrorView) → IsStart before m → (es : List Event) (rest : List (List Event)) (final : MirrorView) (t : Moment) → MirrorLife m es rest final t → IsSteadyAt t
steady_at before m start es rest final t life =
    let same = keeps_geometry before m start es rest final t life in
    let opened = super_of final.array.shared in
    record {
      sound = life_keeps m es rest final t (sound_when_opened before m start.honest start.opened) life;
      small = subst IsWithinLimits (sym same) (starts_small before m start);
      opened = opened;
      kept = subst (λ (g : Geometry). IsKept g opened (history_of t)) (sym same) (life_kept before m start es rest final t life);
    }

pub steady_with : (before : List Disk) (m : MirrorView) (a : Content) → IsStart before m → Holds (geometry_of m.array) a (world_of m none_in_flight)
    → (es : List Event) (rest : List (List Event)) (final : MirrorView) (t : Moment) (b : Content) → MirrorLifeWith m a es rest final t b → IsSteadyAt t
steady_with before m a start holds es rest final t b life =
    let at : IsHeldAt (geometry_of m.array) (super_of final.array.shared) t b = life_held_at before m a start holds es rest final t b life in
    let opened = super_of final.array.shared in
    record {
      sound = at.sound;
      small = subst IsWithinLimits (sym at.geometry) (starts_small before m start);
      opened = opened;
      kept = subst (λ (g : Geometry). IsKept g opened (history_of t)) (sym at.geometry) at.held.kept;
    }

pub run_steady : (es : List Event) (t last : Moment) → MirrorRun t es last → IsSteadyAt t → IsSteadyAt last
run_steady es t last r at =
    let g = geometry_of t.mirror.array in
    let same = geometry_kept es t last r in
    record {
      sound = run_keeps es t last r at.sound;
      small = subst IsWithinLimits (sym same) at.small;
      opened = at.opened;
      kept = subst (λ (x : Geometry). IsKept x at.opened (history_of last)) (sym same)
          (kept_run g at.small at.opened es (history_of t) (history_of last) at.kept (model_run g es t last refl r));
    }

-- there the members in sync hold some content, where nothing is in flight and the array is resynced
pub holds_some : (t : Moment) → IsSteadyAt t → IsIdle t.mirror.array → t.mirror.array.resynced ≡ true → (content : Content) × HoldsContent t.mirror.disks t.mirror.array content
holds_some t at idle resynced = some_content t at.sound idle resynced (geometry_of t.mirror.array) at.kept.tracked

-- ---- a run to a mirror
-- by events of this kind, with the same requests in flight
pub record Comes (Of : Event → Type 0) (t : Moment) (new : MirrorView) : Type 0 where
  pub events : List Event
  pub steps : AllOf Of events
  pub past : Moment
  pub run : MirrorRun t events (record past { mirror = new; requests = t.requests })
  pub readable : StaysReadable t (record past { mirror = new; requests = t.requests })

-- the moment at its end
abbrev pub end : {Of : Event → Type 0} {t : Moment} {new : MirrorView} → Comes Of t new → Moment
end {Of} {t} {new} c = record c.past { mirror = new; requests = t.requests }

pub end_steady : {Of : Event → Type 0} {t : Moment} {new : MirrorView} (c : Comes Of t new) → IsSteadyAt t → IsSteadyAt (end c)
end_steady {Of} {t} {new} c at = run_steady c.events t (record c.past { mirror = new; requests = t.requests }) c.run at

pub comes_then : {Of : Event → Type 0} {t : Moment} {mid new : MirrorView} (c : Comes Of t mid) → Comes Of (end c) new → Comes Of t new
comes_then {Of} {t} {mid} {new} c d = record {
  events = c.events ++ d.events;
  steps = all_on Of c.events d.events c.steps d.steps;
  past = d.past;
  run = run_then c.events d.events t (record c.past { mirror = mid; requests = t.requests }) (record d.past { mirror = new; requests = t.requests }) c.run d.run;
  readable = readable_on t (record c.past { mirror = mid; requests = t.requests }) (record d.past { mirror = new; requests = t.requests }) c.readable d.readable;
}

pub comes_none : (Of : Event → Type 0) (t : Moment) → Comes Of t t.mirror
comes_none Of t = record { events = []; steps = tt; past = t; run = at_rest t; readable = λ k was. was }

pub comes_same : (Of : Event → Type 0) (t : Moment) (new : MirrorView) → new ≡ t.mirror → Comes Of t new
comes_same Of t new same = subst (Comes Of t) (sym same) (comes_none Of t)

-- by the events of a call
pub comes_by : (target : ℕ) (t : Moment) (new : MirrorView) (es : List Event) → AllOf (IsBeforeEnrol target) es → (leads : Leads None t.mirror t.requests es new t.requests) → IsSteadyAt t
    → AllLeftWhole es None t.mirror t.requests (λ m r. (m ≡ new) × (r ≡ t.requests)) leads → Comes (IsBeforeEnrol target) t new
comes_by target t new es steps leads at whole =
    let r = run_readable es None t (λ m q. (m ≡ new) × (q ≡ t.requests)) leads (all_such (IsBeforeEnrol target) LeavesShifts (before_leaves target) es steps) at.sound.honest whole in
    record {
      events = es;
      steps = steps;
      past = r.0;
      run = subst (MirrorRun t es) (λ i. record r.0 { mirror = r.2.0 i; requests = r.2.1 i }) r.1;
      readable = subst (StaysReadable t) (λ i. record r.0 { mirror = r.2.0 i; requests = r.2.1 i }) r.3;
    }

-- so of a kind that these are of
pub comes_as : (Of Such : Event → Type 0) → ((e : Event) → Of e → Such e) → (t : Moment) (new : MirrorView) → Comes Of t new → Comes Such t new
comes_as Of Such is t new c = record { events = c.events; steps = all_such Of Such is c.events c.steps; past = c.past; run = c.run; readable = c.readable }
