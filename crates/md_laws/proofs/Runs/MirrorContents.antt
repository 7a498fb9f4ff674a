-- The content that the members in sync of a mirror hold, over its openings.
use Rattle.std.proofs.Common.{◌≡◌, List, [], ◌∷◌, sym, ap, ◌∙◌, subst}
use Rattle.md_model.specs.Sectors.{Geometry}
use Rattle.md_model.specs.Devices.{Super}
use Rattle.md_model.specs.Content.{Content, BecomesAtOpening, Holds}
use Rattle.md_model.specs.Events.{Event}
use Rattle.md_model.specs.Lives.{Reopens}
use Rattle.md_model.specs.Openings.{IsWithinLimits}
use Rattle.md_model.specs.Runs as runs
use Rattle.md_model.specs.Worlds.{World}
use Rattle.md_model.proofs.Content.ContentLives.{IsHeld}
use Rattle.md_model.proofs.Lives.Lives.{start_again}
use Rattle.md_model.proofs.Steps.Keeps.{IsKept}
use Rattle.md_model.proofs.Content.Picked.{has_content_again}
use Rattle.md_state.specs.View.{Disk, MirrorView, geometry_of}
use Rattle.md_array.specs.Worlds.{none_in_flight, super_of, world_of}
use Rattle.md_laws.specs.Lives.{ContentGoesAlongTold, IsReopened, KeepsContent, MirrorLife, MirrorLifeTellsEnrolments, MirrorLifeWith}
use Rattle.md_laws.specs.Runs.{HasContent, IsStart, MirrorRun, Moment, history_of, opened_as}
use Rattle.md_laws.proofs.Runs.MirrorLives.{left, reopens_there}
use Rattle.md_laws.proofs.Runs.Moments.{IsSoundAt, geometry_kept, run_keeps, sound_when_opened}
use Rattle.md_laws.proofs.Runs.ContentRuns as run
use Rattle.md_laws.proofs.Runs.MirrorRuns as mirror_runs
use Rattle.md_laws.proofs.Openings.Reopened.{same_geometry}

-- a mirror that begins covered, and whose devices an opening would read as it keeps them
record Begins (m : MirrorView) : Type 0 where
  start : runs.IsStart (geometry_of m.array) (super_of m.array.shared) (world_of m none_in_flight)
  at_m : IsSoundAt (opened_as m)

begins_first : (before : List Disk) (m : MirrorView) → IsStart before m → Begins m
begins_first before m start = record { start = mirror_runs.starts before m start; at_m = sound_when_opened before m start.honest start.opened }

-- ---- the next opening
module _ (m : MirrorView) (begins : Begins m) (es : List Event) (t : Moment) (r : MirrorRun (opened_as m) es t) (next : MirrorView) (again : IsReopened m t next)
    (a : Content) (held : IsHeld (geometry_of m.array) (super_of m.array.shared) (history_of t) a) where
  abbrev g : Geometry
  g = geometry_of m.array

  abbrev opened : Super
  opened = super_of m.array.shared

  abbrev first : Super
  first = super_of next.array.shared

  abbrev w : World
  w = world_of next none_in_flight

  at_t : IsSoundAt t
  at_t = run_keeps es (opened_as m) t r begins.at_m

  -- the moment of which the crash leaves devices
  abbrev stop : Moment
  stop = (left t at_t next again.before again.devices again.opens).moment

  -- the content was held then too
  held_then : IsHeld g opened (history_of stop) a
  held_then =
      let s = left t at_t next again.before again.devices again.opens in
      run.held m begins.start s.events t a s.moment a (geometry_kept es (opened_as m) t r) held (s.still a)

  same : geometry_of next.array ≡ g
  same = same_geometry t at_t again.before next.array again.devices again.opens.array ∙ geometry_kept es (opened_as m) t r

  stays : geometry_of t.mirror.array ≡ g
  stays = geometry_kept es (opened_as m) t r

  of_model : Reopens g opened (history_of stop) first w
  of_model = subst (λ x. Reopens x opened (history_of stop) first w) stays
      (reopens_there t at_t next m (sym stays) (subst IsWithinLimits (sym stays) begins.start.small) (subst (λ x. IsKept x opened (history_of t)) (sym stays) held.kept) again)

  start_of_model : runs.IsStart g first w
  start_of_model = start_again g opened (history_of stop) first w begins.start.small held_then.kept of_model

  begins_again : Begins next
  begins_again = record {
    start = subst (λ x. runs.IsStart x first w) (sym same) start_of_model;
    at_m = sound_when_opened again.before next again.devices.honest again.opens;
  }

  content_again : (b : Content) × BecomesAtOpening (geometry_of next.array) w a b
  content_again =
      let b = has_content_again g opened (history_of stop) held_then.kept a first w of_model start_of_model held_then.holds.unmarked in
      (b.0, subst (λ x. BecomesAtOpening x w a b.0) (sym same) b.1)

-- ---- lives
life_along : (m : MirrorView) (a : Content) → Begins m → Holds (geometry_of m.array) a (world_of m none_in_flight)
    → (es : List Event) (rest : List (List Event)) (final : MirrorView) (last : Moment) (life : MirrorLife m es rest final last)
    → MirrorLifeTellsEnrolments m a es rest final last life → (b : Content) × MirrorLifeWith m a es rest final last b
life_along m a begins holds es [] final last life told =
    let x = run.content_along m begins.start es a last holds life.1 told in
    (x.0, (life.0, x.1))
life_along m a begins holds es (more ∷ rest) final last life told =
    let t = life.0 in
    let next = life.1 in
    let x = run.content_along m begins.start es a t holds life.2 told.0 in
    let d = content_again m begins es t life.2 next life.3 x.0 x.2 in
    let y = life_along next d.0 (begins_again m begins es t life.2 next life.3 x.0 x.2) d.1.holds more rest final last life.4 (told.1 x.0 d.0 x.1 d.1) in
    (y.0, (t, next, x.0, d.0, x.1, life.3, d.1, y.1))

life_held : (m : MirrorView) (a : Content) → Begins m → Holds (geometry_of m.array) a (world_of m none_in_flight)
    → (es : List Event) (rest : List (List Event)) (final : MirrorView) (last : Moment) (b : Content) → MirrorLifeWith m a es rest final last b
    → Holds (geometry_of m.array) b (world_of last.mirror last.requests)
life_held m a begins holds es [] final last b life = (run.content_held m begins.start es a last b holds life.1).holds
life_held m a begins holds es (more ∷ rest) final last b life =
    let t = life.0 in
    let next = life.1 in
    let r = run.without_content es (opened_as m) a t life.2 life.4 in
    let held = run.content_held m begins.start es a t life.2 holds life.4 in
    subst (λ x. Holds x b (world_of last.mirror last.requests)) (same m begins es t r next life.5 life.2 held)
    (life_held next life.3 (begins_again m begins es t r next life.5 life.2 held) life.6.holds more rest final last b life.7)

pub content_at_first : HasContent
content_at_first = mirror_runs.content_at_first

pub content_told : ContentGoesAlongTold
content_told before m a start holds = life_along m a (begins_first before m start) holds

pub content_kept : KeepsContent
content_kept before m a start holds = life_held m a (begins_first before m start) holds

-- ---- at each moment of a life
-- the content is held, the mirror is sound, and the array has the chunks of the first opening
pub record IsHeldAt (g : Geometry) (opened : Super) (t : Moment) (a : Content) : Type 0 where
  pub held : IsHeld g opened (history_of t) a
  pub sound : IsSoundAt t
  pub geometry : geometry_of t.mirror.array ≡ g

held_at : (m : MirrorView) (a : Content) → Begins m → Holds (geometry_of m.array) a (world_of m none_in_flight)
    → (es : List Event) (rest : List (List Event)) (final : MirrorView) (last : Moment) (b : Content) → MirrorLifeWith m a es rest final last b
    → IsHeldAt (geometry_of m.array) (super_of final.array.shared) last b
held_at m a begins holds es [] final last b life =
    let r = run.without_content es (opened_as m) a last b life.1 in
    record {
      held = subst (λ (x : MirrorView). IsHeld (geometry_of m.array) (super_of x.array.shared) (history_of last) b) (sym life.0) (run.content_held m begins.start es a last b holds life.1);
      sound = run_keeps es (opened_as m) last r begins.at_m;
      geometry = geometry_kept es (opened_as m) last r;
    }
held_at m a begins holds es (more ∷ rest) final last b life =
    let t = life.0 in
    let next = life.1 in
    let r = run.without_content es (opened_as m) a t life.2 life.4 in
    let held = run.content_held m begins.start es a t life.2 holds life.4 in
    subst (λ x. IsHeldAt x (super_of final.array.shared) last b) (same m begins es t r next life.5 life.2 held)
    (held_at next life.3 (begins_again m begins es t r next life.5 life.2 held) life.6.holds more rest final last b life.7)

pub life_held_at : (before : List Disk) (m : MirrorView) (a : Content) → IsStart before m → Holds (geometry_of m.array) a (world_of m none_in_flight)
    → (es : List Event) (rest : List (List Event)) (final : MirrorView) (last : Moment) (b : Content) → MirrorLifeWith m a es rest final last b
    → IsHeldAt (geometry_of m.array) (super_of final.array.shared) last b
life_held_at before m a start holds = held_at m a (begins_first before m start) holds

pub starts_small : (before : List Disk) (m : MirrorView) → IsStart before m → IsWithinLimits (geometry_of m.array)
starts_small before m start = (begins_first before m start).start.small

-- the last opening too
final_at : (m : MirrorView) (a : Content) → Begins m → Holds (geometry_of m.array) a (world_of m none_in_flight)
    → (es : List Event) (rest : List (List Event)) (final : MirrorView) (last : Moment) (b : Content) → MirrorLifeWith m a es rest final last b
    → geometry_of final.array ≡ geometry_of m.array
final_at m a begins holds es [] final last b life = ap (λ (x : MirrorView). geometry_of x.array) life.0
final_at m a begins holds es (more ∷ rest) final last b life =
    let t = life.0 in
    let next = life.1 in
    let r = run.without_content es (opened_as m) a t life.2 life.4 in
    let held = run.content_held m begins.start es a t life.2 holds life.4 in
    final_at next life.3 (begins_again m begins es t r next life.5 life.2 held) life.6.holds more rest final last b life.7 ∙ same m begins es t r next life.5 life.2 held

pub final_geometry : (before : List Disk) (m : MirrorView) (a : Content) → IsStart before m → Holds (geometry_of m.array) a (world_of m none_in_flight)
    → (es : List Event) (rest : List (List Event)) (final : MirrorView) (last : Moment) (b : Content) → MirrorLifeWith m a es rest final last b
    → geometry_of final.array ≡ geometry_of m.array
final_geometry before m a start holds = final_at m a (begins_first before m start) holds
