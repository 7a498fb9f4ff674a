-- A run of a mirror is a run of the model, so that the model's laws hold of it.
use Rattle.std.proofs.Common.{◌≡◌, List, [], ◌∷◌, ◌∙◌, subst, arith}
use Rattle.md_model.specs.Sectors.{Geometry}
use Rattle.md_model.specs.Devices.{Super}
use Rattle.md_model.specs.Events.{Event, Step}
use Rattle.md_model.specs.Openings.{IsOpened, IsWithinLimits}
use Rattle.md_model.specs.Runs as runs
use Rattle.md_model.specs.Runs.{spoiled_after}
use Rattle.md_model.specs.Worlds.{World}
use Rattle.md_model.specs.Content.{Content, Holds}
use Rattle.md_model.proofs.Content.ContentLives.{some_content}
use Rattle.md_state.specs.View.{Disk, MirrorView, geometry_of}
use Rattle.md_array.specs.ReadAsKept.{misread_after}
use Rattle.md_array.specs.Worlds.{none_in_flight, super_of, world_of}
use Rattle.md_array.proofs.General.Resting.{world_rests}
use Rattle.md_laws.specs.Runs.{HasRested, IsStart, MirrorRun, Moment, history_of, log_unknown_after, then_as}
use Rattle.md_array.proofs.Worlds.InSync.{in_sync_is}
use Rattle.md_laws.proofs.Runs.Rests.{history_rests, rests_does, rests_then}
use Rattle.md_laws.proofs.Openings.Opened as opening
use Rattle.md_laws.proofs.Openings.OpenedFrom.{covered}

-- the mirror's events are the model's, of an array whose geometry stays
pub model_run : (g : Geometry) (es : List Event) (t last : Moment) → geometry_of t.mirror.array ≡ g → MirrorRun t es last → runs.Run g (history_of t) es (history_of last)
model_run g [] t last same r = history_rests t last r
model_run g (e ∷ es) t last same r =
    let leads = rests_does t.mirror r.0 t.requests r.1 e r.2 in (
      world_of r.0 r.1,
      subst (λ x. Step x (world_of t.mirror t.requests) e (world_of r.0 r.1)) same leads.step,
      model_run g es (then_as t e r.0 r.1) last (leads.geometry ∙ same) r.3,
    )

-- a run goes on from where devices were only read
pub rests_run : (es : List Event) (t mid last : Moment) → HasRested t mid → MirrorRun mid es last → MirrorRun t es last
rests_run [] t mid last r s = record { rests = rests_then t.mirror mid.mirror last.mirror r.rests s.rests; is = s.is ∙ (λ i. record (r.is i) { mirror = last.mirror }) }
rests_run (e ∷ es) t mid last r s =
    let x = subst (λ (m : Moment). MirrorRun m (e ∷ es) last) r.is s in
    let same : then_as (record t { mirror = mid.mirror }) e x.0 x.1 ≡ then_as t e x.0 x.1 =
    λ i. record (then_as t e x.0 x.1) {
      spoiled = spoiled_after e (world_rests t.mirror mid.mirror r.rests t.requests i) t.spoiled;
      misread = misread_after e (r.rests.array i) (world_rests t.mirror mid.mirror r.rests t.requests i) t.misread;
      offset_unknown = spoiled_after e (world_rests t.mirror mid.mirror r.rests t.requests i) t.offset_unknown;
      log_unknown = log_unknown_after e (world_rests t.mirror mid.mirror r.rests t.requests i) t.log_unknown;
    } in
    (x.0, x.1, record { mid = x.2.mid; rests = rests_then t.mirror mid.mirror x.2.mid r.rests x.2.rests; does = x.2.does }, subst (λ (m : Moment). MirrorRun m es last) same x.3)

module _ (before : List Disk) (m : MirrorView) (start : IsStart before m) where
  abbrev g : Geometry
  g = geometry_of m.array

  abbrev opened : Super
  opened = super_of m.array.shared

  abbrev first : World
  first = world_of m none_in_flight

  is_opened : IsOpened g opened first
  is_opened = opening.opened before m start.honest start.opened

  within_limits : IsWithinLimits g
  within_limits =
      let some = is_opened.states.some in
      let served = in_sync_is m.disks m.array none_in_flight some.0 some.1 in
      let width = start.opened.array.remembered.width some.0 served.0 served.1.member in
      let least = served.0.header.sound.chunk_size.least in
      record { few = m.array.shared.in_profile.few_disks; wide = omega arith }

  pub starts : runs.IsStart g opened first
  starts = record { small = within_limits; opening = is_opened; covered = covered before m start.honest start.opened start.covered }

  pub content_at_first : (a : Content) × Holds g a first
  content_at_first = some_content g opened first starts
