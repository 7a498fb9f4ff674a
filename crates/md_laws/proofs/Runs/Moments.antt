-- What holds of a mirror at each moment of a run, and of a life.
use Rattle.std.proofs.Common.{◌≡◌, List, [], ◌∷◌, ◌++◌, sym, ap, ◌∙◌, subst}
use Rattle.std.proofs.lemmas.Option.{none-some}
use Rattle.md_model.specs.Events.{Event}
use Rattle.md_state.specs.View.{ArrayView, Disk, MirrorView, geometry_of}
use Rattle.md_state.specs.Requests.{AreInFlight}
use Rattle.md_array.specs.Consistency.{IsConsistent}
use Rattle.md_array.specs.Open.Opened.{IsOpenedFrom}
use Rattle.md_array.specs.ReadAsKept.{AreReadAsKept}
use Rattle.md_array.specs.Worlds.{AreHonest}
use Rattle.md_array.proofs.Openings.Consistent.{consistent}
use Rattle.md_array.proofs.General.Honesty.{opened_honest, same_honest}
use Rattle.md_array.proofs.General.Resting.{geometry_rests}
use Rattle.md_laws.specs.Lives.{MirrorLife}
use Rattle.md_laws.specs.Runs.{MirrorRun, Moment, opened_as, then_as}
use Rattle.md_laws.proofs.Runs.MirrorRuns.{rests_run}
use Rattle.md_laws.proofs.Runs.Rests.{moment_keeps, rests_does}
use Rattle.md_laws.proofs.Openings.OpenedFrom.{opened_read}

pub record IsSoundAt (t : Moment) : Type 0 where
  pub sound : IsConsistent t.mirror
  pub read : AreReadAsKept t.mirror t.failed_at t.misread
  pub honest : AreHonest t.mirror.disks
  pub in_flight : AreInFlight t.mirror.array t.requests

pub sound_when_opened : (before : List Disk) (m : MirrorView) → AreHonest before → IsOpenedFrom before m → IsSoundAt (opened_as m)
sound_when_opened before m honest opened = record {
  sound = consistent before m opened;
  read = opened_read before m honest opened;
  honest = opened_honest before m honest opened;
  in_flight = λ n p is. absurd (none-some p is);
}

-- it goes along the events
pub run_keeps : (es : List Event) (t last : Moment) → MirrorRun t es last → IsSoundAt t → IsSoundAt last
run_keeps [] t last r at =
    let kept = moment_keeps t last r at.sound at.read in
    record {
      sound = kept.0;
      read = kept.1;
      honest = same_honest t.mirror.disks last.mirror.disks r.rests.disks.same at.honest;
      in_flight = subst (λ (a : ArrayView). AreInFlight a last.requests) (sym r.rests.array) (subst (AreInFlight t.mirror.array) (sym (ap (λ (x : Moment). x.requests) r.is)) at.in_flight);
    }
run_keeps (e ∷ es) t last r at =
    let leads = rests_does t.mirror r.0 t.requests r.1 e r.2 in
    run_keeps es (then_as t e r.0 r.1) last r.3 (record { sound = leads.sound; read = leads.read t.failed_at t.misread at.read; honest = r.2.does.honest; in_flight = r.2.does.in_flight })

pub geometry_kept : (es : List Event) (t last : Moment) → MirrorRun t es last → geometry_of last.mirror.array ≡ geometry_of t.mirror.array
geometry_kept [] t last r = geometry_rests t.mirror last.mirror r.rests
geometry_kept (e ∷ es) t last r = geometry_kept es (then_as t e r.0 r.1) last r.3 ∙ (rests_does t.mirror r.0 t.requests r.1 e r.2).geometry

-- one run after another
pub run_then : (es more : List Event) (t mid last : Moment) → MirrorRun t es mid → MirrorRun mid more last → MirrorRun t (es ++ more) last
run_then [] more t mid last r s = rests_run more t mid last r s
run_then (e ∷ es) more t mid last r s = (r.0, r.1, r.2, run_then es more (then_as t e r.0 r.1) mid last r.3 s)

-- ---- lives
pub life_keeps : (m : MirrorView) (es : List Event) (rest : List (List Event)) (final : MirrorView) (last : Moment) → IsSoundAt (opened_as m) → MirrorLife m es rest final last → IsSoundAt last
life_keeps m es [] final last at_m life = run_keeps es (opened_as m) last life.1 at_m
life_keeps m es (more ∷ rest) final last at_m life =
    let next = life.3 in
    life_keeps life.1 more rest final last (sound_when_opened next.before life.1 next.devices.honest next.opens) life.4
