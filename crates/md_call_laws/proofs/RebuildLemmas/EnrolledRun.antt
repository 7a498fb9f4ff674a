-- An enrolment at a moment of a run, by two events: the content stays what it is.
use Rattle.std.proofs.Common.{Bool, ◌≡◌, ◌∙◌, ℕ, ◌+◌, ◌*◌, cond, set, [], ◌∷◌, slice_get, Some, refl, sym, ap, subst, arith}
use Rattle.std.proofs.lemmas.Option.{slice_get_within}
use Rattle.md_assembly.proofs.Indices.{got_within}
use Rattle.md_device.specs.Splice.{part}
use Rattle.md_model.specs.Content.{Becomes, Content}
use Rattle.md_model.specs.Devices.{Stored}
use Rattle.md_model.specs.Events.{Event}
use Rattle.md_model.proofs.Cases.{below-nat_lt}
use Rattle.md_state.specs.Requests.{AreInFlight}
use Rattle.md_state.specs.View.{Disk, MirrorView, geometry_of}
use Rattle.md_array.specs.Consistency.{IsConsistent}
use Rattle.md_array.specs.Steps.Enrol.{Enrols, MayEnrolSectors}
use Rattle.md_array.specs.Steps.EnrolEvents.{DidEnrol, IsHeldBy, Prepares, enrol_event, prepared}
use Rattle.md_array.specs.Events.{Does}
use Rattle.md_array.specs.Worlds.{AreHonest, lists_of, stored_of, world_of}
use Rattle.md_array.proofs.Rebuilding.EnrolEvent.{does_enrol}
use Rattle.md_array.proofs.Rebuilding.HeldContent.{it_holds}
use Rattle.md_array.proofs.Rebuilding.InBetween.{prepared_is, prepares, then_at, then_disk}
use Rattle.md_array.proofs.Rebuilding.PreparedEvent.{prepare_happens}
use Rattle.md_array.proofs.StepLemmas.OneMember.{stored_there}
use Rattle.md_laws.specs.Runs.{MirrorRun, MirrorRunWith, Moment, RestsThenDoes, then_as}
use Rattle.md_laws.proofs.Runs.Rests.{at_once, at_rest}
use Rattle.md_call_laws.specs.Rebuilds.RebuildRuns.{StaysReadable}
use Rattle.md_call_laws.proofs.RebuildLemmas.Readable.{readable_on, readable_then}

module _ (target : ℕ) (copied lost : ℕ → Bool) (old new : MirrorView) (c : IsConsistent old) (sound : IsConsistent new) (r : Enrols target copied lost old new) (may : MayEnrolSectors target copied lost old)
    (honest : AreHonest old.disks) (content : Content) (held : IsHeldBy target (lists_of old.array r.member) content (prepared r)) (t : Moment) (there : t.mirror ≡ old)
    (in_flight : AreInFlight old.array t.requests) where
  -- the devices of the target, before and after
  pub was : (d : Disk) × (slice_get old.disks target ≡ Some d)
  was =
      let low = slice_get_within old.array.members target r.comes.member r.comes.at in
      let many = c.fits.as_many in
      got_within old.disks target (omega arith)

  pub is : (e : Disk) × (slice_get new.disks target ≡ Some e)
  is =
      let low = slice_get_within old.disks target was.0 was.1 in
      let many = r.disks.as_many in
      got_within new.disks target (omega arith)

  abbrev then : Disk
  then = then_disk target copied lost old new c r was.0 was.1

  -- in between
  abbrev mid : MirrorView
  mid = record old { disks = set old.disks target then }

  mid_is : prepared r ≡ mid
  mid_is = prepared_is target copied lost old new c r was.0 was.1

  held_mid : IsHeldBy target (lists_of old.array r.member) content mid
  held_mid = subst (IsHeldBy target (lists_of old.array r.member) content) mid_is held

  abbrev first : Event
  first = Event.Prepare target

  abbrev second : Event
  second = enrol_event r

  does_first : Does old t.requests first mid t.requests
  does_first = prepare_happens target old mid c (subst (Prepares target old) mid_is (prepares target copied lost old new c r may)) honest t.requests in_flight

  does_second : Does mid t.requests second new t.requests
  does_second = does_enrol target copied lost old new c sound r may honest was.0 was.1 is.0 is.1 t.requests in_flight content held_mid

  -- the member holds the content in each sector that it does not list then
  becomes : Becomes (geometry_of mid.array) second (world_of mid t.requests) content content
  becomes = record {
    same = refl;
    held = λ s low unlisted.
        (let it = r.comes.member in
        let stored : (world_of mid t.requests).stored target ≡ stored_of old.array it then.content =
        stored_there (set old.disks target then) old.array target it then r.comes.at (then_at target copied lost old new c r was.0 was.1) in
        ap (λ (x : Stored). x.content s) stored
        ∙ ap (λ b. cond b (part then.content (512 * (it.superblock.data_offset + s)) 512) []) (below-nat_lt s old.array.chunks.size low)
        ∙ it_holds target copied lost old new c r may honest was.0 was.1 content held_mid s low unlisted);
  }

  abbrev pub at_end : Moment
  at_end = then_as (then_as t first mid t.requests) second new t.requests

  rests_first : RestsThenDoes t.mirror t.requests first mid t.requests
  rests_first = subst (λ (x : MirrorView). RestsThenDoes x t.requests first mid t.requests) (sym there) (at_once old mid t.requests t.requests first does_first)

  pub enrolled_run : MirrorRun t (first ∷ second ∷ []) at_end
  enrolled_run = (mid, t.requests, rests_first, (new, t.requests, at_once mid new t.requests t.requests second does_second, at_rest at_end))

  pub enrolled_run_with : MirrorRunWith t content (first ∷ second ∷ []) at_end content
  enrolled_run_with = (mid, t.requests, content, rests_first, refl, (new, t.requests, content, at_once mid new t.requests t.requests second does_second, becomes, (at_rest at_end, refl)))

  -- who is readable stays so
  did_first : Prepares target t.mirror mid
  did_first = subst (λ (x : MirrorView). Prepares target x mid) (sym there) (subst (Prepares target old) mid_is (prepares target copied lost old new c r may))

  did_second : DidEnrol second mid new
  did_second = record { index = target; copied = copied; lost = lost; old = old; enrols = r; prepared = sym mid_is; event = refl }

  pub enrolled_readable : StaysReadable t at_end
  enrolled_readable =
      let next = then_as t first mid t.requests in
      readable_on t next at_end (readable_then t first tt mid t.requests (refl, did_first)) (readable_then next second tt new t.requests (refl, did_second))
