use Rattle.std.proofs.Common.{◌≡◌, ◌∙◌, ℕ, ◌<◌, List, get_or, length, map, refl, sym, ap, subst, arith}
use Rattle.std.proofs.lemmas.Result.{err_from_is_err_and}
use Rattle.std.specs.List.{remove}
use Rattle.std.proofs.lemmas.List.{length-map}
use Rattle.std.proofs.lemmas.Option.{slice_get_read}
use Rattle.md_state.specs.Steps.Remove.{Leaves, Removes}
use Rattle.md_state.specs.Requests.{IsPending}
use Rattle.md_state.specs.View.{ArrayView, Disk, MirrorView, disk_of}
use Rattle.md_array.specs.Consistency.{IsConsistent}
use Rattle.md_array.proofs.General.Indices.{got_in_map}
use Rattle.md_array.proofs.General.TakenOut.{mapped_left}
use Rattle.md_array.proofs.StepLemmas.Remove.{remove_happens, remove_is_consistent, remove_keeps_pending, remove_unchanged}
use Rattle.md_array.proofs.mirror.Mirror.remove.Goals as goal

removes : {D : Type 0} (of : D → Disk) (devices left : List D) (k : ℕ) (d : D) (a b : ArrayView) → k < length devices → d ≡ get_or devices k d → left ≡ remove devices k → Leaves k a b
    → Removes k (of d) (record { disks = map of devices; array = a }) (record { disks = map of left; array = b })
removes of devices left k d a b within read is leaves = record {
  device = got_in_map of devices k d (slice_get_read devices (length devices) k d refl within read);
  disks = ap (map of) is ∙ mapped_left of devices k;
  array = leaves;
}

pub returns-in_err-remove_member : goal.returns-in_err-remove_member
returns-in_err-remove_member g c =
    let p = err_from_is_err_and c.from_residual.result c.from_residual.ensures.1 in
    let disks = map (disk_of g.D.Device) c.self.inside.devices.items in
    let old : MirrorView = record { disks = disks; array = c.self.inside.array } in
    let new : MirrorView = record { disks = disks; array = c.remove_member.new.self } in
    let sound = subst IsConsistent (sym c.self.view_is) c.requires.sound in
    let gives = c.in_err-remove_member.ensures disks in
    let same : new ≡ old = remove_unchanged c.args.k old new c.in_err-remove_member.field-0.0 gives in
    rw (p.1, p.2) (rw (← c.self.view_is) (record {
      gives = gives;
      event = tt;
      sound = subst IsConsistent (sym same) sound;
      pending = λ p. subst (λ (v : MirrorView). IsPending v.array p) (sym same);
    }))

pub returns : goal.returns
returns g c =
    let of = disk_of g.D.Device in
    let devices = c.self.inside.devices.items in
    let old : MirrorView = record { disks = map of devices; array = c.self.inside.array } in
    let new : MirrorView = record { disks = map of c.remove.new.self.items; array = c.remove_member.new.self } in
    let sound = subst IsConsistent (sym c.self.view_is) c.requires.sound in
    let many : length (map of devices) ≡ length c.self.inside.array.members = sound.fits.as_many in
    let mapped = length-map devices of in
    let inside : c.args.k < length c.self.inside.array.members = subst (λ (v : MirrorView). c.args.k < length v.array.members) (sym c.self.view_is) c.requires.within in
    let within : c.args.k < length devices = omega arith in
    let gives = removes of devices _ c.args.k c.remove.result c.self.inside.array c.remove_member.new.self within c.remove.ensures.value c.remove.ensures.items (c.in_ok-remove_member.ensures (map of devices)) in
    rw (← c.self.view_is) (record {
      gives = gives;
      event = remove_happens c.args.k (of c.remove.result) old new sound gives;
      sound = remove_is_consistent c.args.k (of c.remove.result) old new sound gives;
      pending = remove_keeps_pending c.args.k (of c.remove.result) old new sound gives;
    })
