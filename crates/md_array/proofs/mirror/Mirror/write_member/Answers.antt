use Rattle.std.proofs.Common.{◌≡◌, ◌∙◌, List, [], ◌∷◌, ◌++◌, map, refl, subst, sym}
use Rattle.std.proofs.lemmas.Result.{err_from_is_err_and}
use Rattle.std.specs.Prelude.{Some, slice_get}
use Rattle.std.proofs.lemmas.List.{with_items_is}
use Rattle.md_state.specs.View.{Disk, MirrorView, disk_of}
use Rattle.md_state.specs.Requests.{IsPending}
use Rattle.md_array.specs.Consistency.{IsConsistent}
use Rattle.md_array.proofs.General.Answered.{err_of, ok_of}
use Rattle.md_array.proofs.StepLemmas.WriteMember.{write_member_happens, written_is_consistent, written_is_pending, written_keeps_pending}
use Rattle.md_array.proofs.StepLemmas.WriteKeeps.{refused_write_event, refused_write_pending, refused_write_sound, refused_write_still}
use Rattle.md_array.proofs.StepLemmas.WriteToMember.{fails_to_write, on_device, room_left, writes_to}
use Rattle.md_array.proofs.mirror.Mirror.write_member.Goals as goal

pub returns-in_err-check_write : goal.returns-in_err-check_write
returns-in_err-check_write g c =
    let p = err_from_is_err_and c.from_residual.result c.from_residual.ensures.1 in
    let disks = map (disk_of g.D.Device) c.self.inside.devices.items in
    let sound = subst IsConsistent (sym c.self.view_is) c.requires.sound in
    let pending = subst (λ (v : MirrorView). IsPending v.array c.args.pending.now) (sym c.self.view_is) c.requires.pending in
    let gives = c.in_err-check_write.ensures disks in
    rw (p.1, p.2) (rw (← c.self.view_is) (record {
      gives = gives;
      event = refused_write_event c.args.k _ _ _ _ sound pending _ gives;
      sound = sound;
      still = pending;
      pending = λ _ is. is;
    }))

pub put_on-requires-clause-room : goal.put_on-requires-clause-room
put_on-requires-clause-room g c d at =
    let v = c.args.self.now in
    let there : slice_get v.disks c.args.k ≡ Some d = subst (λ (x : MirrorView). slice_get x.disks c.args.k ≡ Some d) c.self.view_is (rw c.deref_mut.ensures.value at at) in
    rw (c.sector.ensures, c.bytes.ensures) (on_device v c.args.k c.args.pending.now c.own-own.result.now c.own-own.ensures c.requires.sound c.requires.pending d there)

pub returns-then-is_err : goal.returns-then-is_err
returns-then-is_err g c =
    let disk = disk_of g.D.Device in
    let after : List Disk = map disk c.put_on.new.devices in
    let failed = err_of c.put_on.result _ _ c.if-is_err.ensures.value c.put_on.ensures in
    let same = with_items_is c.self.inside.devices c.put_on.new.devices (c.put_on.auto.devices ∙ c.deref_mut.ensures.len) in
    let refused = fails_to_write _ c.args.self.now _ c.args.pending.now c.self.view_is refl c.args.k c.own-own.result.now c.own-own.ensures (c.in_ok-check_write.ensures []) after c.write_failed.new.self c.write_failed.result
    (rw (c.deref_mut.ensures.value, c.sector.ensures, c.bytes.ensures) at failed) c.write_failed.ensures in
    rw same (record {
      gives = refused;
      event = refused_write_event c.args.k _ _ _ _ c.requires.sound c.requires.pending c.write_failed.result refused;
      sound = refused_write_sound c.args.k _ _ _ _ c.requires.sound c.requires.pending c.write_failed.result refused;
      still = refused_write_still c.args.k _ _ _ _ c.requires.sound c.requires.pending c.write_failed.result refused;
      pending = refused_write_pending c.args.k _ _ _ _ c.requires.sound c.requires.pending c.write_failed.result refused;
    })

pub note_written-requires : goal.note_written-requires
note_written-requires g c =
    record { room = room_left _ c.args.self.now _ c.args.pending.now c.self.view_is refl c.args.k c.own-own.result.now c.own-own.ensures (c.in_ok-check_write.ensures []) c.requires.pending }

pub returns : goal.returns
returns g c =
    let disk = disk_of g.D.Device in
    let after : List Disk = map disk c.put_on.new.devices in
    let done = ok_of c.put_on.result _ _ c.if-is_err.ensures.value c.put_on.ensures in
    let same = with_items_is c.self.inside.devices c.put_on.new.devices (c.put_on.auto.devices ∙ c.deref_mut.ensures.len) in
    let written = writes_to _ c.args.self.now _ c.args.pending.now c.self.view_is refl c.args.k c.own-own.result.now c.own-own.ensures (c.in_ok-check_write.ensures []) after (c.args.pending.now.written ++ c.own-own.result.now.dev_number ∷ [])
    (rw (c.deref_mut.ensures.value, c.sector.ensures, c.bytes.ensures) at done) refl in
    rw (same, c.note_written.ensures) (record {
      gives = written;
      event = write_member_happens c.args.k _ _ _ _ c.requires.sound c.requires.pending written;
      sound = written_is_consistent c.args.k _ _ _ _ c.requires.sound c.requires.pending written;
      still = written_is_pending c.args.k _ _ _ _ c.requires.sound c.requires.pending written;
      pending = written_keeps_pending c.args.k _ _ _ _ c.requires.sound c.requires.pending written;
    })
