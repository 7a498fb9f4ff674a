use Rattle.std.proofs.Common.{◌≡◌, ◌/◌, ◌∙◌, List, length, map, subst}
use Rattle.std.specs.Prelude.{Some, slice_get}
use Rattle.std.proofs.lemmas.List.{with_items_is}
use Rattle.md_state.specs.View.{Disk, MirrorView, disk_of}
use Rattle.md_array.proofs.General.Answered.{err_of, ok_of}
use Rattle.md_array.proofs.Worlds.CopyFailed.{refused_copy_event, refused_copy_pending, refused_copy_sound}
use Rattle.md_array.proofs.StepLemmas.CopyData.{copied_run_is_consistent, copied_run_keeps_pending, copies_in_turn, copies_to, own_of, refuses_copy, run_fits}
use Rattle.md_array.proofs.mirror.Mirror.copy_data.Goals as goal

pub put_on-requires-clause-room : goal.put_on-requires-clause-room
put_on-requires-clause-room g c d at =
    let v = c.args.self.now in
    let copy = c.requires.copy in
    let own = own_of v.array c.args.k copy.may.target c.own.result.now copy.may.in_sync.member c.own.ensures in
    run_fits c.args.k c.args.sector c.args.bytes.now v c.requires.sound copy c.own.result.now own d
    (subst (λ (x : MirrorView). slice_get x.disks c.args.k ≡ Some d) c.self.view_is (rw c.deref_mut.ensures.value at at))

pub returns-then-is_err : goal.returns-then-is_err
returns-then-is_err g c =
    let v = c.args.self.now in
    let copy = c.requires.copy in
    let own = own_of v.array c.args.k copy.may.target c.own.result.now copy.may.in_sync.member c.own.ensures in
    let after : List Disk = map (disk_of g.D.Device) c.put_on.new.devices in
    let failed = err_of c.put_on.result _ _ c.if-is_err.ensures.value c.put_on.ensures in
    let same = with_items_is c.self.inside.devices c.put_on.new.devices (c.put_on.auto.devices ∙ c.deref_mut.ensures.len) in
    let refused = refuses_copy _ v c.self.view_is c.args.k c.args.sector c.args.bytes.now copy c.own.result.now own after c.copy_failed.new.self c.copy_failed.result
    (rw c.deref_mut.ensures.value at failed) c.copy_failed.ensures in
    let many = length c.args.bytes.now / 512 in
    rw same (record {
      gives = refused;
      event = refused_copy_event c.args.k c.args.sector many v _ c.requires.sound c.copy_failed.result refused;
      sound = refused_copy_sound c.args.k c.args.sector many v _ c.requires.sound c.copy_failed.result refused;
      pending = refused_copy_pending c.args.k c.args.sector many v _ c.requires.sound c.copy_failed.result refused;
    })

pub returns : goal.returns
returns g c =
    let v = c.args.self.now in
    let copy = c.requires.copy in
    let own = own_of v.array c.args.k copy.may.target c.own.result.now copy.may.in_sync.member c.own.ensures in
    let after : List Disk = map (disk_of g.D.Device) c.put_on.new.devices in
    let done = ok_of c.put_on.result _ _ c.if-is_err.ensures.value c.put_on.ensures in
    let same = with_items_is c.self.inside.devices c.put_on.new.devices (c.put_on.auto.devices ∙ c.deref_mut.ensures.len) in
    let copied = copies_to _ v c.self.view_is c.args.k c.args.sector c.args.bytes.now copy c.own.result.now own after (rw c.deref_mut.ensures.value at done) in
    rw same (record {
      gives = copied;
      event = copies_in_turn c.args.k c.args.sector c.args.bytes.now v c.requires.sound copy _ copied;
      sound = copied_run_is_consistent c.args.k c.args.sector c.args.bytes.now v c.requires.sound copy _ copied;
      pending = copied_run_keeps_pending c.args.k c.args.sector c.args.bytes.now v c.requires.sound copy _ copied;
    })
