use Rattle.std.proofs.Common.{◌≡◌, ◌<◌, true, length, map, sym, subst}
use Rattle.md_assembly.specs.States.{is_recovering}
use Rattle.md_assembly.proofs.Indices.{got_within}
use Rattle.md_kept_members.specs.View.{MemberView}
use Rattle.md_state.specs.Members.{IsMember}
use Rattle.md_state.specs.View.{MirrorView, disk_of}
use Rattle.md_array.specs.Steps.Checkpoint.{MovesOffsets}
use Rattle.md_array.specs.Consistency.{IsConsistent}
use Rattle.md_array.proofs.Rebuilding.OffsetMoved.{moved_is_consistent, moved_is_pending}
use Rattle.md_array.proofs.StepLemmas.OneWrite.{within_members}
use Rattle.md_array.proofs.mirror.Mirror.set_offsets.Goals as goal

pub returns : goal.returns
returns g c =
    let disk = disk_of g.D.Device in
    let devices = c.self.inside.devices.items in
    let was : MirrorView = record { disks = map disk devices; array = c.self.inside.array } in
    let new : MirrorView = record { disks = map disk devices; array = c.set_offsets.new.self } in
    let sound = subst IsConsistent (sym c.self.view_is) c.requires.sound in
    let within : c.args.k < length was.array.members = within_members disk devices c.self.inside.array c.args.self.now c.args.k c.self.view_is c.requires.sound c.requires.within in
    let m = got_within was.array.members c.args.k within in
    let recovering = subst (λ (v : MirrorView). (m : MemberView) → IsMember v.array c.args.k m → is_recovering m.state ≡ true) (sym c.self.view_is) c.requires.recovering in
    let moves : MovesOffsets c.args.k c.args.offset c.args.sure was new = record {
      member = m.0;
      at = m.1;
      moved = λ i. record { disks = map disk devices; array = c.set_offsets.ensures m.0 m.1 i };
    } in
    rw (← c.self.view_is) (record {
      moves = moves;
      sound = moved_is_consistent c.args.k c.args.offset c.args.sure m.0.due was new sound m.0 m.1 moves.moved (recovering m.0 m.1);
      pending = moved_is_pending c.args.k c.args.offset c.args.sure m.0.due was new sound m.0 m.1 moves.moved;
    })
