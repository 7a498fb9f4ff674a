use Rattle.md_create.proofs.Devices.{one_made, one_missing}
use Rattle.md_create.proofs.new_members.new_members.Goals as goal
use Rattle.md_create.proofs.new_members.new_members.Goals.{in-Some+in_ok-new_member+in_ok-push, in_default}

pub loop-role-preserved : goal.loop-role-preserved
loop-role-preserved c = elim c.match-sizes-role.branch [
  | in-Some+in_ok-new_member+in_ok-push w ↦
      rw (w.members-is, w.in_ok-push.ensures.items) (one_made c.args.params.now c.args.sizes.now c.args.size c.loop-role.role c.loop-role.members.items c.loop-role.invariant w.in-Some.sectors w.in_ok-new_member.field-0 w.in-Some.is w.in_ok-new_member.ensures.device w.in_ok-new_member.ensures.values)
  | in_default w ↦
      rw w.members-is (one_missing c.args.params.now c.args.sizes.now c.args.size c.loop-role.role c.loop-role.members.items c.loop-role.invariant w.in_default.not-Some)
]
