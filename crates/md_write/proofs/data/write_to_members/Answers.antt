use Rattle.std.proofs.Common.{ap, arith, subst}
use Rattle.md_model.specs.Events.{Event, MemberPart}
use Rattle.md_metadata.specs.declared.fault.PartFault.TheVariants.{Halted, MemberFailed}
use Rattle.md_state.specs.View.{ArrayView}
use Rattle.md_state.specs.Steps.WriteMember.{RefusesWriteMember}
use Rattle.md_state.proofs.Members.At.{told}
use Rattle.md_array.specs.Events.{HappensAmong, IfWritingFailed}
use Rattle.md_write.specs.Progress.{Part}
use Rattle.md_write.proofs.Advancing.{stops_later}
use Rattle.md_write.proofs.WrittenData.{data_again, data_fails, data_halts, data_written, running_on, written_all, written_more, written_none, written_nothing}
use Rattle.md_write.proofs.data.write_to_members.Goals as goal
use Rattle.md_write.proofs.data.write_to_members.Goals.{in-Ok, in-Err-AlreadyWritten}

pub loop-k-init : goal.loop-k-init
loop-k-init g c = written_none c.args.pending.now c.args.mirror.now c.requires.sound c.requires.pending

pub write_member-requires-clause-within : goal.write_member-requires-clause-within
write_member-requires-clause-within g c =
    let many = c.loop-k.invariant.writes.advances.goes.array.as_many in
    let count = c.members-k-end.ensures in
    omega arith

pub write_member-requires-clause-sound : goal.write_member-requires-clause-sound
write_member-requires-clause-sound g c = c.loop-k.invariant.writes.advances.goes.sound

pub write_member-requires-clause-pending : goal.write_member-requires-clause-pending
write_member-requires-clause-pending g c = c.loop-k.invariant.writes.still

pub loop-k-preserved-then-not-is_in_sync : goal.loop-k-preserved-then-not-is_in_sync
loop-k-preserved-then-not-is_in_sync g c =
    let k = c.loop-k.k in
    let q = c.loop-k.pending in
    let mid = c.loop-k.mirror in
    let inv = c.loop-k.invariant in
    written_more k c.args.pending.now q q c.args.mirror.now mid mid inv
    (written_nothing mid mid k q q inv.writes.advances.goes.sound inv.writes.still
    (λ n in_sync.
    let state = told (λ m. m.state) mid.array k n c.state.result c.state.ensures in_sync.member in
    let yes = in_sync.in_sync in
    let answer = c.is_in_sync.ensures in
    let out = c.if-not-is_in_sync.true in
    absurd cc))

pub loop-k-preserved : goal.loop-k-preserved
loop-k-preserved g c =
    let k = c.loop-k.k in
    let q = c.loop-k.pending in
    let r = c.write_member.new.pending in
    let mid = c.loop-k.mirror in
    let new = c.write_member.new.self in
    let inv = c.loop-k.invariant in
    written_more k c.args.pending.now q r c.args.mirror.now mid new inv (elim c.match-write_member.branch [
      | in-Ok w ↦
          let e = w.in-Ok.ensures in
          data_written mid new k q r inv.writes.advances.goes.sound inv.writes.still e.sound e.pending e.gives e.event e.still
      | in-Err-AlreadyWritten w ↦
          let at = w.in-Err-AlreadyWritten in
          data_again mid new k q r inv.writes.advances.goes.sound inv.writes.still (subst (RefusesWriteMember k mid new q r) at.field-0-is at.ensures.gives)
    ])

pub returns-in-Err-MemberFailed : goal.returns-in-Err-MemberFailed
returns-in-Err-MemberFailed g c =
    let at = c.in-Err-MemberFailed in
    let k = c.loop-k.k in
    let q = c.loop-k.pending in
    let r = c.write_member.new.pending in
    let mid = c.loop-k.mirror in
    let new = c.write_member.new.self in
    let so_far = c.loop-k.invariant.writes in
    stops_later c.args.pending.now q r c.args.mirror.now mid new Part.Bytes Part.Bytes so_far.advances (MemberFailed at.j) (ap (λ (x : ArrayView). x.halted) so_far.array)
    (data_fails mid new k q r so_far.advances.goes.sound so_far.still at.ensures.sound at.ensures.pending at.j
    (subst (RefusesWriteMember k mid new q r) at.field-0-is at.ensures.gives)
    (subst (IfWritingFailed (HappensAmong mid q (Event.WriteFails k (MemberPart.RequestData q.ticket.number)) new r)) at.field-0-is at.ensures.event))

pub returns-in-Err-Halted : goal.returns-in-Err-Halted
returns-in-Err-Halted g c =
    let at = c.in-Err-Halted in
    let k = c.loop-k.k in
    let p = c.args.pending.now in
    let q = c.loop-k.pending in
    let r = c.write_member.new.pending in
    let old = c.args.mirror.now in
    let mid = c.loop-k.mirror in
    let new = c.write_member.new.self in
    let so_far = c.loop-k.invariant.writes in
    stops_later p q r old mid new Part.Bytes Part.Bytes so_far.advances Halted (ap (λ (x : ArrayView). x.halted) so_far.array)
    (data_halts mid new k q r so_far.advances.goes.sound so_far.still at.ensures.sound at.ensures.pending (running_on p q old mid so_far c.requires.running)
    (subst (RefusesWriteMember k mid new q r) at.field-0-is at.ensures.gives))

pub returns : goal.returns
returns g c =
    let past = c.loop-k-test.false in
    let count = c.members-k-end.ensures in
    let many = c.loop-k.invariant.writes.advances.goes.array.as_many in
    written_all c.loop-k.k c.args.pending.now c.loop-k.pending c.args.mirror.now c.loop-k.mirror (omega arith) c.loop-k.invariant
