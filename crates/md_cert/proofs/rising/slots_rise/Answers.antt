use Rattle.md_cert.specs.declared.slots.Slot.{Slot}
use Rattle.md_cert.proofs.SideBySide.{rises_more}
use Rattle.md_cert.proofs.rising.slots_rise.Goals as goal

pub loop-i-preserved : goal.loop-i-preserved
loop-i-preserved c =
    let d : Slot = record { chunk = 0; source = 0; round = 0 } in
    rises_more (λ (s : Slot). s.chunk) c.args.slots.now c.loop-i.i d c.loop-i.invariant c.loop-i-test.true c.loop-i.auto.i c.if-slots-i.false
