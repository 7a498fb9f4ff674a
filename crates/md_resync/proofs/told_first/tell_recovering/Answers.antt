use Rattle.std.proofs.Common.{◌*◌, ◌∙◌, ap, arith, subst, sym}
use Rattle.md_bitmap.specs.Marks.{Bitmap, IsMarked, IsNextMarked}
use Rattle.md_bitmap.specs.declared.chunks.Chunks.{Chunks}
use Rattle.md_metadata.specs.Storing.{IsRecording, StoringFails}
use Rattle.md_resync.proofs.Lowered.{telling_halts, telling_loses, tells, tells_nothing}
use Rattle.md_resync.proofs.told_first.tell_recovering.Goals as goal

pub returns-in_default-clause-gives : goal.returns-in_default-clause-gives
returns-in_default-clause-gives g c =
    tells_nothing c.args.mirror.now c.requires.sound
    (λ x marked. c.in_default.ensures.none x (omega arith) (subst (λ (b : Bitmap). IsMarked b x) (sym c.marks.ensures) marked))

pub returns-in-Ok-clause-gives : goal.returns-in-Ok-clause-gives
returns-in-Ok-clause-gives g c =
    tells (c.from.result * c.from-2.result) c.args.mirror.now c.lower_offsets.new.mirror c.lower_offsets.ensures c.store_lowered.new.mirror c.in-Ok.ensures c.in-Some.chunk
    (subst (λ (b : Bitmap). IsNextMarked b 0 c.in-Some.chunk) c.marks.ensures c.in-Some.ensures.some)
    ((λ i. c.from.ensures i * c.from-2.ensures i) ∙ ap (λ (x : Chunks). c.in-Some.chunk * x.sectors) c.chunks-sectors.ensures)

pub returns-in-Err-Halted-clause-gives : goal.returns-in-Err-Halted-clause-gives
returns-in-Err-Halted-clause-gives g c =
    let at = c.in-Err-Halted in
    telling_halts (c.from.result * c.from-2.result) c.args.mirror.now c.lower_offsets.new.mirror c.lower_offsets.ensures c.store_lowered.new.mirror
    (subst (StoringFails IsRecording c.lower_offsets.new.mirror c.store_lowered.new.mirror) at.field-0-is at.ensures)

pub returns-in-Err-MemberFailed-clause-gives : goal.returns-in-Err-MemberFailed-clause-gives
returns-in-Err-MemberFailed-clause-gives g c =
    let at = c.in-Err-MemberFailed in
    telling_loses (c.from.result * c.from-2.result) c.args.mirror.now c.lower_offsets.new.mirror c.lower_offsets.ensures c.store_lowered.new.mirror at.k
    (subst (StoringFails IsRecording c.lower_offsets.new.mirror c.store_lowered.new.mirror) at.field-0-is at.ensures)
