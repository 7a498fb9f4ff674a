use Rattle.std.proofs.Common.{subst}
use Rattle.md_metadata.specs.Storing.{IsMarking, StoringFails}
use Rattle.md_resync.proofs.MarksStored.{halts_marks, loses_marks, stores_marks}
use Rattle.md_resync.proofs.marks.store_memory_marks.Goals as goal

pub returns-in-Ok-clause-gives : goal.returns-in-Ok-clause-gives
returns-in-Ok-clause-gives g c = stores_marks c.args.mirror.now c.store_all_marks.new.mirror c.requires.idle c.requires.sound c.in-Ok.ensures.gives

pub returns-in-Err-Halted-clause-gives : goal.returns-in-Err-Halted-clause-gives
returns-in-Err-Halted-clause-gives g c =
    let at = c.in-Err-Halted in
    halts_marks c.args.mirror.now c.store_all_marks.new.mirror c.requires.idle
    (subst (StoringFails IsMarking c.args.mirror.now c.store_all_marks.new.mirror) at.field-0-is at.ensures.gives).halts

pub returns-in-Err-MemberFailed-clause-gives : goal.returns-in-Err-MemberFailed-clause-gives
returns-in-Err-MemberFailed-clause-gives g c =
    let at = c.in-Err-MemberFailed in
    loses_marks at.k c.args.mirror.now c.store_all_marks.new.mirror c.requires.idle
    (subst (StoringFails IsMarking c.args.mirror.now c.store_all_marks.new.mirror) at.field-0-is at.ensures.gives)
