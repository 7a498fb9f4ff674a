use Rattle.std.proofs.Common.{subst}
use Rattle.md_array.specs.Steps.NoteBad.{RefusesSectors}
use Rattle.md_kept_members.specs.SectorLists.{in_runs}
use Rattle.md_copy.proofs.salvaging.losing.note_on.Goals as goal

pub returns-in-Err-LogFull-clause-gives : goal.returns-in-Err-LogFull-clause-gives
returns-in-Err-LogFull-clause-gives g c =
    let at = c.in-Err-LogFull in
    let r = subst (RefusesSectors c.args.k (in_runs c.args.lost.now) c.args.mirror.now c.note_bad_sectors.new.self) at.field-0-is at.ensures.gives in
    (r.unchanged, r.reason.0, r.reason.1, c.requires.in_sync)

pub returns-in-Err-NoMemory-clause-gives : goal.returns-in-Err-NoMemory-clause-gives
returns-in-Err-NoMemory-clause-gives g c =
    let at = c.in-Err-NoMemory in
    (subst (RefusesSectors c.args.k (in_runs c.args.lost.now) c.args.mirror.now c.note_bad_sectors.new.self) at.field-0-is at.ensures.gives).unchanged
