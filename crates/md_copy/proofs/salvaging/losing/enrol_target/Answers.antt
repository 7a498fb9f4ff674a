use Rattle.std.proofs.Common.{subst}
use Rattle.md_array.specs.Steps.Enrol.{RefusesEnrolBut}
use Rattle.md_kept_members.specs.SectorLists.{in_chunks_but, in_runs}
use Rattle.md_copy.proofs.salvaging.losing.enrol_target.Goals as goal

pub returns-in-Err-LogFull-clause-gives : goal.returns-in-Err-LogFull-clause-gives
returns-in-Err-LogFull-clause-gives g c =
    let at = c.in-Err-LogFull in
    let old = c.args.mirror.now in
    let r = subst (RefusesEnrolBut c.args.target (in_chunks_but old.array.chunks c.args.missing.now c.args.lost.now) (in_runs c.args.lost.now) old c.enrol_but_for.new.self) at.field-0-is at.ensures.gives in
    (r.unchanged, r.reason.0, r.reason.2)
