use Rattle.md_assembly.proofs.Order.{enough_passes}
use Rattle.md_assembly.proofs.Taken.{lacking, not_lacking}
use Rattle.md_assembly.proofs.roles.check_in_sync.Goals as goal

pub returns-then-has_in_sync : goal.returns-then-has_in_sync
returns-then-has_in_sync c =
    let f = c.requires.freshest in
    enough_passes c.args.members.now c.requires.before (not_lacking c.args.members.now f.0 c.args.freshest.now c.has_in_sync.result f.1 c.has_in_sync.ensures c.if-has_in_sync.true)

pub returns-else-has_in_sync : goal.returns-else-has_in_sync
returns-else-has_in_sync c =
    let f = c.requires.freshest in
    record {
      stands = lacking c.args.members.now f.0 c.args.freshest.now c.has_in_sync.result f.1 c.has_in_sync.ensures c.if-has_in_sync.false;
      first = c.requires.before;
    }
