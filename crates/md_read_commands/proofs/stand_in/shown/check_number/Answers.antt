use Rattle.md_read_commands.proofs.Stands.{free_by}
use Rattle.md_read_commands.proofs.stand_in.shown.check_number.Goals as goal

pub returns-in-None : goal.returns-in-None
returns-in-None g c = free_by c.check_role.result c.args.mirror.now.array c.args.number c.in-None.ensures c.check_role.ensures.in_role c.check_role.ensures.undoubted
