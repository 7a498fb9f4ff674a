use Rattle.std.proofs.Common.{refl, arith}
use Rattle.md_read_commands.proofs.Filled.{noted_one}
use Rattle.md_read_commands.proofs.Noted.{fit_more}
use Rattle.md_read_commands.proofs.filling.push_one.Goals as goal

pub returns-clause-notes : goal.returns-clause-notes
returns-clause-notes c =
    rw c.push_reserved.ensures.items (record {
      noted = noted_one c.args.sector c.args.runs.now.items _ refl refl;
      fit = λ low fit. fit_more c.args.runs.now.items _ fit (omega arith) (omega arith);
    })
