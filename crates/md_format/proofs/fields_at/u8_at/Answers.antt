use Rattle.std.proofs.Common.{arith}
use Rattle.md_format.specs.Fields.{number_at}
use Rattle.md_format.proofs.fields_at.u8_at.Goals as goal

pub returns : goal.returns
unfolding number_at
returns c = omega arith
