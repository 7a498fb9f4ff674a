use Rattle.std.proofs.Common.{◌-◌, length, arith, ◌∙◌}
use Rattle.md_format.proofs.Places.{number_at-part}
use Rattle.md_format.proofs.fields_at.u64_at.Goals as goal

pub returns : goal.returns
returns c = c.read_u64.ensures ∙ number_at-part 8 c.args.at (length c.args.bytes.now - c.args.at) c.args.bytes.now (omega arith)
