use Rattle.std.proofs.Common.{◌∙◌, ◌*◌, ◌^◌, rules}
use Rattle.md_words.proofs.Suffix.{made_below, no_size, numbered_size}
use Rattle.md_words.proofs.sizes.total_of.Goals as goal

pub returns-in-Ok : goal.returns-in-Ok
returns-in-Ok c = made_below (2 ^ 64) (c.in-Ok.units * c.args.unit) c.checked_mul.result c.checked_mul.ensures ∙ numbered_size c.args.number.now c.args.unit c.in-Ok.units c.parse.result c.in-Ok.is (search rules)

pub returns-in-Err : goal.returns-in-Err
returns-in-Err c = no_size c.args.number.now c.args.unit c.in-Err.field-0 c.parse.result c.in-Err.is (search rules)
