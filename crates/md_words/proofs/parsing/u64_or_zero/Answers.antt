use Rattle.std.proofs.Common.{◌∙◌, rules}
use Rattle.md_words.proofs.Numbers.{number_read}
use Rattle.md_words.proofs.parsing.u64_or_zero.Goals as goal

pub returns : goal.returns
returns c = c.unwrap_or.ensures ∙ number_read 64 c.args.text.now c.parse.result (search rules)
