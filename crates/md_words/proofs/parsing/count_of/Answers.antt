use Rattle.std.proofs.Common.{◌≡◌, ◌∙◌, Option, None, Some, ap, option_map, codes, rules, ℕ}
use Rattle.clap.proofs.WalkLemmas.{first_value-rows}
use Rattle.clap.specs.Words.{Text, found_of}
use Rattle.md_words.specs.Parsing.{sectors_or_zero}
use Rattle.md_words.proofs.parsing.count_of.Goals as goal

abbrev count_at : Option Text → Option ℕ
count_at = option_map sectors_or_zero

pub returns-in_err-text : goal.returns-in_err-text
returns-in_err-text c =
    let absent : c.from_residual.result ≡ None = search rules in
    absent ∙ ap count_at (c.in_err-text.ensures ∙ first_value-rows (found_of c.args.found.now) (codes "count"))

pub returns : goal.returns
returns c = ap (λ n. Some n) c.sectors_or_zero.ensures ∙ ap count_at (c.in_ok-text.ensures ∙ first_value-rows (found_of c.args.found.now) (codes "count"))
