use Rattle.std.proofs.Common.{◌≡◌, ◌∙◌, Option, None, Some, ap, option_map, codes, rules, ℕ}
use Rattle.clap.proofs.WalkLemmas.{first_value-rows}
use Rattle.clap.specs.Words.{Text, found_of}
use Rattle.md_words.specs.Numbers.{number_or_zero}
use Rattle.md_words.proofs.parsing.write_mostly_of.Goals as goal

abbrev role_in : Option Text → Option ℕ
role_in = option_map (number_or_zero 32)

pub returns-in_err-text : goal.returns-in_err-text
returns-in_err-text c =
    let absent : c.from_residual.result ≡ None = search rules in
    absent ∙ ap role_in (c.in_err-text.ensures ∙ first_value-rows (found_of c.args.found.now) (codes "write-mostly"))

pub returns : goal.returns
returns c = ap (λ n. Some n) c.u32_or_zero.ensures ∙ ap role_in (c.in_ok-text.ensures ∙ first_value-rows (found_of c.args.found.now) (codes "write-mostly"))
