use Rattle.std.proofs.Common.{◌≡◌, ◌∙◌, Option, None, Some, ap, option_map, codes, rules, unwrap_or, ℕ}
use Rattle.clap.proofs.WalkLemmas.{first_value-rows}
use Rattle.clap.specs.Words.{Text, found_of}
use Rattle.md_words.specs.Parsing.{kib_or_zero}
use Rattle.md_words.proofs.parsing.size_of.Goals as goal

abbrev size_at : Option Text → Option ℕ
size_at = option_map (kib_or_zero 64)

pub returns-in_err-text : goal.returns-in_err-text
returns-in_err-text c =
    let absent : c.from_residual.result ≡ None = search rules in
    absent ∙ ap size_at (c.in_err-text.ensures ∙ first_value-rows (found_of c.args.found.now) (codes "size"))

pub returns : goal.returns
returns c =
    let number : c.unwrap_or.result ≡ unwrap_or c.u64_kib.result 0 = search rules in
    ap (λ n. Some n) (number ∙ ap (λ (o : Option ℕ). unwrap_or o 0) c.u64_kib.ensures)
    ∙ ap size_at (c.in_ok-text.ensures ∙ first_value-rows (found_of c.args.found.now) (codes "size"))
