use Rattle.std.proofs.Common.{◌≡◌, ◌∙◌, Option, ap, is_none, rules, ℕ}
use Rattle.clap.proofs.WalkLemmas.{first_value-rows}
use Rattle.clap.specs.Words.{Text, found_of}
use Rattle.md_words.specs.Parsing.{are_no_sectors}
use Rattle.md_words.proofs.parsing.names_no_sectors.Goals as goal

pub returns-in-Some : goal.returns-in-Some
returns-in-Some c =
    let given = c.in-Some.ensures ∙ first_value-rows (found_of c.args.found.now) c.args.name.now in
    let absent : c.is_none.result ≡ is_none c.u64_sectors.result = search rules in
    absent ∙ ap (λ (o : Option ℕ). is_none o) c.u64_sectors.ensures ∙ ap (λ (o : Option Text). are_no_sectors o) given

pub returns-in-None : goal.returns-in-None
returns-in-None c =
    let given = c.in-None.ensures ∙ first_value-rows (found_of c.args.found.now) c.args.name.now in
    ap (λ (o : Option Text). are_no_sectors o) given
