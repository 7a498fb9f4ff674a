use Rattle.std.proofs.Common.{◌∙◌, Option, [], ap, unwrap_or}
use Rattle.clap.proofs.WalkLemmas.{first_value-rows}
use Rattle.clap.specs.Words.{Text, found_of}
use Rattle.md_words.proofs.parsing.text_in.Goals as goal

abbrev or_empty : Option Text → Text
or_empty o = unwrap_or o []

pub returns-in-Some : goal.returns-in-Some
returns-in-Some c = ap or_empty (c.in-Some.ensures ∙ first_value-rows (found_of c.args.found.now) c.args.name.now)

pub returns-in-None : goal.returns-in-None
returns-in-None c = ap or_empty (c.in-None.ensures ∙ first_value-rows (found_of c.args.found.now) c.args.name.now)
