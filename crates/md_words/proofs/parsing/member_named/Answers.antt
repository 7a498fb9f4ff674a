use Rattle.std.proofs.Common.{◌∙◌, [], List, Option, ap, ap₂, codes, unwrap_or}
use Rattle.clap.proofs.WalkLemmas.{raw_values-rows}
use Rattle.clap.specs.Words.{Text, found_of}
use Rattle.md_words.specs.Parsing.{member_at}
use Rattle.md_words.proofs.parsing.member_named.Goals as goal

abbrev or_none : Option (List Text) → List Text
or_none o = unwrap_or o []

pub returns-in-Some : goal.returns-in-Some
returns-in-Some c =
    let listed = ap or_none (c.in-Some.ensures ∙ raw_values-rows (found_of c.args.found.now) (codes "image")) in
    c.member_at.ensures ∙ ap₂ member_at listed c.text_in-text.ensures

pub returns-in-None : goal.returns-in-None
returns-in-None c =
    let listed = ap or_none (c.in-None.ensures ∙ raw_values-rows (found_of c.args.found.now) (codes "image")) in
    c.member_at-in-None.ensures ∙ ap₂ member_at listed c.text_in-text.ensures
