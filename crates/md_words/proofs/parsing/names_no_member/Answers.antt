use Rattle.std.proofs.Common.{◌≡◌, ◌∙◌, Option, ap, ap₂, codes, is_none, rules}
use Rattle.clap.proofs.WalkLemmas.{first_value-rows}
use Rattle.clap.specs.Words.{Text, found_of, rows_of}
use Rattle.md_words.specs.Parsing.{is_unknown, member_named}
use Rattle.md_words.proofs.parsing.names_no_member.Goals as goal

pub returns-in-Some : goal.returns-in-Some
returns-in-Some c =
    let given = c.in-Some.ensures ∙ first_value-rows (found_of c.args.found.now) (codes "member") in
    let absent : c.is_none.result ≡ is_none c.member_named.result = search rules in
    absent ∙ ap₂ is_unknown given c.member_named.ensures

pub returns-in-None : goal.returns-in-None
returns-in-None c =
    let given = c.in-None.ensures ∙ first_value-rows (found_of c.args.found.now) (codes "member") in
    ap (λ (o : Option Text). is_unknown o (member_named (rows_of (found_of c.args.found.now)))) given
