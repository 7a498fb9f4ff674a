use Rattle.std.proofs.Common.{◌≡◌, ◌∙◌, Option, ap, codes, is_none, rules, ℕ}
use Rattle.clap.proofs.WalkLemmas.{first_value-rows}
use Rattle.clap.specs.Words.{Text, found_of}
use Rattle.md_words.specs.Parsing.{is_no_size}
use Rattle.md_words.proofs.parsing.is_no_chunk.Goals as goal

pub returns-in-Some : goal.returns-in-Some
returns-in-Some c =
    let given = c.in-Some.ensures ∙ first_value-rows (found_of c.args.found.now) (codes "bitmap-chunk") in
    let absent : c.is_none.result ≡ is_none c.u32_kib.result = search rules in
    absent ∙ ap (λ (o : Option ℕ). is_none o) c.u32_kib.ensures ∙ ap (λ (o : Option Text). is_no_size 32 o) given

pub returns-in-None : goal.returns-in-None
returns-in-None c =
    let given = c.in-None.ensures ∙ first_value-rows (found_of c.args.found.now) (codes "bitmap-chunk") in
    ap (λ (o : Option Text). is_no_size 32 o) given
