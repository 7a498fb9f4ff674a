use Rattle.std.proofs.Common.{◌≡◌, ◌∙◌, min, Some, ap, rules}
use Rattle.md_words.proofs.Members.{place_is}
use Rattle.md_words.proofs.parsing.place_in.Goals as goal

pub returns-in-Some : goal.returns-in-Some
returns-in-Some c =
    let least : c.min.result ≡ min c.in-Some.place 4294967295 = search rules in
    ap (λ n. Some n) least ∙ place_is c.args.images.now c.args.name.now _ c.in-Some.ensures

pub returns-in-None : goal.returns-in-None
returns-in-None c = place_is c.args.images.now c.args.name.now _ c.in-None.ensures
