use Rattle.std.proofs.Common.{◌≡◌, ◌∙◌, Option, Some, None, List, ap, codes, is_some, option_map, refl, rules, sym}
use Rattle.clap.proofs.WalkLemmas.{raw_values-rows}
use Rattle.clap.specs.Words.{Text, found_of}
use Rattle.md_words.proofs.parsing.has_maps.Goals as goal

mapped : {X Y : Type 0} (f : X → Y) (o : Option X) → is_some (option_map f o) ≡ is_some o
mapped f None = refl
mapped f (Some x) = refl

pub returns : goal.returns
returns c =
    let there : c.is_some.result ≡ is_some c.get_strs.result = search rules in
    there ∙ sym (mapped _ c.get_strs.result)
    ∙ ap (λ (o : Option (List Text)). is_some o) (c.get_strs.ensures ∙ raw_values-rows (found_of c.args.found.now) (codes "map"))
