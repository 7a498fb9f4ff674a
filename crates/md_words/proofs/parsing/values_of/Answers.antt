use Rattle.std.proofs.Common.{ap, ◌∙◌, map, List, Option, [], unwrap_or}
use Rattle.std.proofs.lemmas.Result.{IfOk-weaker}
use Rattle.std.specs.Borrow.{Bor}
use Rattle.clap.specs.Words.{Text}
use Rattle.md_words.proofs.parsing.values_of.Goals as goal

abbrev texts : List (Bor Text) → List Text
texts = map (λ s. s.now)

pub returns : goal.returns
returns c = IfOk-weaker c.from_slice.result _ _ (λ v h. ap texts h ∙ ap (λ (o : Option (List Text)). unwrap_or o []) c.in-Some.ensures) c.from_slice.ensures.items
