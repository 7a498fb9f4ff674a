use Rattle.std.proofs.Common.{◌≡◌, ◌∙◌, List, [], ◌∷◌, map, ap, refl, arith, rules}
use Rattle.std.proofs.lemmas.List.{take_all}
use Rattle.clap.specs.Words.{Text}
use Rattle.md_images.specs.Taking.{names_of, word_of}
use Rattle.md_images.specs.declared.image_word.ImageWord.{ImageWord}
use Rattle.md_cli.proofs.create.shown_names.shown_names.Goals as goal

words_named : (words : List ImageWord) → map (λ w. w.name.now) words ≡ names_of (map word_of words)
words_named [] = refl
words_named (w ∷ words) = ap (λ (names : List Text). w.name.now ∷ names) (words_named words)

pub returns : goal.returns
returns c =
    c.loop-word.invariant
    ∙ ap (map (λ (w : ImageWord). w.name.now)) (take_all c.loop-word.word-index c.args.words.now (search (rules, arith)))
    ∙ words_named c.args.words.now
