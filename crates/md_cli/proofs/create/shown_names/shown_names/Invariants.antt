use Rattle.std.proofs.Common.{◌≡◌, map, take}
use Rattle.md_messages.specs.Telling.{texts}
use Rattle.md_cli.proofs.create.shown_names.shown_names.Given as goal

abbrev pub invariant-loop-word : goal.invariant-loop-word
invariant-loop-word l = texts l.names.items ≡ map (λ w. w.name.now) (take l.word-index l.words)
