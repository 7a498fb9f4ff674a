use Rattle.std.proofs.Common.{◌≡◌, take}
use Rattle.std.specs.List.{fold}
use Rattle.clap.specs.Words.{app_of}
use Rattle.md_words.specs.Commands.{with_command}
use Rattle.md_words.proofs.command_line.with_commands.Given as goal

abbrev pub invariant-loop-words : goal.invariant-loop-words
invariant-loop-words l = app_of l.program ≡ fold with_command (app_of l.initial.program) (take l.words-index l.commands)
