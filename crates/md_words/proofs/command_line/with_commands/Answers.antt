use Rattle.std.proofs.Common.{ap, ap₂, sym, ◌∙◌}
use Rattle.std.proofs.lemmas.List.Sums.{fold_more}
use Rattle.clap.specs.Words.{App, app_of, with_subcommand}
use Rattle.md_words.specs.Commands.{with_command}
use Rattle.md_words.proofs.command_line.with_commands.Goals as goal

pub loop-words-preserved : goal.loop-words-preserved
loop-words-preserved c =
    c.in_ok-program.ensures.shape c.in_ok-command.ensures.local
    ∙ ap₂ with_subcommand c.loop-words.invariant (ap (λ (a : App). a.top) c.in_ok-command.ensures.app)
    ∙ sym (fold_more with_command (app_of c.args.program) c.args.commands.now c.loop-words.words-index _ c.loop-words-test.true)
