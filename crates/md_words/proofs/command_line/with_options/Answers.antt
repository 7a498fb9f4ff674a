use Rattle.std.proofs.Common.{ap₂, sym, ◌∙◌}
use Rattle.std.proofs.lemmas.List.Sums.{fold_more}
use Rattle.clap.specs.Words.{app_of, with_rule}
use Rattle.md_words.specs.Commands.{with_option}
use Rattle.md_words.proofs.CommandLine.{no_globals}
use Rattle.md_words.proofs.command_line.with_options.Goals as goal

pub loop-option-preserved : goal.loop-option-preserved
loop-option-preserved c = record {
  app = c.in_ok-command.ensures.shape c.option_arg.ensures.local
      ∙ ap₂ with_rule c.loop-option.invariant.app c.option_arg.ensures.rule
      ∙ sym (fold_more with_option (app_of c.args.command) c.args.options.now c.loop-option.option-index _ c.loop-option-test.true);
  local = λ old. no_globals _ _ _ c.in_ok-command.ensures.globals (c.loop-option.invariant.local old) c.option_arg.ensures.local;
}
