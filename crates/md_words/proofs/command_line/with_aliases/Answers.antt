use Rattle.std.proofs.lemmas.Result.{IfOk-weaker}
use Rattle.clap.specs.declared.builder.command.Command.TheViews.{out-Command as fields_of}
use Rattle.md_words.proofs.CommandLine.{aliased}
use Rattle.md_words.proofs.command_line.with_aliases.Goals as goal

pub returns-clause-app : goal.returns-clause-app
returns-clause-app c =
    IfOk-weaker c.aliases.result _ _ (λ r h. aliased (fields_of c.args.command) (fields_of r) c.args.names.now h.0 h.1) c.aliases.ensures
