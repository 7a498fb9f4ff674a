use Rattle.std.proofs.Common.{subst, sym}
use Rattle.clap.specs.Kinds.{or_else}
use Rattle.clap.specs.Words.{FailsBy, Kinds, subcommand_rows_of}
use Rattle.md_words.specs.Parsing.{option_fault, value_fault}
use Rattle.md_words.proofs.CommandLine.{first_fails}
use Rattle.md_words.proofs.parsing.check_command.Goals as goal

pub returns-in-Ok : goal.returns-in-Ok
returns-in-Ok c =
    subst (λ (first : Kinds). FailsBy (or_else first (option_fault (subcommand_rows_of c.args.matches.now))) c.check_options.result) (sym c.in-Ok.ensures) c.check_options.ensures

pub returns-in-Err : goal.returns-in-Err
returns-in-Err c =
    first_fails (value_fault (subcommand_rows_of c.args.matches.now)) (option_fault (subcommand_rows_of c.args.matches.now)) c.in-Err.error c.in-Err.ensures
