use Rattle.std.proofs.Common.{map}
use Rattle.clap.specs.Words.{fault_of, subcommand_of}
use Rattle.md_words.specs.Parsing.{command_fault, words_fault}
use Rattle.md_words.specs.Words.{mdcli}
use Rattle.md_words.proofs.CommandLine.{first_fails}
use Rattle.md_words.proofs.parsing.parse.Goals as goal

pub returns-in-Err-clause-fails : goal.returns-in-Err-clause-fails
unfolding words_fault
returns-in-Err-clause-fails c =
    let words = map (λ s. s.now) c.args.words.now in
    first_fails (fault_of mdcli words) (command_fault (subcommand_of mdcli words)) c.in-Err.error c.in-Err.ensures.fails
