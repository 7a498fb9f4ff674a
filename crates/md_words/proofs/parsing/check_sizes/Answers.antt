use Rattle.std.proofs.Common.{◌≡◌, Some, rules, sym, true}
use Rattle.clap.specs.Words.{found_of, rows_of, subcommand_rows_of}
use Rattle.md_words.specs.Parsing.{names_no_size}
use Rattle.md_words.proofs.CommandLine.{subcommand_is}
use Rattle.md_words.proofs.Members.{unsized_fails}
use Rattle.md_words.proofs.parsing.check_sizes.Goals as goal

pub returns : goal.returns
returns c =
    let found = found_of c.in-Some.found.now in
    let is : subcommand_rows_of c.args.matches.now ≡ Some (c.in-Some.field-0-0.now, rows_of found) = subcommand_is c.args.matches.now c.in-Some.field-0-0.now (rows_of found) (sym c.in-Some.ensures.name) (sym c.in-Some.ensures.rows) in
    let unsized : names_no_size (rows_of found) ≡ true = search rules in
    unsized_fails _ c.in-Some.field-0-0.now (rows_of found) c.in_ok-error.field-0 is unsized c.in_ok-error.ensures.kind
