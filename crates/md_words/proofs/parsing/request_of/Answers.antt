use Rattle.std.proofs.Common.{◌≡◌, ◌∙◌, sym, Some}
use Rattle.clap.specs.Words.{found_of, rows_of, subcommand_rows_of}
use Rattle.md_words.proofs.CommandLine.{asks_read, bitmap_read, data_of_read, images_read, map_out_read, maps_read, output_read, subcommand_is, verbose_read}
use Rattle.md_words.proofs.parsing.request_of.Goals as goal

pub returns-clause-asks : goal.returns-clause-asks
returns-clause-asks c =
    let found = found_of c.in-Some.found.now in
    let is : subcommand_rows_of c.args.matches.now ≡ Some (c.in-Some.name.now, rows_of found) = subcommand_is c.args.matches.now c.in-Some.name.now (rows_of found) (sym c.in-Some.ensures.name) (sym c.in-Some.ensures.rows) in
    c.command_of.ensures ∙ asks_read c.args.matches.now c.in-Some.name.now found is

pub returns-clause-images : goal.returns-clause-images
returns-clause-images c =
    let found = found_of c.in-Some.found.now in
    let is : subcommand_rows_of c.args.matches.now ≡ Some (c.in-Some.name.now, rows_of found) = subcommand_is c.args.matches.now c.in-Some.name.now (rows_of found) (sym c.in-Some.ensures.name) (sym c.in-Some.ensures.rows) in
    c.in_ok-images.ensures ∙ images_read c.args.matches.now c.in-Some.name.now found is

pub returns-clause-maps : goal.returns-clause-maps
returns-clause-maps c =
    let found = found_of c.in-Some.found.now in
    let is : subcommand_rows_of c.args.matches.now ≡ Some (c.in-Some.name.now, rows_of found) = subcommand_is c.args.matches.now c.in-Some.name.now (rows_of found) (sym c.in-Some.ensures.name) (sym c.in-Some.ensures.rows) in
    c.in_ok-maps.ensures ∙ maps_read c.args.matches.now c.in-Some.name.now found is

pub returns-clause-verbose : goal.returns-clause-verbose
returns-clause-verbose c =
    let found = found_of c.in-Some.found.now in
    let is : subcommand_rows_of c.args.matches.now ≡ Some (c.in-Some.name.now, rows_of found) = subcommand_is c.args.matches.now c.in-Some.name.now (rows_of found) (sym c.in-Some.ensures.name) (sym c.in-Some.ensures.rows) in
    c.has_flag-2.ensures ∙ verbose_read c.args.matches.now c.in-Some.name.now found is

pub returns-clause-map_out : goal.returns-clause-map_out
returns-clause-map_out c =
    let found = found_of c.in-Some.found.now in
    let is : subcommand_rows_of c.args.matches.now ≡ Some (c.in-Some.name.now, rows_of found) = subcommand_is c.args.matches.now c.in-Some.name.now (rows_of found) (sym c.in-Some.ensures.name) (sym c.in-Some.ensures.rows) in
    c.map_out_of.ensures ∙ map_out_read c.args.matches.now c.in-Some.name.now found is

pub returns-clause-output : goal.returns-clause-output
returns-clause-output c =
    let found = found_of c.in-Some.found.now in
    let is : subcommand_rows_of c.args.matches.now ≡ Some (c.in-Some.name.now, rows_of found) = subcommand_is c.args.matches.now c.in-Some.name.now (rows_of found) (sym c.in-Some.ensures.name) (sym c.in-Some.ensures.rows) in
    c.output_of.ensures ∙ output_read c.args.matches.now c.in-Some.name.now found is

pub returns-clause-bitmap : goal.returns-clause-bitmap
returns-clause-bitmap c =
    let found = found_of c.in-Some.found.now in
    let is : subcommand_rows_of c.args.matches.now ≡ Some (c.in-Some.name.now, rows_of found) = subcommand_is c.args.matches.now c.in-Some.name.now (rows_of found) (sym c.in-Some.ensures.name) (sym c.in-Some.ensures.rows) in
    c.bitmap_of.ensures ∙ bitmap_read c.args.matches.now c.in-Some.name.now found is

pub returns-clause-data_of : goal.returns-clause-data_of
returns-clause-data_of c =
    let found = found_of c.in-Some.found.now in
    let is : subcommand_rows_of c.args.matches.now ≡ Some (c.in-Some.name.now, rows_of found) = subcommand_is c.args.matches.now c.in-Some.name.now (rows_of found) (sym c.in-Some.ensures.name) (sym c.in-Some.ensures.rows) in
    c.data_of_of.ensures ∙ data_of_read c.args.matches.now c.in-Some.name.now found is
