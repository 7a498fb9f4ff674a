use Rattle.std.proofs.Common.{◌∙◌, rules}
use Rattle.std.specs.Str.Parse.{ParsesUnsigned}
use Rattle.md_cli.proofs.LastSplit.{parsed_number}
use Rattle.md_cli.proofs.open.counted_image.number_of.Goals as goal

pub returns : goal.returns
returns c =
    let parses : ParsesUnsigned 32 10 c.args.text.now c.parse.result = search rules in
    c.ok.ensures.value ∙ parsed_number c.args.text.now c.parse.result parses
