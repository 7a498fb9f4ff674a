use Rattle.std.proofs.Common.{◌∙◌, rules}
use Rattle.std.specs.Str.Parse.{ParsesUnsigned}
use Rattle.md_words.proofs.Members.{named, numbered}
use Rattle.md_words.proofs.parsing.member_at.Goals as goal

pub returns-in-Ok : goal.returns-in-Ok
returns-in-Ok c =
    let parses : ParsesUnsigned 32 10 c.args.text.now c.parse.result = search rules in
    numbered _ c.args.text.now c.in-Ok.place c.parse.result c.in-Ok.is parses

pub returns-in-Err : goal.returns-in-Err
returns-in-Err c =
    let parses : ParsesUnsigned 32 10 c.args.text.now c.parse.result = search rules in
    c.place_in.ensures ∙ named _ c.args.text.now _ c.parse.result c.in-Err.is parses
