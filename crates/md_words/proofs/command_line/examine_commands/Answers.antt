use Rattle.md_words.proofs.command_line.examine_commands.Goals as goal

pub returns : goal.returns
returns c = c.with_commands.ensures
