use Rattle.std.proofs.Common.{ap, ◌∙◌}
use Rattle.md_format.specs.Fields.{number_at}
use Rattle.md_bitmap.proofs.Padded.{number_at-padded}
use Rattle.md_bitmap.proofs.words.word_at.Goals as goal

pub returns : goal.returns
returns c = c.u64_at-2.ensures ∙ ap (number_at 8 0) c.copy_behind.ensures ∙ number_at-padded 8 c.args.at c.args.bytes.now
