use Rattle.std.proofs.Common.{◌∙◌}
use Rattle.md_bitmap.proofs.Padded.{copied_parts}
use Rattle.md_bitmap.proofs.words.copy_behind.Goals as goal

pub returns : goal.returns
returns c =
    c.put_bytes.ensures.whole
    ∙ copied_parts c.args.out.now c.args.bytes.now c.args.behind c.args.at c.min.result c.min-count.result c.requires.zeros c.min.ensures c.min-count.ensures
