use Rattle.std.proofs.lemmas.Str.Pattern.{strip_suffix_char}
use Rattle.md_words.proofs.Suffix.{before_found}
use Rattle.md_words.proofs.sizes.before.Goals as goal

pub returns : goal.returns
returns c = before_found c.args.letter c.args.text.now c.strip_suffix.result (strip_suffix_char c.args.letter c.args.text.now c.strip_suffix.result c.strip_suffix.ensures.cases c.requires.ascii)
