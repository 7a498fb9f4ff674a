use Rattle.std.proofs.Common.{ℕ, ◌++◌, List, subst}
use Rattle.md_streams.specs.Sink.{PutsOrFails}
use Rattle.md_examine.specs.Lines.{line_text}
use Rattle.md_examine.proofs.Texts.{hex_is}
use Rattle.md_examine.proofs.lines.hex_line.Goals as goal

pub returns : goal.returns
returns g c =
    let P : List ℕ → Type 0 = λ t. PutsOrFails g.S.Sink.contents g.S.Sink.failed c.args.out.now c.two_part_line.new.out (line_text c.args.label.now (c.args.prefix.now ++ t)) c.two_part_line.result in
    subst P (hex_is c.args.n c.zeros_in_front-start.result c.hex_digits-digits.result c.hex_digits-digits.ensures.digits c.hex_digits-digits.ensures.len c.zeros_in_front-start.ensures.len) c.two_part_line.ensures
