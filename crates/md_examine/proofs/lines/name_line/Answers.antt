use Rattle.std.proofs.Common.{ℕ, List, subst}
use Rattle.md_streams.specs.Sink.{PutsOrFails}
use Rattle.md_examine.specs.Lines.{line_text}
use Rattle.md_examine.proofs.Texts.{name_is}
use Rattle.md_examine.proofs.lines.name_line.Goals as goal

pub returns : goal.returns
returns g c =
    let P : List ℕ → Type 0 = λ t. PutsOrFails g.S.Sink.contents g.S.Sink.failed c.args.out.now c.line.new.out (line_text c.args.label.now t) c.line.result in
    subst P (name_is c.args.name.now c.shown_bytes-shown.result c.name_len-len.result c.shown_bytes-shown.ensures c.name_len-len.ensures.len) c.line.ensures
