use Rattle.std.proofs.Common.{ℕ, ◌++◌, ◌∷◌, [], List, subst, codes}
use Rattle.md_streams.specs.Sink.{Puts}
use Rattle.md_examine.specs.Lines.{line_text}
use Rattle.md_streams.proofs.Puts.{puts_then, four_parts}
use Rattle.md_examine.proofs.lines.four_part_line.Goals as goal

pub returns : goal.returns
unfolding line_text
returns g c =
    let P : List ℕ → Type 0 = λ t. Puts g.S.Sink.contents g.S.Sink.failed c.args.out.now c.put-5.new.self t in
    subst P (four_parts (c.args.label.now ++ codes " : ") c.args.first.now c.args.second.now c.args.third.now c.args.fourth.now (10 ∷ []))
    (puts_then g.S.Sink.contents g.S.Sink.failed (puts_then g.S.Sink.contents g.S.Sink.failed (puts_then g.S.Sink.contents g.S.Sink.failed (puts_then g.S.Sink.contents g.S.Sink.failed (puts_then g.S.Sink.contents g.S.Sink.failed c.in_ok-start_line.ensures c.in_ok-put.ensures) c.in_ok-put-2.ensures) c.in_ok-put-3.ensures) c.in_ok-put-4.ensures) c.in_ok-put-5.ensures)
