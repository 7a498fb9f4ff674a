use Rattle.std.proofs.Common.{arith, rules, sym, ◌∙◌}
use Rattle.md_examine.specs.Lines.{shown_byte}
use Rattle.md_streams.proofs.Puts.{is_map}
use Rattle.md_examine.proofs.values.shown_bytes.Goals as goal

pub returns : goal.returns
returns c = is_map shown_byte c.args.name.now c.map.result (c.map.ensures.items.long ∙ sym c.told-name) (λ k lt. let h = c.map.ensures.items.at k 0 0 (omega arith) in search rules)
