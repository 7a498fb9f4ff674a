use Rattle.std.proofs.Common.{◌<◌, ◌≤◌, length, drop, arith, sym, ap, ◌∙◌}
use Rattle.std.proofs.lemmas.List.{take_rest}
use Rattle.std.specs.Str.{bytes_eq}
use Rattle.md_notices.proofs.SignatureLemmas.Signs.{none_is_empty, part_past, too_few}
use Rattle.md_notices.proofs.signatures.magic.has_bytes.Goals as goal

pub returns-then-place-bytes : goal.returns-then-place-bytes
returns-then-place-bytes c =
    let wanted = c.args.wanted.now in
    let past : length c.args.bytes.now ≤ c.args.place = omega arith in
    none_is_empty wanted c.is_empty.result c.is_empty.ensures ∙ ap (λ p. bytes_eq p wanted) (sym (part_past c.args.bytes.now c.args.place (length wanted) past))

pub returns-then-wanted-rest : goal.returns-then-wanted-rest
returns-then-wanted-rest c =
    let bytes = c.args.bytes.now in
    let rest = ap length (take_rest bytes c.args.place) in
    let few : length (drop c.args.place bytes) < length c.args.wanted.now = omega (arith, c.if-wanted-rest.true, rest) in
    sym (too_few bytes c.args.place c.args.wanted.now few)
