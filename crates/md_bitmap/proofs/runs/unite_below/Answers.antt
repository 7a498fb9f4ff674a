use Rattle.std.proofs.Common.{◌≡◌, ◌+◌, ◌/◌, ℕ, bit_and, bit_or, nat_lt, set, slice_index, arith, subst}
use Rattle.std.proofs.lemmas.Bool.{and_left, le-ltb}
use Rattle.md_bitmap.specs.Marks.{is_set}
use Rattle.md_bitmap.proofs.ByteRuns.{AreSetBelow, all_set, of_others, rest_bits, set_byte, whole_bits}
use Rattle.md_bitmap.proofs.runs.unite_below.Goals as goal

pub loop-k-preserved : goal.loop-k-preserved
loop-k-preserved c =
    let others = c.args.others.now in
    let k = c.loop-k.k in
    set_byte (of_others others c.args.end) c.args.bits.now c.loop-k.bits k (slice_index others k) (omega (arith, c.loop-k.invariant.size, c.requires.mine))
    (whole_bits others c.args.end k (omega arith)) c.loop-k.invariant

pub returns-then-end-gt0-clause-bits : goal.returns-then-end-gt0-clause-bits
returns-then-end-gt0-clause-bits c =
    let others = c.args.others.now in
    let old = c.args.bits.now in
    let end = c.args.end in
    let k = end / 8 in
    let run = c.run_in_byte.result in
    let v = bit_and (slice_index others k) run in
    let here : c.loop-k.k ≡ k = omega arith in
    let whole = subst (λ (n : ℕ). AreSetBelow (of_others others end) old n c.loop-k.bits) here c.loop-k.invariant in
    let all = set_byte (of_others others end) old c.loop-k.bits k v (omega (arith, c.loop-k.invariant.size, c.requires.mine)) (rest_bits others end k run c.run_in_byte.ensures) whole in
    all_set (of_others others end) old (set c.loop-k.bits k (bit_or (slice_index c.loop-k.bits k) v)) (k + 1) all
    (λ i h. and_left (nat_lt i end) (is_set others i) (le-ltb i end (omega arith)))
