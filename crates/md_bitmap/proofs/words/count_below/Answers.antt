use Rattle.std.proofs.Common.{◌≡◌, ◌+◌, ◌*◌, ◌/◌, ◌%◌, ◌-◌, ◌^◌, ℕ, bit_and, ap, sym, arith}
use Rattle.std.specs.Int.Count.{ones}
use Rattle.std.proofs.Math.Nat.{mod-eq_of_lt}
use Rattle.std.proofs.lemmas.Nat.{and_mask, one_shl}
use Rattle.md_bitmap.specs.Marks.{count_set}
use Rattle.md_bitmap.proofs.Bits.{count_set-zero, count_set-le, count_set-word}
use Rattle.md_bitmap.proofs.words.count_below.Goals as goal

pub loop-k-init : goal.loop-k-init
loop-k-init c = sym (count_set-zero c.args.bytes.now)

step : (c : goal.After-u64_at) → c.loop-k.total + ones c.u64_at.result ≡ count_set c.args.bytes.now (64 * (c.loop-k.k + 1))
step c =
    let xs = c.args.bytes.now in
    let k = c.loop-k.k in
    let e : 64 * (k + 1) ≡ 64 * k + 64 = omega arith in
    let word = c.u64_at.ensures in
    let low : c.u64_at.result % 2 ^ 64 ≡ c.u64_at.result = mod-eq_of_lt (omega arith) in
    let more = rw (← word, low) at (count_set-word xs (λ i. omega (arith, c.type_inv.bytes i)) k 64 (omega arith)) in
    rw e (omega (arith, more, c.loop-k.invariant))

pub overflow_add-total : goal.overflow_add-total
overflow_add-total c = omega (arith, step c, count_set-le c.args.bytes.now (64 * (c.loop-k.k + 1)))

pub loop-k-preserved : goal.loop-k-preserved
loop-k-preserved c = step c

rest : (c : goal.After-word_at) → c.loop-k.total + ones (bit_and c.word_at.result (1 * 2 ^ (c.args.end % 64) % 18446744073709551616 - 1)) ≡ count_set c.args.bytes.now c.args.end
rest c =
    let xs = c.args.bytes.now in
    let k = c.args.end / 64 in
    let r = c.args.end % 64 in
    let word = c.word_at.ensures in
    let mask : 1 * 2 ^ r % 18446744073709551616 - 1 ≡ 2 ^ r - 1 = ap (λ (x : ℕ). x - 1) (one_shl r 64 (omega arith)) in
    let low = and_mask c.word_at.result r in
    let end : 64 * k + r ≡ c.args.end = omega arith in
    let more = rw (← word, end) at (count_set-word xs (λ i. omega (arith, c.type_inv.bytes i)) k r (omega arith)) in
    let reached : c.loop-k.k ≡ k = omega arith in
    let so_far = rw reached at c.loop-k.invariant in
    rw (mask, low) (omega (arith, more, so_far))

pub overflow_add-total-then-rest-gt0 : goal.overflow_add-total-then-rest-gt0
overflow_add-total-then-rest-gt0 c = omega (arith, rest c, count_set-le c.args.bytes.now c.args.end)

pub returns-then-rest-gt0 : goal.returns-then-rest-gt0
returns-then-rest-gt0 c = rest c
