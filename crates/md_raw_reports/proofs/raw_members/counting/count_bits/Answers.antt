use Rattle.std.proofs.Common.{◌≡◌, ◌∙◌, ◌+◌, ℕ, suc, Bool, true, false, cond, List, ap, sym, arith}
use Rattle.md_bitmap.specs.Marks.{count_set, is_set}
use Rattle.md_bitmap.proofs.Bits.{count_set-le, count_set-suc, count_set-zero}
use Rattle.md_raw_reports.proofs.raw_members.counting.count_bits.Goals as goal
use Rattle.md_raw_reports.proofs.raw_members.counting.count_bits.Goals.{then-is_set, else-is_set}

-- with one bit more
next : (xs : List ℕ) (i : ℕ) (b : Bool) → is_set xs i ≡ b → count_set xs (i + 1) ≡ count_set xs i + cond b 1 0
next xs i b is =
    let more : i + 1 ≡ suc i = omega arith in
    ap (count_set xs) more ∙ count_set-suc xs i ∙ ap (λ (c : Bool). count_set xs i + cond c 1 0) is

pub loop-i-init : goal.loop-i-init
loop-i-init c = sym (count_set-zero c.args.bytes.now)

pub overflow_add-total : goal.overflow_add-total
overflow_add-total c = let few = count_set-le c.args.bytes.now c.loop-i.i in let is = c.loop-i.invariant in omega (arith, few, is)

pub loop-i-preserved : goal.loop-i-preserved
loop-i-preserved c =
    let is = c.loop-i.invariant in
    let bit = c.is_set.ensures in
    elim c.if-is_set.branch [
      | then-is_set w ↦ let more = next c.args.bytes.now c.loop-i.i true (sym bit ∙ w.if-is_set.true) in omega (arith, w.total-is, more, is)
      | else-is_set w ↦ let more = next c.args.bytes.now c.loop-i.i false (sym bit ∙ w.if-is_set.false) in omega (arith, w.total-is, more, is)
    ]

pub returns-clause-few : goal.returns-clause-few
returns-clause-few c =
    let few = count_set-le c.args.bytes.now c.loop-i.i in
    let is = c.loop-i.invariant in
    let end = c.loop-i.auto.i-end in
    omega (arith, few, is, end)
