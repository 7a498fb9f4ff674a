use Rattle.std.proofs.Common.{inl, inr, arith, below_more}
use Rattle.std.proofs.lemmas.Bool.{cases_lt}
use Rattle.md_kept_members.proofs.membership.numbers.new_number.Goals as goal

pub returns-then-is_free : goal.returns-then-is_free
returns-then-is_free c = inl (record {
  fits = c.is_free.ensures.0 c.if-is_free.true;
  least = λ e free. elim (cases_lt e c.loop-number.number) [ inl low ↦ absurd (c.loop-number.invariant e low free) | inr more ↦ more ];
})

pub loop-number-preserved : goal.loop-number-preserved
loop-number-preserved c = below_more _ _ c.loop-number.invariant (λ free. let is = c.is_free.ensures.1 free in let other = c.if-is_free.false in absurd cc)

pub returns : goal.returns
returns c = inr ((λ e free. let low = free.room in c.loop-number.invariant e (omega arith) free), c.least_unused.ensures)
