use Rattle.std.proofs.Common.{◌∙◌, inl, inr, refl, sym, true≢false, below_more, arith}
use Rattle.std.proofs.lemmas.Bool.{cases_lt}
use Rattle.md_kept_members.proofs.MembershipLemmas.NumbersUsed.{last_is_least}
use Rattle.md_kept_members.proofs.membership.numbers.least_unused.Goals as goal

pub returns-then-not-has_number : goal.returns-then-not-has_number
returns-then-not-has_number c = record {
  fits = sym c.has_number.ensures ∙ c.if-not-has_number.true;
  least = λ e unused. elim (cases_lt e c.loop-number.number) [ inl low ↦ absurd (true≢false (sym (c.loop-number.invariant e low) ∙ unused)) | inr more ↦ more ];
}

pub loop-number-preserved : goal.loop-number-preserved
loop-number-preserved c = below_more _ _ c.loop-number.invariant (sym c.has_number.ensures ∙ c.if-not-has_number.false)

pub returns : goal.returns
returns c = last_is_least c.args.members.now _ refl (λ e low. c.loop-number.invariant e (let past = c.loop-number-test.false in omega arith))
