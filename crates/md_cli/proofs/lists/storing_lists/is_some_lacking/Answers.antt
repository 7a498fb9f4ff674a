use Rattle.std.proofs.Common.{◌∙◌, ℕ, arith, inl, inr, subst, sym, true≢false}
use Rattle.std.proofs.lemmas.Option.{slice_get_within}
use Rattle.md_kept_members.proofs.Members.Indices.{cases_more}
use Rattle.md_cli.specs.Lacking.{IsLacking}
use Rattle.md_cli.proofs.lists.storing_lists.is_some_lacking.Goals as goal

pub loop-k-preserved : goal.loop-k-preserved
loop-k-preserved g c = λ i low h. elim (cases_more i c.loop-k.k low) [
  | inl early ↦ c.loop-k.invariant i early h
  | inr here ↦ true≢false (sym (c.is_lacking.ensures.1 (subst (λ (q : ℕ). IsLacking c.args.lacking.now c.args.mirror.now.array q) here h)) ∙ c.if-is_lacking.false)
]

pub returns-then-is_lacking-clause-some : goal.returns-then-is_lacking-clause-some
returns-then-is_lacking-clause-some g c = λ _. (c.loop-k.k, c.is_lacking.ensures.0 c.if-is_lacking.true)

pub returns-clause-none : goal.returns-clause-none
returns-clause-none g c = λ _ k h.
    let within = slice_get_within c.args.mirror.now.array.members k h.0 h.1.member in
    let count = c.members-k-end.ensures in
    let past = c.loop-k-test.false in
    c.loop-k.invariant k (omega (arith, within, count, past)) h
