use Rattle.std.proofs.Common.{◌≡◌, ◌∙◌, ℕ, Option, Some, MatchOption, arith, subst, sym, inl, inr}
use Rattle.std.proofs.lemmas.Bool.{cases_lt}
use Rattle.md_state.specs.Steps.CopyData.{IsSource}
use Rattle.md_resync.specs.Sources.{NoneFree}
use Rattle.md_resync.proofs.Bests.{same_some}
use Rattle.md_resync.proofs.source.end_of_run.Goals as goal

pub loop-next-init : goal.loop-next-init
loop-next-init g c = record {
  run = λ s high low. subst (λ (x : ℕ). IsSource c.args.from x c.args.mirror.now.array) (omega arith) c.requires.source;
}

pub loop-next-preserved : goal.loop-next-preserved
loop-next-preserved g c =
    let a = c.args.mirror.now.array in
    let next = c.loop-next.next in
    let is : c.source_of.result ≡ Some c.args.from = same_some c.source_of.result c.args.from (sym c.if-ne.false ∙ c.ne.ensures) in
    let source : IsSource c.args.from next a = subst (λ (r : Option ℕ). MatchOption r (NoneFree next a) (λ from. IsSource from next a)) is c.source_of.ensures.source in
    record {
      run = λ s high low. elim (cases_lt s next) [
        | inl below ↦ c.loop-next.invariant.run s high below
        | inr past ↦ subst (λ (x : ℕ). IsSource c.args.from x a) (omega arith) source
      ];
    }

pub returns-clause-source : goal.returns-clause-source
returns-clause-source g c s high low = let past = c.loop-next-test.false in c.loop-next.invariant.run s high (omega arith)
