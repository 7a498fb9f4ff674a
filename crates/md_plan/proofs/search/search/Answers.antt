use Rattle.std.proofs.Common.{◌∙◌, ◌*◌, ◌^◌, ◌%◌, bit_or, ◌<◌, refl, arith, inl}
use Rattle.md_cert.proofs.Bits.{has_below, has_set_same}
use Rattle.md_plan.proofs.ReachSteps.{forest_more, searched_more, unseen_le, unseen_less}
use Rattle.md_plan.proofs.search.search.Goals as goal

pub loop-from-init : goal.loop-from-init
loop-from-init c = record {
  forest = λ v it. inl (record { first = c.loop-word.invariant v (let lt : v < 32 = has_below c.heavy-seen.result v it in let long = c.requires.order in omega (arith, lt, long)); above = c.heavy-seen.ensures.above v it });
  orders = λ v it. let e = c.loop-word.invariant v (let lt : v < 32 = has_below c.heavy-seen.result v it in let long = c.requires.order in omega (arith, lt, long)) in omega (arith, e);
  heavy = c.heavy-seen.ensures.all;
  full = λ s it. let above = c.heavy-seen.ensures.above s it in omega (arith, above);
  few = let le = unseen_le c.heavy-seen.result in omega (arith, le);
}

pub loop-from-preserved : goal.loop-from-preserved
loop-from-preserved c =
    searched_more c.args.loads.now c.args.reach.now c.args.bound c.loop-from.seen c.loop-from.order c.loop-from.parent c.loop-from.steps c.in-Some.from c.in-Some.to _ _ _
    (c.loop-from.auto.order ∙ c.loop-word.auto.order ∙ c.requires.order) (c.loop-from.auto.parent ∙ c.requires.parent) c.loop-from.invariant c.in-Some.ensures refl refl refl c.if-loads-to.false

pub loop-from-smaller : goal.loop-from-smaller
loop-from-smaller c = unseen_less c.loop-from.seen _ c.in-Some.to c.in-Some.ensures.to_within c.in-Some.ensures.to refl

pub returns-then-loads-to : goal.returns-then-loads-to
returns-then-loads-to c =
    let within : c.in-Some.to < 32 = c.in-Some.ensures.to_within in
    record {
      sources = bit_or c.loop-from.seen (1 * 2 ^ c.in-Some.to % 2 ^ 32);
      forest = forest_more c.args.loads.now c.args.reach.now c.args.bound c.loop-from.seen c.loop-from.order c.loop-from.parent c.loop-from.steps c.in-Some.from c.in-Some.to _ _ _
          (c.loop-from.auto.order ∙ c.loop-word.auto.order ∙ c.requires.order) (c.loop-from.auto.parent ∙ c.requires.parent) c.loop-from.invariant c.in-Some.ensures refl refl refl;
      seen = has_set_same c.loop-from.seen c.in-Some.to within;
      below = c.if-loads-to.true;
    }
