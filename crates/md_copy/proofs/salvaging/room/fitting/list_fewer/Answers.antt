use Rattle.std.proofs.Common.{◌+◌, ◌-◌, ◌/◌, ◌^◌, arith, subst}
use Rattle.std.proofs.lemmas.Bool.{both_ways}
use Rattle.md_bitmap.specs.declared.chunks.Chunks.{Chunks}
use Rattle.md_copy.specs.Salvaging.Widened.{TakesFewest}
use Rattle.md_copy.proofs.salvaging.room.fitting.list_fewer.Goals as goal

pub returns-then-gap-eq0 : goal.returns-then-gap-eq0
returns-then-gap-eq0 g c =
    let nil = c.if-gap-eq0.true in
    (2 ^ 54, c.requires.all, record { room = c.requires.room; few = λ some. absurd (omega (arith, some, nil)) })

pub loop-to-init : goal.loop-to-init
loop-to-init g c = record {
  order = omega arith;
  short = omega arith;
  lacks = c.requires.narrower (omega (arith, c.if-gap-eq0.false));
  fewest = c.requires.all;
  room = c.requires.room;
}

pub loop-to-preserved-then-branch : goal.loop-to-preserved-then-branch
loop-to-preserved-then-branch g c =
    let before = c.loop-to.invariant in
    let order = before.order in
    let short = before.short in
    let far = c.loop-to-test.true in
    let middle = c.loop-to.low + (c.loop-to.to - c.loop-to.low) / 2 in
    record {
      order = omega (arith, order, far);
      short = omega (arith, order, short);
      lacks = before.lacks;
      fewest = subst (λ (q : Chunks). TakesFewest c.args.gap middle q c.args.missing.now c.args.lost.now c.in_ok-fewer.fewer) c.chunks.ensures c.in_ok-fewer.ensures;
      room = c.in_ok-have_room.ensures.0 c.if-branch.true;
    }

pub loop-to-preserved : goal.loop-to-preserved
loop-to-preserved g c =
    let before = c.loop-to.invariant in
    let order = before.order in
    let far = c.loop-to-test.true in
    let middle = c.loop-to.low + (c.loop-to.to - c.loop-to.low) / 2 in
    record {
      order = omega (arith, order, far);
      short = before.short;
      lacks = record {
        listed = c.in_ok-fewer.fewer;
        fewest = subst (λ (q : Chunks). TakesFewest c.args.gap middle q c.args.missing.now c.args.lost.now c.in_ok-fewer.fewer) c.chunks.ensures c.in_ok-fewer.ensures;
        none = λ room. both_ways c.in_ok-have_room.field-0 c.if-branch.false (c.in_ok-have_room.ensures.1 room);
      };
      fewest = before.fewest;
      room = before.room;
    }

pub returns : goal.returns
returns g c =
    let before = c.loop-to.invariant in
    let order = before.order in
    let near = c.loop-to-test.false in
    (c.loop-to.to, before.fewest, record { room = before.room; few = λ some. (c.loop-to.low, omega (arith, order, near), before.lacks) })
