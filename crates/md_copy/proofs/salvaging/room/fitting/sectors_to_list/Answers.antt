use Rattle.std.proofs.Common.{◌^◌, arith, refl, subst, inl, inr}
use Rattle.std.proofs.lemmas.Bool.{both_ways}
use Rattle.md_bitmap.specs.declared.chunks.Chunks.{Chunks}
use Rattle.md_copy.specs.Salvaging.Widened.{TakesFewest}
use Rattle.md_copy.proofs.SalvageLemmas.Rooms.{if_ok, small_more, small_none}
use Rattle.md_copy.proofs.salvaging.room.fitting.sectors_to_list.Goals as goal

pub loop-gap-preserved : goal.loop-gap-preserved
loop-gap-preserved g c =
    let a = c.args.mirror.now.array in
    let missing = c.args.missing.now in
    let lost = c.args.lost.now in
    let gap = c.loop-gap.gap in
    let listed = c.in_ok-listed.listed in
    let fewest = subst (λ (x : Chunks). TakesFewest gap (2 ^ 54) x missing lost listed) c.chunks.ensures c.in_ok-listed.ensures in
    record {
      most = omega (arith, c.loop-gap-test.true);
      small = small_more gap c.args.target missing lost a listed c.loop-gap.invariant.small fewest
          (λ room. both_ways c.in_ok-have_room.field-0 c.if-branch.false (c.in_ok-have_room.ensures.1 room));
    }

pub list_fewer-requires-clause-narrower : goal.list_fewer-requires-clause-narrower
list_fewer-requires-clause-narrower g c some = small_none c.loop-gap.gap c.args.target c.args.missing.now c.args.lost.now c.args.mirror.now.array c.loop-gap.invariant.small some

pub list_fewer-requires-clause-all : goal.list_fewer-requires-clause-all
list_fewer-requires-clause-all g c =
    subst (λ (x : Chunks). TakesFewest c.loop-gap.gap (2 ^ 54) x c.args.missing.now c.args.lost.now c.in_ok-listed.listed) c.chunks.ensures c.in_ok-listed.ensures

pub list_fewer-requires-clause-room : goal.list_fewer-requires-clause-room
list_fewer-requires-clause-room g c = c.in_ok-have_room.ensures.0 c.if-branch.true

pub returns-then-branch : goal.returns-then-branch
returns-then-branch g c =
    if_ok c.list_fewer.result
    (λ listed just. record {
      gap = c.loop-gap.gap;
      to = just.0;
      widest = omega (arith, c.loop-gap-test.true);
      fewest = just.1;
      least = c.loop-gap.invariant.small;
      fits = inr just.2;
    }) c.list_fewer.ensures

pub returns : goal.returns
returns g c =
    let a = c.args.mirror.now.array in
    let missing = c.args.missing.now in
    let lost = c.args.lost.now in
    let past = c.loop-gap-test.false in
    if_ok c.widen_lost-2.result
    (λ listed fewest. record {
      gap = 510;
      to = 2 ^ 54;
      widest = omega arith;
      fewest = subst (λ (x : Chunks). TakesFewest 510 (2 ^ 54) x missing lost listed) c.chunks-2.ensures fewest;
      least = λ less low. c.loop-gap.invariant.small less (omega (arith, low, past));
      fits = inl (refl, refl, c.loop-gap.invariant.small 510 (omega (arith, past)));
    }) c.widen_lost-2.ensures
