use Rattle.std.proofs.Common.{◌<◌, ◌∙◌, Bool, length, ap, refl, sym, subst, arith}
use Rattle.md_state.specs.View.{ArrayView}
use Rattle.md_read_commands.specs.Others.{AsksStandIn}
use Rattle.md_read_commands.proofs.OtherMembers.{no_stand_in_at_all, no_stand_in_first, no_stand_in_more, stand_in_at_last}
use Rattle.md_read_commands.proofs.stand_in.given.read_stand_ins.Goals as goal

pub loop-k-init : goal.loop-k-init
loop-k-init g c = record {
  so_far = no_stand_in_first c.args.sector c.args.mirror.now;
  sound = c.requires.sound;
  array = refl;
  long = c.requires.one;
}

pub read_stand_in-requires-clause-within : goal.read_stand_in-requires-clause-within
read_stand_in-requires-clause-within g c =
    let same = ap (λ (a : ArrayView). length a.members) c.loop-k.invariant.array in
    let below = c.loop-k-test.true in
    let count = c.members-k-end.ensures in
    omega arith

pub read_stand_in-requires-clause-inside : goal.read_stand_in-requires-clause-inside
read_stand_in-requires-clause-inside g c = subst (λ (a : ArrayView). c.args.sector < a.chunks.size) (sym c.loop-k.invariant.array) c.requires.inside

pub returns-then-read_stand_in-clause-gives : goal.returns-then-read_stand_in-clause-gives
returns-then-read_stand_in-clause-gives g c =
    let mid = c.loop-k.mirror in
    let new = c.read_stand_in.new.mirror in
    let given = subst (λ (b : Bool). AsksStandIn c.loop-k.k c.args.sector c.read_stand_in.new.block mid new b) c.if-read_stand_in.true c.read_stand_in.ensures.gives in
    stand_in_at_last c.args.sector c.loop-k.k c.args.mirror.now mid c.loop-k.invariant.so_far new c.read_stand_in.new.block given

pub loop-k-preserved : goal.loop-k-preserved
loop-k-preserved g c =
    let mid = c.loop-k.mirror in
    let new = c.read_stand_in.new.mirror in
    let not = subst (λ (b : Bool). AsksStandIn c.loop-k.k c.args.sector c.read_stand_in.new.block mid new b) c.if-read_stand_in.false c.read_stand_in.ensures.gives in
    record {
      so_far = no_stand_in_more c.args.sector c.loop-k.k c.args.mirror.now mid c.loop-k.invariant.so_far new c.read_stand_in.new.block not;
      sound = c.read_stand_in.ensures.sound;
      array = not.0.array ∙ c.loop-k.invariant.array;
      long = c.read_stand_in.auto.block ∙ c.loop-k.invariant.long;
    }

pub returns-clause-gives : goal.returns-clause-gives
returns-clause-gives g c =
    let past = c.loop-k-test.false in
    let count = c.members-k-end.ensures in
    no_stand_in_at_all c.args.sector c.loop-k.k c.args.mirror.now c.loop-k.mirror c.loop-k.invariant.so_far (omega arith)
