use Rattle.std.proofs.Common.{◌<◌, ◌∙◌, Bool, length, ap, refl, sym, subst, arith}
use Rattle.md_state.specs.View.{ArrayView}
use Rattle.md_read_commands.specs.Others.{AsksMember}
use Rattle.md_read_commands.proofs.OtherMembers.{gives_at_last, none_at_all, none_first, none_more}
use Rattle.md_read_commands.proofs.others.read_other_than.Goals as goal

pub loop-k-init : goal.loop-k-init
loop-k-init g c = record {
  so_far = none_first c.args.source c.args.sector c.args.mirror.now;
  sound = c.requires.sound;
  array = refl;
  long = c.requires.one;
}

pub read_from-requires-clause-within : goal.read_from-requires-clause-within
read_from-requires-clause-within g c =
    let same = ap (λ (a : ArrayView). length a.members) c.loop-k.invariant.array in
    let below = c.loop-k-test.true in
    let count = c.members-k-end.ensures in
    omega arith

pub read_from-requires-clause-inside : goal.read_from-requires-clause-inside
read_from-requires-clause-inside g c = subst (λ (a : ArrayView). c.args.sector < a.chunks.size) (sym c.loop-k.invariant.array) c.requires.inside

pub returns-then-read_from-clause-gives : goal.returns-then-read_from-clause-gives
returns-then-read_from-clause-gives g c =
    let old = c.args.mirror.now in
    let mid = c.loop-k.mirror in
    let new = c.read_from.new.mirror in
    let given = subst (λ (b : Bool). AsksMember c.args.source c.loop-k.k c.args.sector c.read_from.new.block mid new b) c.if-read_from.true c.read_from.ensures.gives in
    gives_at_last c.args.source c.args.sector c.loop-k.k old mid c.loop-k.invariant.so_far new c.read_from.new.block given.0 given.1

pub loop-k-preserved : goal.loop-k-preserved
loop-k-preserved g c =
    let old = c.args.mirror.now in
    let mid = c.loop-k.mirror in
    let new = c.read_from.new.mirror in
    let not = subst (λ (b : Bool). AsksMember c.args.source c.loop-k.k c.args.sector c.read_from.new.block mid new b) c.if-read_from.false c.read_from.ensures.gives in
    record {
      so_far = none_more c.args.source c.args.sector c.loop-k.k old mid c.loop-k.invariant.so_far new not.0 not.1;
      sound = c.read_from.ensures.sound;
      array = not.0.array ∙ c.loop-k.invariant.array;
      long = c.read_from.auto.block ∙ c.loop-k.invariant.long;
    }

pub returns-clause-gives : goal.returns-clause-gives
returns-clause-gives g c =
    let past = c.loop-k-test.false in
    let count = c.members-k-end.ensures in
    none_at_all c.args.source c.args.sector c.loop-k.k c.args.mirror.now c.loop-k.mirror c.loop-k.invariant.so_far (omega arith)
