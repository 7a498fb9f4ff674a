use Rattle.std.proofs.Common.{◌≡◌, ◌<◌, arith, Bool, false, get_or, length, rules, subst, sym}
use Rattle.std.proofs.lemmas.List.Edits.{fill_by_more}
use Rattle.std.proofs.lemmas.List.FromFn.{fill_by_all}
use Rattle.std.proofs.Math.ListN.{set}
use Rattle.md_notices.specs.Noticing.{is_dropped_at}
use Rattle.md_notices.proofs.noticing.members_dropped.Goals as goal

pub loop-k-preserved : goal.loop-k-preserved
loop-k-preserved g c =
    let f = is_dropped_at c.args.was.now c.args.mirror.now.array.members c.args.asked in
    let inside : c.loop-k.k < length c.loop-k.dropped = omega (arith, c.loop-k.invariant.size) in
    let more = fill_by_more f c.loop-k.dropped c.loop-k.k false inside c.loop-k.invariant.so in
    record {
      size = search rules;
      so = λ i lt. subst (λ (b : Bool). get_or (set c.loop-k.dropped c.loop-k.k b) i false ≡ f i) (sym c.is_dropped_at.ensures) (more i lt);
    }

pub returns : goal.returns
returns g c =
    fill_by_all (is_dropped_at c.args.was.now c.args.mirror.now.array.members c.args.asked) c.loop-k.dropped 64 false c.loop-k.invariant.size (search rules)
