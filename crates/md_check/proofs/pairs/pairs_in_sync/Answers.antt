use Rattle.std.proofs.Common.{◌∙◌, ◌++◌, ℕ, List, ap, length, sym}
use Rattle.md_check.specs.Pairs.{pairs_with}
use Rattle.md_check.proofs.PairsInTurn.{flat_map_next}
use Rattle.md_check.proofs.pairs.pairs_in_sync.Goals as goal

pub loop-one-preserved : goal.loop-one-preserved
loop-one-preserved g c =
    let a = c.args.mirror.now.array in
    let inv = c.loop-one.invariant in
    let f = pairs_with a (length a.members) in
    record {
      names = c.in_ok-add_pairs.ensures.names ∙ ap (λ (t : List (ℕ × ℕ)). t ++ f c.loop-one.one) inv.names ∙ sym (flat_map_next f c.loop-one.one);
      sized = c.in_ok-add_pairs.ensures.sized;
      empty = c.in_ok-add_pairs.ensures.empty;
    }
