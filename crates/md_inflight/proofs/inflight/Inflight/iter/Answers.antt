use Rattle.std.proofs.Common.{[], None, refl, sym, ◌∙◌, subst}
use Rattle.std.specs.Prelude.{IfSome}
use Rattle.md_inflight.specs.Placed.{IsAt}
use Rattle.md_inflight.specs.Linked.{front}
use Rattle.md_inflight.proofs.Linked.{first_stands}
use Rattle.md_inflight.proofs.Entries.{ahead}
use Rattle.md_inflight.proofs.inflight.Inflight.iter.Goals as goal

pub invariant_of-result : goal.invariant_of-result
invariant_of-result g c =
    let vs = c.self.inside.chain.nodes in
    (c.self.invariant.chain, subst (λ o. IfSome o (λ p. IsAt vs p.ptr)) (sym (c.first.ensures ∙ c.self.invariant.chain.first)) (ahead (front vs None) (λ q is. first_stands vs [] vs refl q is)))
