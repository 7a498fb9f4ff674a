use Rattle.std.proofs.Common.{sym, ap, ◌∙◌, subst, length, arith}
use Rattle.std.specs.Prelude.{IfSome}
use Rattle.md_inflight.specs.Placed.{IsAt}
use Rattle.md_inflight.specs.Kept.{items_from}
use Rattle.md_inflight.proofs.Entries.{stepped}
use Rattle.md_inflight.proofs.iter.IterIterator.next.Goals as goal

pub invariant_of-self : goal.invariant_of-self
invariant_of-self g c =
    let chain = c.self.inside.chain.now in let vs = chain.nodes in
    let at : IsAt vs c.in_ok-place.place.ptr = subst (λ o. IfSome o (λ p. IsAt vs p.ptr)) c.in_ok-place.was c.self.invariant.1 in
    (c.self.invariant.0, (stepped c.self.invariant.0 chain.apart at (c.next-self-inside.ensures at.before at.value at.after at.cut) (c.node-node.ensures at.before at.value at.after at.cut)).0)

pub returns-clause-steps : goal.returns-clause-steps
returns-clause-steps g c =
    let chain = c.self.inside.chain.now in let vs = chain.nodes in
    let at : IsAt vs c.in_ok-place.place.ptr = subst (λ o. IfSome o (λ p. IsAt vs p.ptr)) c.in_ok-place.was c.self.invariant.1 in
    sym c.self.view_is ∙ ap (λ o. items_from o vs) c.in_ok-place.was
    ∙ (stepped c.self.invariant.0 chain.apart at (c.next-self-inside.ensures at.before at.value at.after at.cut) (c.node-node.ensures at.before at.value at.after at.cut)).1

pub returns-clause-goes : goal.returns-clause-goes
returns-clause-goes g c = let steps = returns-clause-steps g c in let shorter = ap length steps in record {
  on = λ finite. (tt, tt, omega arith);
  keeps = tt;
  rests = λ finite. tt;
}
