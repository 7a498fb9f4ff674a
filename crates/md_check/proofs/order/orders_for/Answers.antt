use Rattle.std.proofs.Common.{◌∙◌, ◌+◌, ◌∷◌, [], length, ap, arith, subst, length-append}
use Rattle.std.proofs.lemmas.Option.{get_or_from_slice_get, slice_get_within}
use Rattle.md_kept_members.specs.View.{MemberView}
use Rattle.md_state.specs.Members.{IsMember}
use Rattle.md_check.specs.declared.order.Order.{Order}
use Rattle.md_check.specs.Plans.{IsOrderFor}
use Rattle.md_check.proofs.TakenInTurn.{next_at}
use Rattle.md_check.proofs.order.orders_for.Goals as goal

pub loop-k-preserved : goal.loop-k-preserved
loop-k-preserved g c =
    let inv = c.loop-k.invariant in
    let order = c.in_ok-order_for.field-0 in
    let a = c.args.mirror.now.array in
    record {
      count = ap length c.push_reserved.ensures.items ∙ length-append c.loop-k.orders.items (order ∷ []) ∙ ap (λ n. n + 1) inv.count;
      room = rw c.push_reserved.ensures.capacity inv.room;
      each = rw c.push_reserved.ensures.items
          (next_at (λ i (o : Order). (m : MemberView) → IsMember a i m → IsOrderFor m c.args.room o) c.loop-k.orders.items c.loop-k.k order inv.count c.in_ok-order_for.ensures inv.each);
    }

pub returns : goal.returns
returns g c =
    let inv = c.loop-k.invariant in
    let past = c.loop-k-test.false in
    let many = c.members-k-end.ensures in
    let count = inv.count in
    let stop = c.loop-k.auto.k-end in
    record {
      as_many = omega arith;
      each = λ k m order at there.
          let low = slice_get_within c.loop-k.orders.items k order there in
          subst (λ (o : Order). IsOrderFor m c.args.room o) (get_or_from_slice_get c.loop-k.orders.items k order order there) (inv.each k order (omega arith) m at);
    }
