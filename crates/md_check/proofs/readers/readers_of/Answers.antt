use Rattle.std.proofs.Common.{◌∙◌, ◌+◌, ◌<◌, ◌∷◌, [], length, get_or, ap, sym, subst, arith, length-append, length-drop}
use Rattle.std.proofs.lemmas.List.{drop_all}
use Rattle.md_collect.proofs.WorkerLemmas.FirstOut.{first_is, rest_is}
use Rattle.md_check.specs.declared.order.Order.{Order}
use Rattle.md_check.specs.declared.reader.Reader.{Reader}
use Rattle.md_check.specs.Plans.{IsReaderOf}
use Rattle.md_check.proofs.TakenInTurn.{next_at}
use Rattle.md_check.proofs.readers.readers_of.Goals as goal

pub remove-order-requires : goal.remove-order-requires
remove-order-requires g c =
    let inv = c.loop-k.invariant in
    let all = c.args.orders.now.items in
    omega (arith, c.loop-k-test.true, c.len-k-end.ensures, ap length inv.orders, length-drop c.loop-k._k all)

pub remove-device-requires : goal.remove-device-requires
remove-device-requires g c =
    let inv = c.loop-k.invariant in
    let all = c.args.devices.now.items in
    omega (arith, c.loop-k-test.true, c.len-k-end.ensures, ap length inv.devices, length-drop c.loop-k._k all, c.requires.as_many)

pub loop-k-preserved : goal.loop-k-preserved
loop-k-preserved g c =
    let inv = c.loop-k.invariant in
    let orders = c.args.orders.now.items in
    let devices = c.args.devices.now.items in
    let k = c.loop-k._k in
    let order = c.remove-order.result in
    let device = c.remove-device.result in
    let reader = c.reader_of.result in
    let low : k < length orders = omega (arith, c.loop-k-test.true, c.len-k-end.ensures) in
    let here : IsReaderOf order device reader = c.reader_of.ensures in
    record {
      orders = rest_is orders c.loop-k.orders.items c.remove-order.new.self.items k inv.orders c.remove-order.ensures.items;
      devices = rest_is devices c.loop-k.devices.items c.remove-device.new.self.items k inv.devices c.remove-device.ensures.items;
      count = ap length c.push_reserved.ensures.items ∙ length-append c.loop-k.readers.items (reader ∷ []) ∙ ap (λ n. n + 1) inv.count;
      room = c.push_reserved.ensures.capacity ∙ inv.room;
      kept = c.remove-device.ensures.capacity ∙ inv.kept;
      each = rw c.push_reserved.ensures.items
          (next_at (λ i (s : Reader _). (o : Order) (d : _) → IsReaderOf (get_or orders i o) (get_or devices i d) s) c.loop-k.readers.items k reader inv.count
          (λ o d. subst (λ (x : Order). IsReaderOf x (get_or devices k d) reader) (sym (first_is orders c.loop-k.orders.items k order o inv.orders low c.remove-order.ensures.value))
          (subst (λ x. IsReaderOf order x reader) (sym (first_is devices c.loop-k.devices.items k device d inv.devices (omega (arith, low, c.requires.as_many)) c.remove-device.ensures.value)) here))
          inv.each);
    }

pub returns-clause-readers : goal.returns-clause-readers
returns-clause-readers g c = λ k order device reader below. c.loop-k.invariant.each k reader (omega (arith, below, c.loop-k-test.false, c.len-k-end.ensures)) order device

pub returns-clause-none : goal.returns-clause-none
returns-clause-none g c =
    let all = c.args.devices.now.items in
    c.loop-k.invariant.devices ∙ drop_all c.loop-k._k all (omega (arith, c.loop-k-test.false, c.len-k-end.ensures, c.requires.as_many))
