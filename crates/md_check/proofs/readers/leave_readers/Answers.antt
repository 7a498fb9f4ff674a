use Rattle.std.proofs.Common.{◌≡◌, ◌∙◌, ◌+◌, ◌<◌, ◌++◌, ◌∷◌, [], suc, List, length, map, take, ap, arith, length-append, length-drop, take_all}
use Rattle.md_collect.proofs.WorkerLemmas.FirstOut.{first_is, rest_is}
use Rattle.md_check.specs.declared.reader.Reader.{Reader}
use Rattle.md_check.proofs.TakenInTurn.{left_next}
use Rattle.md_check.proofs.readers.leave_readers.Goals as goal

pub remove-requires : goal.remove-requires
remove-requires g c =
    let inv = c.loop-k.invariant in
    let all = c.args.readers.now.items in
    omega (arith, c.loop-k-test.true, c.len-k-end.ensures, ap length inv.readers, length-drop c.loop-k._k all)

pub loop-k-preserved : goal.loop-k-preserved
loop-k-preserved g c =
    let inv = c.loop-k.invariant in
    let all = c.args.readers.now.items in
    let k = c.loop-k._k in
    let reader = c.remove.result in
    let low : k < length all = omega (arith, c.loop-k-test.true, c.len-k-end.ensures) in
    record {
      readers = rest_is all c.loop-k.readers.items c.remove.new.self.items k inv.readers c.remove.ensures.items;
      devices = c.push_reserved.ensures.items ∙ ap (λ xs. xs ++ (c.device_of.result ∷ [])) inv.devices ∙ ap (λ d. map (λ (s : Reader _). s.device) (take k all) ++ (d ∷ [])) c.device_of.ensures
          ∙ left_next (λ (s : Reader _). s.device) all k reader low (first_is all c.loop-k.readers.items k reader reader inv.readers low c.remove.ensures.value)
          ∙ ap (λ n. map (λ (s : Reader _). s.device) (take n all)) (let e : suc k ≡ k + 1 = omega arith in e);
      count = ap length c.push_reserved.ensures.items ∙ length-append c.loop-k.devices.items (c.device_of.result ∷ []) ∙ ap (λ n. n + 1) inv.count;
      room = c.push_reserved.ensures.capacity ∙ inv.room;
    }

pub returns : goal.returns
returns g c =
    let all = c.args.readers.now.items in
    c.loop-k.invariant.devices ∙ ap (λ (xs : List (Reader _)). map (λ (s : Reader _). s.device) xs) (take_all c.loop-k._k all (omega (arith, c.loop-k-test.false, c.len-k-end.ensures)))
