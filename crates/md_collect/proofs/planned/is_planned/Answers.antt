use Rattle.std.proofs.Common.{arith, length, ◌<◌, ◌≤◌, sym}
use Rattle.std.proofs.lemmas.Grind.{common_steps}
use Rattle.std.proofs.lemmas.Bool.Decides.{nat_tests}
use Rattle.std.proofs.lemmas.Bool.{ltb-true, ltb-false}
use Rattle.md_collect.proofs.Search.{found, none_found}
use Rattle.md_collect.proofs.planned.is_planned.Goals as goal

pub returns-then-slot-chunk-clause-value : goal.returns-then-slot-chunk-clause-value
returns-then-slot-chunk-clause-value c =
    let at = c.place_of-at.result in
    let there : at < length c.args.slots.now = ltb-true _ _ (sym (c.in-Some.ensures.lookup.0)) in
    let e = found c.args.chunks c.args.slots.now c.args.chunk c.args.source at c.in-Some.slot.now c.requires c.place_of-at.ensures there c.in-Some.ensures.lookup.1 in
    grind (arith, common_steps, nat_tests, e)

pub returns-else-slot-chunk-clause-value : goal.returns-else-slot-chunk-clause-value
returns-else-slot-chunk-clause-value c =
    let at = c.place_of-at.result in
    let there : at < length c.args.slots.now = ltb-true _ _ (sym (c.in-Some.ensures.lookup.0)) in
    let e = found c.args.chunks c.args.slots.now c.args.chunk c.args.source at c.in-Some.slot.now c.requires c.place_of-at.ensures there c.in-Some.ensures.lookup.1 in
    grind (arith, common_steps, nat_tests, e)

pub returns-in-None-clause-value : goal.returns-in-None-clause-value
returns-in-None-clause-value c =
    let at = c.place_of-at.result in
    let over : length c.args.slots.now ≤ at = ltb-false _ _ (sym (c.in-None.ensures.lookup.0)) in
    sym (none_found c.args.slots.now c.args.chunk c.args.source at c.place_of-at.ensures over)
