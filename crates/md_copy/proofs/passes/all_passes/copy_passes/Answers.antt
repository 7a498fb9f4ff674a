use Rattle.std.proofs.Common.{◌∙◌, ◌+◌, [], ◌∷◌, ◌++◌, List, sym, ap, subst, arith}
use Rattle.std.proofs.lemmas.List.Elements.{All-append, All-cons, All-nil}
use Rattle.std.proofs.lemmas.Result.{err_from_is_err_and}
use Rattle.md_streams.specs.declared.gate.Gate.{Ghosts}
use Rattle.md_assembly.proofs.Indices.{got_within}
use Rattle.md_array.proofs.General.Answered.{ok_gives}
use Rattle.md_cert.specs.declared.planned.Planned.{Planned}
use Rattle.md_copy.specs.Passes.Passing.{PassesAll}
use Rattle.md_copy.proofs.Passing.PassesGo.{GoesSoFar, begins_so, ends_before, fails_one, goes_on, lacks_room, leaves_now, leaves_one, listing_fails, listing_leaves, listing_sound, marks_mid, mid_ready, mid_within, passes_all, rising, served_mid, table_stops}
use Rattle.md_copy.specs.Told.{IsToldOfPlans, IsToldOfSlots}
use Rattle.md_copy.proofs.passes.all_passes.copy_passes.Goals as goal

one_more_told : {G : Type 0} (t : Ghosts G) (gate : G) (plans : List Planned) (more : Planned) → IsToldOfPlans t gate plans → IsToldOfSlots t gate more.plan.slots → IsToldOfPlans t gate (plans ++ more ∷ [])
one_more_told t gate plans more told one =
    All-append (λ (p : Planned). IsToldOfSlots t gate p.plan.slots) plans (more ∷ []) told (All-cons (λ (p : Planned). IsToldOfSlots t gate p.plan.slots) more [] one (All-nil (λ (p : Planned). IsToldOfSlots t gate p.plan.slots)))

pub returns-in_err-rows-clause-gives : goal.returns-in_err-rows-clause-gives
returns-in_err-rows-clause-gives g c m at =
    let p = err_from_is_err_and c.from_residual.result c.from_residual.ensures.1 in
    rw (p.1, p.2) (table_stops c.args.target m c.args.copied.now c.args.mirror.now c.requires.ready c.requires.none at c.in_err-rows.field-0.0 (c.in_err-rows.ensures.refused m at))

pub loop-pass-init : goal.loop-pass-init
loop-pass-init g c = record {
  goes = λ m at.
      subst (λ (xs : List Planned). GoesSoFar c.args.target m c.args.copied.now c.args.mirror.now c.args.mirror.now c.args.copied.now c.in_ok-rows.rows xs 0) (sym c.new-plans.ensures.items)
      (begins_so c.args.target m c.args.copied.now c.args.mirror.now c.in_ok-rows.rows c.requires.ready c.requires.none at (λ n there. c.in_ok-rows.ensures.ok n there) c.in_ok-rows.ensures.few);
  told = subst (λ (xs : List Planned). IsToldOfPlans g.G.Gate c.args.gate.now xs) (sym c.new-plans.ensures.items) (All-nil (λ (p : Planned). IsToldOfSlots g.G.Gate c.args.gate.now p.plan.slots));
}

pub returns-then-is_err-clause-gives : goal.returns-then-is_err-clause-gives
returns-then-is_err-clause-gives g c m at =
    lacks_room c.args.target m c.args.copied.now c.args.mirror.now c.loop-pass.mirror c.loop-pass.copied c.loop-pass.rows c.loop-pass.plans.items c.loop-pass._pass (c.loop-pass.invariant.goes m at)

pub returns-then-is_err-clause-leaves : goal.returns-then-is_err-clause-leaves
returns-then-is_err-clause-leaves g c =
    let it = got_within c.args.mirror.now.array.members c.args.target c.requires.within in
    leaves_now c.args.target it.0 c.args.copied.now c.args.mirror.now c.loop-pass.mirror c.loop-pass.copied c.loop-pass.rows c.loop-pass.plans.items c.loop-pass._pass (c.loop-pass.invariant.goes it.0 it.1)

pub returns-then-is_err-clause-sound : goal.returns-then-is_err-clause-sound
returns-then-is_err-clause-sound g c =
    let it = got_within c.args.mirror.now.array.members c.args.target c.requires.within in
    (c.loop-pass.invariant.goes it.0 it.1).ready.sound

pub make_pass-requires-clause-within : goal.make_pass-requires-clause-within
make_pass-requires-clause-within g c κs within =
    (let it = got_within c.args.mirror.now.array.members c.args.target c.requires.within in (c.loop-pass.invariant.goes it.0 it.1).within)

pub make_pass-requires-clause-ready : goal.make_pass-requires-clause-ready
make_pass-requires-clause-ready g c κs within =
    (let it = got_within c.args.mirror.now.array.members c.args.target c.requires.within in (c.loop-pass.invariant.goes it.0 it.1).ready)

pub make_pass-requires-clause-held : goal.make_pass-requires-clause-held
make_pass-requires-clause-held g c κs within =
    (let it = got_within c.args.mirror.now.array.members c.args.target c.requires.within in (c.loop-pass.invariant.goes it.0 it.1).held)

pub make_pass-requires-clause-table : goal.make_pass-requires-clause-table
make_pass-requires-clause-table g c κs within =
    (let it = got_within c.args.mirror.now.array.members c.args.target c.requires.within in (c.loop-pass.invariant.goes it.0 it.1).table)

pub make_pass-requires-clause-few : goal.make_pass-requires-clause-few
make_pass-requires-clause-few g c κs within =
    (let it = got_within c.args.mirror.now.array.members c.args.target c.requires.within in (c.loop-pass.invariant.goes it.0 it.1).few)

pub returns-in_err-passed-clause-gives : goal.returns-in_err-passed-clause-gives
returns-in_err-passed-clause-gives g c m at =
    let p = err_from_is_err_and c.from_residual-in_err-passed.result c.from_residual-in_err-passed.ensures.1 in
    rw (p.1, p.2) (fails_one c.args.target m c.args.copied.now c.args.mirror.now c.loop-pass.mirror c.loop-pass.copied c.loop-pass.rows c.loop-pass.plans.items c.loop-pass._pass (c.loop-pass.invariant.goes m at)
    c.make_pass.new.copied c.make_pass.new.mirror c.in_err-passed.field-0.0 c.in_err-passed.ensures.gives)

pub returns-in_err-passed-clause-leaves : goal.returns-in_err-passed-clause-leaves
returns-in_err-passed-clause-leaves g c =
    let p = err_from_is_err_and c.from_residual-in_err-passed.result c.from_residual-in_err-passed.ensures.1 in
    let it = got_within c.args.mirror.now.array.members c.args.target c.requires.within in
    rw (p.1, p.2) (leaves_one c.args.target it.0 c.args.copied.now c.args.mirror.now c.loop-pass.mirror c.loop-pass.copied c.loop-pass.rows c.loop-pass.plans.items c.loop-pass._pass (c.loop-pass.invariant.goes it.0 it.1)
    c.make_pass.new.copied c.make_pass.new.mirror c.in_err-passed.field-0.0 c.in_err-passed.ensures.gives)

pub push_reserved-requires : goal.push_reserved-requires
push_reserved-requires g c = let room = ok_gives c.reserve.result _ c.if-is_err.ensures.value c.reserve.ensures.ok in omega arith

pub returns-then-passed-eq0-clause-gives : goal.returns-then-passed-eq0-clause-gives
returns-then-passed-eq0-clause-gives g c m at =
    let told = c.in_ok-passed.passed in
    subst (PassesAll c.args.target m c.args.copied.now c.make_pass.new.copied c.args.mirror.now c.make_pass.new.mirror)
    (sym (c.push_reserved.ensures.items ∙ ap (λ (xs : List Planned). xs ++ told.planned ∷ []) c.reserve.ensures.items))
    (passes_all c.args.target m c.args.copied.now c.args.mirror.now c.loop-pass.mirror c.loop-pass.copied c.loop-pass.rows c.loop-pass.plans.items c.loop-pass._pass (c.loop-pass.invariant.goes m at)
    c.make_pass.new.copied c.make_pass.new.mirror told c.in_ok-passed.ensures.gives c.if-passed-eq0.true)

pub returns-then-passed-eq0-clause-told : goal.returns-then-passed-eq0-clause-told
returns-then-passed-eq0-clause-told g c =
    let told = c.in_ok-passed.passed in
    subst (λ (xs : List Planned). IsToldOfPlans g.G.Gate c.args.gate.now xs) (sym (c.push_reserved.ensures.items ∙ ap (λ (xs : List Planned). xs ++ told.planned ∷ []) c.reserve.ensures.items))
    (one_more_told g.G.Gate c.args.gate.now c.loop-pass.plans.items told.planned c.loop-pass.invariant.told c.in_ok-passed.ensures.told)

pub list_and_go_on-requires-clause-within : goal.list_and_go_on-requires-clause-within
list_and_go_on-requires-clause-within g c =
    let it = got_within c.args.mirror.now.array.members c.args.target c.requires.within in
    mid_within c.args.target it.0 c.args.copied.now c.args.mirror.now c.loop-pass.mirror c.loop-pass.copied c.loop-pass.rows c.loop-pass.plans.items c.loop-pass._pass (c.loop-pass.invariant.goes it.0 it.1)
    c.make_pass.new.copied c.make_pass.new.mirror c.in_ok-passed.passed c.in_ok-passed.ensures.gives

pub list_and_go_on-requires-clause-ready : goal.list_and_go_on-requires-clause-ready
list_and_go_on-requires-clause-ready g c =
    let it = got_within c.args.mirror.now.array.members c.args.target c.requires.within in
    mid_ready c.args.target it.0 c.args.copied.now c.args.mirror.now c.loop-pass.mirror c.loop-pass.copied c.loop-pass.rows c.loop-pass.plans.items c.loop-pass._pass (c.loop-pass.invariant.goes it.0 it.1)
    c.make_pass.new.copied c.make_pass.new.mirror c.in_ok-passed.passed c.in_ok-passed.ensures.gives

pub list_and_go_on-requires-clause-served : goal.list_and_go_on-requires-clause-served
list_and_go_on-requires-clause-served g c =
    let it = got_within c.args.mirror.now.array.members c.args.target c.requires.within in
    served_mid c.args.target it.0 c.args.copied.now c.args.mirror.now c.loop-pass.mirror c.loop-pass.copied c.loop-pass.rows c.loop-pass.plans.items c.loop-pass._pass (c.loop-pass.invariant.goes it.0 it.1)
    c.make_pass.new.copied c.make_pass.new.mirror c.in_ok-passed.passed c.in_ok-passed.ensures.gives

pub list_and_go_on-requires-clause-rising : goal.list_and_go_on-requires-clause-rising
list_and_go_on-requires-clause-rising g c =
    let it = got_within c.args.mirror.now.array.members c.args.target c.requires.within in
    rising c.args.target it.0 c.args.copied.now c.args.mirror.now c.loop-pass.mirror c.loop-pass.copied c.loop-pass.rows c.loop-pass.plans.items c.loop-pass._pass (c.loop-pass.invariant.goes it.0 it.1)
    c.make_pass.new.copied c.make_pass.new.mirror c.in_ok-passed.passed c.in_ok-passed.ensures.gives

pub list_and_go_on-requires-clause-marks : goal.list_and_go_on-requires-clause-marks
list_and_go_on-requires-clause-marks g c =
    let it = got_within c.args.mirror.now.array.members c.args.target c.requires.within in
    marks_mid c.args.target it.0 c.args.copied.now c.args.mirror.now c.loop-pass.mirror c.loop-pass.copied c.loop-pass.rows c.loop-pass.plans.items c.loop-pass._pass (c.loop-pass.invariant.goes it.0 it.1)
    c.make_pass.new.copied c.make_pass.new.mirror c.in_ok-passed.passed c.in_ok-passed.ensures.gives

pub returns-in_err-rows-2-clause-gives : goal.returns-in_err-rows-2-clause-gives
returns-in_err-rows-2-clause-gives g c m at =
    let p = err_from_is_err_and c.from_residual-in_err-rows-2.result c.from_residual-in_err-rows-2.ensures.1 in
    rw (p.1, p.2) (listing_fails c.args.target m c.args.copied.now c.args.mirror.now c.loop-pass.mirror c.loop-pass.copied c.loop-pass.rows c.loop-pass.plans.items c.loop-pass._pass (c.loop-pass.invariant.goes m at)
    c.make_pass.new.copied c.make_pass.new.mirror c.in_ok-passed.passed c.in_ok-passed.ensures.gives c.list_and_go_on.new.mirror c.in_err-rows-2.field-0.0 c.if-passed-eq0.false c.in_err-rows-2.ensures.gives)

pub returns-in_err-rows-2-clause-leaves : goal.returns-in_err-rows-2-clause-leaves
returns-in_err-rows-2-clause-leaves g c =
    let p = err_from_is_err_and c.from_residual-in_err-rows-2.result c.from_residual-in_err-rows-2.ensures.1 in
    let it = got_within c.args.mirror.now.array.members c.args.target c.requires.within in
    rw (p.1, p.2) (listing_leaves c.args.target it.0 c.args.copied.now c.args.mirror.now c.loop-pass.mirror c.loop-pass.copied c.loop-pass.rows c.loop-pass.plans.items c.loop-pass._pass (c.loop-pass.invariant.goes it.0 it.1)
    c.make_pass.new.copied c.make_pass.new.mirror c.in_ok-passed.passed c.in_ok-passed.ensures.gives c.list_and_go_on.new.mirror c.in_err-rows-2.field-0.0 c.in_err-rows-2.ensures.gives)

pub returns-in_err-rows-2-clause-sound : goal.returns-in_err-rows-2-clause-sound
returns-in_err-rows-2-clause-sound g c =
    let it = got_within c.args.mirror.now.array.members c.args.target c.requires.within in
    listing_sound c.args.target it.0 c.args.copied.now c.args.mirror.now c.loop-pass.mirror c.loop-pass.copied c.loop-pass.rows c.loop-pass.plans.items c.loop-pass._pass (c.loop-pass.invariant.goes it.0 it.1)
    c.make_pass.new.copied c.make_pass.new.mirror c.in_ok-passed.passed c.in_ok-passed.ensures.gives c.list_and_go_on.new.mirror c.in_err-rows-2.field-0.0 c.in_err-rows-2.ensures.gives

pub push_reserved-requires-in-loop-pass : goal.push_reserved-requires-in-loop-pass
push_reserved-requires-in-loop-pass g c = let room = ok_gives c.reserve.result _ c.if-is_err.ensures.value c.reserve.ensures.ok in omega arith

pub loop-pass-preserved : goal.loop-pass-preserved
loop-pass-preserved g c =
    let told = c.in_ok-passed.passed in
    let items = c.push_reserved-in-loop-pass.ensures.items ∙ ap (λ (xs : List Planned). xs ++ told.planned ∷ []) c.reserve.ensures.items in
    record {
      goes = λ m at.
          subst (λ (xs : List Planned). GoesSoFar c.args.target m c.args.copied.now c.args.mirror.now c.list_and_go_on.new.mirror c.make_pass.new.copied c.in_ok-rows-2.rows xs (c.loop-pass._pass + 1))
          (sym items)
          (goes_on c.args.target m c.args.copied.now c.args.mirror.now c.loop-pass.mirror c.loop-pass.copied c.loop-pass.rows c.loop-pass.plans.items c.loop-pass._pass (c.loop-pass.invariant.goes m at)
          c.make_pass.new.copied c.make_pass.new.mirror told c.in_ok-passed.ensures.gives c.list_and_go_on.new.mirror c.in_ok-rows-2.rows c.if-passed-eq0.false c.in_ok-rows-2.ensures.gives);
      told = subst (λ (xs : List Planned). IsToldOfPlans g.G.Gate c.args.gate.now xs) (sym items) (one_more_told g.G.Gate c.args.gate.now c.loop-pass.plans.items told.planned c.loop-pass.invariant.told c.in_ok-passed.ensures.told);
    }

pub unreachable-requires : goal.unreachable-requires
unreachable-requires g c =
    let it = got_within c.args.mirror.now.array.members c.args.target c.requires.within in
    ends_before c.args.target it.0 c.args.copied.now c.args.mirror.now c.loop-pass.mirror c.loop-pass.copied c.loop-pass.rows c.loop-pass.plans.items c.loop-pass._pass (c.loop-pass.invariant.goes it.0 it.1)
    (let past = c.loop-pass-test.false in omega arith)
