use Rattle.std.proofs.Common.{◌∙◌, sym}
use Rattle.md_inflight.proofs.Linked.{head_stands, headless, shorter}
use Rattle.md_inflight.proofs.freeing.free_all.Goals as goal

pub remove-requires-clause-place : goal.remove-requires-clause-place
remove-requires-clause-place g c = head_stands _ _ _ c.in-Some.place c.loop-place.invariant (sym c.first.ensures ∙ c.in-Some.is)

pub end-requires : goal.end-requires
end-requires g c = headless _ _ _ c.loop-place.invariant (sym c.first.ensures ∙ c.in_default.is)

pub loop-place-smaller : goal.loop-place-smaller
loop-place-smaller g c =
    let at = head_stands _ _ _ c.in-Some.place c.loop-place.invariant (sym c.first.ensures ∙ c.in-Some.is) in
    shorter _ _ at _ (c.remove.ensures.entries at.before at.value at.after at.cut).0
