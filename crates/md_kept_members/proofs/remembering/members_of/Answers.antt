use Rattle.std.proofs.Common.{◌≡◌, ◌∙◌, ℕ, length, get_or, refl, subst, arith}
use Rattle.std.proofs.lemmas.Iterator.Adapters.{YieldsList-from_vec}
use Rattle.std.proofs.lemmas.Iterator.Consumers.{YieldsList-turn}
use Rattle.std.proofs.lemmas.Option.{slice_get-get_or, slice_get_read}
use Rattle.md_assembly.specs.declared.state.MemberState.TheVariants.{InSync}
use Rattle.md_kept_members.specs.Kept.{IsKept}
use Rattle.md_kept_members.proofs.Kept.Keeping.{one_more_kept}
use Rattle.md_kept_members.proofs.remembering.members_of.Goals as goal

pub member_of-requires : goal.member_of-requires
member_of-requires c =
    let gives = c.into_iter-info-iterator.ensures.into_iter_gives in
    let t = YieldsList-turn (YieldsList-from_vec {s = c.into_iter-info-iterator.result} c.args.infos.items gives.0 (gives.1 ∙ c.args.infos.ok.0)) c.loop-info.yielded _ c.loop-info.yielded_by c.next.result c.next.new.self c.in-Some.info c.in-Some.is c.next.ensures.steps in
    c.requires.whole (length c.loop-info.yielded) c.in-Some.info (slice_get_read c.args.infos.items (length c.args.infos.items) (length c.loop-info.yielded) c.in-Some.info refl t.0 t.1)

pub loop-info-preserved : goal.loop-info-preserved
loop-info-preserved c =
    let gives = c.into_iter-info-iterator.ensures.into_iter_gives in
    let t = YieldsList-turn (YieldsList-from_vec {s = c.into_iter-info-iterator.result} c.args.infos.items gives.0 (gives.1 ∙ c.args.infos.ok.0)) c.loop-info.yielded _ c.loop-info.yielded_by c.next.result c.next.new.self c.in-Some.info c.in-Some.is c.next.ensures.steps in
    let within = t.0 in
    let kept = c.loop-info.invariant in
    let as_many = kept.as_many in
    let all = c.requires.as_many in
    let states = c.args.states.now in
    let count : c.len.result ≡ length c.loop-info.members.items = c.len.ensures ∙ c.loop-info.members.ok.0 in
    let there = slice_get-get_or states (length c.loop-info.members.items) (InSync 0) (omega arith) in
    let is_kept = subst (λ (k : ℕ). IsKept c.args.events 0 c.in-Some.info (get_or states k (InSync 0)) c.in_ok-member_of.field-0) count c.in_ok-member_of.ensures in
    rw c.in_ok-push.ensures.items (one_more_kept c.args.events 0 c.loop-info.yielded states c.loop-info.members.items c.in-Some.info _ c.in_ok-member_of.field-0 kept there is_kept)
