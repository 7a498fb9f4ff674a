use Rattle.std.proofs.Common.{arith, refl}
use Rattle.std.proofs.lemmas.Option.{slice_get_within}
use Rattle.md_members.specs.declared.info.MemberInfo.{MemberInfo}
use Rattle.md_metadata.specs.Grow.Places.{HasRoomAt}
use Rattle.md_metadata.proofs.GrowLemmas.Each.{each_more}
use Rattle.md_metadata.proofs.bitmap_grow.places.have_room_at.Goals as goal

pub loop-info-preserved : goal.loop-info-preserved
loop-info-preserved c =
    each_more (λ (info : MemberInfo). HasRoomAt c.args.start c.args.sectors info.superblock) c.args.infos.now c.loop-info.info-index c.info-item.result
    c.loop-info-test.true c.info-item.is c.loop-info.invariant (c.if-not-has_room_at.ensures.0 refl)

pub returns : goal.returns
returns c = ((λ all k info at. c.loop-info.invariant k info (omega (arith, c.loop-info-test.false, slice_get_within c.args.infos.now k info at)) at), (λ all. refl))
