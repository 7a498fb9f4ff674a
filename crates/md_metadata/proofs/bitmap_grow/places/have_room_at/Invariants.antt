use Rattle.md_metadata.specs.Grow.Places.{HasRoomAt}
use Rattle.md_metadata.proofs.GrowLemmas.Each.{EachBelow}
use Rattle.md_metadata.proofs.bitmap_grow.places.have_room_at.Given as goal

abbrev pub invariant-loop-info : goal.invariant-loop-info
invariant-loop-info l = EachBelow (λ info. HasRoomAt l.start l.sectors info.superblock) l.infos l.info-index
