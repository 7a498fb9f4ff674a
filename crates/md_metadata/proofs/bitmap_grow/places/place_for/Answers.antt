use Rattle.std.proofs.Common.{ℕ, refl}
use Rattle.md_metadata.specs.Grow.Places.{HaveRoomAt, page_at}
use Rattle.md_metadata.proofs.GrowLemmas.Each.{below_next}
use Rattle.md_metadata.proofs.bitmap_grow.places.place_for.Goals as goal

pub returns-then-have_room_at-clause-some : goal.returns-then-have_room_at-clause-some
returns-then-have_room_at-clause-some c = record {
  page = c.loop-page.page;
  few = c.loop-page-test.true;
  is = refl;
  room = c.if-have_room_at.ensures.0 refl;
  first = c.loop-page.invariant;
}

pub loop-page-preserved : goal.loop-page-preserved
loop-page-preserved c =
    below_next (λ (page : ℕ). HaveRoomAt (page_at page) c.args.sectors c.args.infos.now → ⊥) c.loop-page.page c.loop-page.invariant
    (λ room. let none = c.if-have_room_at.ensures.1 room in cc)
