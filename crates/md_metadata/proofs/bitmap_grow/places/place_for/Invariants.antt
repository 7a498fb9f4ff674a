use Rattle.std.proofs.Common.{ℕ, ◌<◌}
use Rattle.md_metadata.specs.Grow.Places.{HaveRoomAt, page_at}
use Rattle.md_metadata.proofs.bitmap_grow.places.place_for.Given as goal

abbrev pub invariant-loop-page : goal.invariant-loop-page
invariant-loop-page l = (before : ℕ) → before < l.page → HaveRoomAt (page_at before) l.sectors l.infos → ⊥
