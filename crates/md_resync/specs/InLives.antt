-- A resync in the life of a mirror.
use Rattle.std.specs.Prelude.{List}
use Rattle.md_model.specs.Content.{Content, Holds}
use Rattle.md_model.specs.Events.{Event}
use Rattle.md_state.specs.View.{Disk, MirrorView, geometry_of}
use Rattle.md_array.specs.Worlds.{none_in_flight, world_of}
use Rattle.md_laws.specs.Lives.{MirrorLifeWith}
use Rattle.md_laws.specs.Runs.{IsStart, Moment}
use Rattle.md_resync.specs.Resyncing.{Resyncs, HasResyncedContent}

-- The content that the life has by then turns into one that the members in sync hold.
abbrev pub ResyncsContentInLives : Type 0
ResyncsContentInLives =
    (before : List Disk) (m : MirrorView) (a : Content) → IsStart before m → Holds (geometry_of m.array) a (world_of m none_in_flight)
    → (es : List Event) (rest : List (List Event)) (final : MirrorView) (last : Moment) (b : Content) → MirrorLifeWith m a es rest final last b
    → (new : MirrorView) → Resyncs last.mirror new → HasResyncedContent last.mirror last.requests b new
