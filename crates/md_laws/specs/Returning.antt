-- Devices that an opening left out, and that come back at the next one before any data was let through: they may be found in sync,
-- and then another life begins.
use Rattle.std.specs.Prelude.{◌≡◌, ℕ, ◌-◌, List, length, option_map, unwrap_or}
use Rattle.md_model.specs.Devices.{Stored}
use Rattle.md_model.specs.Events.{Event}
use Rattle.md_model.specs.Returns.{KeepsMembers, WasAway}
use Rattle.md_model.specs.Crashes.{IsFit, WasTried}
use Rattle.md_state.specs.View.{ArrayView, Disk, MirrorView, geometry_of}
use Rattle.md_array.specs.Open.Opened.{IsOpenedFrom}
use Rattle.md_array.specs.Worlds.{none_in_flight, nothing_stored, super_of, world_of, world_on}
use Rattle.md_laws.specs.Left.{contents_of}
use Rattle.md_laws.specs.Lives.{AreFoundAgain}
use Rattle.md_laws.specs.Runs.{IsStart, MirrorRun, Moment, history_of, opened_as}

-- Device j of those that are opened, as this array reads it, unless it is one of those that were left.
abbrev pub further_on : (t : Moment) (before : List Disk) → AreFoundAgain t before → ArrayView → ℕ → Stored
further_on t before devices next j =
    unwrap_or (option_map (λ (_ : ℕ). nothing_stored) (devices.from j)) ((world_on before next none_in_flight).stored j)

-- The devices that were not left, as this array reads them, at the places after those of so many members.
abbrev pub returned : (t : Moment) (before : List Disk) → AreFoundAgain t before → ArrayView → ℕ → ℕ → Stored
returned t before devices next members k = further_on t before devices next (k - members)

-- As long as no member came or went and no data was let through, a crash between two calls leaves devices that may be opened with
-- those that the opening had left out, if with them it would have been of devices that are covered, one for each role. The marks
-- cover what the members in sync differ in then: that opening is a start.
abbrev pub StartsAgain : Type 0
StartsAgain =
    (before : List Disk) (m : MirrorView) → IsStart before m
    → (es : List Event) (t : Moment) → KeepsMembers es → MirrorRun (opened_as m) es t → (WasTried (geometry_of m.array) (history_of t) → ⊥)
    → (found : List Disk) (next : MirrorView) (devices : AreFoundAgain t found) → contents_of devices.left ≡ contents_of t.mirror.disks → IsOpenedFrom found next
    → IsFit (super_of m.array.shared) (super_of next.array.shared) t.failed_at
    → WasAway (geometry_of m.array) (super_of m.array.shared) (world_of m none_in_flight) (returned t found devices next.array (length m.array.members))
    → IsStart found next
