-- A recovering member is to say no more that it has data which are about to change.
use Rattle.std.specs.Prelude.{◌≡◌, ℕ}
use Rattle.md_model.specs.Events.{Event}
use Rattle.md_state.specs.Steps.LowerOffset.{Lowers}
use Rattle.md_state.specs.View.{MirrorView}
use Rattle.md_array.specs.Events.{Happens}

-- in memory alone
pub record LowersOffset (k sector : ℕ) (old new : MirrorView) : Type 0 where
  pub disks : new.disks ≡ old.disks
  pub lowers : Lowers k sector old.array new.array

abbrev pub LowerHappens : (k sector : ℕ) (old new : MirrorView) → Type 0
LowerHappens k sector old new = Happens old (Event.LowerOffset k sector) new
