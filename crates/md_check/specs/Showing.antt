-- What two members show in a sector of a window.
use Rattle.std.specs.Prelude.{◌≡◌, ◌≢◌, ℕ, true, is_some, List}
use Rattle.md_badblocks.specs.Runs.{IsBad}
use Rattle.md_check.specs.declared.reader.Reader.{Reader}
use Rattle.md_check.specs.Readers.{in_window}

module _ {D : Type 0} where
  -- the member is in sync and does not list the sector
  abbrev pub IsShowing : Reader D → ℕ → Type 0
  IsShowing reader s = (is_some reader.role ≡ true) × (IsBad reader.listed s → ⊥)

  -- of both members something was read in the sector, and not the same
  abbrev pub DifferAt : List ℕ → ℕ → ℕ → Reader D → Reader D → Type 0
  DifferAt lead from s one other =
      IsShowing one s × IsShowing other s × (in_window lead from one s ≢ in_window lead from other s)
