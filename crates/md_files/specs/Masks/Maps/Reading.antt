-- What was read of a map, line by line.
use Rattle.std.specs.Prelude.{◌≡◌, ◌↔◌, ℕ, ◌<◌, ◌≤◌, List, [], Option, Some, None, Result, IfOk, unwrap_or}
use Rattle.std.specs.Option.{option_map}
use Rattle.md_badblocks.specs.declared.run.Run.{Run}
use Rattle.md_badblocks.specs.Runs.{IsBad}
use Rattle.md_files.specs.Masks.Maps.Map.{IsSaid, IsMissing, rows_of, end_of_blocks}
use Rattle.md_files.specs.declared.masks.maps.line.Block.{Block}
use Rattle.md_files.specs.declared.masks.maps.fault.MapFault.{MapFault}
use Rattle.md_files.specs.declared.masks.maps.fault.MapFault.TheVariants.{Line, NoStatusLine, EndsAt, NoMemory}

-- what was read of these lines: where the blocks end, and the sectors that they lack, as far as there was memory
pub record IsReadTo {E : Type 0} (size : ℕ) (lines : List (List ℕ)) (end : Option ℕ) (missing : Result (List Run) E) : Type 0 where
  pub blocks : Option (List Block)
  pub said : IsSaid size (rows_of lines) blocks
  pub there : end ≡ option_map end_of_blocks blocks
  pub lacks : IfOk missing (λ runs. (sector : ℕ) → IsBad runs sector ↔ IsMissing (unwrap_or blocks []) sector)

-- what is wanting where each line was taken and the blocks end there
abbrev pub IsUnfinished : ℕ → Option ℕ → MapFault → Type 0
IsUnfinished size end (Line number fault) = ⊥
IsUnfinished size end NoStatusLine = end ≡ None
IsUnfinished size end (EndsAt e) = (end ≡ Some e) × (e < size)
IsUnfinished size end NoMemory = (e : ℕ) × (end ≡ Some e) × (size ≤ e)
