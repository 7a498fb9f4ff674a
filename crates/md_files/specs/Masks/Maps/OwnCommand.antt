-- The command that made a map, as ddrescue writes it into the map's second line (`# Command line: ddrescue [options] infile outfile mapfile`).
use Rattle.std.specs.Prelude.{ℕ, ◌==◌, Bool, List, [], ◌∷◌, length, drop, codes, Option, Some, None, if◌then◌else◌}
use Rattle.std.specs.List.{starts_with, ends_with, before_first}
use Rattle.md_files.specs.Masks.Maps.Lines.{is_space, lines_of}

-- what stands before the command
abbrev pub command_mark : List ℕ
command_mark = codes "# Command line: "

abbrev pub second_of : List (List ℕ) → Option (List ℕ)
second_of [] = None
second_of (line ∷ []) = None
second_of (line ∷ next ∷ lines) = Some next

-- A command's first word ends with ddrescue's name, before which a path may stand. (That of ddrescuelog, which makes maps of maps, does not.)
abbrev pub is_by_ddrescue : List ℕ → Bool
is_by_ddrescue command = ends_with (λ a b. a == b) (before_first is_space command) (codes "ddrescue")

-- the command that a line says, where it says one
abbrev pub command_in : Option (List ℕ) → Option (List ℕ)
command_in None = None
command_in (Some line) =
    if starts_with (λ a b. a == b) line command_mark then
    (if is_by_ddrescue (drop (length command_mark) line) then Some (drop (length command_mark) line) else None)
    else None

-- the command by which ddrescue says that it made the map
unfoldable pub command_of : List ℕ → Option (List ℕ)
command_of text = command_in (second_of (lines_of text))
