-- The report of a member's bad blocks, as text: a line for each maximal run, in a form of this project's own.
use Rattle.std.specs.Prelude.{ℕ, List, [], ◌∷◌, ◌++◌, codes, decimal}
use Rattle.std.specs.List.{flat_map}
use Rattle.md_badblocks.specs.declared.run.Run.{Run}
use Rattle.md_examine.specs.Lines.{right_aligned}

-- the line of a run: its first sector ends with column 12
unfoldable pub run_text : Run → List ℕ
run_text run = right_aligned 12 (decimal run.start) ++ (codes " for " ++ decimal run.len ++ codes " sectors\n")

-- the whole report
abbrev pub badblocks_report : List Run → List ℕ
badblocks_report [] = codes "no bad blocks\n"
badblocks_report (run ∷ runs) = flat_map run_text (run ∷ runs)
