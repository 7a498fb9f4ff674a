-- The report of a rebuild that lists bad sectors, and not their chunks, as text, in a form of this project's own.
use Rattle.std.specs.Prelude.{ℕ, ◌-◌, List, [], ◌++◌, Option, Some, None, codes, decimal, slice_get}
use Rattle.md_badblocks.specs.declared.run.Run.{Run}
use Rattle.md_notices.specs.ListedSectors.{sector_count}
use Rattle.md_cert.specs.declared.planned.Planned.{Planned}
use Rattle.md_report.specs.AsText.Rebuilds.RebuiltReport.{planned_text}

-- the first sector of a run, where there is one
abbrev pub start_of_run_text : Option Run → List ℕ
start_of_run_text None = []
start_of_run_text (Some run) = codes ", first " ++ decimal run.start

-- the first sector, where there are some
abbrev pub first_lost_text : List Run → List ℕ
first_lost_text runs = start_of_run_text (slice_get runs 0)

-- how many sectors were listed besides those that are lost, which are among them
abbrev pub besides : List Run → List Run → ℕ
besides lost listed = sector_count listed - sector_count lost

-- the member by its index, how many sectors no member in sync gave, the first of them, and how many were listed besides
unfoldable pub salvaged_line : ℕ → List Run → List Run → List ℕ
salvaged_line member lost listed =
    (codes "rebuilt member " ++ decimal member) ++ (codes ", passes 1, lost sectors " ++ decimal (sector_count lost)) ++ first_lost_text lost
    ++ (codes ", listed besides " ++ decimal (besides lost listed)) ++ codes "\n"

-- the whole report: the plan of the pass, and then the line
unfoldable pub salvaged_text : ℕ → Planned → List Run → List Run → List ℕ
salvaged_text member planned lost listed = planned_text planned ++ salvaged_line member lost listed
