-- The report of a rebuild, as text, in a form of this project's own.
use Rattle.std.specs.Prelude.{ℕ, List, ◌++◌, codes, decimal}
use Rattle.std.specs.List.{flat_map}
use Rattle.md_cert.specs.declared.planned.Planned.{Planned}
use Rattle.md_report.specs.AsText.Rebuilds.PlanReport.{plan_text}

-- the plan of a pass
abbrev pub planned_text : Planned → List ℕ
planned_text planned = plan_text planned.plan planned.certificate planned.orphans

-- the member by its index, how many passes there were, and how many chunks no source had
unfoldable pub rebuilt_line : ℕ → ℕ → ℕ → List ℕ
rebuilt_line member passes orphans =
    (codes "rebuilt member " ++ decimal member) ++ (codes ", passes " ++ decimal passes) ++ (codes ", orphans " ++ decimal orphans) ++ codes "\n"

-- the whole report: the plan of each pass, and then the line
unfoldable pub rebuilt_text : ℕ → ℕ → List Planned → ℕ → List ℕ
rebuilt_text member passes plans orphans = flat_map planned_text plans ++ rebuilt_line member passes orphans
