-- What a command puts out as a JSON object, with the images of the members.
use Rattle.std.specs.Prelude.{ℕ, Bool, true, false, List}
use Rattle.md_collect.specs.declared.found.Comparison.{Comparison}
use Rattle.md_report.specs.AsJson.WholeArray.ArrayObjects.{detail_object, summary_object}
use Rattle.md_report.specs.AsJson.CheckObject.{check_object}
use Rattle.md_report.specs.AsJson.Objects.{object_line}
use Rattle.md_report.specs.AsJson.Rebuilds.PlanObject.{plan_object}
use Rattle.md_copy.specs.declared.rebuilt.Rebuilt.{Rebuilt}
use Rattle.md_cert.specs.declared.planned.Planned.{Planned}
use Rattle.md_report.specs.AsJson.Rebuilds.RebuiltObject.{rebuilt_object}
use Rattle.md_report.specs.AsText.Rebuilds.RebuiltReport.{planned_text}
use Rattle.md_report.specs.AsText.WholeArray.SummaryReport.{summary_text}
use Rattle.md_state.specs.View.{ArrayView}

-- the plan of a rebuild
abbrev pub planned_line : ArrayView → List (List ℕ) → Planned → List ℕ
planned_line a images planned =
    object_line (plan_object planned.plan planned.certificate planned.orphans a images)

-- a check, which found this
abbrev pub checked_line : ArrayView → List (List ℕ) → Comparison → List ℕ
checked_line a images found = object_line (check_object found a images)

-- an array in short, by a command of this name
abbrev pub summary_line : List ℕ → List (List ℕ) → ArrayView → List ℕ
summary_line kind images a = object_line (summary_object kind a images)

-- an array in detail
abbrev pub detail_line : List (List ℕ) → ArrayView → List ℕ
detail_line images a = object_line (detail_object a images)

-- the rebuild of member k, of which this is told
abbrev pub rebuilt_object_line : ℕ → Rebuilt → List ℕ
rebuilt_object_line k told = object_line (rebuilt_object k told.passes told.orphans.items)

-- ---- as a JSON object, or as text

abbrev pub summary_shown : List ℕ → Bool → List (List ℕ) → ArrayView → List ℕ
summary_shown kind true images = summary_line kind images
summary_shown kind false images = summary_text

abbrev pub plan_shown : Bool → List (List ℕ) → ArrayView → Planned → List ℕ
plan_shown true images a = planned_line a images
plan_shown false images a = planned_text
