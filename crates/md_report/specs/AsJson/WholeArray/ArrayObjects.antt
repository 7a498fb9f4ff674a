-- The objects of a whole array: in short and in detail. In detail lists come after the members, and last in both what is to be run
-- before a kernel is given the array.
use Rattle.std.specs.Prelude.{ℕ, not, List, [], ◌∷◌, codes}
use Rattle.uuid.specs.Text.{hyphenated_text, lower}
use Rattle.serde_json.specs.Data.{Data, boolean, string}
use Rattle.md_super.specs.declared.superblock.Superblock.{Superblock}
use Rattle.md_state.specs.Members.{is_degraded}
use Rattle.md_state.specs.View.{ArrayView}
use Rattle.md_notices.specs.Noticing.{in_sync_count}
use Rattle.md_examine.specs.Lines.{name_text}
use Rattle.md_examine.specs.SuperblockReport.{state_text}
use Rattle.md_report.specs.AsText.WholeArray.SummaryReport.{marked_chunks}
use Rattle.md_report.specs.AsJson.WholeArray.MemberObjects.{member_list}
use Rattle.md_report.specs.AsJson.Objects.{Field, field, report_of, whole}
use Rattle.md_report.specs.AsJson.WholeArray.KernelField.{kernel_fields}
use Rattle.md_report.specs.AsJson.WholeArray.RecoveringList.{recovering_fields}
use Rattle.md_report.specs.AsJson.WholeArray.StandingLists.{standing_fields}

unfoldable pub members_fields : ArrayView → List (List ℕ) → List Field
members_fields a images = field (codes "members") (member_list a images) ∷ []

unfoldable pub summary_fields : ArrayView → List Field
summary_fields a =
    field (codes "in_sync") (whole (in_sync_count a.members))
    ∷ field (codes "raid_devices") (whole a.shared.raid_disks)
    ∷ field (codes "events") (whole a.shared.events)
    ∷ field (codes "marked_chunks") (whole (marked_chunks a.marks))
    ∷ []

-- what the members share
unfoldable pub shared_fields : Superblock → List Field
shared_fields v =
    field (codes "array_uuid") (string (hyphenated_text lower v.set_uuid))
    ∷ field (codes "name") (string (name_text v.set_name))
    ∷ field (codes "raid_devices") (whole v.raid_disks)
    ∷ field (codes "array_size") (whole v.size)
    ∷ []

-- what changes as the array is used
unfoldable pub condition_fields : ArrayView → List Field
condition_fields a =
    field (codes "in_sync") (whole (in_sync_count a.members))
    ∷ field (codes "state") (string (state_text a.shared))
    ∷ field (codes "degraded") (boolean (is_degraded a))
    ∷ field (codes "resync_needed") (boolean (not a.resynced))
    ∷ field (codes "events") (whole a.shared.events)
    ∷ field (codes "chunks") (whole a.marks.chunks)
    ∷ field (codes "marked_chunks") (whole (marked_chunks a.marks))
    ∷ []

-- the whole objects; in short it is the object of the command that shows the array so
abbrev pub summary_object : List ℕ → ArrayView → List (List ℕ) → Data
summary_object kind a images = report_of kind (summary_fields a ∷ members_fields a images ∷ kernel_fields a ∷ [])

abbrev pub detail_object : ArrayView → List (List ℕ) → Data
detail_object a images = report_of (codes "detail") (shared_fields a.shared ∷ condition_fields a ∷ members_fields a images ∷ standing_fields a ∷ recovering_fields a ∷ kernel_fields a ∷ [])
