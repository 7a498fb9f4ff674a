-- The report of an array, as text: eight lines in the terms of `mdadm --detail` where it has one, and a line for each
-- member, in a form of this project's own.
use Rattle.std.specs.Prelude.{ℕ, ◌+◌, Bool, not, if◌then◌else◌, List, [], ◌∷◌, ◌++◌, codes, decimal, Option, Some, None}
use Rattle.uuid.specs.Text.{hyphenated_text, lower}
use Rattle.md_super.specs.declared.superblock.Superblock.{Superblock}
use Rattle.md_assembly.specs.declared.state.MemberState.{MemberState}
use Rattle.md_assembly.specs.declared.state.MemberState.TheVariants.{InSync, Recovering, Stale, Spare, Faulty}
use Rattle.md_assembly.specs.States.{role_of}
use Rattle.md_bitmap.specs.Marks.{Bitmap}
use Rattle.md_kept_members.specs.OwnFields.{is_write_mostly}
use Rattle.md_kept_members.specs.View.{MemberView}
use Rattle.md_state.specs.Members.{is_degraded}
use Rattle.md_state.specs.Missing.{is_re_added}
use Rattle.md_state.specs.View.{ArrayView}
use Rattle.md_notices.specs.Noticing.{in_sync_count}
use Rattle.md_examine.specs.Lines.{column, line_text, name_text, right_aligned, sectors_text}
use Rattle.md_report.specs.AsText.WholeArray.SummaryReport.{marked_chunks}
use Rattle.md_examine.specs.SuperblockReport.{state_text}

-- what the members share
unfoldable pub shared_lines : Superblock → List ℕ
shared_lines v =
    line_text (column (codes "Array UUID")) (hyphenated_text lower v.set_uuid)
    ++ line_text (column (codes "Name")) (name_text v.set_name)
    ++ line_text (column (codes "Raid Devices")) (decimal v.raid_disks)
    ++ line_text (column (codes "Array Size")) (sectors_text v.size)

-- a text where something holds, and else nothing
abbrev pub text_where : Bool → List ℕ → List ℕ
text_where holds text = if holds then text else []

abbrev pub condition_text : ArrayView → List ℕ
condition_text a =
    state_text a.shared ++ text_where (is_degraded a) (codes ", degraded") ++ text_where (not a.resynced) (codes ", resync needed")

-- how many chunks are marked, and of how many
abbrev pub marked_text : Bitmap → List ℕ
marked_text m = decimal (marked_chunks m) ++ codes " of " ++ decimal m.chunks

-- what changes as the array is used
unfoldable pub condition_lines : ArrayView → List ℕ
condition_lines a =
    line_text (column (codes "In Sync")) (decimal (in_sync_count a.members))
    ++ line_text (column (codes "State")) (condition_text a)
    ++ line_text (column (codes "Events")) (decimal a.shared.events)
    ++ line_text (column (codes "Marked Chunks")) (marked_text a.marks)

abbrev pub role_text_or_dash : Option ℕ → List ℕ
role_text_or_dash (Some role) = decimal role
role_text_or_dash None = codes "-"

-- what a member is called: one that recovers is told apart by whether its offset is past the last chunk, so that it lacks marked chunks alone
abbrev pub standing_text : MemberState → Bool → List ℕ
standing_text (InSync role) re_added = codes "in sync"
standing_text (Recovering role) re_added = if re_added then codes "re-added" else codes "recovering"
standing_text (Stale role) re_added = codes "stale"
standing_text Spare re_added = codes "spare"
standing_text Faulty re_added = codes "faulty"

-- a place of a member's line
abbrev pub place_text : List ℕ → List ℕ
place_text text = right_aligned 6 text ++ codes " "

-- the line of a member: its index, its device number, its role, what it is called, and whether it is write-mostly
unfoldable pub member_text : ℕ → ℕ → MemberState → Bool → Bool → List ℕ
member_text index dev_number state re_added mostly =
    place_text (decimal index) ++ place_text (decimal dev_number) ++ place_text (role_text_or_dash (role_of state))
    ++ standing_text state re_added ++ text_where mostly (codes ", write-mostly") ++ codes "\n"

-- the lines of members of an array, counted from an index on
unfoldable pub member_lines : ArrayView → ℕ → List MemberView → List ℕ
member_lines a index [] = []
member_lines a index (m ∷ ms) = member_text index m.superblock.dev_number m.state (is_re_added a m) (is_write_mostly m.superblock) ++ member_lines a (index + 1) ms

-- the whole report
unfoldable pub detail_text : ArrayView → List ℕ
detail_text a = shared_lines a.shared ++ condition_lines a ++ member_lines a 0 a.members
