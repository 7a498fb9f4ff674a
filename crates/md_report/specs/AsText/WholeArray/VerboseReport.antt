-- The report of an array with the images of its members, as text: as without them, but for a line for each recovering member, a line
-- over those of the members, and the image at the end of each of these.
use Rattle.std.specs.Prelude.{ℕ, ◌+◌, Bool, List, [], ◌∷◌, ◌++◌, codes, decimal, unwrap_or}
use Rattle.std.specs.List.{slice_get}
use Rattle.md_assembly.specs.declared.state.MemberState.{MemberState}
use Rattle.md_assembly.specs.States.{role_of}
use Rattle.md_kept_members.specs.OwnFields.{is_write_mostly}
use Rattle.md_kept_members.specs.View.{MemberView}
use Rattle.md_state.specs.Missing.{is_re_added}
use Rattle.md_state.specs.View.{ArrayView}
use Rattle.md_streams.specs.ShownNames.Shown.{shown}
use Rattle.md_report.specs.AsText.WholeArray.DetailReport.{condition_lines, place_text, role_text_or_dash, shared_lines, standing_text, text_where}
use Rattle.md_report.specs.Recovery.{recovery_lines}

-- the line over those of the members
abbrev pub over_members_text : List ℕ
over_members_text = codes " Index Number   Role State  Image\n"

-- the image of the member with this index, no text where there is none
abbrev pub image_name : List (List ℕ) → ℕ → List ℕ
image_name images index = unwrap_or (slice_get images index) []

-- the end of a member's line
abbrev pub image_text : List (List ℕ) → ℕ → List ℕ
image_text images index = codes "  " ++ shown (image_name images index) ++ codes "\n"

-- the line of a member
unfoldable pub named_text : List (List ℕ) → ℕ → ℕ → MemberState → Bool → Bool → List ℕ
named_text images index dev_number state re_added mostly =
    place_text (decimal index) ++ place_text (decimal dev_number) ++ place_text (role_text_or_dash (role_of state))
    ++ standing_text state re_added ++ text_where mostly (codes ", write-mostly") ++ image_text images index

-- the lines of members of an array, counted from an index on
unfoldable pub named_lines : ArrayView → List (List ℕ) → ℕ → List MemberView → List ℕ
named_lines a images index [] = []
named_lines a images index (m ∷ ms) =
    named_text images index m.superblock.dev_number m.state (is_re_added a m) (is_write_mostly m.superblock)
    ++ named_lines a images (index + 1) ms

-- the whole report
unfoldable pub verbose_text : ArrayView → List (List ℕ) → List ℕ
verbose_text a images =
    shared_lines a.shared ++ condition_lines a ++ recovery_lines a ++ over_members_text ++ named_lines a images 0 a.members
