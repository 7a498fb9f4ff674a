-- The lines that say what was noticed: forms of this project's own. Names stand in them as they are shown.
use Rattle.std.specs.Prelude.{ℕ, Bool, true, false, List, [], ◌++◌, Option, Some, None, codes, decimal}
use Rattle.uuid.specs.Text.{hyphenated_text, lower}
use Rattle.md_streams.specs.ShownNames.Shown.{shown}
use Rattle.md_super.specs.declared.superblock.Superblock.{Superblock}
use Rattle.md_assembly.specs.declared.state.MemberState.{MemberState}
use Rattle.md_assembly.specs.declared.state.MemberState.TheVariants.{InSync, Recovering, Stale, Spare, Faulty}
use Rattle.md_assembly.specs.States.{state_of}
use Rattle.md_notices.specs.declared.lost_sectors.Lost.{Lost}

unfoldable pub parted_text : List ℕ → List ℕ → List ℕ
parted_text name other =
    codes "mdcli: " ++ shown name ++ codes ": was used without " ++ shown other
    ++ codes " since they parted: what was written to it alone is not in this array\n"

unfoldable pub dropped_text : List ℕ → ℕ → ℕ → List ℕ
dropped_text name in_sync raid_disks =
    codes "mdcli: " ++ shown name
    ++ (codes ": a write failed; it is faulty now, and the array has " ++ decimal in_sync)
    ++ (codes " of " ++ decimal raid_disks) ++ codes "\n"

-- Of a member that was in sync, of one that gets what it lacks, and of one that joined: what this lists may be what it listed before.
abbrev pub why_listed : Option MemberState → List ℕ
why_listed (Some (InSync role)) = codes ": could not be read in places: "
why_listed (Some state) = codes ": no member gave all of it: "
why_listed None = codes ": "

-- Which sectors are counted: where whole chunks are listed, good ones are among them.
abbrev pub which_sectors : Bool → List ℕ
which_sectors true =
    codes "the sectors that are listed as bad in it, also good ones of the same chunks, are now "
which_sectors false = codes "the sectors that are listed as bad in it are now "

unfoldable pub listed_text : List ℕ → Option MemberState → Bool → ℕ → List ℕ
listed_text name was by_chunks count =
    codes "mdcli: " ++ shown name ++ why_listed was ++ (which_sectors by_chunks ++ decimal count)
    ++ codes "\n"

-- of so many sectors, and the first of them
unfoldable pub ungiven_count_text : ℕ → List ℕ
ungiven_count_text count =
    codes "mdcli: sectors of the array that no member in sync gives" ++ (codes ": " ++ decimal count)

unfoldable pub first_ungiven_text : ℕ → List ℕ
first_ungiven_text first = (codes ", the first is " ++ decimal first) ++ codes "\n"

abbrev pub ungiven_sectors_text : ℕ → ℕ → List ℕ
ungiven_sectors_text count first = ungiven_count_text count ++ first_ungiven_text first

abbrev pub ungiven_if_some : ℕ → Option ℕ → List ℕ
ungiven_if_some count None = []
ungiven_if_some count (Some first) = ungiven_sectors_text count first

-- where there are some
abbrev pub ungiven_text : Lost → List ℕ
ungiven_text lost = ungiven_if_some lost.count lost.first

unfoldable pub chunks_lost_text : List ℕ
chunks_lost_text =
    codes "mdcli: `rebuild --salvage` would have listed only the sectors that no member gave, "
    ++ codes "and not their whole chunks, as long as the logs had room\n"

unfoldable pub unnamed_text : ℕ → ℕ → List ℕ
unnamed_text number role =
    (codes "mdcli: device " ++ decimal number) ++ (codes " in role " ++ decimal role)
    ++ codes " is not among the images\n"

unfoldable pub forgotten_text : List ℕ → List ℕ
forgotten_text name =
    codes "mdcli: " ++ shown name
    ++ codes ": is in sync in this very array, and is not among the images: "
    ++ codes "its data may be newer than theirs\n"

unfoldable pub held_text : List ℕ → List ℕ → List ℕ
held_text name what = codes "mdcli: " ++ shown name ++ codes ": holds " ++ what ++ codes "\n"

unfoldable pub unseen_text : List ℕ → List ℕ
unseen_text name =
    codes "mdcli: " ++ shown name ++ codes ": there was no memory to look at it: it may hold data\n"

unfoldable pub unread_text : List ℕ → List ℕ
unread_text name = codes "mdcli: " ++ shown name ++ codes ": a read of it failed: it may hold data\n"

unfoldable pub marked_line_text : List ℕ → List ℕ
marked_line_text name =
    codes "mdcli: " ++ shown name
    ++ codes ": its bitmap did not tell of the array, so all chunks are marked in it now\n"

unfoldable pub uncompared_text : List ℕ → List ℕ
uncompared_text name =
    codes "mdcli: " ++ shown name ++ codes ": no other member is in sync, so nothing was compared\n"

unfoldable pub lost_text : List ℕ → List ℕ
lost_text name =
    codes "mdcli: " ++ shown name ++ codes ": what it held is lost: it is a spare of the array now\n"

-- the role of a member, where it has one
abbrev pub state_role_text : MemberState → List ℕ
state_role_text (InSync role) = codes " in role " ++ decimal role
state_role_text (Recovering role) = codes " in role " ++ decimal role
state_role_text (Stale role) = codes " in role " ++ decimal role
state_role_text Spare = []
state_role_text Faulty = []

-- what a member is called in the array that it tells of
abbrev pub there_text : MemberState → List ℕ
there_text (InSync role) = codes ", in sync there\n"
there_text (Recovering role) = codes ", recovering there\n"
there_text (Stale role) = codes ", stale there\n"
there_text Spare = codes ", a spare there\n"
there_text Faulty = codes ", faulty there\n"

-- of which array the device is, and what it is there by its own superblock
unfoldable pub identity_text : List ℕ → Superblock → List ℕ
identity_text name own =
    codes "mdcli: " ++ shown name ++ (codes ": is device " ++ decimal own.dev_number)
    ++ state_role_text (state_of own own)
    ++ codes " of array " ++ hyphenated_text lower own.set_uuid ++ there_text (state_of own own)
