-- Of which arrays images are members, as text: for each array an entry in the form of `mdadm --examine --scan --verbose`
-- (mdadm.conf(5)), and comments in a form of this project's own.
use Rattle.std.specs.Prelude.{◌==◌, ◌&&◌, ◌||◌, ◌+◌, ◌-◌, ◌/◌, ◌%◌, ℕ, Bool, false, nat_le, nat_lt, not, is_none, if◌then◌else◌, List, [], ◌∷◌, ◌++◌, chars, codes, count_by, decimal, drop, length, position, slice_get, take, Option, Some, None}
use Rattle.std.specs.Char.{digit_char}
use Rattle.std.specs.List.{flat_map, fold, list_any, range_with_len}
use Rattle.std.specs.Str.{bytes_eq}
use Rattle.md_super.specs.declared.superblock.Superblock.{Superblock}
use Rattle.md_assembly.specs.declared.state.MemberState.{MemberState}
use Rattle.md_assembly.specs.declared.state.MemberState.TheVariants.{InSync, Recovering, Stale, Spare, Faulty}
use Rattle.md_assembly.specs.Assembled.{tells_otherwise}
use Rattle.md_assembly.specs.States.{is_in_sync, role_in, role_of, state_of}
use Rattle.md_examine.specs.Lines.{name_text}
use Rattle.md_streams.specs.ShownNames.Shown.{is_hidden, shown}
use Rattle.md_examine_commands.specs.declared.scan.seen.Seen.{Seen}

-- ---- which superblocks belong together
-- of the array with this superblock
abbrev pub is_same_array : Superblock → Seen → Bool
is_same_array v seen = bytes_eq v.set_uuid seen.superblock.set_uuid

-- one of these images is of the array
abbrev pub is_told_before : Seen → List Seen → Bool
is_told_before seen before = list_any (is_same_array seen.superblock) before

-- Of the same device, whatever its number: mdadm draws the device UUID of each new member at random. The kernel ignores it (md_p.h), and
-- takes two copies of different numbers for two devices.
abbrev pub is_twin : Superblock → Seen → Bool
is_twin v seen = is_same_array v seen && bytes_eq v.device_uuid seen.superblock.device_uuid

-- of two of an array the one with more events, and where they have as many the first
abbrev pub is_fresher : Superblock → Seen → Bool
is_fresher best seen = is_same_array best seen && nat_lt best.events seen.superblock.events

abbrev pub fresher : Superblock → Seen → Superblock
fresher best seen = if is_fresher best seen then seen.superblock else best

-- what the superblock of a device tells of another one, beside the superblock that decides
abbrev pub tells_other : Superblock → Superblock → Seen → Bool
tells_other v w seen = is_same_array v seen && tells_otherwise v w seen.superblock

-- The superblock of this image disputes the first: it is as new, its device is in sync by the first, and it tells otherwise of a device
-- (`disputes` in md_assembly).
abbrev pub doubts : List Seen → Superblock → Seen → Bool
doubts all v seen =
    is_same_array v seen && seen.superblock.events == v.events && is_in_sync (state_of v seen.superblock)
    && list_any (tells_other v seen.superblock) all

abbrev pub is_doubted : List Seen → Superblock → Bool
is_doubted all v = list_any (doubts all v) all

-- as new as the freshest one, and no other disputes it
abbrev pub is_undoubted : List Seen → Superblock → Seen → Bool
is_undoubted all best seen =
    is_same_array best seen && seen.superblock.events == best.events && not (is_doubted all seen.superblock)

abbrev pub seen_at : List Seen → Option ℕ → Option Seen
seen_at all None = None
seen_at all (Some place) = slice_get all place

abbrev pub superblock_or : Superblock → Option Seen → Superblock
superblock_or best None = best
superblock_or best (Some seen) = seen.superblock

-- The superblock that decides: of those as new as the freshest one the first that no other disputes, or that one where each is.
abbrev pub decider : List Seen → Superblock → Superblock
decider all best = superblock_or best (seen_at all (position (is_undoubted all best) all))

-- ---- words of mdadm.conf
abbrev pub needs_quotes : ℕ → Bool
needs_quotes b = b == 32 || b == 34 || b == 39

-- a double quote ends what is in double quotes, and stands in single ones
abbrev pub quoted_byte : ℕ → List ℕ
quoted_byte b = if b == 34 then 34 ∷ 39 ∷ 34 ∷ 39 ∷ 34 ∷ [] else b ∷ []

-- in quotes where it has a space or a quote
abbrev pub word_text : List ℕ → List ℕ
word_text word =
    if list_any needs_quotes word then codes "\"" ++ flat_map quoted_byte word ++ codes "\"" else word

-- an image's name; one in which a character hides is shown as a word of bash
abbrev pub device_word : List ℕ → List ℕ
device_word name = if list_any is_hidden (chars name) then shown name else word_text name

abbrev pub hex_byte : ℕ → List ℕ
hex_byte b = digit_char (b / 16) ∷ digit_char (b % 16) ∷ []

abbrev pub hex_bytes : List ℕ → List ℕ
hex_bytes = flat_map hex_byte

-- four bytes from this one on
abbrev pub quarter_text : List ℕ → ℕ → List ℕ
quarter_text id start = hex_bytes (take 4 (drop start id))

-- an identifier in four parts, as mdadm writes it
unfoldable pub id_text : List ℕ → List ℕ
id_text id =
    quarter_text id 0 ++ codes ":" ++ quarter_text id 4 ++ codes ":" ++ quarter_text id 8 ++ codes ":"
    ++ quarter_text id 12

-- ---- the entry of an array
-- the name without the host that stands before its first colon
abbrev pub colon_place : List ℕ → Option ℕ
colon_place name = position (λ b. b == 58) name

abbrev pub after_place : List ℕ → Option ℕ → List ℕ
after_place name None = name
after_place name (Some place) = drop (place + 1) name

abbrev pub local_name : List ℕ → List ℕ
local_name name = after_place name (colon_place name)

-- what stands for a byte in the name of a node: none has a space, a slash or a quote
abbrev pub node_byte : ℕ → ℕ
node_byte b = if b == 32 || b == 34 || b == 39 then 95 else if b == 47 then 45 else b

abbrev pub node_text : ℕ → List ℕ
node_text b = node_byte b ∷ []

abbrev pub path_text : List ℕ → List ℕ
path_text local = if length local == 0 then [] else codes " /dev/md/" ++ flat_map node_text local

abbrev pub name_words : List ℕ → List ℕ
name_words name = if length name == 0 then [] else codes " name=" ++ word_text name

unfoldable pub named_array_line : Superblock → List ℕ → List ℕ
named_array_line v name =
    codes "ARRAY" ++ path_text (local_name name)
    ++ (codes " level=raid1 metadata=1.2 num-devices=" ++ decimal v.raid_disks)
    ++ codes " UUID=" ++ id_text v.set_uuid ++ name_words name ++ codes "\n"

abbrev pub array_line : Superblock → List ℕ
array_line v = named_array_line v (name_text v.set_name)

-- A device that has no place in the array by its own superblock: a spare, one that failed, or a journal, whose roles md_p.h has as
-- MD_DISK_ROLE_SPARE, _FAULTY and _JOURNAL. mdadm counts each of them as a spare.
abbrev pub has_no_place : Superblock → Bool
has_no_place own = nat_le 0xfffd (role_in own own.dev_number)

abbrev pub is_counted_spare : Superblock → Seen → Bool
is_counted_spare v seen = is_same_array v seen && has_no_place seen.superblock

abbrev pub spare_count_text : ℕ → List ℕ
spare_count_text count = if count == 0 then [] else codes "   spares=" ++ decimal count

-- how many spares the array has
abbrev pub spares_text : Superblock → List Seen → List ℕ
spares_text v all = spare_count_text (count_by (is_counted_spare v) all)

-- the images of an array
abbrev pub later_device : Superblock → Seen → List ℕ
later_device v seen = if is_same_array v seen then codes "," ++ device_word seen.name.now else []

unfoldable pub devices_line : Seen → List Seen → List ℕ
devices_line first rest =
    codes "   devices=" ++ device_word first.name.now ++ flat_map (later_device first.superblock) rest
    ++ codes "\n"

-- ---- comments on members, by the superblock that decides
abbrev pub place_comment : ℕ → List ℕ
place_comment role = (codes "# device " ++ decimal role) ++ codes ": "

abbrev pub slot_comment : MemberState → List ℕ
slot_comment (InSync role) = place_comment role
slot_comment (Recovering role) = place_comment role
slot_comment (Stale role) = place_comment role
slot_comment Spare = codes "# spare: "
slot_comment Faulty = codes "# faulty: "

abbrev pub standing_comment : MemberState → List ℕ
standing_comment (InSync role) = codes ", in sync"
standing_comment (Recovering role) = codes ", recovering"
standing_comment (Stale role) = codes ", stale"
standing_comment Spare = []
standing_comment Faulty = []

-- how many events it is behind
abbrev pub behind_comment : ℕ → ℕ → List ℕ
behind_comment most own =
    if nat_lt own most then codes ", " ++ decimal (most - own) ++ codes " behind" else []

unfoldable pub member_comment_in : ℕ → MemberState → Seen → List ℕ
member_comment_in most state seen =
    slot_comment state ++ shown seen.name.now ++ standing_comment state
    ++ (codes ", events " ++ decimal seen.superblock.events)
    ++ behind_comment most seen.superblock.events ++ codes "\n"

abbrev pub member_comment : Superblock → Seen → List ℕ
member_comment v seen = member_comment_in v.events (state_of v seen.superblock) seen

-- the members of a role, or that there is none
abbrev pub is_in_role : MemberState → ℕ → Bool
is_in_role (InSync role) wanted = role == wanted
is_in_role (Recovering role) wanted = role == wanted
is_in_role (Stale role) wanted = role == wanted
is_in_role Spare wanted = false
is_in_role Faulty wanted = false

abbrev pub fills_role : Superblock → ℕ → Seen → Bool
fills_role v role seen = is_same_array v seen && is_in_role (state_of v seen.superblock) role

abbrev pub role_member_comment : Superblock → ℕ → Seen → List ℕ
role_member_comment v role seen = if fills_role v role seen then member_comment v seen else []

abbrev pub missing_comment : Superblock → List Seen → ℕ → List ℕ
missing_comment v all role =
    if list_any (fills_role v role) all then [] else codes "# device " ++ decimal role ++ codes ": missing\n"

unfoldable pub role_comments : Superblock → List Seen → ℕ → List ℕ
role_comments v all role = flat_map (role_member_comment v role) all ++ missing_comment v all role

-- members without a role
abbrev pub is_other : Superblock → Seen → Bool
is_other v seen = is_same_array v seen && is_none (role_of (state_of v seen.superblock))

abbrev pub other_comment : Superblock → Seen → List ℕ
other_comment v seen = if is_other v seen then member_comment v seen else []

-- two images of one device
unfoldable pub twin_comment : Superblock → Seen → Seen → List ℕ
twin_comment v first seen =
    slot_comment (state_of v seen.superblock) ++ shown first.name.now ++ codes " and " ++ shown seen.name.now
    ++ codes " both, with one device UUID: clones?\n"

-- two images of one device, which has another number by each
unfoldable pub renumbered_comment : Seen → Seen → List ℕ
renumbered_comment first seen =
    codes "# " ++ shown first.name.now ++ codes " and " ++ shown seen.name.now
    ++ (codes " have one device UUID, under the numbers " ++ decimal first.superblock.dev_number)
    ++ (codes " and " ++ decimal seen.superblock.dev_number) ++ codes ": clones?\n"

abbrev pub copies_comment : Superblock → Seen → Seen → List ℕ
copies_comment v first seen =
    if first.superblock.dev_number == seen.superblock.dev_number then twin_comment v first seen
    else renumbered_comment first seen

abbrev pub twin_of : Superblock → Seen → Option Seen → List ℕ
twin_of v seen None = []
twin_of v seen (Some first) = copies_comment v first seen

-- the first image before this place that is of the same device
abbrev pub twin_before : List Seen → ℕ → Seen → Option Seen
twin_before all place seen = seen_at all (position (is_twin seen.superblock) (take place all))

abbrev pub twin_of_this : Superblock → List Seen → ℕ → Option Seen → List ℕ
twin_of_this v all place None = []
twin_of_this v all place (Some seen) =
    if is_same_array v seen then twin_of v seen (twin_before all place seen) else []

abbrev pub twin_at : Superblock → List Seen → ℕ → List ℕ
twin_at v all place = twin_of_this v all place (slice_get all place)

abbrev pub twins : Superblock → List Seen → List ℕ
twins v all = flat_map (twin_at v all) (range_with_len 0 (length all))

abbrev pub comments : Superblock → List Seen → List ℕ
comments v all =
    flat_map (role_comments v all) (range_with_len 0 v.raid_disks) ++ flat_map (other_comment v) all
    ++ twins v all

-- ---- all arrays
-- an array whose first image is this one, which the rest follows
abbrev pub decided : Superblock → Seen → List Seen → List Seen → List ℕ
decided v first rest all = array_line v ++ spares_text v all ++ devices_line first rest ++ comments v all

unfoldable pub array_text : Seen → List Seen → List Seen → List ℕ
array_text first rest all = decided (decider all (fold fresher first.superblock rest)) first rest all

abbrev pub array_of : List Seen → ℕ → Option Seen → List ℕ
array_of all place None = []
array_of all place (Some first) =
    if is_told_before first (take place all) then [] else array_text first (drop (place + 1) all) all

abbrev pub array_at : List Seen → ℕ → List ℕ
array_at all place = array_of all place (slice_get all place)

unfoldable pub scan_text : List Seen → List ℕ
scan_text all = flat_map (array_at all) (range_with_len 0 (length all))
