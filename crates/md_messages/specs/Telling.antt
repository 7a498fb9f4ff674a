-- What standard error is told of what was noticed: which lines, in which order. The names are those of the members' images, in their
-- order, and a line of a member has its image's name. The lines themselves are those of `md_notices`.
use Rattle.std.specs.Prelude.{◌≡◌, ℕ, ◌==◌, ◌&&◌, not, Bool, true, false, List, [], ◌++◌, length, map, take, Option, Some, None, is_some, Result, Ok, Err, slice_get, get_or, unwrap_or, count_by, if◌then◌else◌}
use Rattle.std.specs.List.{flat_map, list_any, range_with_len}
use Rattle.std.specs.Borrow.{Bor}
use Rattle.clap.specs.Words.{Text}
use Rattle.md_assembly.specs.declared.state.MemberState.{MemberState}
use Rattle.md_refusals.specs.declared.fault.CommandFault.{CommandFault}
use Rattle.md_refusals.specs.declared.fault.CommandFault.TheVariants as fault
use Rattle.md_streams.specs.Messages.{has_advice}
use Rattle.md_streams.specs.Putting.{PutsTold}
use Rattle.md_streams.specs.declared.sink.Sink.{Ghosts}
use Rattle.md_notices.specs.declared.held.held.Held.{Held}
use Rattle.md_notices.specs.declared.held.held.Held.TheVariants.{Nothing, Unseen, Unread, Member, Signed}
use Rattle.md_notices.specs.Held.Holding.{is_unseen}
use Rattle.md_images.specs.Taking.{is_missing_word}
use Rattle.md_notices.specs.Lines.{chunks_lost_text, dropped_text, forgotten_text, held_text, lost_text, marked_line_text, parted_text, identity_text, listed_text, uncompared_text, ungiven_text, unnamed_text, unread_text, unseen_text}
use Rattle.md_notices.specs.Noticing.{is_place}
use Rattle.md_notices.specs.Signatures.Texts.{text_of}
use Rattle.md_notices.specs.UngivenLine.{ungiven_chunks_text}
use Rattle.md_words.specs.Asks.{Ask, adds, checks, device_to_add, loss_of, may_part, member_of, overwritten_by}
use Rattle.md_words.specs.declared.loss.Loss.{Loss}
use Rattle.md_words.specs.declared.loss.Loss.TheVariants.{Chunks, Sectors}
use Rattle.md_words.specs.declared.overwritten.Overwritten.{Overwritten}
use Rattle.md_words.specs.declared.overwritten.Overwritten.TheVariants as overwritten
use Rattle.md_messages.specs.FaultText.Commands.{refusal_line}
use Rattle.md_streams.specs.declared.messages.Audience.{Audience}
use Rattle.md_messages.specs.declared.notices.Notices.{Notices}
use Rattle.md_messages.specs.Holding.{held_each}
use Rattle.md_streams.specs.declared.gaps.Gaps.{Gaps}
use Rattle.md_messages.specs.Missing.{gap_lines}
use Rattle.md_messages.specs.Noticed.{asks_first, was_parted}
use Rattle.md_messages.specs.RefusedLines.{failed_text, perhaps_listed_text}
use Rattle.md_messages.specs.Unreadable.{unreadable_lines}
use Rattle.md_messages.specs.Unready.{unready_lines}

-- the texts of words
abbrev pub texts : List (Bor Text) → List Text
texts = map (λ s. s.now)

-- the line of a name that is there
abbrev pub line_of : (Text → List ℕ) → Option Text → List ℕ
line_of line None = []
line_of line (Some name) = line name

-- The line of the member in a place, where it gets one.
abbrev pub line_at : (Text → List ℕ) → List Bool → List Text → ℕ → List ℕ
line_at line which names k = if get_or which k false then line_of line (slice_get names k) else []

-- the name of the member in a place, where there is one
abbrev pub name_in : List Text → Option ℕ → Option Text
name_in names None = None
name_in names (Some k) = slice_get names k

-- ---- marks that were stored
abbrev pub marked_at : Notices → List Text → ℕ → List ℕ
marked_at n = line_at marked_line_text n.marked

-- ---- members that were used without those in sync, of which one is named
abbrev pub parted_from : Option Text → Text → List ℕ
parted_from None name = []
parted_from (Some source) name = parted_text name source

abbrev pub parted_line : Notices → List Text → Text → List ℕ
parted_line n names = parted_from (name_in names n.source)

-- The line on a member that was used without those in sync, but for the one that was asked of before, in this place.
abbrev pub parted_at : Option ℕ → Notices → List Text → ℕ → List ℕ
parted_at before n names k = if is_place before k then [] else line_at (parted_line n names) n.parted names k

-- ---- devices that were not named
abbrev pub unnamed_line : Option ℕ → ℕ → List ℕ
unnamed_line None role = []
unnamed_line (Some number) role = unnamed_text number role

abbrev pub unnamed_at : Notices → ℕ → List ℕ
unnamed_at n role = unnamed_line (get_or n.unnamed role None) role

-- ---- members that dropped out
abbrev pub dropped_line : Notices → Text → List ℕ
dropped_line n name = dropped_text name n.in_sync n.raid_disks

abbrev pub dropped_at : Notices → List Text → ℕ → List ℕ
dropped_at n = line_at (dropped_line n) n.dropped

-- ---- members that list more sectors as bad
abbrev pub listed_line : Option MemberState → Bool → Option ℕ → Text → List ℕ
listed_line was by_chunks None name = []
listed_line was by_chunks (Some count) name = listed_text name was by_chunks count

-- whole chunks are listed for a bad sector
abbrev pub loses_chunks : Option Loss → Bool
loses_chunks (Some Chunks) = true
loses_chunks (Some Sectors) = false
loses_chunks None = false

-- the name of the member in a place: a device that joins comes after the others
abbrev pub member_name : Ask → List Text → ℕ → Option Text
member_name ask names k = if k == length names then device_to_add ask else slice_get names k

abbrev pub listed_text_at : Ask → Notices → List Text → ℕ → List ℕ
listed_text_at ask n names k =
    line_of (listed_line (get_or n.states k None) (loses_chunks (loss_of ask)) (get_or n.more_listed k None))
    (member_name ask names k)

-- ---- what images hold
abbrev pub held_line : Text → Held → List ℕ
held_line name Nothing = []
held_line name Unseen = unseen_text name
held_line name Unread = unread_text name
held_line name (Member v) = identity_text name v
held_line name (Signed s) = held_text name (text_of s)

abbrev pub held_line_of : Text → Option Held → List ℕ
held_line_of name None = []
held_line_of name (Some held) = held_line name held

-- the image that is to be added
abbrev pub new_line : Notices → Text → List ℕ
new_line n name = if n.own then forgotten_text name else held_line name n.held

-- the one that comes back
abbrev pub returning_line : Notices → List Text → Text → List ℕ
returning_line n names name = if is_unseen n.held then held_line name n.held else parted_line n names name

-- Of the images of which an array is made. Words that stand for a missing member have none: this is the place among the images of
-- the one that the word names in this place.
abbrev pub place_among : List Text → ℕ → ℕ
place_among names k = count_by (λ name. not (is_missing_word true name)) (take k names)

abbrev pub each_at : List Held → List Text → ℕ → List ℕ
each_at each names k =
    if is_missing_word true (get_or names k []) then []
    else held_line_of (get_or names k []) (slice_get each (place_among names k))

abbrev pub each_lines : List Held → List Text → List ℕ
each_lines each names = flat_map (each_at each names) (range_with_len 0 (length names))

-- the member that is to be rebuilt, where it was used without the others
abbrev pub target_line : Notices → List Text → ℕ → List ℕ
target_line n names k = if was_parted n k then line_of (parted_line n names) (slice_get names k) else []

-- ---- What is said before a command is done, where it is asked of.
unfoldable pub first_by : Overwritten → Option Text → List Text → Notices → List ℕ
first_by overwritten.Nothing device names n = []
first_by overwritten.Images device names n = each_lines (held_each n.each) names
first_by overwritten.NewDevice device names n = line_of (new_line n) device
first_by overwritten.ReturningDevice device names n = line_of (returning_line n names) device
first_by (overwritten.Member k) device names n = target_line n names k

abbrev pub first_text : Ask → List Text → Notices → List ℕ
first_text ask names n =
    if asks_first ask n then first_by (overwritten_by ask) (device_to_add ask) names n else []

-- What is shown with the question: that, and which chunks would be listed whole. Where nothing was shown before, the first is said after
-- the command, and not the second: what was listed then is said in its place.
unfoldable pub asked_text : Ask → List Text → Notices → List ℕ
asked_text ask names n = first_text ask names n ++ ungiven_chunks_text n.ungiven

-- the member that was asked of
abbrev pub asked_member : Overwritten → Bool → Option ℕ
asked_member (overwritten.Member k) asked = if asked then Some k else None
asked_member _ asked = None

-- ---- What is said after it.
abbrev pub marked_lines : List Text → Notices → List ℕ
marked_lines names n = flat_map (marked_at n names) (range_with_len 0 64)

abbrev pub parted_lines : Option ℕ → List Text → Notices → List ℕ
parted_lines before names n = flat_map (parted_at before n names) (range_with_len 0 64)

abbrev pub unnamed_lines : Notices → List ℕ
unnamed_lines n = flat_map (unnamed_at n) (range_with_len 0 32)

abbrev pub dropped_lines : List Text → Notices → List ℕ
dropped_lines names n = flat_map (dropped_at n names) (range_with_len 0 64)

-- What is listed in memory is stored once the command is done.
abbrev pub listed_lines : Ask → List Text → Notices → List ℕ
listed_lines ask names n = flat_map (listed_text_at ask n names) (range_with_len 0 64)

-- What was shown before is not said again.
abbrev pub first_unless : Audience → Ask → List Text → Notices → List ℕ
first_unless audience ask names n = if audience.was_shown then [] else first_text ask names n

abbrev pub unnamed_unless : Audience → Ask → Notices → List ℕ
unnamed_unless audience ask n = if audience.was_shown && may_part ask then [] else unnamed_lines n

-- What was noticed, also of a command that is refused.
unfoldable pub noticed_text : Audience → Ask → List Text → Notices → List ℕ
noticed_text audience ask names n =
    marked_lines names n ++ first_unless audience ask names n
    ++ parted_lines (asked_member (overwritten_by ask) (asks_first ask n)) names n
    ++ unnamed_unless audience ask n

abbrev pub lists_more : Notices → Bool
lists_more n = list_any (λ count. is_some count) n.more_listed

-- The place of the member that is rebuilt: the one that is named, or the device that joins after the others.
abbrev pub rebuilt_place : Ask → List Text → ℕ
rebuilt_place ask names = unwrap_or (member_of ask) (length names)

-- The member that is rebuilt lists more sectors as bad than before.
abbrev pub rebuilt_lists_more : Ask → List Text → Notices → Bool
rebuilt_lists_more ask names n = is_some (unwrap_or (slice_get n.more_listed (rebuilt_place ask names)) None)

-- Where the member that is rebuilt lists more it is said that chunks were not to be lost.
abbrev pub chunks_lost_if : Bool → List ℕ
chunks_lost_if listed = if listed then chunks_lost_text else []

-- Where a rebuild is done: which sectors of the array no member in sync gives. One that loses chunks says so only where some member
-- lists more sectors as bad than before.
abbrev pub loss_text : Loss → Bool → Notices → List ℕ
loss_text Sectors listed n = ungiven_text n.lost
loss_text Chunks listed n = if lists_more n then ungiven_text n.lost ++ chunks_lost_if listed else []

abbrev pub loss_if_some : Option Loss → Bool → Notices → List ℕ
loss_if_some None listed n = []
loss_if_some (Some loss) listed n = loss_text loss listed n

abbrev pub loss_lines : Ask → List Text → Notices → List ℕ
loss_lines ask names n = loss_if_some (loss_of ask) (rebuilt_lists_more ask names n) n

-- a check that is done compared nothing, where one member is in sync alone
abbrev pub uncompared_lines : Ask → List Text → Notices → List ℕ
uncompared_lines (checks form exit_code readonly) names n = line_of uncompared_text (name_in names n.alone)
uncompared_lines ask names n = []

-- what an image held that was added is lost
abbrev pub lost_lines : Audience → Ask → List ℕ
lost_lines audience (adds name json) = if has_advice audience.messages then lost_text name else []
lost_lines audience ask = []

-- All that standard error is told of a command that is done.
unfoldable pub told_text : Audience → Ask → List Text → Notices → List ℕ
told_text audience ask names n =
    noticed_text audience ask names n ++ dropped_lines names n ++ listed_lines ask names n
    ++ loss_lines ask names n ++ uncompared_lines ask names n ++ unreadable_lines ask n
    ++ lost_lines audience ask ++ unready_lines ask n

-- ---- What is said of a command that is refused.
-- the line of a member of which a write failed
abbrev pub failed_at : Notices → List Text → ℕ → List ℕ
failed_at n = line_at failed_text n.dropped

abbrev pub failed_lines : List Text → Notices → List ℕ
failed_lines names n = flat_map (failed_at n names) (range_with_len 0 64)

-- the line of one that lists more in memory
abbrev pub perhaps_listed_line : Bool → Option ℕ → Text → List ℕ
perhaps_listed_line by_chunks None name = []
perhaps_listed_line by_chunks (Some count) name = perhaps_listed_text name by_chunks count

abbrev pub perhaps_listed_at : Ask → Notices → List Text → ℕ → List ℕ
perhaps_listed_at ask n names k =
    line_of (perhaps_listed_line (loses_chunks (loss_of ask)) (get_or n.more_listed k None))
    (member_name ask names k)

abbrev pub perhaps_listed_lines : Ask → List Text → Notices → List ℕ
perhaps_listed_lines ask names n = flat_map (perhaps_listed_at ask n names) (range_with_len 0 64)

-- The image that was to be added has joined where the stop is refused, or the report fails: they come after it.
abbrev pub has_joined : CommandFault → Bool
has_joined (fault.Stop why) = true
has_joined fault.OutputFault = true
has_joined why = false

-- All that standard error is told then after the fault and what to do.
unfoldable pub refused_text : Audience → Ask → List Text → Notices → CommandFault → List ℕ
refused_text audience ask names n why =
    noticed_text audience ask names n ++ failed_lines names n ++ perhaps_listed_lines ask names n
    ++ (if has_joined why then lost_lines audience ask else [])

-- What standard error is told of a command that is refused: the fault's line, which sectors were put out otherwise, and last which
-- members list more; with what else was noticed, where more is told of a fault than its line. Before that it is told what to do, of
-- which nothing is said here.
pub record TellsRefusal {E : Type 0} (e : Ghosts E) (audience : Audience) (ask : Ask) (names : List Text)
    (gaps : Option Gaps) (old new : E) (why : CommandFault) (n : Notices) : Type 0 where
  pub told : E
  pub next : E
  pub line : PutsTold e old told (refusal_line why)
  pub lines : PutsTold e told next (gap_lines ask gaps)
  pub plain : has_advice audience.messages ≡ false
      → PutsTold e next new (perhaps_listed_lines ask names n)
  pub last : has_advice audience.messages ≡ true
      → (mid : E) × PutsTold e mid new (refused_text audience ask names n why)

-- What it is told of what a command answers, and of what was noticed.
abbrev pub TellsNoticed : {E : Type 0} → Ghosts E → Audience → Ask → List Text → Option Gaps → E → E
    → Result (Unit {0}) CommandFault → Notices → Type 0
TellsNoticed e audience ask names gaps old new (Ok _) n =
    PutsTold e old new (told_text audience ask names n)
TellsNoticed e audience ask names gaps old new (Err why) n =
    TellsRefusal e audience ask names gaps old new why n
