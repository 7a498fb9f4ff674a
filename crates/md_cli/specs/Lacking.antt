-- What the copies of members lack, as their maps say, counts as part of the members' lists, in memory (this project's own).
use Rattle.std.specs.Prelude.{◌≡◌, ◌≢◌, ◌⊎◌, ◌↔◌, ◌+◌, ◌-◌, ◌/◌, ◌<◌, ◌≤◌, ℕ, Bool, true, false, List, [], Option, Some, length, slice_get, unwrap_or}
use Rattle.md_badblocks.specs.Runs.{IsBad, entries_needed}
use Rattle.md_badblocks.specs.declared.run.Run.{Run}
use Rattle.md_kept_members.specs.Enrolling.{log_room}
use Rattle.md_kept_members.specs.SectorLists.{IsListMore, in_chunks, in_runs}
use Rattle.md_kept_members.specs.View.{MemberView}
use Rattle.md_state.specs.Members.{IsAlone, IsInSync, IsMember}
use Rattle.md_state.specs.View.{ArrayView, Disk, MirrorView}
use Rattle.md_super.specs.declared.superblock.Superblock.{Superblock}
use Rattle.md_array.specs.Open.Opened.{IsOpenedFrom}
use Rattle.md_array.specs.Open.Refusals.{RefusesOpen}
use Rattle.md_array.specs.declared.fault.OpenFault.{OpenFault}
use Rattle.md_array.specs.declared.fault.OpenFault.TheVariants.{NoMemory}
use Rattle.md_words.specs.Asks.{Ask, assembles, checks, details, loss_of, plans, reads, rebuilds, serves}
use Rattle.md_words.specs.declared.loss.Loss.{Loss}
use Rattle.md_words.specs.declared.loss.Loss.TheVariants.{Sectors}
use Rattle.md_cli.specs.declared.lists.holes.BeforeResync.{BeforeResync}
use Rattle.md_cli.specs.declared.lists.holes.BeforeResync.TheVariants.{All, Given, Nothing}
use Rattle.md_cli.specs.declared.lists.holes.Growth.{Growth}

-- ---- what a copy lacks
-- What each image lacks by its map, in sectors of the image, in the order of the images. One without a map lacks nothing.
abbrev pub Maps : Type 0
Maps = List (List Run)

abbrev pub missing_at : Maps → ℕ → List Run
missing_at lacking k = unwrap_or (slice_get lacking k) []

-- The image lacks some sector of the array, which lies on it from the member's data offset on.
abbrev pub LacksSome : List Run → ArrayView → MemberView → Type 0
LacksSome missing a m =
    (sector : ℕ) × IsBad missing sector × (m.superblock.data_offset ≤ sector)
    × (sector < m.superblock.data_offset + a.chunks.size)

-- the image of member k, which is in sync, lacks some sector of the array
abbrev pub IsLacking : Maps → ArrayView → ℕ → Type 0
IsLacking lacking a k = (m : MemberView) × IsInSync a k m × LacksSome (missing_at lacking k) a m

-- these are the sectors of the array that the image lacks, counted from the array's first
abbrev pub AreHoles : List Run → ℕ → ℕ → List Run → Type 0
AreHoles missing offset size sectors =
    (s : ℕ) → IsBad sectors s ↔ ((s < size) × IsBad missing (offset + s))

-- ---- which lists grow
-- a rebuild in which sectors are lost, and not their chunks
abbrev pub is_sectors : Option Loss → Bool
is_sectors (Some Sectors) = true
is_sectors _ = false

-- Of an array that is to be resynced: commands that never resync it may leave all out that images lack. So may a rebuild in which
-- sectors are lost. The marks of a degraded array stay, and what nobody gives is on the lists of all members in sync before there is
-- another of these. A read by which no image may be changed says which sectors another member gives than a resync would take them from,
-- so that there no list grows.
abbrev pub before_resync : Ask → BeforeResync
before_resync (rebuilds k Sectors form) = All
before_resync (assembles json readonly) = All
before_resync (details form readonly) = All
before_resync (plans k json readonly) = All
before_resync (checks form exit_code readonly) = All
before_resync (reads sector count fill true) = Nothing
before_resync (serves fill) = Nothing
before_resync _ = Given

-- How lists grow by what images lack. A rebuild in which sectors are lost lists them on all members in sync, so that each list has to
-- fit its log.
abbrev pub growth_of : Ask → Growth
growth_of ask = record { must_fit = is_sectors (loss_of ask); before_resync = before_resync ask }

-- ---- before a resync
-- Member j, which is in sync, gives a sector of the array: it doesn't list it, and its image doesn't lack it. That stays so where lists
-- grow by what images lack, in whatever order.
pub record GivesSector (lacking : Maps) (a : ArrayView) (s j : ℕ) : Type 0 where
  pub member : MemberView
  pub in_sync : IsInSync a j member
  pub unlisted : IsBad member.bad (member.superblock.data_offset + s) → ⊥
  pub there : IsBad (missing_at lacking j) (member.superblock.data_offset + s) → ⊥

-- some member in sync gives it
abbrev pub IsGivenBySome : Maps → ArrayView → ℕ → Type 0
IsGivenBySome lacking a s = (j : ℕ) × GivesSector lacking a s j

-- A sector that an image lacks counts as listed though the array is to be resynced. A resync takes each sector of marked chunks from the
-- first member that doesn't list it, and passes over those that all list, which would look like data from then on. So a sector of a
-- marked chunk counts only where some member gives it: what nobody gives is read where it isn't, and the resync ends there. A lone
-- member is not read.
abbrev pub CountsBefore : BeforeResync → Maps → ArrayView → ℕ → Type 0
CountsBefore All lacking a s = Unit {0}
CountsBefore Nothing lacking a s = ⊥
CountsBefore Given lacking a s =
    (in_chunks a.chunks a.marks s ≡ false) ⊎ (IsGivenBySome lacking a s ⊎ IsAlone a)

abbrev pub CountsAsListed : BeforeResync → Maps → ArrayView → ℕ → Type 0
CountsAsListed which lacking a s = (a.resynced ≡ true) ⊎ CountsBefore which lacking a s

-- these are the sectors of the array that the image of member k lacks, as far as they count
abbrev pub AreCountedAsListed : BeforeResync → Maps → ArrayView → ℕ → MemberView → List Run → Type 0
AreCountedAsListed which lacking a k m sectors =
    (s : ℕ) → IsBad sectors s
    ↔ ((s < a.chunks.size) × IsBad (missing_at lacking k) (m.superblock.data_offset + s)
    × CountsAsListed which lacking a s)

-- ---- each list
-- How many entries of a member's log a list may take that grew by what its image lacks. An eighth of them is kept free for bad sectors
-- that are found later: with no room for such a one a rebuild is refused, and a kernel drops the member.
abbrev pub usable_room : Superblock → ℕ
usable_room own = log_room own - log_room own / 8

abbrev pub HasRoomToSpare : Superblock → List Run → Type 0
HasRoomToSpare own list = entries_needed list ≤ usable_room own

-- the member's log has room for its list with these sectors of the array, and some to spare
abbrev pub FitsMore : MemberView → List Run → Type 0
FitsMore m sectors =
    (list : List Run) × IsListMore (in_runs sectors) m list × HasRoomToSpare m.superblock list

abbrev pub OverfillsLog : MemberView → List Run → Type 0
OverfillsLog m sectors =
    (list : List Run) × IsListMore (in_runs sectors) m list × (HasRoomToSpare m.superblock list → ⊥)

-- The list of member k grows by what its image lacks, as far as it counts, and nothing else of it changes. Where it need not fit its
-- log, it grows whatever room that has.
pub record ListGrows (how : Growth) (lacking : Maps) (a : ArrayView) (k : ℕ) (m n : MemberView) : Type 0 where
  pub lacks : IsLacking lacking a k
  pub sectors : List Run
  pub are : AreCountedAsListed how.before_resync lacking a k m sectors
  pub room : how.must_fit ≡ true → FitsMore m sectors
  pub list : List Run
  pub list_is : IsListMore (in_runs sectors) m list
  pub member : n ≡ record m { bad = list }

-- With these sectors the list would not fit its log, though it has to. Before a resync it grows by those of marked chunks alone, so that
-- the resync takes them from other members.
pub record ListGrowsMarked (how : Growth) (lacking : Maps) (a : ArrayView) (k : ℕ)
    (m n : MemberView) : Type 0 where
  pub lacks : IsLacking lacking a k
  pub must_fit : how.must_fit ≡ true
  pub unresynced : a.resynced ≡ false
  pub all : List Run
  pub are : AreCountedAsListed how.before_resync lacking a k m all
  pub full : OverfillsLog m all
  pub sectors : List Run
  pub marked : (s : ℕ) → IsBad sectors s ↔ (IsBad all s × (in_chunks a.chunks a.marks s ≡ true))
  pub list : List Run
  pub list_is : IsListMore (in_runs sectors) m list
  pub member : n ≡ record m { bad = list }

-- The list would not fit its log, though it has to, and the array is resynced: the member is as before.
pub record ListStays (how : Growth) (lacking : Maps) (a : ArrayView) (k : ℕ) (m n : MemberView) : Type 0 where
  pub lacks : IsLacking lacking a k
  pub must_fit : how.must_fit ≡ true
  pub resynced : a.resynced ≡ true
  pub sectors : List Run
  pub are : AreCountedAsListed how.before_resync lacking a k m sectors
  pub full : OverfillsLog m sectors
  pub member : n ≡ m

abbrev pub IsRegarded : Growth → Maps → ArrayView → ℕ → MemberView → MemberView → Type 0
IsRegarded how lacking a k m n =
    ListGrows how lacking a k m n
    ⊎ (ListGrowsMarked how lacking a k m n
    ⊎ (ListStays how lacking a k m n ⊎ ((IsLacking lacking a k → ⊥) × (n ≡ m))))

-- The list of member k grows by what its image lacks, where it may, and nothing else changes.
pub record RegardsOne (how : Growth) (lacking : Maps) (k : ℕ) (old new : MirrorView) : Type 0 where
  pub disks : new.disks ≡ old.disks
  pub others : new.array ≡ record old.array { members = new.array.members }
  pub as_many : length new.array.members ≡ length old.array.members
  pub member : (m n : MemberView) → IsMember old.array k m → IsMember new.array k n
      → IsRegarded how lacking old.array k m n
  pub beside : (j : ℕ) → j ≢ k → slice_get new.array.members j ≡ slice_get old.array.members j

-- The list of each member grows by what its image lacks, where it may, and nothing else changes.
pub record Regards (how : Growth) (lacking : Maps) (old new : MirrorView) : Type 0 where
  pub disks : new.disks ≡ old.disks
  pub others : new.array ≡ record old.array { members = new.array.members }
  pub as_many : length new.array.members ≡ length old.array.members
  pub each : (k : ℕ) (m n : MemberView) → IsMember old.array k m → IsMember new.array k n
      → IsRegarded how lacking old.array k m n

-- ---- opening
-- The devices make a mirror, and what the images lack counts then as part of the lists.
pub record OpensLacking (how : Growth) (lacking : Maps) (before : List Disk) (m : MirrorView) : Type 0 where
  pub opened : MirrorView
  pub opens : IsOpenedFrom before opened
  pub regards : Regards how lacking opened m

-- The devices make a mirror, some image lacks sectors of the array, and there is no memory for a list with these.
pub record HasNoListMemory (lacking : Maps) (before after : List Disk) (fault : OpenFault) : Type 0 where
  pub opened : MirrorView
  pub opens : IsOpenedFrom before opened
  pub some : (k : ℕ) × IsLacking lacking opened.array k
  pub is : fault ≡ NoMemory
  pub devices : after ≡ opened.disks

abbrev pub RefusesLackingImages : Maps → List Disk → List Disk → OpenFault → Type 0
RefusesLackingImages lacking before after fault =
    RefusesOpen before after fault ⊎ HasNoListMemory lacking before after fault
