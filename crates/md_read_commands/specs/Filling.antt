-- Sectors of the array are read and put out with zeros in the place of those that nobody gives. Of an array that is not resynced, what
-- another member has is put out in the place of those that the member does not give from which a resync would copy them; and of any array
-- what a member has whose superblock was made in memory, in the place of those that no member in sync gives.
use Rattle.std.specs.Prelude.{◌^◌, ◌≡◌, ◌⊎◌, ◌↔◌, ℕ, ◌+◌, ◌*◌, ◌-◌, ◌/◌, ◌%◌, ◌<◌, ◌≤◌, Bool, true, false, List, length, replicate, take, Option, Some, None, Result, Ok, Err, MatchResult}
use Rattle.md_badblocks.specs.declared.run.Run.{Run}
use Rattle.md_badblocks.specs.Runs.{IsBad}
use Rattle.md_device.specs.Device.{held}
use Rattle.md_model.specs.Content.{Content, HoldsAtRest}
use Rattle.md_model.specs.Worlds.{IsQuiet, Request}
use Rattle.md_streams.specs.declared.sink.Sink.{Ghosts}
use Rattle.md_streams.specs.Sink.{Puts}
use Rattle.md_streams.specs.Putting.{PutsOut}
use Rattle.md_read.specs.declared.fault.UnreadFault.{UnreadFault}
use Rattle.md_read.specs.declared.fault.UnreadFault.TheVariants.{Halted, NotResynced, OutOfRange, Unreadable}
use Rattle.md_read.specs.Reading.{HasReadFailed, NoneGives}
use Rattle.md_kept_members.specs.View.{MemberView}
use Rattle.md_state.specs.Steps.CopyData.{Lists}
use Rattle.md_state.specs.Members.{IsInSync}
use Rattle.md_state.specs.Requests.{AreInFlight}
use Rattle.md_state.specs.Rests.{Rests}
use Rattle.md_state.specs.View.{MirrorView, geometry_of}
use Rattle.md_array.specs.Worlds.{AreHonest, world_of}
use Rattle.md_refusals.specs.declared.fault.CommandFault.{CommandFault}
use Rattle.md_refusals.specs.declared.fault.CommandFault.TheVariants.{NoPieceMemory, OutputFault, Read, Resync}
use Rattle.md_streams.specs.declared.gaps.Gaps.{Gaps}
use Rattle.md_read_commands.specs.declared.way.Way.{Way}
use Rattle.md_read_commands.specs.declared.way.Way.TheVariants.{Resynced}
use Rattle.md_streams.specs.Gaps.{AreFit, HasNoGaps, HasSomeGapsOf, IsGap, IsKeptAt, IsSameAt, no_gaps}
use Rattle.md_read_commands.specs.Others.{IsGivenByNoOther, IsGivenByOther, IsNotGiven, IsTakenFromOther}
use Rattle.md_read_commands.specs.Reading.{IsReadyTo, RefusesReady}
use Rattle.md_read_commands.specs.Ways.{ReadsBy}

-- a sector of zeros
unfoldable pub zeros : List ℕ
zeros = replicate 512 0

-- ---- what is read
module _ (way : Way) where
  -- A read gave the sector these bytes, and others perhaps with it. It was done between the two.
  pub record IsGivenByRead (s : ℕ) (block : List ℕ) (old new : MirrorView) : Type 0 where
    pub mid : MirrorView
    pub later : MirrorView
    pub before : Rests old mid
    pub from : ℕ
    pub bytes : List ℕ
    pub reads : ReadsBy way from bytes mid later
    pub after : Rests later new
    pub low : from ≤ s
    pub high : s < from + length bytes / 512
    pub is : block ≡ held bytes (s - from) 512

  -- These bytes stand for sectors from this one on: what a read gave; of each that is another's, what that member has; and of each that is
  -- missing, zeros. It is just those another's that the way did not give and another member did, and just those missing that nobody gave.
  pub record FillsSectors (sector : ℕ) (bytes : List ℕ) (gaps : Gaps)
      (old new : MirrorView) : Type 0 where
    pub whole : length bytes % 512 ≡ 0
    pub rests : Rests old new
    pub given : (i : ℕ) → i < length bytes / 512 → (IsGap gaps (sector + i) → ⊥)
        → IsGivenByRead (sector + i) (held bytes i 512) old new
    pub apart : (i : ℕ) → i < length bytes / 512 → IsBad gaps.missing (sector + i)
        → IsBad gaps.others (sector + i) → ⊥
    -- The mirror as each sector was asked for, and when that was over. One comes after another, so that a read which failed for one is none
    -- that failed for another.
    pub asked : ℕ → MirrorView
    pub over : ℕ → MirrorView
    pub begins : (i : ℕ) → i < length bytes / 512 → Rests old (asked i)
    pub within : (i : ℕ) → i < length bytes / 512 → Rests (asked i) (over i)
    pub ends : (i : ℕ) → i < length bytes / 512 → Rests (over i) new
    pub in_turn : (i j : ℕ) → i < j → j < length bytes / 512 → Rests (over i) (asked j)
    pub lost : (i : ℕ) → i < length bytes / 512 → IsBad gaps.missing (sector + i)
        → (held bytes i 512 ≡ zeros) × IsNotGiven way (sector + i) (asked i) (over i)
        × NoneGives (sector + i) (asked i) (over i)
    pub taken : (i : ℕ) → i < length bytes / 512 → IsBad gaps.others (sector + i)
        → IsTakenFromOther way (sector + i) (held bytes i 512) (asked i) (over i)

  -- no other sector is missing, or another's
  pub record IsFilled (sector : ℕ) (bytes : List ℕ) (gaps : Gaps) (old new : MirrorView) : Type 0 where
    pub fills : FillsSectors sector bytes gaps old new
    pub within : (s : ℕ) → IsGap gaps s → (sector ≤ s) × (s < sector + length bytes / 512)

  -- so it is of some sectors from the first of a range on: not of all, perhaps
  pub record FillsSome (sector count : ℕ) (gaps : Gaps) (old new : MirrorView) : Type 0 where
    pub bytes : List ℕ
    pub few : length bytes ≤ 512 * count
    pub filled : IsFilled sector bytes gaps old new

-- What is read of a resynced array so is its content: where devices do what they answer, and the members in sync hold a content at rest,
-- these are its bytes in each sector that was given and that no request in flight touches.
abbrev pub FillsContent : Type 0
FillsContent =
    (sector : ℕ) (bytes : List ℕ) (gaps : Gaps) (old new : MirrorView)
    → FillsSectors Resynced sector bytes gaps old new
    → AreHonest old.disks → (requests : ℕ → Option Request) → AreInFlight old.array requests
    → (a : Content) → HoldsAtRest (geometry_of old.array) a (world_of old requests)
    → (i : ℕ) → i < length bytes / 512 → (IsGap gaps (sector + i) → ⊥)
    → IsQuiet (world_of old requests) (sector + i)
    → held bytes i 512 ≡ a (sector + i)

-- Which sectors are missing, in whichever way they are read: each member in sync lists them, or a read of that very sector failed on its
-- device as it was asked for. This is so of any devices, also of those that don't do what they answer.
abbrev pub MissesUnserved : Type 0
MissesUnserved =
    (way : Way) (sector : ℕ) (bytes : List ℕ) (gaps : Gaps) (old new : MirrorView)
    → (fills : FillsSectors way sector bytes gaps old new)
    → (i : ℕ) → i < length bytes / 512 → IsBad gaps.missing (sector + i)
    → (k : ℕ) (m : MemberView) → IsInSync old.array k m
    → Lists m (sector + i) ⊎ HasReadFailed k (sector + i) 1 (fills.asked i) (fills.over i)

-- ---- a part of a longer range
-- no sector from this one on is one of them yet
abbrev pub IsClear : Gaps → ℕ → Type 0
IsClear gaps sector = (s : ℕ) → IsGap gaps s → s < sector

module _ (way : Way) where
  -- of other sectors it stays known which are
  pub record FillsMore (sector : ℕ) (bytes : List ℕ) (was gaps : Gaps)
      (old new : MirrorView) : Type 0 where
    pub fills : FillsSectors way sector bytes gaps old new
    pub outside : (s : ℕ) → (s < sector) ⊎ (sector + length bytes / 512 ≤ s) → IsSameAt gaps was s

  -- so many sectors at the front of these bytes
  pub record FillsFront (sector sectors : ℕ) (bytes : List ℕ) (was gaps : Gaps)
      (old new : MirrorView) : Type 0 where
    pub some : 0 < sectors
    pub few : sectors ≤ length bytes / 512
    pub more : FillsMore sector (take (512 * sectors) bytes) was gaps old new

  -- no more sectors than a piece has
  pub record FillsSomeMore (sector count : ℕ) (was gaps : Gaps) (old new : MirrorView) : Type 0 where
    pub bytes : List ℕ
    pub few : length bytes ≤ 512 * count
    pub more : FillsMore sector bytes was gaps old new

  -- Sectors were filled, all that were asked for, and which of them were not given was not noted with those before, since there was no memory
  -- for that: some of them are noted perhaps, and nothing else.
  pub record FillsUnnoted (sector count : ℕ) (was noted : Gaps) (old new : MirrorView) : Type 0 where
    pub bytes : List ℕ
    pub few : length bytes ≤ 512 * count
    pub gaps : Gaps
    pub more : FillsMore sector bytes no_gaps gaps old new
    pub part : HasSomeGapsOf was gaps noted
    pub s : ℕ
    pub lacks : IsGap gaps s

-- a sector that was not given is noted, and no other
pub record NotesOne (s : ℕ) (was now : List Run) : Type 0 where
  pub noted : (t : ℕ) → IsBad now t ↔ (IsBad was t ⊎ (t ≡ s))
  pub fit : s < 2 ^ 54 → AreFit was → AreFit now

-- A sector that was not given, for this reason, is another member's and noted as such, or zeros stand in its place, and it is noted as
-- missing.
abbrev pub FillsBlock : CommandFault → ℕ → List ℕ → Gaps → Gaps → MirrorView → MirrorView → Type 0
FillsBlock fault s block was now old new =
    (IsGivenByOther fault s block old new × NotesOne s was.others now.others × (now.missing ≡ was.missing))
    ⊎ (IsGivenByNoOther fault s old new × (block ≡ zeros) × NotesOne s was.missing now.missing
    × (now.others ≡ was.others))

-- ---- what is put out
module _ {S : Type 0} (o : Ghosts S) (way : Way) where
  pub record PutsFilled (sector count : ℕ) (gaps : Gaps) (old new : MirrorView)
      (before after : S) : Type 0 where
    pub bytes : List ℕ
    pub many : length bytes ≡ 512 * count
    pub filled : IsFilled way sector bytes gaps old new
    pub shown : PutsOut o before after bytes

  -- the output took some of those that were read, from the first on
  pub record PutsSome (sector count : ℕ) (gaps : Gaps) (old new : MirrorView)
      (before after : S) : Type 0 where
    pub some : FillsSome way sector count gaps old new
    pub taken : ℕ
    pub puts : Puts o.contents o.failed before after (take taken some.bytes)

  -- there is no memory for a piece
  pub record ReadsNothing (gaps : Gaps) (old new : MirrorView) (before after : S) : Type 0 where
    pub none : HasNoGaps gaps
    pub unread : new ≡ old
    pub unwritten : after ≡ before

  -- The pieces before one were put out. That one was filled whole too, and there is no memory to note all that was not given of it. Noted is
  -- what was not given of what was put out, and perhaps more of it.
  pub record PutsUntilUnnoted (sector count : ℕ) (noted : Gaps) (old new : MirrorView)
      (before after : S) : Type 0 where
    pub gaps : Gaps
    pub put : PutsSome sector count gaps old new before after
    pub told : (s : ℕ) → s < sector + put.taken / 512 → IsKeptAt gaps noted s
    pub only : (s : ℕ) → IsKeptAt noted gaps s
    pub s : ℕ
    pub lacks : IsGap gaps s
    pub from : sector + put.taken / 512 ≤ s

  -- There is no memory, which is taken for a piece and for what is not given alone, or the output failed. No sector that is not given
  -- ends it.
  abbrev pub RefusesFilled : ℕ → ℕ → Gaps → MirrorView → MirrorView → S → S → CommandFault → Type 0
  RefusesFilled sector count gaps old new before after NoPieceMemory =
      ReadsNothing gaps old new before after
      ⊎ PutsUntilUnnoted sector count gaps old new before after
  RefusesFilled sector count gaps old new before after OutputFault =
      FillsSome way sector count gaps old new × (o.failed after ≡ true)
  RefusesFilled sector count gaps old new before after reason = ⊥

  -- a piece of a longer range
  pub record PutsFilledPiece (sector : ℕ) (piece : List ℕ) (was gaps : Gaps) (old new : MirrorView)
      (before after : S) : Type 0 where
    pub more : FillsMore way sector piece was gaps old new
    pub puts : Puts o.contents o.failed before after piece

  abbrev pub RefusesFilledPiece : ℕ → ℕ → Gaps → Gaps → MirrorView → MirrorView → S → S → CommandFault
      → Type 0
  RefusesFilledPiece sector count was gaps old new before after NoPieceMemory =
      FillsUnnoted way sector count was gaps old new × (after ≡ before)
  RefusesFilledPiece sector count was gaps old new before after OutputFault =
      FillsSomeMore way sector count was gaps old new × (o.failed after ≡ true)
  RefusesFilledPiece sector count was gaps old new before after reason = ⊥

-- ---- the command
-- the first sector of a set
pub record IsLeastOf (set : List Run) (s : ℕ) : Type 0 where
  pub is : IsBad set s
  pub least : (t : ℕ) → IsBad set t → s ≤ t

-- The sector is the first of those that were not given: it is missing, or another's.
pub record IsLeastGap (gaps : Gaps) (s : ℕ) : Type 0 where
  pub is : IsGap gaps s
  pub least : (t : ℕ) → IsGap gaps t → s ≤ t

-- as the answer of a read says it
abbrev pub IsFirstGap : Gaps → UnreadFault → Type 0
IsFirstGap gaps (Unreadable s) = IsLeastGap gaps s
IsFirstGap gaps fault = ⊥

module _ {S : Type 0} (o : Ghosts S) (readonly : Bool) (sector count : ℕ) (gaps : Gaps)
    (old new : MirrorView) (before after : S) where
  -- all of them are put out
  pub record PutsAll : Type 0 where
    pub way : Way
    pub ready : MirrorView
    pub readied : IsReadyTo readonly sector count old way ready
    pub puts : PutsFilled o way sector count gaps ready new before after

  -- it is ready, and not all of them are
  pub record FailsToPutAll (fault : CommandFault) : Type 0 where
    pub way : Way
    pub ready : MirrorView
    pub readied : IsReadyTo readonly sector count old way ready
    pub refused : RefusesFilled o way sector count gaps ready new before after fault

  pub record FillsArray : Type 0 where
    pub puts : PutsAll
    pub none : HasNoGaps gaps

  -- it is not made ready to be read
  pub record IsNotReady (fault : CommandFault) : Type 0 where
    pub refused : RefusesReady readonly sector count old new fault
    pub unwritten : after ≡ before
    pub none : HasNoGaps gaps

  abbrev pub RefusesToFill : CommandFault → Type 0
  RefusesToFill NoPieceMemory = FailsToPutAll NoPieceMemory
  RefusesToFill OutputFault = FailsToPutAll OutputFault
  RefusesToFill (Read (Unreadable s)) = PutsAll × IsLeastGap gaps s
  RefusesToFill (Read Halted) = IsNotReady (Read Halted)
  RefusesToFill (Read OutOfRange) = IsNotReady (Read OutOfRange)
  RefusesToFill (Read NotResynced) = IsNotReady (Read NotResynced)
  RefusesToFill (Resync fault) = IsNotReady (Resync fault)
  RefusesToFill fault = ⊥

-- Which were not given, where sectors were put out: all of them, or those before the end came. So for no sector zeros are put out untold,
-- nor what another member has.
abbrev pub told_gaps : Gaps → Result (Unit {0}) CommandFault → Option Gaps
told_gaps gaps (Ok _) = Some gaps
told_gaps gaps (Err (Read (Unreadable s))) = Some gaps
told_gaps gaps (Err NoPieceMemory) = Some gaps
told_gaps gaps (Err OutputFault) = Some gaps
told_gaps gaps (Err fault) = None

-- all sectors are put out, with something in the place of those that were not given
abbrev pub has_put_all : Result (Unit {0}) CommandFault → Bool
has_put_all (Ok _) = true
has_put_all (Err (Read (Unreadable s))) = true
has_put_all (Err fault) = false

module _ {S : Type 0} (o : Ghosts S) (readonly : Bool) (sector count : ℕ) (old new : MirrorView)
    (before after : S) where
  pub record ReadsFilled (told : Option Gaps) (result : Result (Unit {0}) CommandFault) : Type 0 where
    pub gaps : Gaps
    pub told_is : told ≡ told_gaps gaps result
    pub gives : MatchResult result
        (λ _. FillsArray o readonly sector count gaps old new before after)
        (RefusesToFill o readonly sector count gaps old new before after)
