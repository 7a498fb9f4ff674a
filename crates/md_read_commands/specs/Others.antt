-- A sector that the member did not give from which a resync would copy it is read from another member in sync, which may hold something else
-- there: an older write, or a newer one. Where none in sync gives a sector, it is read from a member whose superblock was made in memory.
use Rattle.std.specs.Prelude.{◌≡◌, ◌≢◌, ◌⊎◌, ℕ, ◌<◌, Bool, true, false, List}
use Rattle.md_kept_members.specs.View.{MemberView}
use Rattle.md_state.specs.Members.{IsInSync, IsMember}
use Rattle.md_state.specs.Rests.{Rests}
use Rattle.md_state.specs.Steps.CopyData.{Lists}
use Rattle.md_state.specs.Steps.ReadData.{HoldsData}
use Rattle.md_state.specs.View.{MirrorView}
use Rattle.md_read.specs.Reading.{HasNotGiven, NoneGives}
use Rattle.md_read.specs.Unresynced.{NoneGivesPart, SourceFails}
use Rattle.md_resync.specs.declared.fault.ResyncFault.TheVariants.{ReadFault}
use Rattle.md_refusals.specs.declared.fault.CommandFault.{CommandFault}
use Rattle.md_refusals.specs.declared.fault.CommandFault.TheVariants.{Resync}
use Rattle.md_read_commands.specs.StandIn.{GivesAsStandIn, IsStandIn}
use Rattle.md_read_commands.specs.declared.way.Way.{Way}
use Rattle.md_read_commands.specs.declared.way.Way.TheVariants.{Resynced, Unresynced}

-- Member k is in sync, does not list the sector, and holds these bytes there.
pub record GivesAlone (k s : ℕ) (block : List ℕ) (old new : MirrorView) : Type 0 where
  pub rests : Rests old new
  pub member : MemberView
  pub in_sync : IsInSync old.array k member
  pub unlisted : Lists member s → ⊥
  pub holds : HoldsData old k s block

-- These bytes are of the first member in sync that gave the sector, but for member k, which was not asked.
pub record GivesOther (k s : ℕ) (block : List ℕ) (old new : MirrorView) : Type 0 where
  pub from : ℕ
  pub apart : from ≢ k
  pub gives : GivesAlone from s block old new
  pub earlier : (j : ℕ) (m : MemberView) → j < from → j ≢ k → IsInSync old.array j m
      → HasNotGiven j m s s 1 old new

-- None of them gave it.
pub record NoOtherGives (k s : ℕ) (old new : MirrorView) : Type 0 where
  pub rests : Rests old new
  pub none : (j : ℕ) (m : MemberView) → j ≢ k → IsInSync old.array j m → HasNotGiven j m s s 1 old new

-- No member in sync gave the sector. Of an array that is not resynced: or the member from which a resync would copy it could not be read.
abbrev pub IsNotGiven : Way → ℕ → MirrorView → MirrorView → Type 0
IsNotGiven Resynced s old new = NoneGives s old new
IsNotGiven Unresynced s old new = NoneGivesPart s old new ⊎ ((k : ℕ) × SourceFails k s old new)

-- These bytes are of the first member that gave the sector of those whose superblock was made in memory.
pub record GivesFirstStandIn (s : ℕ) (block : List ℕ) (old new : MirrorView) : Type 0 where
  pub from : ℕ
  pub gives : GivesAsStandIn from s block old new
  pub earlier : (j : ℕ) (m : MemberView) → j < from → IsMember old.array j m → IsStandIn m.state m.superblock
      → HasNotGiven j m s s 1 old new

-- No member in sync gave it, and it is of such a one.
pub record IsTakenFromStandIn (way : Way) (s : ℕ) (block : List ℕ) (old new : MirrorView) : Type 0 where
  pub not_given : IsNotGiven way s old new
  pub none : NoneGives s old new
  pub gives : GivesFirstStandIn s block old new

-- The sector is another member's: the one from which a resync would copy it could not be read there; or no member in sync gave it. Of a
-- resynced array each is of a member whose superblock was made in memory.
abbrev pub IsTakenFromOther : Way → ℕ → List ℕ → MirrorView → MirrorView → Type 0
IsTakenFromOther Resynced s block old new = IsTakenFromStandIn Resynced s block old new
IsTakenFromOther Unresynced s block old new =
    ((k : ℕ) × SourceFails k s old new × GivesOther k s block old new)
    ⊎ IsTakenFromStandIn Unresynced s block old new

-- ---- who is asked
-- member j, if it is not member k
abbrev pub AsksMember : ℕ → ℕ → ℕ → List ℕ → MirrorView → MirrorView → Bool → Type 0
AsksMember k j s block old new true = (j ≢ k) × GivesAlone j s block old new
AsksMember k j s block old new false =
    Rests old new × ((m : MemberView) → j ≢ k → IsInSync old.array j m → HasNotGiven j m s s 1 old new)

abbrev pub AsksOthersThan : ℕ → ℕ → List ℕ → MirrorView → MirrorView → Bool → Type 0
AsksOthersThan k s block old new true = GivesOther k s block old new
AsksOthersThan k s block old new false = NoOtherGives k s old new

-- Others in sync are asked only where a read ended by a member's fault.
abbrev pub IsGivenInSync : CommandFault → ℕ → List ℕ → MirrorView → MirrorView → Type 0
IsGivenInSync (Resync (ReadFault k c)) s block old new = GivesOther k s block old new
IsGivenInSync fault s block old new = ⊥

abbrev pub IsGivenByNoneInSync : CommandFault → ℕ → MirrorView → MirrorView → Type 0
IsGivenByNoneInSync (Resync (ReadFault k c)) s old new = NoOtherGives k s old new
IsGivenByNoneInSync fault s old new = new ≡ old

abbrev pub AsksInSync : CommandFault → ℕ → List ℕ → MirrorView → MirrorView → Bool → Type 0
AsksInSync fault s block old new true = IsGivenInSync fault s block old new
AsksInSync fault s block old new false = IsGivenByNoneInSync fault s old new

-- member k, if its superblock was made in memory
abbrev pub AsksStandIn : ℕ → ℕ → List ℕ → MirrorView → MirrorView → Bool → Type 0
AsksStandIn k s block old new true = GivesAsStandIn k s block old new
AsksStandIn k s block old new false =
    Rests old new
    × ((m : MemberView) → IsMember old.array k m → IsStandIn m.state m.superblock
    → HasNotGiven k m s s 1 old new)

-- None of those gave it: each lists it, or a read of it failed.
pub record NoStandInGives (s : ℕ) (old new : MirrorView) : Type 0 where
  pub rests : Rests old new
  pub none : (j : ℕ) (m : MemberView) → IsMember old.array j m → IsStandIn m.state m.superblock
      → HasNotGiven j m s s 1 old new

-- all such members, one after another
abbrev pub AsksStandIns : ℕ → List ℕ → MirrorView → MirrorView → Bool → Type 0
AsksStandIns s block old new true = GivesFirstStandIn s block old new
AsksStandIns s block old new false = NoStandInGives s old new

-- None in sync gave it, and then such a member did.
pub record IsGivenByStandIn (fault : CommandFault) (s : ℕ) (block : List ℕ)
    (old new : MirrorView) : Type 0 where
  pub mid : MirrorView
  pub none : IsGivenByNoneInSync fault s old mid
  pub gives : GivesFirstStandIn s block mid new

abbrev pub IsGivenByOther : CommandFault → ℕ → List ℕ → MirrorView → MirrorView → Type 0
IsGivenByOther fault s block old new =
    IsGivenInSync fault s block old new ⊎ IsGivenByStandIn fault s block old new

-- nobody gave it
pub record IsGivenByNoOther (fault : CommandFault) (s : ℕ) (old new : MirrorView) : Type 0 where
  pub mid : MirrorView
  pub none : IsGivenByNoneInSync fault s old mid
  pub last : NoStandInGives s mid new

abbrev pub AsksOthers : CommandFault → ℕ → List ℕ → MirrorView → MirrorView → Bool → Type 0
AsksOthers fault s block old new true = IsGivenByOther fault s block old new
AsksOthers fault s block old new false = IsGivenByNoOther fault s old new
