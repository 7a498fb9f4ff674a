-- Which sectors are listed so that each log has room for them (this project's own).
use Rattle.std.specs.Prelude.{◌≡◌, ◌≢◌, ◌⊎◌, ℕ, ◌+◌, ◌^◌, ◌<◌, ◌≤◌, List, []}
use Rattle.md_badblocks.specs.declared.run.Run.{Run}
use Rattle.md_bitmap.specs.Marks.{Bitmap}
use Rattle.md_kept_members.specs.Enrolling.{HasRoomFor}
use Rattle.md_kept_members.specs.SectorLists.{IsListMore, IsListOf, in_chunks_but, in_runs}
use Rattle.md_kept_members.specs.View.{MemberView}
use Rattle.md_state.specs.Members.{IsInSync, IsMember}
use Rattle.md_state.specs.Steps.Enrol.{HasFullLog}
use Rattle.md_state.specs.View.{ArrayView}
use Rattle.md_copy.specs.Salvaging.Widened.{TakesFewest}
use Rattle.md_copy.specs.declared.beginning.fault.RebuildFault.{RebuildFault}
use Rattle.md_copy.specs.declared.beginning.fault.RebuildFault.TheVariants.{LogFull, NoMemory}

-- The target's log has room for its list once it gets these chunks but for the listed sectors.
abbrev pub HasOwnRoom : ℕ → Bitmap → ArrayView → List Run → Type 0
HasOwnRoom target missing a listed =
    (m : MemberView) (list : List Run) → IsMember a target m → IsListOf (in_chunks_but a.chunks missing listed) (in_runs listed) m list → HasRoomFor m.superblock list

-- The log of member k has room for its list with the listed sectors too, if the member is in sync and there are such sectors. Without them its list is
-- not stored, whatever room its log has.
abbrev pub HasRoomIfInSync : ArrayView → List Run → ℕ → Type 0
HasRoomIfInSync a listed k =
    listed ≢ [] → (m : MemberView) (list : List Run) → IsInSync a k m → IsListMore (in_runs listed) m list → HasRoomFor m.superblock list

-- The logs have room for lists with these sectors: that of the target, which lacks these chunks and gets all other sectors of them, and those of all
-- members in sync, if there are such sectors.
pub record HaveRoomFor (target : ℕ) (missing : Bitmap) (a : ArrayView) (listed : List Run) : Type 0 where
  pub own : HasOwnRoom target missing a listed
  pub in_sync : (k : ℕ) → HasRoomIfInSync a listed k

-- Member k is in sync, and its log has no room for its list with these sectors too, of which there are some.
pub record LacksRoomForMore (k : ℕ) (a : ArrayView) (listed : List Run) : Type 0 where
  pub some : listed ≢ []
  pub member : MemberView
  pub in_sync : IsInSync a k member
  pub list : List Run
  pub list_is : IsListMore (in_runs listed) member list
  pub full : HasRoomFor member.superblock list → ⊥

-- The log of member k has no room for its list with these sectors: it is the target, or one in sync.
abbrev pub LacksRoomAt : ℕ → Bitmap → List Run → ArrayView → ℕ → Type 0
LacksRoomAt target missing listed a k =
    ((k ≡ target) × HasFullLog target (in_chunks_but a.chunks missing listed) (in_runs listed) a) ⊎ LacksRoomForMore k a listed

-- Why it can't be said that the logs of all members in sync have room.
abbrev pub FailsLookInSync : List Run → ArrayView → RebuildFault → Type 0
FailsLookInSync listed a (LogFull k) = LacksRoomForMore k a listed
FailsLookInSync listed a NoMemory = Unit {0}
FailsLookInSync listed a fault = ⊥

-- Why it can't be said that all these logs have room: one has none, or memory is refused for a list on trial.
abbrev pub FailsLook : ℕ → Bitmap → List Run → ArrayView → RebuildFault → Type 0
FailsLook target missing listed a (LogFull k) = LacksRoomAt target missing listed a k
FailsLook target missing listed a NoMemory = Unit {0}
FailsLook target missing listed a fault = ⊥

-- Of the lists in which gaps up to these may be closed, one that takes the fewest entries does not fit into some log.
pub record LacksRoomWith (gap to target : ℕ) (missing : Bitmap) (lost : List Run) (a : ArrayView) : Type 0 where
  pub listed : List Run
  pub fewest : TakesFewest gap to a.chunks missing lost listed
  pub none : HaveRoomFor target missing a listed → ⊥

-- Each log has room. Where gaps of just this width are closed before `to`, some log has none if these are closed only before the sector in front of it.
pub record IsJustRoom (gap to target : ℕ) (missing : Bitmap) (lost : List Run) (a : ArrayView) (listed : List Run) : Type 0 where
  pub room : HaveRoomFor target missing a listed
  pub few : 0 < gap → (less : ℕ) × (to ≡ less + 1) × LacksRoomWith gap less target missing lost a

-- The lost ones are listed, and those between two of them, the narrowest gaps first, in the fewest entries, until each log has room: with any narrower
-- width some log has none, nor with fewer gaps of just this width, from the left. An entry of a log names at most 512 sectors, so that no gap of more than
-- 510 between two runs saves one. Where no width up to that gives each log room, the answer is of 510 all the same: then no list of the lost sectors takes
-- fewer entries. (Where some log lists sectors already, another choice of gaps might take fewer of it then.)
pub record IsFitting (target : ℕ) (missing : Bitmap) (lost : List Run) (a : ArrayView) (listed : List Run) : Type 0 where
  pub gap : ℕ
  pub to : ℕ
  pub widest : gap ≤ 510
  pub fewest : TakesFewest gap to a.chunks missing lost listed
  pub least : (less : ℕ) → less < gap → LacksRoomWith less (2 ^ 54) target missing lost a
  pub fits : ((gap ≡ 510) × (to ≡ 2 ^ 54) × LacksRoomWith 510 (2 ^ 54) target missing lost a) ⊎ IsJustRoom gap to target missing lost a listed
