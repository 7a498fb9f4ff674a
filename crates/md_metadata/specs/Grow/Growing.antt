-- The members get their bitmaps, one after another.
use Rattle.std.specs.Prelude.{◌≡◌, ◌⊎◌, ℕ, ◌+◌, ◌*◌, ◌<◌, ◌≤◌, List, [], ◌∷◌, length, slice_get, Some}
use Rattle.md_members.specs.declared.info.MemberInfo.{MemberInfo}
use Rattle.md_array.specs.Open.Members.{AreRead, RefusesDeviceRead}
use Rattle.md_state.specs.View.{Disk}
use Rattle.md_kept_members.specs.OnDevices.Superblocks.{own_write}
use Rattle.md_state.specs.DeviceChanges.{AreSame, EachPair, IsUntouched}
use Rattle.md_super.specs.declared.superblock.Superblock.{Superblock}
use Rattle.md_metadata.specs.declared.bitmap_grow.fault.GrowFault.{GrowFault}
use Rattle.md_metadata.specs.declared.bitmap_grow.fault.GrowFault.TheVariants.{Member, MetadataFault, NoMemory}
use Rattle.md_metadata.specs.declared.bitmap_grow.growth.Growth.{Growth}
use Rattle.md_metadata.specs.Grow.Growth.{IsGrowth, RefusesGrowth}
use Rattle.md_metadata.specs.Grow.Stored.{FailsInPart, GetsBitmap, GetsSuperblock, GrowsMemberOn, bitmap_part, grow_writes, sectors_of}

-- as many devices as members, and each has room for the bitmap after the superblock
pub record FitGrowth (g : Growth) (disks : List Disk) : Type 0 where
  pub few : g.marks.chunks ≤ 1048576
  pub after_super : 16 ≤ g.start
  pub as_many : length disks ≡ length g.members.items
  pub room : (k : ℕ) (d : Disk) → slice_get disks k ≡ Some d → 512 * (g.start + sectors_of g) ≤ length d.content

-- member k got its bitmap
abbrev pub IsStoredAt : Growth → ℕ → Disk → Disk → Type 0
IsStoredAt g k d e = (info : MemberInfo) → slice_get g.members.items k ≡ Some info → GrowsMemberOn g info.superblock d e

-- each member did
pub record AllGrown (g : Growth) (before after : List Disk) : Type 0 where
  pub same : AreSame before after
  pub each : EachPair (IsStoredAt g) before after

-- `Done` holds of each device before number k, `Failed` of that one, and nothing was done to those after it
pub record EndsAtDevice (Done Failed : ℕ → Disk → Disk → Type 0) (before after : List Disk) (k : ℕ) : Type 0 where
  pub same : AreSame before after
  pub within : k < length before
  pub failed : (d e : Disk) → slice_get before k ≡ Some d → slice_get after k ≡ Some e → Failed k d e
  pub earlier : EachPair (λ j d e. j < k → Done j d e) before after
  pub later : EachPair (λ j d e. k < j → e ≡ d) before after

-- `Done` holds of each device
pub record AreDone (Done : ℕ → Disk → Disk → Type 0) (before after : List Disk) : Type 0 where
  pub same : AreSame before after
  pub each : EachPair Done before after

-- with member k's own superblock
abbrev pub OfMember : Growth → (Superblock → Disk → Disk → Type 0) → ℕ → Disk → Disk → Type 0
OfMember g So k d e = (info : MemberInfo) → slice_get g.members.items k ≡ Some info → So info.superblock d e

-- The bitmaps come first, on all members, so that each has one by the time that a superblock names it: a kernel reads the
-- bitmap of any member.
abbrev pub HaveBitmaps : Growth → List Disk → List Disk → Type 0
HaveBitmaps g = AreDone (λ k. GetsBitmap g)

abbrev pub EndsInBitmaps : Growth → List Disk → List Disk → ℕ → Type 0
EndsInBitmaps g = EndsAtDevice (λ k. GetsBitmap g) (λ k. FailsInPart g (bitmap_part g))

abbrev pub HaveSuperblocks : Growth → List Disk → List Disk → Type 0
HaveSuperblocks g = AreDone (OfMember g (GetsSuperblock g))

abbrev pub EndsNaming : Growth → List Disk → List Disk → ℕ → Type 0
EndsNaming g = EndsAtDevice (OfMember g (GetsSuperblock g)) (OfMember g (λ own. FailsInPart g (own_write g.shared own ∷ [])))

-- a write failed on member k, once all had their bitmaps: the members before it got all, and those after it the bitmap alone
pub record EndsInSuperblocks (g : Growth) (before after : List Disk) (k : ℕ) : Type 0 where
  pub same : AreSame before after
  pub within : k < length before
  pub failed : (d e : Disk) → slice_get before k ≡ Some d → slice_get after k ≡ Some e
      → OfMember g (λ own. FailsInPart g (grow_writes g own)) k d e
  pub earlier : EachPair (λ j d e. j < k → IsStoredAt g j d e) before after
  pub later : EachPair (λ j d e. k < j → GetsBitmap g d e) before after

-- what the fault of a failed write says of the member that it names
abbrev pub OnMember : (ℕ → Type 0) → GrowFault → Type 0
OnMember P (MetadataFault k) = P k
OnMember P _ = ⊥

abbrev pub RefusesStoring : Growth → List Disk → List Disk → GrowFault → Type 0
RefusesStoring g before after = OnMember (λ k. EndsInBitmaps g before after k ⊎ EndsInSuperblocks g before after k)

-- a device is not read as a member
abbrev pub RefusesGrowReading : List Disk → List Disk → GrowFault → Type 0
RefusesGrowReading before after (Member k fault) = RefusesDeviceRead before after k fault
RefusesGrowReading before after NoMemory = Unit {0}
RefusesGrowReading before after _ = ⊥

-- the devices were read, for which nothing is written, and the members get this
pub record FindsGrowth (chunk_bytes : ℕ) (before seen : List Disk) (g : Growth) : Type 0 where
  pub untouched : IsUntouched before seen
  pub infos : List MemberInfo
  pub read : AreRead before infos
  pub growth : IsGrowth infos chunk_bytes g

-- all were found, and got their bitmaps
pub record Grows (chunk_bytes : ℕ) (before after : List Disk) : Type 0 where
  pub growth : Growth
  pub seen : List Disk
  pub found : FindsGrowth chunk_bytes before seen growth
  pub stored : AllGrown growth seen after

-- all were found, and a write failed
pub record FailsToGrow (chunk_bytes : ℕ) (before after : List Disk) (fault : GrowFault) : Type 0 where
  pub growth : Growth
  pub seen : List Disk
  pub found : FindsGrowth chunk_bytes before seen growth
  pub stopped : RefusesStoring growth seen after fault

-- the members that were read get nothing
pub record RefusesMembers (chunk_bytes : ℕ) (before : List Disk) (fault : GrowFault) : Type 0 where
  pub infos : List MemberInfo
  pub read : AreRead before infos
  pub refused : RefusesGrowth infos chunk_bytes fault

-- why the members get no bitmap: nothing was written, but where a write failed
abbrev pub RefusesToGrow : ℕ → List Disk → List Disk → GrowFault → Type 0
RefusesToGrow chunk_bytes before after fault =
    (IsUntouched before after × (RefusesGrowReading before after fault ⊎ RefusesMembers chunk_bytes before fault))
    ⊎ FailsToGrow chunk_bytes before after fault
