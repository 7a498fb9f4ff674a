-- Why members make no array, and in which order that is found, which is this project's own.
use Rattle.std.specs.Prelude.{◌≡◌, ◌≢◌, ◌⊎◌, ℕ, ◌+◌, ◌<◌, List, length, false, Option, None, count_by, Result, MatchResult}
use Rattle.std.specs.List.{list_any}
use Rattle.std.specs.Option.{option_map}
use Rattle.md_format.specs.FirstFault.{NoneBefore, IsFirst}
use Rattle.md_members.specs.declared.info.MemberInfo.{MemberInfo}
use Rattle.md_assembly.specs.declared.fault.AssembleFault.{AssembleFault}
use Rattle.md_assembly.specs.declared.fault.AssembleFault.TheVariants.{Empty, TooMany, Stranger, DoubleNumber, NoBitmap, Geometry, DoubleRole, NotEnough, NoMemory}
use Rattle.md_assembly.specs.Assembled.{ByFreshest, superblocks}
use Rattle.md_assembly.specs.Listed.{IsLeast, MemberAt, PairAt}
use Rattle.md_assembly.specs.States.{is_in_sync, takes_role}

-- the member is of another array
abbrev pub IsStranger : MemberInfo → MemberInfo → Type 0
IsStranger first m = m.superblock.set_uuid ≢ first.superblock.set_uuid

abbrev pub HasSameNumber : MemberInfo → MemberInfo → Type 0
HasSameNumber a b = a.superblock.dev_number ≡ b.superblock.dev_number

-- No bitmap was read. Of a device that is where the superblock's feature map lacks BITMAP_OFFSET.
abbrev pub LacksBitmap : MemberInfo → Type 0
LacksBitmap m = m.header ≡ None

-- the bytes of a chunk, where there is a bitmap
abbrev pub chunk_size : MemberInfo → Option ℕ
chunk_size m = option_map (λ h. h.chunksize) m.header

abbrev pub HasOtherGeometry : MemberInfo → MemberInfo → Type 0
HasOtherGeometry first m =
    (m.superblock.size ≢ first.superblock.size)
    ⊎ (m.superblock.raid_disks ≢ first.superblock.raid_disks)
    ⊎ (chunk_size m ≢ chunk_size first)

-- two members have one device number, the second of them at this index
abbrev pub RepeatsNumber : List MemberInfo → ℕ → Type 0
RepeatsNumber members j = (i : ℕ) × (i < j) × PairAt HasSameNumber members i j

-- two members are in sync or recovering in this role
abbrev pub IsDoubleRole : List MemberInfo → ℕ → Type 0
IsDoubleRole members role = ByFreshest (λ states. 1 < count_by (takes_role role) states) (superblocks members)

-- the fault stands; running out of memory can always be found
abbrev pub AssembleFaultStands : List MemberInfo → AssembleFault → Type 0
AssembleFaultStands members Empty = length members ≡ 0
AssembleFaultStands members TooMany = 64 < length members
AssembleFaultStands members (Stranger i) = IsLeast (PairAt IsStranger members 0) i
AssembleFaultStands members (DoubleNumber i j) = (i < j) × PairAt HasSameNumber members i j × IsLeast (RepeatsNumber members) j
AssembleFaultStands members (NoBitmap i) = IsLeast (MemberAt LacksBitmap members) i
AssembleFaultStands members (Geometry i) = IsLeast (PairAt HasOtherGeometry members 0) i
AssembleFaultStands members (DoubleRole role) = IsLeast (IsDoubleRole members) role
AssembleFaultStands members NotEnough = ByFreshest (λ states. list_any is_in_sync states ≡ false) (superblocks members)
AssembleFaultStands members NoMemory = Unit {0}

-- the place of a fault in the order in which they are looked for
abbrev pub assemble_fault_place : AssembleFault → ℕ
assemble_fault_place Empty = 1
assemble_fault_place TooMany = 2
assemble_fault_place (Stranger i) = 3
assemble_fault_place (DoubleNumber i j) = 4
assemble_fault_place (NoBitmap i) = 5
assemble_fault_place (Geometry i) = 6
assemble_fault_place (DoubleRole role) = 7
assemble_fault_place NotEnough = 8
assemble_fault_place NoMemory = 9

-- no fault before the n-th place stands
abbrev pub NoneBeforePlace : List MemberInfo → ℕ → Type 0
NoneBeforePlace members n = NoneBefore (AssembleFaultStands members) assemble_fault_place n

-- no fault stands besides NoMemory
abbrev pub NoAssembleFault : List MemberInfo → Type 0
NoAssembleFault members = NoneBeforePlace members 9

-- the fault stands, and none that is looked for before it
abbrev pub IsFirstAssembleFault : List MemberInfo → AssembleFault → Type 0
IsFirstAssembleFault members f = IsFirst (AssembleFaultStands members) assemble_fault_place f

-- what a check of the faults at a place finds, once those at the earlier places are found not to stand
abbrev pub IsChecked : {T : Type 0} → List MemberInfo → ℕ → Result T AssembleFault → Type 0
IsChecked members n result = MatchResult result (λ _. NoneBeforePlace members (n + 1)) (IsFirstAssembleFault members)
