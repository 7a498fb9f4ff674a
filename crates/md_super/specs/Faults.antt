-- Why bytes are no superblock of this profile (`super_1_load` of the kernel's md driver, and this project's limits), and
-- in which order that is found, which is this project's own.
use Rattle.std.specs.Prelude.{◌≡◌, ◌≢◌, ℕ, ◌<◌, ◌==◌, ◌&&◌, nat_lt, nat_le, List, [], ◌∷◌, Option, ◌⊎◌, ◌≤◌}
use Rattle.md_format.specs.Fields.{number_at}
use Rattle.md_format.specs.FirstFault.{NoneBefore, IsFirst, Check, check, first_fault}
use Rattle.md_super.specs.Profile.{IsProfile, unsupported_features}
use Rattle.md_super.specs.Checksum.{checksum_of}
use Rattle.md_super.specs.declared.fault.SuperFault.{SuperFault}
use Rattle.md_super.specs.declared.fault.SuperFault.TheVariants.{Magic, Major, MaxDev, Checksum, SuperOffset, Feature, Level, RaidDisks, NoMemory}

-- the fault stands in the bytes; NoMemory can always come
abbrev pub SuperFaultStands : List ℕ → SuperFault → Type 0
SuperFaultStands bytes Magic = number_at 4 0 bytes ≢ 0xa92b4efc
SuperFaultStands bytes Major = number_at 4 4 bytes ≢ 1
SuperFaultStands bytes MaxDev = 1920 < number_at 4 220 bytes
SuperFaultStands bytes Checksum = number_at 4 216 bytes ≢ checksum_of bytes (number_at 4 220 bytes)
SuperFaultStands bytes SuperOffset = number_at 8 144 bytes ≢ 8
SuperFaultStands bytes (Feature bits) = (bits ≡ unsupported_features (number_at 4 8 bytes)) × (0 < bits)
SuperFaultStands bytes Level = number_at 4 72 bytes ≢ 1
SuperFaultStands bytes RaidDisks = (number_at 4 92 bytes ≡ 0) ⊎ (32 < number_at 4 92 bytes)
SuperFaultStands bytes NoMemory = Unit {0}

-- the place of a fault in the order in which they are looked for
abbrev pub super_fault_place : SuperFault → ℕ
super_fault_place Magic = 1
super_fault_place Major = 2
super_fault_place MaxDev = 3
super_fault_place Checksum = 4
super_fault_place SuperOffset = 5
super_fault_place (Feature bits) = 6
super_fault_place Level = 7
super_fault_place RaidDisks = 8
super_fault_place NoMemory = 9

-- no fault stands besides NoMemory
abbrev pub NoSuperFault : List ℕ → Type 0
NoSuperFault bytes = NoneBefore (SuperFaultStands bytes) super_fault_place 9

-- the fault stands, and none that is looked for before it
abbrev pub IsFirstSuperFault : List ℕ → SuperFault → Type 0
IsFirstSuperFault bytes f = IsFirst (SuperFaultStands bytes) super_fault_place f

-- the tests that the code makes, in their order: each finds whether its fault stands
abbrev pub checks : List ℕ → List (Check SuperFault)
checks bytes =
    check (number_at 4 0 bytes == 0xa92b4efc) Magic
    ∷ check (number_at 4 4 bytes == 1) Major
    ∷ check (nat_le (number_at 4 220 bytes) 1920) MaxDev
    ∷ check (number_at 4 216 bytes == checksum_of bytes (number_at 4 220 bytes)) Checksum
    ∷ check (number_at 8 144 bytes == 8) SuperOffset
    ∷ check (unsupported_features (number_at 4 8 bytes) == 0) (Feature (unsupported_features (number_at 4 8 bytes)))
    ∷ check (number_at 4 72 bytes == 1) Level
    ∷ check (nat_lt 0 (number_at 4 92 bytes) && nat_le (number_at 4 92 bytes) 32) RaidDisks
    ∷ []

-- the first fault besides NoMemory
unfoldable pub super_fault_of : List ℕ → Option SuperFault
super_fault_of bytes = first_fault (checks bytes)

-- what a reader of the fields needs of the bytes
pub record IsSoundSuper (bytes : List ℕ) : Type 0 where
  pub magic : number_at 4 0 bytes ≡ 0xa92b4efc
  pub major_version : number_at 4 4 bytes ≡ 1
  pub profile : IsProfile (number_at 4 8 bytes) (number_at 4 72 bytes) (number_at 4 92 bytes) (number_at 8 144 bytes)
  pub few_roles : number_at 4 220 bytes ≤ 1920
