-- The faults of a superblock, each by itself: those that stand, whatever others do.
use Rattle.std.specs.Prelude.{ℕ, ◌*◌, ◌-◌, ◌≤◌, ◌==◌, ◌&&◌, ◌||◌, not, nat_lt, nat_le, if◌then◌else◌, Bool, true, false, List, [], ◌∷◌, ◌++◌, codes, decimal}
use Rattle.std.specs.List.{flat_map}
use Rattle.md_format.specs.Fields.{number_at}
use Rattle.md_super.specs.Checksum.{checksum_of}
use Rattle.md_super.specs.Faults.{SuperFaultStands}
use Rattle.md_super.specs.Profile.{unsupported_features}
use Rattle.md_super.specs.declared.fault.SuperFault.{SuperFault}
use Rattle.md_super.specs.declared.fault.SuperFault.TheVariants.{Magic, Major, MaxDev, Checksum, SuperOffset, Feature, Level, RaidDisks, NoMemory}
use Rattle.md_examine.specs.Lines.{line_text}

-- The fault stands, and can be told: what more roles than 4096 bytes have room for sum up to is not known.
abbrev pub IsSuperFaultSeen : List ℕ → SuperFault → Type 0
IsSuperFaultSeen bytes Checksum = (number_at 4 220 bytes ≤ 1920) × SuperFaultStands bytes Checksum
IsSuperFaultSeen bytes NoMemory = ⊥
IsSuperFaultSeen bytes fault = SuperFaultStands bytes fault

-- Whether the fault stands, and can be told, as a test.
abbrev pub super_fault_stands : List ℕ → SuperFault → Bool
super_fault_stands bytes Magic = not (number_at 4 0 bytes == 0xa92b4efc)
super_fault_stands bytes Major = not (number_at 4 4 bytes == 1)
super_fault_stands bytes MaxDev = nat_lt 1920 (number_at 4 220 bytes)
super_fault_stands bytes Checksum = nat_le (number_at 4 220 bytes) 1920 && not (number_at 4 216 bytes == checksum_of bytes (number_at 4 220 bytes))
super_fault_stands bytes SuperOffset = not (number_at 8 144 bytes == 8)
super_fault_stands bytes (Feature bits) = (bits == unsupported_features (number_at 4 8 bytes)) && not (bits == 0)
super_fault_stands bytes Level = not (number_at 4 72 bytes == 1)
super_fault_stands bytes RaidDisks = (number_at 4 92 bytes == 0) || nat_lt 32 (number_at 4 92 bytes)
super_fault_stands bytes NoMemory = false

-- the faults that may stand in the bytes, in the order in which a superblock is refused by them
abbrev pub faults_of : List ℕ → List SuperFault
faults_of bytes =
    Magic ∷ Major ∷ MaxDev ∷ Checksum ∷ SuperOffset ∷ Feature (unsupported_features (number_at 4 8 bytes)) ∷ Level
    ∷ RaidDisks ∷ []

abbrev pub super_fault_name : SuperFault → List ℕ
super_fault_name Magic = codes "Magic"
super_fault_name Major = codes "Major"
super_fault_name MaxDev = codes "MaxDev"
super_fault_name Checksum = codes "Checksum"
super_fault_name SuperOffset = codes "SuperOffset"
super_fault_name (Feature bits) = codes "Feature"
super_fault_name Level = codes "Level"
super_fault_name RaidDisks = codes "RaidDisks"
super_fault_name NoMemory = codes "NoMemory"

-- A line with the fault's name, and the value of that which has one.
abbrev pub fault_line : List ℕ → SuperFault → List ℕ
fault_line label (Feature bits) = line_text label (codes "Feature " ++ decimal bits)
fault_line label fault = line_text label (super_fault_name fault)

-- ---- where only the first so many sectors could be read
-- the roles for which they have room
abbrev pub roles_read_in : ℕ → ℕ
roles_read_in read = 256 * read - 128

-- whether it can be told by them: that of the checksum where they hold all that it covers
abbrev pub is_told : ℕ → List ℕ → SuperFault → Bool
is_told read bytes Checksum = nat_le (number_at 4 220 bytes) (roles_read_in read)
is_told read bytes fault = true

-- A fault can be told of what was read, and stands.
abbrev pub is_seen : ℕ → List ℕ → SuperFault → Bool
is_seen read bytes fault = is_told read bytes fault && super_fault_stands bytes fault

-- a line then
abbrev pub super_fault_text : List ℕ → ℕ → List ℕ → SuperFault → List ℕ
super_fault_text label read bytes fault = if is_seen read bytes fault then fault_line label fault else []

-- a line for each, where a sector could be read at all
unfoldable pub faults_text : List ℕ → ℕ → List ℕ → List ℕ
faults_text label read bytes = if read == 0 then [] else flat_map (super_fault_text label read bytes) (faults_of bytes)
