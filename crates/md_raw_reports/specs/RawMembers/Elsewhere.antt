-- Other places of a device where a superblock of its set may stand.
use Rattle.std.specs.Prelude.{◌≡◌, ℕ, ◌-◌, ◌*◌, ◌/◌, Bool, true, List, [], ◌∷◌, length}
use Rattle.md_device.specs.Device.{held}
use Rattle.md_device.specs.declared.fault_list.Fault.{Fault}
use Rattle.md_members.specs.Reading.{IsReadOf}
use Rattle.md_format.specs.Fields.{number_at, bytes_at}
use Rattle.md_raw_reports.specs.declared.super_fields.Found.{Found}
use Rattle.md_raw_reports.specs.declared.super_fields.Found.TheVariants.{Nothing, Unreadable, Superblock}
use Rattle.md_raw_reports.specs.RawMembers.Raw.{IsOn}

-- the bytes start a superblock of version 1
abbrev pub StartsSuper : List ℕ → Type 0
StartsSuper bytes = (number_at 4 0 bytes ≡ 0xa92b4efc) × (number_at 4 4 bytes ≡ 1)

-- what is said of the bytes of a sector
abbrev pub IsFoundInSector : List ℕ → ℕ → Found → Type 0
IsFoundInSector bytes sector Nothing = StartsSuper bytes → ⊥
IsFoundInSector bytes sector (Unreadable at) = ⊥
IsFoundInSector bytes sector (Superblock at id) = (at ≡ sector) × StartsSuper bytes × (id ≡ bytes_at 16 16 bytes)

-- What is found in a sector of a device. Of one that is past the end nothing is: what is found, or can't be read, is on the device.
-- `Failed P` says that a call on it failed that has P: what is called unreadable is the sector of which the read failed.
abbrev pub FindsAt : List ℕ → Bool → ((Fault → Type 0) → Type 0) → ℕ → Found → Type 0
FindsAt content honest Failed sector Nothing = honest ≡ true → IsOn content sector → IsFoundInSector (held content sector 512) sector Nothing
FindsAt content honest Failed sector (Unreadable at) = IsOn content sector × (at ≡ sector) × Failed (IsReadOf sector 512)
FindsAt content honest Failed sector (Superblock at id) =
    IsOn content sector × (honest ≡ true → IsFoundInSector (held content sector 512) sector (Superblock at id))

-- where a superblock of version 1.0 stands on a device: from the 16th to the 9th sector before its end, moved down to a multiple of 8
abbrev pub end_place : List ℕ → ℕ
end_place content = (length content / 512 - 16) / 8 * 8

-- what is found where one of version 1.1 stands, one of version 1.2 in a partition that starts at sector 63 or 2048, and one of
-- version 1.0
pub record FindsElsewhere (content : List ℕ) (honest : Bool) (Failed : (Fault → Type 0) → Type 0) (found : List Found) : Type 0 where
  pub start : Found
  pub old_partition : Found
  pub partition : Found
  pub end : Found
  pub all : found ≡ start ∷ old_partition ∷ partition ∷ end ∷ []
  pub at_start : FindsAt content honest Failed 0 start
  pub in_old_partition : FindsAt content honest Failed 71 old_partition
  pub in_partition : FindsAt content honest Failed 2056 partition
  pub at_end : FindsAt content honest Failed (end_place content) end
