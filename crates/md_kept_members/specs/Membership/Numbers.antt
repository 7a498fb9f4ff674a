-- The numbers of devices, and their entries in the roles of an array's superblock as the event count rises (this project's own rules, after
-- md_update_sb and md_error in the kernel's md driver).
use Rattle.std.specs.Prelude.{◌≡◌, ◌≢◌, ◌⊎◌, ℕ, ◌<◌, Bool, false, not, ◌&&◌, cond, eqb, nat_lt, List, length, map, set}
use Rattle.std.specs.List.{list_any, range_with_len}
use Rattle.md_model.specs.Membership.{IsLeastNumber}
use Rattle.md_super.specs.declared.superblock.Superblock.{Superblock}
use Rattle.md_assembly.specs.States.{role_in}
use Rattle.md_kept_members.specs.View.{MemberView}

-- the role of a device that has failed (MD_DISK_ROLE_FAULTY of md_p.h)
abbrev pub faulty_role : ℕ
faulty_role = 0xfffe

-- the role of a device that has none in the array (MD_DISK_ROLE_SPARE of md_p.h)
abbrev pub spare_role : ℕ
spare_role = 0xffff

-- a member has the number
abbrev pub has_number : List MemberView → ℕ → Bool
has_number members dev_number = list_any (λ m. eqb m.superblock.dev_number dev_number) members

-- an entry of the roles below raid_disks whose number no member has
abbrev pub is_absent : Superblock → List MemberView → ℕ → Bool
is_absent shared members dev_number = nat_lt (role_in shared dev_number) shared.raid_disks && not (has_number members dev_number)

-- some entry of the roles below raid_disks is of a number that no member has
abbrev pub has_absent_role : Superblock → List MemberView → Bool
has_absent_role shared members = list_any (is_absent shared members) (range_with_len 0 (length shared.roles))

-- ---- after a rise of the count
-- The role of a number then: that of an absent device is a failed one's.
abbrev pub role_at_rise : Superblock → List MemberView → ℕ → ℕ
role_at_rise shared members d = cond (is_absent shared members d) faulty_role (role_in shared d)

-- the roles after a rise of the count
abbrev pub roles_at_rise : Superblock → List MemberView → List ℕ
roles_at_rise shared members = map (role_at_rise shared members) (range_with_len 0 (length shared.roles))

-- the roles where the entry of a number is that of a failed device, if it has one
abbrev pub roles_without : ℕ → List ℕ → List ℕ
roles_without dev_number roles = cond (nat_lt dev_number (length roles)) (set roles dev_number faulty_role) roles

-- ---- the number of a new device
-- A superblock has room for it, no member has it, and it is not that of a failed device.
pub record IsFree (shared : Superblock) (members : List MemberView) (d : ℕ) : Type 0 where
  pub room : d < 1920
  pub unused : has_number members d ≡ false
  pub not_failed : role_at_rise shared members d ≢ faulty_role

-- the least such; where there is none, the least that no member has
abbrev pub IsNumber : Superblock → List MemberView → ℕ → Type 0
IsNumber shared members d =
    IsLeastNumber (IsFree shared members) d
    ⊎ (((e : ℕ) → IsFree shared members e → ⊥) × IsLeastNumber (λ e. has_number members e ≡ false) d)
