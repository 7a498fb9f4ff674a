-- Devices that the array has in its roles, and that are not among its members.
use Rattle.std.specs.Prelude.{◌≡◌, ℕ, ◌<◌, ◌==◌, Bool, false, List, Option, Some, None, length}
use Rattle.std.specs.List.{list_any}
use Rattle.md_assembly.specs.States.{role_in}
use Rattle.md_kept_members.specs.View.{MemberView}
use Rattle.md_state.specs.View.{ArrayView}

-- a member has the device number
abbrev pub is_member : List MemberView → ℕ → Bool
is_member members number = list_any (λ m. m.superblock.dev_number == number) members

-- The number is that of the device which is to join, where that is of the array.
abbrev pub is_joining : Option ℕ → ℕ → Bool
is_joining None number = false
is_joining (Some joining) number = joining == number

-- the array has the device in the role, and no member is that device, nor is the one that is to join
pub record IsUnnamed (a : ArrayView) (joining : Option ℕ) (role number : ℕ) : Type 0 where
  pub role_is : role_in a.shared number ≡ role
  pub no_member : is_member a.members number ≡ false
  pub not_joining : is_joining joining number ≡ false

-- no device below n is such a one
abbrev pub NoneUnnamed : ArrayView → Option ℕ → ℕ → ℕ → Type 0
NoneUnnamed a joining role n = (number : ℕ) → number < n → IsUnnamed a joining role number → ⊥

-- the device is one, and the first
pub record IsFirstUnnamed (a : ArrayView) (joining : Option ℕ) (role number : ℕ) : Type 0 where
  pub within : number < length a.shared.roles
  pub is : IsUnnamed a joining role number
  pub first : NoneUnnamed a joining role number
