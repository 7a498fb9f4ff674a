-- The roles that members take, and those that are free (remove_and_add_spares in the kernel's md driver; which role a spare gets is this
-- project's own).
use Rattle.std.specs.Prelude.{◌≡◌, ℕ, ◌<◌, Bool, true, false, List}
use Rattle.std.specs.List.{list_any}
use Rattle.md_assembly.specs.States.{takes_role}
use Rattle.md_kept_members.specs.View.{MemberView}

-- a member in sync or recovering has the role
abbrev pub is_taken : List MemberView → ℕ → Bool
is_taken members role = list_any (λ m. takes_role role m.state) members

-- the least of so many roles that no member in sync or recovering has
pub record IsLeastFree (raid_disks : ℕ) (members : List MemberView) (role : ℕ) : Type 0 where
  pub below : role < raid_disks
  pub free : is_taken members role ≡ false
  pub least : (r : ℕ) → r < role → is_taken members r ≡ true

-- each of so many roles is taken
abbrev pub AreAllTaken : ℕ → List MemberView → Type 0
AreAllTaken raid_disks members = (r : ℕ) → r < raid_disks → is_taken members r ≡ true
