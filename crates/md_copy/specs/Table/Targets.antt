-- Which members may be rebuilt (this project's own rule, after md_start_sync and remove_and_add_spares of md.c).
use Rattle.std.specs.Prelude.{◌≡◌, ℕ, ◌<◌, ⊤, false}
use Rattle.md_assembly.specs.declared.state.MemberState.{MemberState}
use Rattle.md_assembly.specs.declared.state.MemberState.TheVariants.{InSync, Recovering, Stale, Spare, Faulty}
use Rattle.md_assembly.specs.States.{takes_role}
use Rattle.md_kept_members.specs.View.{MemberView}
use Rattle.md_state.specs.View.{ArrayView}
use Rattle.md_state.specs.Members.{IsMember}

-- no member in sync or recovering has the role
abbrev pub IsRoleFree : ArrayView → ℕ → Type 0
IsRoleFree a role = (k : ℕ) (m : MemberView) → IsMember a k m → takes_role role m.state ≡ false

-- some role of the array is free
abbrev pub HasFreeRole : ArrayView → Type 0
HasFreeRole a = (role : ℕ) × (role < a.shared.raid_disks) × IsRoleFree a role

-- a member with this number may be rebuilt: a spare needs a role, and room for its number among the roles of a superblock
abbrev pub MayBeRebuilt : ArrayView → ℕ → MemberState → Type 0
MayBeRebuilt a dev_number (InSync role) = ⊥
MayBeRebuilt a dev_number (Recovering role) = ⊤
MayBeRebuilt a dev_number (Stale role) = ⊥
MayBeRebuilt a dev_number Spare = (dev_number < 1920) × HasFreeRole a
MayBeRebuilt a dev_number Faulty = ⊥

abbrev pub IsTarget : ArrayView → MemberView → Type 0
IsTarget a m = MayBeRebuilt a m.superblock.dev_number m.state
