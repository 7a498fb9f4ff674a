-- Whether the superblock of a member may be stored.
use Rattle.std.specs.Prelude.{◌≡◌, ℕ, true, false}
use Rattle.md_assembly.specs.States.{is_recorded}
use Rattle.md_kept_members.specs.View.{MemberView}
use Rattle.md_faults.specs.declared.step_fault.StoreFault.{StoreFault}
use Rattle.md_faults.specs.declared.step_fault.StoreFault.TheVariants.{Halted, NotActive, MemberFailed}
use Rattle.md_state.specs.Members.{IsMember}
use Rattle.md_state.specs.View.{ArrayView}
use Rattle.md_state.specs.OutOfSync.{IsInactive}

-- the mirror runs, and member k is kept up to date
pub record IsActive (k : ℕ) (a : ArrayView) : Type 0 where
  pub running : a.halted ≡ false
  pub active : (m : MemberView) → IsMember a k m → is_recorded m.state ≡ true

abbrev pub RefusesInactive : ℕ → ArrayView → StoreFault → Type 0
RefusesInactive k a Halted = a.halted ≡ true
RefusesInactive k a NotActive = IsInactive k a
RefusesInactive k a (MemberFailed j) = ⊥
