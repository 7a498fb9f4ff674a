-- The event count of the array rises, and a member fails (this project's own rules, after md_update_sb and md_error).
use Rattle.std.specs.Prelude.{◌≡◌, ◌≢◌, ℕ, ◌+◌, ◌-◌, ◌^◌, ◌⊎◌, Bool, true, false, not, cond, map, set}
use Rattle.md_assembly.specs.declared.state.MemberState.TheVariants.{Faulty}
use Rattle.md_kept_members.specs.View.{MemberView}
use Rattle.md_kept_members.specs.Members.{made_due}
use Rattle.md_kept_members.specs.Membership.Numbers.{roles_at_rise, roles_without}
use Rattle.md_state.specs.View.{ArrayView}
use Rattle.md_state.specs.Members.{IsMember, IsInSync, is_degraded}

-- The count rises, and the roles of absent devices become those of failed ones. Where the array is full after the change, events_cleared is
-- the new count.
abbrev pub risen : ArrayView → Bool → ArrayView
risen a full =
    record a {
      shared = record a.shared { events = a.shared.events + 1; roles = roles_at_rise a.shared a.members };
      members = map made_due a.members;
      events_cleared = cond full (a.shared.events + 1) a.events_cleared;
    }

-- the count can't rise
abbrev pub HasSpentEvents : ArrayView → Type 0
HasSpentEvents a = a.shared.events ≡ 2 ^ 64 - 1

-- a member is faulty, and so is its entry in the roles, where it has one
abbrev pub made_faulty : MemberView → MemberView
made_faulty m = record m { state = Faulty; due = false }

abbrev pub without : ArrayView → ℕ → MemberView → ArrayView
without a k m =
    record a {
      shared = record a.shared { roles = roles_without m.superblock.dev_number a.shared.roles };
      members = set a.members k (made_faulty m);
    }

-- member k failed: the count has risen
abbrev pub failed : ArrayView → ℕ → MemberView → ArrayView
failed a k m = without (risen a (not (is_degraded (without a k m)))) k m

-- No other member is in sync, or the count can't rise: then the mirror is halted instead.
abbrev pub CannotFail : ArrayView → ℕ → Type 0
CannotFail a k = ((j : ℕ) (m : MemberView) → IsInSync a j m → j ≡ k) ⊎ HasSpentEvents a

-- What is made of the array where a write to member k fails: another one is in sync, and the count can rise.
pub record Fails (k : ℕ) (old new : ArrayView) : Type 0 where
  pub member : MemberView
  pub at : IsMember old k member
  pub other : ℕ
  pub other_member : MemberView
  pub other_in_sync : IsInSync old other other_member
  pub apart : other ≢ k
  pub unspent : HasSpentEvents old → ⊥
  pub array : new ≡ failed old k member

pub record Halts (k : ℕ) (old new : ArrayView) : Type 0 where
  pub cannot : CannotFail old k
  pub array : new ≡ record old { halted = true }
