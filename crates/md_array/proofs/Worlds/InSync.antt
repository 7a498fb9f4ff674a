-- The members in sync of an array are those of its world.
use Rattle.std.proofs.Common.{◌≡◌, ℕ, true, true≢false, sym, ap, ◌∙◌, List, Option}
use Rattle.md_assembly.specs.States.{is_in_sync}
use Rattle.md_model.specs.States as model
use Rattle.md_model.specs.Worlds as worlds
use Rattle.md_kept_members.specs.View.{MemberView}
use Rattle.md_state.specs.View.{Disk, ArrayView}
use Rattle.md_state.specs.Members.{IsInSync, IsMember}
use Rattle.md_array.specs.Worlds.{kind_of, world_on}
use Rattle.md_array.proofs.Worlds.Shown.{at_is, at_past, by_member}
use Rattle.md_array.proofs.Worlds.States.{same_in_sync}

module _ (disks : List Disk) (a : ArrayView) (requests : ℕ → Option worlds.Request) (k : ℕ) where
  pub number_at : (m : MemberView) → IsMember a k m → (world_on disks a requests).number k ≡ m.superblock.dev_number
  number_at m is = at_is a k 0 (λ x. x.superblock.dev_number) m is

  pub in_sync_there : (m : MemberView) → IsInSync a k m → worlds.IsInSync (world_on disks a requests) k
  in_sync_there m is = ap model.is_in_sync (at_is a k model.State.Faulty (λ x. kind_of x.state) m is.member) ∙ same_in_sync m.state ∙ is.in_sync

  pub in_sync_of : (m : MemberView) → IsMember a k m → worlds.IsInSync (world_on disks a requests) k → is_in_sync m.state ≡ true
  in_sync_of m is e = sym (same_in_sync m.state) ∙ sym (ap model.is_in_sync (at_is a k model.State.Faulty (λ x. kind_of x.state) m is)) ∙ e

  pub in_sync_is : worlds.IsInSync (world_on disks a requests) k → (m : MemberView) × IsInSync a k m
  in_sync_is e = by_member a k
      (λ m is. (m, record { member = is; in_sync = in_sync_of m is e }))
      (λ past. absurd (true≢false (sym e ∙ ap model.is_in_sync (at_past a k model.State.Faulty (λ x. kind_of x.state) past))))
