-- What `admit` answers, by what the calls in it do.
use Rattle.std.proofs.Common.{◌≡◌, ℕ, true, map, set, refl, sym, ap, ◌∙◌, subst}
use Rattle.md_assembly.specs.declared.state.MemberState.{MemberState}
use Rattle.md_assembly.specs.declared.state.MemberState.TheVariants.{InSync, Recovering, Stale, Spare, Faulty}
use Rattle.md_assembly.specs.States.{is_spare}
use Rattle.md_kept_members.specs.Members.{made_due}
use Rattle.md_kept_members.specs.TakingBack.{admitted_member, recovering}
use Rattle.md_kept_members.specs.View.{MemberView}
use Rattle.md_inflight.specs.Requests.Pending.{PendingView}
use Rattle.md_kept_members.specs.Membership.Joining.{joined_shared}
use Rattle.md_kept_members.specs.OnDevices.Superblocks.{IsReadable, own_write}
use Rattle.md_state.specs.Steps.Admit.{MayAdmit, admitted}
use Rattle.md_state.specs.DiskWrites.{IsFailed, IsWritten}
use Rattle.md_state.specs.Missing.{is_rebuilt}
use Rattle.md_state.specs.Requests.{IsPending}
use Rattle.md_state.specs.View.{ArrayView, MirrorView}
use Rattle.md_super.specs.declared.superblock.Superblock.{Superblock}
use Rattle.md_super.specs.Merge.{merged}
use Rattle.md_array.specs.Steps.Admit.{Admits, FailsAsTarget, FailsToAdmit}
use Rattle.md_array.specs.Consistency.{IsConsistent}
use Rattle.md_array.proofs.Rebuilding.TargetLeft.{left_as_target, left_is_consistent, left_is_pending, left_spoils}
use Rattle.md_array.specs.Spoiling.{SpoilsTarget}

spare_rebuilt : (s : MemberState) → is_spare s ≡ true → is_rebuilt s ≡ true
spare_rebuilt (InSync role) e = absurd cc
spare_rebuilt (Recovering role) e = refl
spare_rebuilt (Stale role) e = absurd cc
spare_rebuilt Spare e = refl
spare_rebuilt Faulty e = absurd cc

module _ (k role : ℕ) (old new : MirrorView) (may : MayAdmit k old.array role) (own shared : Superblock) (own_is : own ≡ recovering 0 may.member.superblock)
    (shared_is : shared ≡ joined_shared old.array.shared old.array.members own.dev_number role) (readable : IsReadable (merged shared own)) where
  abbrev a : ArrayView
  a = old.array

  abbrev m : MemberView
  m = may.member

  abbrev n : MemberView
  n = admitted_member role m

  fields : shared ≡ (admitted a k m role).shared
  fields = shared_is ∙ ap (λ (v : Superblock). joined_shared a.shared a.members v.dev_number role) own_is

  readable_then : (v : Superblock) → shared ≡ v → IsReadable (merged v n.superblock)
  readable_then v same = subst (λ (x : Superblock). IsReadable (merged x n.superblock)) same (subst (λ (x : Superblock). IsReadable (merged shared x)) own_is readable)

  pub admits_by : new.array ≡ record a { shared = shared; members = set (map made_due a.members) k n } → IsWritten k (own_write shared own) old.disks new.disks → Admits k old new
  admits_by noted disks =
      let same : shared ≡ new.array.shared = sym (ap (λ (v : ArrayView). v.shared) noted) in
      record {
        role = role;
        may = may;
        array = noted ∙ ap (λ (v : Superblock). record a { shared = v; members = set (map made_due a.members) k n }) fields;
        readable = readable_then new.array.shared same;
        disks = subst (λ (x : Superblock). IsWritten k (own_write x n.superblock) old.disks new.disks) same (subst (λ (x : Superblock). IsWritten k (own_write shared x) old.disks new.disks) own_is disks);
      }

  module _ (array : new.array ≡ a) (disks : IsFailed k (own_write shared own) old.disks new.disks) where
    pub fails_to_admit : FailsToAdmit k old new
    fails_to_admit = record {
      role = role;
      may = may;
      array = array;
      readable = readable_then (admitted a k m role).shared fields;
      disks = subst (λ (x : Superblock). IsFailed k (own_write x n.superblock) old.disks new.disks) fields (subst (λ (x : Superblock). IsFailed k (own_write shared x) old.disks new.disks) own_is disks);
    }

    module _ (c : IsConsistent old) (spare : is_spare m.state ≡ true) where
      pub unadmitted_is_consistent : IsConsistent new
      unadmitted_is_consistent = left_is_consistent k old new c may.running m may.at (spare_rebuilt m.state spare) array shared own readable disks

      pub unadmitted_is_pending : (p : PendingView) → IsPending old.array p → IsPending new.array p
      unadmitted_is_pending = left_is_pending k old new c may.running m may.at (spare_rebuilt m.state spare) array shared own readable disks

      pub unadmitted_happens : FailsAsTarget k old new
      unadmitted_happens = left_as_target k old new c may.running m may.at (spare_rebuilt m.state spare) array shared own readable disks

-- such a write that failed spoils the member
pub admit_spoils : (k : ℕ) (old new : MirrorView) → IsConsistent old → (f : FailsToAdmit k old new) → is_spare f.may.member.state ≡ true → SpoilsTarget k old new
admit_spoils k old new c f spare =
    left_spoils k old new c f.may.running f.may.member f.may.at (spare_rebuilt f.may.member.state spare) f.array
    (admitted old.array k f.may.member f.role).shared (admitted_member f.role f.may.member).superblock f.readable f.disks
