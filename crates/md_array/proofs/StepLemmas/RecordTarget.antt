-- The superblock of a member that is rebuilt could not be stored: the mirror stays consistent.
use Rattle.std.proofs.Common.{◌≡◌, ℕ, true, true≢false, List, sym, ap, ◌∙◌, subst, refl}
use Rattle.md_assembly.specs.declared.state.MemberState.{MemberState}
use Rattle.md_assembly.specs.declared.state.MemberState.TheVariants.{InSync, Recovering, Stale, Spare, Faulty}
use Rattle.md_assembly.specs.States.{is_recorded}
use Rattle.md_kept_members.specs.View.{MemberView}
use Rattle.md_inflight.specs.Requests.Pending.{PendingView}
use Rattle.md_state.specs.Missing.{is_rebuilt}
use Rattle.md_state.specs.Requests.{IsPending}
use Rattle.md_state.specs.View.{ArrayView, MirrorView}
use Rattle.md_array.specs.Consistency.{IsConsistent}
use Rattle.md_array.specs.Steps.Record.{super_write}
use Rattle.md_array.specs.Steps.RecordTarget.{LeavesUnrecorded}
use Rattle.md_array.proofs.General.Indices.{set_itself}
use Rattle.md_array.proofs.StepLemmas.Lend.{unrebuilt}
use Rattle.md_array.proofs.StepLemmas.OneMember.{ChangesMember, changed_is_consistent, like_itself}

-- its superblock is kept up to date
pub rebuilt_recorded : (s : MemberState) → is_rebuilt s ≡ true → is_recorded s ≡ true
rebuilt_recorded (InSync role) h = absurd cc
rebuilt_recorded (Recovering role) h = refl
rebuilt_recorded (Stale role) h = absurd cc
rebuilt_recorded Spare h = refl
rebuilt_recorded Faulty h = absurd cc

module _ (k : ℕ) (old new : MirrorView) (is : IsConsistent old) (r : LeavesUnrecorded k old new) (rebuilt : is_rebuilt r.member.state ≡ true) where
  changes : ChangesMember k r.member r.member (super_write old.array r.member) old new
  changes = record {
    at = r.may.at;
    like = like_itself r.member;
    disks = r.disks.tried;
    array = r.array ∙ ap (λ (xs : List MemberView). record old.array { members = xs }) (sym (set_itself old.array.members k r.member r.may.at));
  }

  pub unrecorded_is_consistent : IsConsistent new
  unrecorded_is_consistent =
      changed_is_consistent k r.member r.member (super_write old.array r.member) old new changes is
      (λ d e before after in_sync honest had. absurd (true≢false (sym rebuilt ∙ unrebuilt r.member.state in_sync)))

pub unrecorded_is_pending : (k : ℕ) (old new : MirrorView) → LeavesUnrecorded k old new → (p : PendingView) → IsPending old.array p → IsPending new.array p
unrecorded_is_pending k old new r p is = subst (λ (a : ArrayView). IsPending a p) (sym r.array) is
