-- What `checkpoint` answers, by what the calls in it do.
use Rattle.std.proofs.Common.{◌≡◌, ℕ, true, length, length-set, max, List, slice_get, sym, ap, ◌∙◌, subst}
use Rattle.std.proofs.lemmas.Option.{same_Some, slice_get_within}
use Rattle.md_assembly.specs.States.{is_recovering}
use Rattle.md_assembly.proofs.Indices.{got_same}
use Rattle.md_bitmap.specs.Marks.{Bitmap}
use Rattle.md_faults.specs.declared.enrol_fault.TargetFault.{TargetFault as TargetFaults}
use Rattle.md_faults.specs.declared.enrol_fault.TargetFault.TheVariants.{Halted, TargetFault}
use Rattle.md_kept_members.specs.TakingBack.{with_offsets}
use Rattle.md_kept_members.specs.View.{MemberView}
use Rattle.md_model.specs.Content.{Content}
use Rattle.md_model.specs.Events.{Event}
use Rattle.md_kept_members.specs.OnDevices.Superblocks.{IsReadable}
use Rattle.md_state.specs.Steps.Checkpoint.{IsFirstEnd, checked, with_member_at}
use Rattle.md_state.specs.DiskWrites.{IsFailed}
use Rattle.md_state.specs.Members.{IsMember}
use Rattle.md_state.specs.Missing.{is_rebuilt}
use Rattle.md_state.specs.View.{ArrayView, Disk, MirrorView}
use Rattle.md_super.specs.Merge.{merged}
use Rattle.md_array.specs.Steps.Admit.{FailsAsTarget}
use Rattle.md_array.specs.Steps.Checkpoint.{Checkpoints, FailsToCheckpoint, IfCheckpointFailed, MayCheckpoint, MovesOffsets, RefusesCheckpoint}
use Rattle.md_array.specs.Consistency.{IsConsistent}
use Rattle.md_array.specs.Steps.Enrol.{HoldsContent}
use Rattle.md_array.specs.Events.{Happens, listed_on}
use Rattle.md_array.specs.Steps.Record.{Records, super_write}
use Rattle.md_array.specs.Steps.RecordTarget.{LeavesUnrecorded, RefusesTarget}
use Rattle.md_array.proofs.General.Indices.{at_set_same}
use Rattle.md_array.proofs.Rebuilding.CheckpointEvent as event
use Rattle.md_array.proofs.Rebuilding.InBetween.{recovers_rebuilt}
use Rattle.md_array.proofs.Rebuilding.OffsetMoved.{moved_back}
use Rattle.md_array.proofs.Rebuilding.TargetLeft.{left_as_target, left_spoils}
use Rattle.md_array.specs.Spoiling.{SpoilsTarget}

module _ (k : ℕ) (copied : Bitmap) (old mid : MirrorView) (c : IsConsistent old) (may : MayCheckpoint k copied old) (sure : ℕ)
    (first : IsFirstEnd old.array may.member copied sure) (moves : MovesOffsets k (max may.member.offset sure) sure old mid) where
  abbrev a : ArrayView
  a = old.array

  abbrev m : MemberView
  m = may.member

  abbrev n : MemberView
  n = checked sure m

  its : moves.member ≡ m
  its = got_same a.members k moves.member m moves.at may.at

  mid_is : mid ≡ record old { array = with_member_at a k n }
  mid_is = moves.moved ∙ ap (λ (x : MemberView). record old { array = with_member_at a k (with_offsets (max m.offset sure) sure x) }) its

  mid_array : mid.array ≡ with_member_at a k n
  mid_array = ap (λ (v : MirrorView). v.array) mid_is

  mid_disks : mid.disks ≡ old.disks
  mid_disks = ap (λ (v : MirrorView). v.disks) mid_is

  -- the member is recovering still
  member_is : (x : MemberView) → IsMember mid.array k x → x ≡ n
  member_is x at =
      same_Some x n (sym at ∙ ap (λ (v : ArrayView). slice_get v.members k) mid_array ∙ at_set_same a.members k n (slice_get_within a.members k m may.at))

  pub recovering_then : (x : MemberView) → IsMember mid.array k x → is_recovering x.state ≡ true
  recovering_then x at = ap (λ (y : MemberView). is_recovering y.state) (member_is x at) ∙ may.recovering

  pub rebuilt_then : (x : MemberView) → IsMember mid.array k x → is_rebuilt x.state ≡ true
  rebuilt_then x at = recovers_rebuilt x.state (recovering_then x at)

  pub as_many : length mid.array.members ≡ length a.members
  as_many = ap (λ (v : ArrayView). length v.members) mid_array ∙ length-set a.members k n

  -- ---- it was stored
  module _ (new : MirrorView) (r : Records k mid new) (sound : IsConsistent new) (happens : Happens mid (Event.Record k) new) where
    pub checkpointed : Checkpoints k copied old new
    checkpointed = event.checkpoints k copied old mid new c may sure first mid_is r sound happens

    pub checkpoint_ends : (o : ℕ) × ((content : Content) → HoldsContent old.disks a content → Happens old (Event.Checkpoint k o (listed_on new k)) new)
    checkpoint_ends = (sure, λ content has. event.checkpoint_happens k copied old mid new c may sure first mid_is r sound happens content has)

  -- ---- it was not, and the offsets are those before
  module _ (late new : MirrorView) (back : MovesOffsets k m.offset m.superblock.recovery_offset late new) where
    late_disks : new.disks ≡ late.disks
    late_disks = ap (λ (v : MirrorView). v.disks) back.moved

    module _ (same : late.array ≡ mid.array) where
      array_back : new.array ≡ a
      array_back = moved_back k n.offset sure old mid late new m may.at mid_array same back

    failed : LeavesUnrecorded k mid late → FailsToCheckpoint k copied old new
    failed left =
        let is = member_is left.member left.may.at in
        record {
          member = m;
          at = may.at;
          sure = sure;
          first = first;
          running = sym (ap (λ (v : ArrayView). v.halted) mid_array) ∙ left.may.running;
          array = array_back left.array;
          readable = subst (λ (x : MemberView). IsReadable (merged a.shared x.superblock)) is (subst (λ (v : ArrayView). IsReadable (merged v.shared left.member.superblock)) mid_array left.may.readable);
          disks = subst (λ (x : MemberView). IsFailed k (super_write a x) old.disks new.disks) is
              (subst (λ (v : ArrayView). IsFailed k (super_write v left.member) old.disks new.disks) mid_array
              (subst (λ (xs : List Disk). IsFailed k (super_write mid.array left.member) xs new.disks) mid_disks
              (subst (λ (xs : List Disk). IsFailed k (super_write mid.array left.member) mid.disks xs) (sym late_disks) left.disks)));
        }

    pub checkpoint_refused : (fault : TargetFaults) → RefusesTarget k mid late fault → RefusesCheckpoint k copied old new fault
    checkpoint_refused Halted refused =
        let unchanged = refused.unchanged in
        record {
          unchanged = λ i. record {
            disks = (late_disks ∙ ap (λ (v : MirrorView). v.disks) unchanged ∙ mid_disks) i;
            array = array_back (ap (λ (v : MirrorView). v.array) unchanged) i;
          };
          reason = sym (ap (λ (v : ArrayView). v.halted) mid_array) ∙ refused.reason;
        }
    checkpoint_refused TargetFault left = failed left

    pub refusal_happens : (fault : TargetFaults) → RefusesTarget k mid late fault → IfCheckpointFailed (FailsAsTarget k old new) fault
    refusal_happens Halted refused = tt
    refusal_happens TargetFault left =
        let f = failed left in
        let its = got_same a.members k f.member m f.at may.at in
        let recovers : is_recovering f.member.state ≡ true = ap (λ (x : MemberView). is_recovering x.state) its ∙ may.recovering in
        left_as_target k old new c f.running f.member f.at (recovers_rebuilt f.member.state recovers) f.array a.shared (checked f.sure f.member).superblock f.readable f.disks

-- such a write that failed spoils the member
pub checkpoint_spoils : (k : ℕ) (copied : Bitmap) (old new : MirrorView) → IsConsistent old → (f : FailsToCheckpoint k copied old new) → is_recovering f.member.state ≡ true → SpoilsTarget k old new
checkpoint_spoils k copied old new c f recovers =
    left_spoils k old new c f.running f.member f.at (recovers_rebuilt f.member.state recovers) f.array old.array.shared (checked f.sure f.member).superblock f.readable f.disks
