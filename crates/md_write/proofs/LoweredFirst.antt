-- A round begins with the sure offsets of recovering members, which fall in memory.
use Rattle.std.proofs.Common.{◌≡◌, ℕ, ◌*◌, ◌/◌, ◌≤◌, ◌||◌, cond, min, List, map, slice_get, sym, ap, ◌∙◌, subst, arith}
use Rattle.std.specs.Prelude.{Result, Ok, Err, MatchResult}
use Rattle.md_bitmap.specs.declared.chunks.Chunks.{Chunks}
use Rattle.md_inflight.specs.Requests.Pending.{PendingView}
use Rattle.md_kept_members.specs.TakingBack.{lowered_member}
use Rattle.md_kept_members.specs.View.{MemberView}
use Rattle.md_kept_members.proofs.Kept.Offsets.{mapped_from}
use Rattle.md_state.specs.Requests.{IsPending}
use Rattle.md_state.specs.Steps.Begin.{first_sector}
use Rattle.md_state.specs.View.{ArrayView, MirrorView}
use Rattle.md_metadata.specs.declared.fault.PartFault.{PartFault}
use Rattle.md_metadata.specs.Lowering.{IsLowering, LowersAll}
use Rattle.md_write.specs.Progress.{AdvancesRequest, AllLowered, AreChunksOf, IsLowered, IsReadyToFinish, Part, WritingFails}
use Rattle.md_write.proofs.InRounds.{lowering_leaves}
use Rattle.md_write.proofs.Advancing.{later_refl, ready_on, stops_later, stored_beside}
use Rattle.md_write.proofs.WrittenData.{chunks_later, lowering_is}

-- a member that was lowered
lowered_is : (a : ArrayView) (p : PendingView) (n : MemberView) → IsLowered a p (lowered_member (first_sector a p.sector) n)
lowered_is a p n =
    let s : ℕ = first_sector a p.sector in
    record {
      sure = λ on. subst (λ b. cond b (min n.superblock.recovery_offset s) n.superblock.recovery_offset ≤ s) (sym on) (least n.superblock.recovery_offset s);
      due = λ says. ap (λ b. b || n.due) says;
    }
  where
    least : (x y : ℕ) → min x y ≤ y
    least x y = omega arith

all_lowered : (sector : ℕ) (p : PendingView) (old new : MirrorView) → sector ≡ first_sector new.array p.sector → LowersAll sector old new → AllLowered new.array p
all_lowered sector p old new is h i m at =
    let members : new.array.members ≡ map (lowered_member sector) old.array.members = ap (λ (a : ArrayView). a.members) h.array in
    let x = mapped_from (lowered_member sector) old.array.members i m (sym (ap (λ (xs : List MemberView). slice_get xs i) members) ∙ at) in
    subst (IsLowered new.array p) (ap (λ (s : ℕ). lowered_member s x.from) (sym is) ∙ x.is) (lowered_is new.array p x.from)

-- a request's round has begun so
pub record HasLowered (p : PendingView) (first end : ℕ) (old mid : MirrorView) : Type 0 where
  pub chunks : AreChunksOf mid.array p first end
  pub pending : IsPending mid.array p
  pub lowered : AllLowered mid.array p
  pub halted : mid.array.halted ≡ old.array.halted
  pub advances : AdvancesRequest Part.Marks Part.Marks p p old mid

pub has_lowered : (p : PendingView) (first end sector : ℕ) (old mid : MirrorView) → IsPending old.array p → AreChunksOf old.array p first end
    → sector ≡ first * old.array.chunks.sectors → LowersAll sector old mid → HasLowered p first end old mid
has_lowered p first end sector old mid pending chunks is h = record {
  chunks = chunks_later old.array mid.array p p first end h.goes.array (later_refl p) chunks;
  pending = h.goes.pending p pending;
  lowered = all_lowered sector p old mid
      (is ∙ ap (λ (c : ℕ). c * old.array.chunks.sectors) chunks.first_is
      ∙ sym (ap (λ (c : Chunks). (p.sector / c.sectors) * c.sectors) h.goes.array.chunks)) h;
  halted = ap (λ (a : ArrayView). a.halted) h.array;
  advances = stored_beside (IsLowering sector) p old mid pending (lowering_is old.array.chunks p sector) Part.Marks Part.Marks (lowering_leaves sector) h.goes;
}

module _ (p q : PendingView) (first end : ℕ) (old mid new : MirrorView) (l : HasLowered p first end old mid) where
  pub round_stops : (fault : PartFault) → WritingFails Part.Marks p q mid new fault → WritingFails Part.Marks p q old new fault
  round_stops fault r = stops_later p p q old mid new Part.Marks Part.Marks l.advances fault l.halted r

  pub round_then : {T : Type 0} (result : Result T PartFault) → MatchResult result (λ _. IsReadyToFinish p q mid new) (WritingFails Part.Marks p q mid new)
      → MatchResult result (λ _. IsReadyToFinish p q old new) (WritingFails Part.Marks p q old new)
  round_then (Ok t) r = ready_on p p q old mid new l.advances r
  round_then (Err fault) r = round_stops fault r
