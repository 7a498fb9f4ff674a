-- Recovering members are lowered, one after another.
use Rattle.std.proofs.Common.{◌≡◌, ℕ, ◌+◌, ◌<◌, ◌≤◌, true, false, ◌&&◌, ◌||◌, cond, min, nat_lt, List, map, set, get_or, length, slice_get, Some, refl, sym, ap, ◌∙◌, subst, arith}
use Rattle.std.proofs.lemmas.Option.{same_Some, slice_get-get_or}
use Rattle.md_model.specs.Events.{Event}
use Rattle.md_super.specs.declared.superblock.Superblock.{Superblock}
use Rattle.md_assembly.specs.States.{is_recovering}
use Rattle.md_inflight.specs.Requests.Pending.{PendingView}
use Rattle.md_kept_members.specs.TakingBack.{lowered_member}
use Rattle.md_kept_members.specs.View.{MemberView}
use Rattle.md_kept_members.proofs.Members.Mapping.{mapped_all, mapped_at, mapped_more, mapped_to}
use Rattle.md_state.specs.Members.{IsMember}
use Rattle.md_state.specs.Requests.{IsPending}
use Rattle.md_state.specs.Steps.Begin.{with_offsets_lowered}
use Rattle.md_state.specs.Steps.Checkpoint.{with_member_at}
use Rattle.md_state.specs.View.{ArrayView, MirrorView}
use Rattle.md_array.specs.Consistency.{IsConsistent}
use Rattle.md_array.specs.Steps.LowerOffset.{LowerHappens, LowersOffset}
use Rattle.md_array.proofs.General.Indices.{set_itself}
use Rattle.md_assembly.proofs.Indices.{got_within}
use Rattle.md_metadata.specs.Going.{GoesOn, only_others}
use Rattle.md_metadata.specs.Lowering.{IsLowering, LowersAll, LowersMember}
use Rattle.md_metadata.proofs.Going.{goes_nowhere, goes_on, goes_step}
use Rattle.md_metadata.proofs.Steps.{same_but}

-- one that is not recovering is as it was
as_it_was : (sector : ℕ) (m : MemberView) → is_recovering m.state ≡ false → lowered_member sector m ≡ m
as_it_was sector m out i =
    record m {
      superblock = record m.superblock { recovery_offset = cond (out i) (min m.superblock.recovery_offset sector) m.superblock.recovery_offset };
      due = (out i && nat_lt sector m.stored_offset) || m.due;
    }

module _ (k sector : ℕ) (old new : MirrorView) where
  pub lowered_there : LowersOffset k sector old new → LowerHappens k sector old new → IsConsistent new → ((o : PendingView) → IsPending old.array o → IsPending new.array o)
      → LowersMember k sector old new
  lowered_there r happens sound pending =
      let m = r.lowers.member in
      record {
        goes = goes_step only_others only_others (IsLowering sector) (Event.LowerOffset k sector) old new (record {
          of = refl;
          did = λ others. (refl, r);
          happens = λ honest whole others in_flight. happens honest others in_flight;
          array = same_but old.array new.array k m (lowered_member sector m) r.lowers.at r.lowers.array refl;
          sound = sound;
          pending = pending;
        }) (λ previous. tt);
        disks = r.disks;
        array = λ n at. r.lowers.array ∙ ap (λ (x : MemberView). with_member_at old.array k (lowered_member sector x)) (same_Some m n (sym r.lowers.at ∙ at));
      }

pub lowered_nothing : (k sector : ℕ) (m : MirrorView) → IsConsistent m → ((n : MemberView) → IsMember m.array k n → is_recovering n.state ≡ false) → LowersMember k sector m m
lowered_nothing k sector m sound out = record {
  goes = goes_nowhere only_others (IsLowering sector) m sound;
  disks = refl;
  array = λ n at.
      sym (ap (λ (xs : List MemberView). record m.array { members = xs })
      (ap (set m.array.members k) (as_it_was sector n (out n at)) ∙ set_itself m.array.members k n at));
}

-- ---- one after another
-- of the members before this one
pub record LowersBelow (k sector : ℕ) (old new : MirrorView) : Type 0 where
  pub goes : GoesOn only_others only_others (IsLowering sector) old new
  pub disks : new.disks ≡ old.disks
  pub array : new.array ≡ record old.array { members = mapped_to (lowered_member sector) old.array.members k }

pub lowered_none : (sector : ℕ) (m : MirrorView) → IsConsistent m → LowersBelow 0 sector m m
lowered_none sector m sound = record { goes = goes_nowhere only_others (IsLowering sector) m sound; disks = refl; array = refl }

pub lowered_more : (k sector : ℕ) (old mid new : MirrorView) → k < length old.array.members → LowersBelow k sector old mid → LowersMember k sector mid new → LowersBelow (k + 1) sector old new
lowered_more k sector old mid new within g h = record {
  goes = goes_on only_others only_others only_others (IsLowering sector) old mid new g.goes h.goes;
  disks = h.disks ∙ g.disks;
  array = next (got_within old.array.members k within);
}
  where
    next : (d : MemberView) × IsMember old.array k d → new.array ≡ record old.array { members = mapped_to (lowered_member sector) old.array.members (k + 1) }
    next (d, at) =
        let own = old.array.members in
        let many = g.goes.array.as_many in
        let members : mid.array.members ≡ mapped_to (lowered_member sector) own k = ap (λ (a : ArrayView). a.members) g.array in
        let same : get_or mid.array.members k d ≡ get_or own k d = ap (λ (zs : List MemberView). get_or zs k d) members ∙ mapped_at (lowered_member sector) own k within d in
        h.array (get_or mid.array.members k d) (slice_get-get_or mid.array.members k d (omega arith))
        ∙ ap (λ (z : MemberView). with_member_at mid.array k (lowered_member sector z)) same
        ∙ ap (λ (a : ArrayView). with_member_at a k (lowered_member sector (get_or own k d))) g.array
        ∙ ap (λ (zs : List MemberView). record old.array { members = zs }) (mapped_more (lowered_member sector) own k within d)

pub lowered_all : (k sector : ℕ) (old new : MirrorView) → length old.array.members ≤ k → LowersBelow k sector old new → LowersAll sector old new
lowered_all k sector old new last g = record {
  goes = g.goes;
  disks = g.disks;
  array = g.array ∙ ap (λ (xs : List MemberView). record old.array { members = xs }) (mapped_all (lowered_member sector) old.array.members k last);
}
