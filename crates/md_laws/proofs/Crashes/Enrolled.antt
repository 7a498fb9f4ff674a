-- A member that came into sync, and what a crash within that call leaves of it, once its superblock is written.
use Rattle.std.proofs.Common.{◌≡◌, ℕ, ◌*◌, ◌≤◌, inl, inr, Bool, false, List, slice_get, Some, sym, ap, ◌∙◌, subst, arith}
use Rattle.std.proofs.lemmas.Option.{slice_get_within}
use Rattle.md_assembly.proofs.Indices.{got_within}
use Rattle.md_assembly.specs.States.{is_recorded}
use Rattle.md_bitmap.specs.Marks.{Bitmap}
use Rattle.md_device.specs.Splice.{SameOutside}
use Rattle.md_kept_members.specs.View.{MemberView}
use Rattle.md_state.specs.View.{ArrayView, Disk, MirrorView}
use Rattle.md_super.specs.Faults.{NoSuperFault}
use Rattle.md_super.specs.Format.{IsSuper}
use Rattle.md_super.specs.Merge.{merged}
use Rattle.md_members.specs.DeviceWrites.Writes.{IsAnyIn, IsCutShort}
use Rattle.md_array.specs.Consistency.{IsConsistent}
use Rattle.md_array.specs.Steps.Enrol.{Enrols}
use Rattle.md_array.specs.ReadAsKept.{AreReadAsKept}
use Rattle.md_array.specs.Steps.Record.{MayRecord, super_write}
use Rattle.md_array.specs.Worlds.{AreHonest, block_on}
use Rattle.md_array.proofs.Rebuilding.CutBefore.{cut_enrol}
use Rattle.md_array.proofs.Rebuilding.EnrolEvent.{out, small, there}
use Rattle.md_array.proofs.Rebuilding.EnrolledWorld.{block_is, outside}
use Rattle.md_array.proofs.Rebuilding.PreparedEvent.{block_kept}
use Rattle.md_array.proofs.Worlds.PartsApart.{parts_of}
use Rattle.md_laws.specs.CrashesWithin.{IsLeftBut}

outside_both : (at n : ℕ) (xs ys zs : List ℕ) → SameOutside at n xs ys → SameOutside at n xs zs → SameOutside at n ys zs
outside_both at n xs ys zs a b = record { size = b.size ∙ sym a.size; before = b.before ∙ sym a.before; after = b.after ∙ sym a.after }

module _ (k : ℕ) (copied lost : ℕ → Bool) (old new : MirrorView) (c : IsConsistent old) (sound : IsConsistent new) (r : Enrols k copied lost old new) (honest : AreHonest old.disks)
    (failed_at : ℕ) (spoiled : ℕ → Bool) (read : AreReadAsKept old failed_at spoiled) (clear : spoiled k ≡ false) where
  abbrev n : MemberView
  n = r.member

  pub may_record_new : MayRecord k new.array n
  may_record_new = record {
    running = ap (λ (x : ArrayView). x.halted) r.array ∙ r.may.running;
    at = there k copied lost old new c sound r;
    active = ap is_recorded r.comes.comes.state;
    readable = r.readable;
  }

  -- the superblock of before is not the new one: its count is no higher than the array's was
  not_before : (d e : Disk) → slice_get old.disks k ≡ Some d → slice_get new.disks k ≡ Some e → block_on d.content ≡ block_on e.content → ⊥
  not_before d e was is same =
      let block = same ∙ block_is k copied lost old new c sound r (out k copied lost old new c sound r) (small k copied lost old new c sound r) d was e is (honest k d was) in
      let own = (read k d r.comes.member was r.comes.at).super clear (record (merged new.array.shared n.superblock) { sb_csum = r.readable.sum })
      (record { fields = subst (λ (b : List ℕ). IsSuper b (record (merged new.array.shared n.superblock) { sb_csum = r.readable.sum })) (sym block) r.readable.fields; sound = subst NoSuperFault (sym block) r.readable.sound }) in
      let low : new.array.shared.events ≤ old.array.shared.events = own.no_newer in
      let risen = ap (λ (x : ArrayView). x.shared.events) r.array in
      omega arith

  pub left_since : (left : List (List ℕ)) → IsLeftBut k (λ was x. IsCutShort was r.writes x) old.disks left
      → ((e : Disk) (x : List ℕ) → slice_get new.disks k ≡ Some e → slice_get left k ≡ Some x → block_on x ≡ block_on e.content)
      → IsLeftBut k (IsAnyIn (super_write new.array n)) new.disks left
  left_since left but super = record {
    as_many = but.as_many ∙ sym r.disks.as_many;
    others = λ j apart d x was found. but.others j apart d x (sym (r.disks.others j apart) ∙ was) found;
    this = λ e x is found.
        let inside = slice_get_within new.disks k e is in
        let many = r.disks.as_many in
        let d = got_within old.disks k (omega arith) in
        let whole = outside k copied lost old new c sound r (out k copied lost old new c sound r) (small k copied lost old new c sound r) d.0 d.1 e is (honest k d.0 d.1) in
        elim (cut_enrol k copied lost old new c r d.0 d.1 x (but.this d.0 x d.1 found)) [
          | inl early ↦
              let stays = block_kept old.array r.comes.member d.0.content x (parts_of old c k d.0 r.comes.member d.1 r.comes.at) early in
              absurd (not_before d.0 e d.1 is (sym stays ∙ super e x is found))
          | inr late ↦ subst (λ (l : ℕ). SameOutside (512 * 8) l e.content x) (sym r.readable.size) (outside_both (512 * 8) 4096 _ e.content x whole late)
        ];
  }
