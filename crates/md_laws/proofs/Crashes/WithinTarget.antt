-- What a crash leaves within `admit` or `checkpoint`, by which a member that is rebuilt tells of it.
use Rattle.std.proofs.Common.{◌≡◌, ◌⊎◌, ℕ, ◌*◌, inl, inr, true, List, length, map, slice_get, Some, refl, sym, ap, ◌∙◌, subst, arith}
use Rattle.std.proofs.lemmas.Option.{slice_get_within}
use Rattle.md_assembly.proofs.Indices.{got_within}
use Rattle.md_assembly.specs.declared.state.MemberState.{MemberState}
use Rattle.md_assembly.specs.declared.state.MemberState.TheVariants.{InSync, Recovering, Stale, Spare, Faulty}
use Rattle.md_assembly.specs.States.{is_recorded, is_recovering}
use Rattle.md_bitmap.specs.Marks.{Bitmap}
use Rattle.md_device.proofs.Splices.{part-spliced}
use Rattle.md_kept_members.specs.Members.{made_due, recorded_member}
use Rattle.md_kept_members.specs.TakingBack.{admitted_member}
use Rattle.md_kept_members.specs.View.{MemberView}
use Rattle.md_state.specs.DiskWrites.{IsWritten}
use Rattle.md_state.specs.Members.{IsMember}
use Rattle.md_state.specs.Steps.Checkpoint.{checked}
use Rattle.md_state.specs.View.{ArrayView, Disk, MirrorView}
use Rattle.md_members.specs.DeviceWrites.Writes.{Write}
use Rattle.md_array.specs.Steps.Admit.{Admits}
use Rattle.md_array.specs.Steps.Checkpoint.{Checkpoints}
use Rattle.md_array.specs.Consistency.{IsConsistent}
use Rattle.md_array.specs.Worlds.{AreHonest, block_on}
use Rattle.md_array.proofs.General.Indices.{at_set_same, got_in_map}
use Rattle.md_laws.specs.ReadAfterCrashes.{EndsInFirstSector, EndsOnDevice, ReadsAs, ReadsAtTarget}
use Rattle.md_laws.specs.CrashesWithin.{IsLeftBut, MayAllBeLeft}
use Rattle.md_laws.proofs.Crashes.AtSteps.{crashes_at_write}
use Rattle.md_laws.proofs.Crashes.FirstSector.{cut_reads}

-- ---- the member, after the call
pub recovering_recorded : (s : MemberState) → is_recovering s ≡ true → is_recorded s ≡ true
recovering_recorded (InSync role) e = refl
recovering_recorded (Recovering role) e = refl
recovering_recorded (Stale role) e = absurd cc
recovering_recorded Spare e = refl
recovering_recorded Faulty e = absurd cc

pub admitted_there : (k : ℕ) (old new : MirrorView) (r : Admits k old new) → IsMember new.array k (admitted_member r.role r.may.member)
admitted_there k old new r =
    let m = r.may.member in
    let due = map made_due old.array.members in
    let there : slice_get due k ≡ Some (made_due m) = got_in_map made_due old.array.members k m r.may.at in
    ap (λ (a : ArrayView). slice_get a.members k) r.array ∙ at_set_same due k (admitted_member r.role m) (slice_get_within due k (made_due m) there)

pub checkpointed_there : (k : ℕ) (copied : Bitmap) (old new : MirrorView) (r : Checkpoints k copied old new)
    → IsMember new.array k (recorded_member (checked r.sure r.may.member))
checkpointed_there k copied old new r =
    let m = r.may.member in
    ap (λ (a : ArrayView). slice_get a.members k) r.array
    ∙ at_set_same old.array.members k (recorded_member (checked r.sure m)) (slice_get_within old.array.members k m r.may.at)

-- ---- where both superblocks end in the first sector
reads_there : (k : ℕ) (m : MemberView) (bytes : List ℕ) (old new : MirrorView) (left : List (List ℕ)) → IsConsistent old → IsMember old.array k m → length bytes ≡ 4096 → AreHonest old.disks
    → IsWritten k (record { sector = 8; bytes = bytes }) old.disks new.disks → EndsOnDevice k old.disks → EndsOnDevice k new.disks → MayAllBeLeft old.disks new.disks left
    → IsLeftBut k (λ was c. ReadsAs (block_on c) (block_on was) ⊎ ((e : Disk) → slice_get new.disks k ≡ Some e → ReadsAs (block_on c) (block_on e.content))) old.disks left
reads_there k m bytes old new left sound is size honest done old_ends new_ends may =
    let w : Write = record { sector = 8; bytes = bytes } in
    let cut = crashes_at_write k w old.disks new.disks left honest done may in
    record {
      as_many = cut.as_many;
      others = cut.others;
      this = λ d c was there.
          let long = (sound.fits.each k d m was is).long in
          let block : (e : Disk) → slice_get new.disks k ≡ Some e → block_on e.content ≡ bytes =
          λ e now. ap block_on (done.done d e was now (honest k d was)) ∙ part-spliced d.content (512 * 8) bytes 4096 (sym size) (omega arith) in
          let low = slice_get_within old.disks k d was in
          let many = done.tried.as_many in
          let e = got_within new.disks k (omega arith) in
          elim (cut_reads d.content c bytes size (omega arith) (old_ends d was) (subst EndsInFirstSector (block e.0 e.1) (new_ends e.0 e.1)) (cut.this d c was there)) [
            | inl before ↦ inl before
            | inr after ↦ inr (λ x now. subst (ReadsAs (block_on c)) (sym (block x now)) after)
          ];
    }

pub reads_at_target : ReadsAtTarget
reads_at_target k old new left sound honest tells old_ends new_ends may = elim tells [
  | inl admits ↦ reads_there k admits.may.member _ old new left sound admits.may.at admits.readable.size honest admits.disks old_ends new_ends may
  | inr stores ↦ reads_there k stores.1.may.member _ old new left sound stores.1.may.at stores.1.readable.size honest stores.1.disks old_ends new_ends may
]
