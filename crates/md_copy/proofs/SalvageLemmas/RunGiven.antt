-- A run of sectors that was given, and then written to the target, is held there.
use Rattle.std.proofs.Common.{◌≡◌, ◌≢◌, ◌∙◌, ℕ, ◌+◌, ◌*◌, ◌/◌, ◌%◌, ◌<◌, ◌≤◌, true, false, true≢false, List, length, slice_get, Some, refl, sym, ap, subst, arith, option_map}
use Rattle.std.proofs.lemmas.Option.{same_Some, slice_get_within}
use Rattle.md_assembly.proofs.Indices.{got_within}
use Rattle.md_assembly.specs.States.{is_in_sync}
use Rattle.md_array.proofs.General.ReadingData.{read_fits}
use Rattle.md_array.proofs.Worlds.SectorCopied.{in_sync_as}
use Rattle.md_array.specs.Consistency.{IsConsistent}
use Rattle.md_device.specs.Device.{held, written}
use Rattle.md_device.specs.Splice.{part}
use Rattle.md_device.proofs.Splices.{length-part, part-spliced, part_part}
use Rattle.md_kept_members.specs.View.{MemberView}
use Rattle.md_read.specs.Reading.{GivesSectors}
use Rattle.md_read.proofs.RunsInTurn.{sector_held}
use Rattle.md_state.specs.Members.{IsInSync, IsMember}
use Rattle.md_state.specs.Rests.{Rests}
use Rattle.md_state.specs.View.{ArrayView, Disk, MirrorView}
use Rattle.md_copy.specs.Salvaging.Putting.{PutsRun}
use Rattle.md_copy.specs.Salvaging.Sectors.{IsSectorHeld, bytes_of_sector}

module _ (old given_at mid new : MirrorView) (target sector : ℕ) (bytes : List ℕ) (out : (m : MemberView) → IsMember old.array target m → is_in_sync m.state ≡ false)
    (given : GivesSectors sector bytes old given_at) (rests : Rests old mid) (sound : IsConsistent mid) (whole : length bytes % 512 ≡ 0) (inside : sector + length bytes / 512 ≤ mid.array.chunks.size)
    (puts : PutsRun target sector bytes mid new) where
  -- what the target has of the run
  written_there : (e : Disk) → slice_get new.disks target ≡ Some e → e.honest ≡ true → (i : ℕ) → i < length bytes / 512 → bytes_of_sector puts.member e.content (sector + i) ≡ held bytes i 512
  written_there e at_e honest i low =
      let offset = puts.member.superblock.data_offset in
      let below = slice_get_within new.disks target e at_e in
      let many = puts.disks.tried.as_many in
      let t = got_within mid.disks target (omega (arith, below, many)) in
      let stays = puts.disks.tried.stays t.0 e t.1 at_e in
      let done = puts.disks.done t.0 e t.1 at_e (sym stays.honest ∙ honest) in
      let room = read_fits mid sound target sector (length bytes) puts.member.superblock (ap (option_map (λ (x : MemberView). x.superblock)) puts.at) whole inside t.0 t.1 in
      let place : 512 * (offset + (sector + i)) ≡ 512 * (offset + sector) + 512 * i = omega arith in
      ap (λ (at : ℕ). part e.content at 512) place
      ∙ ap (λ (c : List ℕ). part c (512 * (offset + sector) + 512 * i) 512) done
      ∙ sym (part_part (written t.0.content (offset + sector) bytes) (512 * (offset + sector)) (length bytes) (512 * i) 512 (omega (arith, low)))
      ∙ ap (λ (xs : List ℕ). part xs (512 * i) 512) (part-spliced t.0.content (512 * (offset + sector)) bytes (length bytes) refl (omega (arith, room)))

  pub run_is_held : (i : ℕ) → i < length bytes / 512 → IsSectorHeld new target (sector + i)
  run_is_held i low =
      let h = sector_held sector bytes old given_at given i low in
      let is_in = in_sync_as h.role h.is.member.state h.is.in_sync in
      let other : h.from ≢ target = λ same. true≢false (sym is_in.0 ∙ out h.is.member (ap (slice_get old.array.members) (sym same) ∙ h.is.at)) in
      let arrays : new.array ≡ old.array = puts.array ∙ rests.array in
      record {
        at = h.from;
        member = h.is.member;
        other = other;
        in_sync = subst (λ (a : ArrayView). IsInSync a h.from h.is.member) (sym arrays) (record { member = h.is.at; in_sync = is_in.0 });
        unlisted = h.unlisted;
        same = λ m d e at_m at_d at_e honest_d honest_e.
            let there : IsMember mid.array target m = sym (ap (λ (a : ArrayView). slice_get a.members target) puts.array) ∙ at_m in
            let is : puts.member ≡ m = same_Some puts.member m (sym puts.at ∙ there) in
            let in_mid : slice_get mid.disks h.from ≡ Some d = sym (puts.disks.tried.others h.from other) ∙ at_d in
            let below = slice_get_within mid.disks h.from d in_mid in
            let many = rests.disks.same.as_many in
            let c = got_within old.disks h.from (omega (arith, below, many)) in
            let same = rests.disks.content h.from c.0 d c.1 in_mid in
            let honest = rests.disks.same.honest h.from c.0 d c.1 in_mid in
            let long : length (held bytes i 512) ≡ 512 = length-part bytes (512 * i) 512 (omega (arith, low)) in
            ap (λ (n : MemberView). bytes_of_sector n e.content (sector + i)) (sym is)
            ∙ written_there e at_e honest_e i low
            ∙ sym (h.holds c.0 h.is.member c.1 h.is.at (sym honest.honest ∙ honest_d))
            ∙ ap (λ (n : ℕ). part c.0.content (512 * (h.is.member.superblock.data_offset + (sector + i))) n) long
            ∙ ap (λ (x : List ℕ). bytes_of_sector h.is.member x (sector + i)) (sym same);
      }
