-- What a crash leaves of a device that comes in or comes back is read by its first sector.
use Rattle.std.proofs.Common.{◌≡◌, ◌⊎◌, inl, inr, ℕ, ◌+◌, ◌*◌, ◌≤◌, true, List, [], ◌∷◌, ◌++◌, length, map, slice_get, Some, sym, ap, ◌∙◌, subst, arith}
use Rattle.std.proofs.lemmas.List.{length-map, length_push}
use Rattle.std.proofs.lemmas.Option.{same_Some, slice_get_within}
use Rattle.md_device.proofs.Splices.{part-spliced}
use Rattle.md_super.specs.Encoding.{super_bytes}
use Rattle.md_super.proofs.RoleLists.{length-roles_in}
use Rattle.md_create.specs.ReadBack.{IsReadBack}
use Rattle.md_members.specs.DeviceWrites.Writes.{Write}
use Rattle.md_model.proofs.Puts.{by_same}
use Rattle.md_state.specs.DiskWrites.{IsWritten}
use Rattle.md_state.specs.View.{Disk, MirrorView}
use Rattle.md_array.specs.Steps.Record.{super_write}
use Rattle.md_array.specs.Steps.ReAdd.{ReAdds}
use Rattle.md_array.specs.Worlds.{block_on}
use Rattle.md_array.proofs.General.Appended.{got_beside, got_last}
use Rattle.md_array.proofs.General.Indices.{got_in_map}
use Rattle.md_array.proofs.StepLemmas.WrittenLast.{written_last}
use Rattle.md_assembly.proofs.Indices.{got_within}
use Rattle.md_laws.specs.ReadAfterCrashes.{EndsInFirstSector, ReadsAs, ReadsAtAdd, ReadsAtReAdd}
use Rattle.md_laws.specs.CrashesWithin.{IsLeftBut}
use Rattle.md_laws.proofs.Crashes.AtSteps.{same_lists, crashes_at_re_add}
use Rattle.md_laws.proofs.Crashes.FirstSector.{cut_reads}
use Rattle.md_laws.proofs.Crashes.OverZeros.{over_zeros}
use Rattle.md_laws.proofs.Crashes.WithinAdd.{crashes_at_add}

-- ---- of the devices the last one alone is not as it was
module _ (disks : List Disk) (was : Disk) (left : List (List ℕ)) (P : List ℕ → List ℕ → Type 0) (but : IsLeftBut (length disks) P (disks ++ was ∷ []) left) where
  last_there : (c : List ℕ) × (slice_get left (length disks) ≡ Some c)
  last_there = let many = but.as_many in let long = length_push disks was in got_within left (length disks) (omega arith)

  -- more is known of what it is left as
  last_is : (Q : List ℕ → List ℕ → Type 0) (c : List ℕ) → slice_get left (length disks) ≡ Some c → Q was.content c → IsLeftBut (length disks) Q (disks ++ was ∷ []) left
  last_is Q c there holds = record {
    as_many = but.as_many;
    others = but.others;
    this = λ d x at is.
        let here : was ≡ d = same_Some was d (sym (got_last disks was) ∙ at) in
        let same : c ≡ x = same_Some c x (sym there ∙ is) in
        subst (λ (y : Disk). Q y.content x) here (subst (Q was.content) same holds);
  }

  -- it is as after the call
  as_after : (now : Disk) (c : List ℕ) → slice_get left (length disks) ≡ Some c → c ≡ now.content → left ≡ map (λ (d : Disk). d.content) (disks ++ now ∷ [])
  as_after now c there same =
      let all = disks ++ now ∷ [] in
      let content : Disk → List ℕ = λ d. d.content in
      let long = length_push disks was in
      same_lists (map content all) left (but.as_many ∙ long ∙ sym (length_push disks now) ∙ sym (length-map all content))
      (λ j x y at is. by_same j (length disks)
      (λ here.
      same_Some y c (sym is ∙ ap (slice_get left) here ∙ there) ∙ same
      ∙ sym (same_Some x now.content (sym at ∙ ap (slice_get (map content all)) here ∙ got_in_map content all (length disks) now (got_last disks now))))
      (λ apart.
      let inside = slice_get_within left j y is in
      let many = but.as_many in
      let b = got_within (disks ++ was ∷ []) j (omega arith) in
      but.others j apart b.0 y b.1 is
      ∙ sym (same_Some x b.0.content (sym at ∙ got_in_map content all j b.0 (got_beside disks was now j apart ∙ b.1)))))

-- ---- a device that comes back
module _ (k : ℕ) (device : Disk) (old new : MirrorView) (r : ReAdds k device old new) where
  abbrev w : Write
  w = super_write new.array r.recorded.takes.member

  abbrev now : Disk
  now = r.recorded.now

  pub re_add_writes : IsWritten (length old.disks) w (old.disks ++ device ∷ []) (old.disks ++ now ∷ [])
  re_add_writes = written_last old.disks device r.after_reading now w r.only_read r.recorded.written

  room : 512 * 8 + 4096 ≤ length device.content
  room = r.read.superblock.read.within

  block_now : device.honest ≡ true → block_on now.content ≡ w.bytes
  block_now own =
      ap block_on (re_add_writes.done device now (got_last old.disks device) (got_last old.disks now) own)
      ∙ part-spliced device.content (512 * 8) w.bytes 4096 (sym r.recorded.readable.size) (let fits = room in omega arith)

pub reads_at_re_add : ReadsAtReAdd
reads_at_re_add k device old new left honest own r old_ends new_ends may =
    let bytes = (super_write new.array r.recorded.takes.member).bytes in
    let block = block_now k device old new r own in
    let but = crashes_at_re_add k device old new left honest own r may in
    let c = last_there old.disks device left _ but in
    last_is old.disks device left _ but (λ was x. ReadsAs (block_on x) (block_on was) ⊎ ReadsAs (block_on x) (block_on r.recorded.now.content)) c.0 c.1
    (subst (λ (b : List ℕ). ReadsAs (block_on c.0) (block_on device.content) ⊎ ReadsAs (block_on c.0) b) (sym block)
    (cut_reads device.content c.0 bytes r.recorded.readable.size (room k device old new r) old_ends (subst EndsInFirstSector block new_ends) (but.this device c.0 (got_last old.disks device) c.1)))

-- ---- a device that comes in
pub reads_at_add : ReadsAtAdd
reads_at_add k device old new left honest r ends may =
    let but = crashes_at_add k device old new left honest r may in
    let laid = r.comes.laid in
    let readable : IsReadBack laid.superblock = r.comes.readable in
    let roles = ap length readable.fields.roles ∙ length-roles_in _ (super_bytes laid.superblock) in
    let fits = r.may.long in
    let c = last_there old.disks device left _ but in
    elim (but.this device c.0 (got_last old.disks device) c.1) [
      | inl wiped ↦ inr (last_is old.disks device left _ but _ c.0 c.1 (inl wiped))
      | inr (inl zeros) ↦ inr (last_is old.disks device left _ but _ c.0 c.1 (inr zeros))
      | inr (inr mixed) ↦ elim (over_zeros laid device.content (omega arith) c.0 readable.size (omega (arith, roles)) mixed) [
        | inl zeros ↦ inr (last_is old.disks device left _ but _ c.0 c.1 (inr zeros))
        | inr done ↦ inl (as_after old.disks device left _ but r.comes.now c.0 c.1 (done ∙ sym (r.comes.writes.all_done honest)) ∙ ap (map (λ (d : Disk). d.content)) (sym r.comes.disks))
      ]
    ]
