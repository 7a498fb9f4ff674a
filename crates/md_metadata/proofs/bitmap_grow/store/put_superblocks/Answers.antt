use Rattle.std.proofs.Common.{arith, ◌≡◌, ◌∙◌, ◌+◌, ◌<◌, sym, map, length, List, [], ◌∷◌, ℕ, refl, subst, get_or, length-set}
use Rattle.std.specs.Prelude.{slice_get, Some}
use Rattle.std.proofs.lemmas.List.{length-map, map-set}
use Rattle.std.proofs.lemmas.Option.{slice_get_read}
use Rattle.md_assembly.proofs.Indices.{got_same}
use Rattle.md_kept_members.specs.OnDevices.Superblocks.{own_write}
use Rattle.md_members.specs.declared.info.MemberInfo.{MemberInfo}
use Rattle.md_state.specs.View.{Disk, disk_of}
use Rattle.md_super.specs.declared.superblock.Superblock.{Superblock}
use Rattle.md_metadata.specs.declared.bitmap_grow.growth.Growth.{Growth}
use Rattle.md_metadata.specs.Grow.Growing.{EndsNaming, OfMember}
use Rattle.md_metadata.specs.Grow.Stored.{FailsInPart, GetsSuperblock}
use Rattle.md_array.proofs.General.Answered.{err_gives, ok_gives}
use Rattle.md_array.proofs.Openings.DevicesInTurn.{disk_at}
use Rattle.md_metadata.proofs.GrowLemmas.StoredEach.{AreDoneTo, done_all, done_more, done_none, ends_at_device}
use Rattle.md_metadata.proofs.bitmap_grow.store.put_superblocks.Goals as goal

-- what holds with the superblock of the member at an index holds of that member
of_member : (g : Growth) (So : Superblock → Disk → Disk → Type 0) (k n : ℕ) (m : MemberInfo) (d e : Disk) → n ≡ length g.members.items → k < n → m ≡ get_or g.members.items k m
    → So m.superblock d e → OfMember g So k d e
of_member g So k n m d e count within is so info at =
    let here : slice_get g.members.items k ≡ Some m = slice_get_read g.members.items n k m count within is in
    let same : info ≡ m = got_same g.members.items k info m at here in
    rw (same) so

pub put_superblock-requires-clause-room : goal.put_superblock-requires-clause-room
put_superblock-requires-clause-room g c =
    let disk = disk_of g.D.Device in
    let d = disk (get_or c.loop-k.devices c.loop-k.k c.index-devices-k.result) in
    let here = disk_at disk c.loop-k.devices c.loop-k.k c.index-devices-k.result (omega arith) in
    c.requires.room c.loop-k.k d (c.loop-k.invariant.done.rest c.loop-k.k d (omega arith) here)

pub returns-then-is_err : goal.returns-then-is_err
returns-then-is_err g c =
    let disk = disk_of g.D.Device in
    let w = c.args.growth.now in
    let m = c.index-member.result.now in
    let d = disk (get_or c.loop-k.devices c.loop-k.k c.index-devices-k.result) in
    let e = disk c.put_superblock.new.device in
    let here = disk_at disk c.loop-k.devices c.loop-k.k c.index-devices-k.result (omega arith) in
    let many = sym (length-map c.args.devices.now disk) ∙ c.requires.as_many in
    let Fails : Superblock → Disk → Disk → Type 0 = λ own. FailsInPart w (own_write w.shared own ∷ []) in
    subst (λ (after : List Disk). EndsNaming w (map disk c.args.devices.now) after c.loop-k.k) (sym (map-set disk c.loop-k.devices c.loop-k.k c.put_superblock.new.device))
    (ends_at_device (OfMember w (GetsSuperblock w)) (map disk c.args.devices.now) (map disk c.loop-k.devices) c.loop-k.k d e c.loop-k.invariant.done here c.put_superblock.ensures.stays
    (OfMember w Fails)
    (of_member w Fails c.loop-k.k (length c.args.devices.now) m d e many c.loop-k-test.true c.index-member.ensures
    (err_gives c.put_superblock.result (Fails m.superblock d e) c.if-is_err.ensures.value c.put_superblock.ensures.fails)))

pub loop-k-preserved : goal.loop-k-preserved
loop-k-preserved g c =
    let disk = disk_of g.D.Device in
    let w = c.args.growth.now in
    let m = c.index-member.result.now in
    let d = disk (get_or c.loop-k.devices c.loop-k.k c.index-devices-k.result) in
    let e = disk c.put_superblock.new.device in
    let here = disk_at disk c.loop-k.devices c.loop-k.k c.index-devices-k.result (omega arith) in
    let many = sym (length-map c.args.devices.now disk) ∙ c.requires.as_many in
    record {
      done = subst (λ (after : List Disk). AreDoneTo (OfMember w (GetsSuperblock w)) (map disk c.args.devices.now) after (c.loop-k.k + 1)) (sym (map-set disk c.loop-k.devices c.loop-k.k c.put_superblock.new.device))
          (done_more (OfMember w (GetsSuperblock w)) (map disk c.args.devices.now) (map disk c.loop-k.devices) c.loop-k.k d e c.loop-k.invariant.done here c.put_superblock.ensures.stays
          (of_member w (GetsSuperblock w) c.loop-k.k (length c.args.devices.now) m d e many c.loop-k-test.true c.index-member.ensures
          (ok_gives c.put_superblock.result (GetsSuperblock w m.superblock d e) c.if-is_err.ensures.value c.put_superblock.ensures.ok)));
      size = length-set c.loop-k.devices c.loop-k.k c.put_superblock.new.device ∙ c.loop-k.invariant.size;
    }

pub loop-k-init : goal.loop-k-init
loop-k-init g c = record { done = done_none (OfMember c.args.growth.now (GetsSuperblock c.args.growth.now)) (map (disk_of g.D.Device) c.args.devices.now); size = refl }

pub returns : goal.returns
returns g c =
    let disk = disk_of g.D.Device in
    let w = c.args.growth.now in
    done_all (OfMember w (GetsSuperblock w)) (map disk c.args.devices.now) (map disk c.loop-k.devices) c.loop-k.k c.loop-k.invariant.done (omega (arith, length-map c.loop-k.devices disk))
