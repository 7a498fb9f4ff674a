-- A sector of the bitmap of the only member in sync, with any bits: it is found alone in sync, and holds what it held.
use Rattle.std.proofs.Common.{◌≡◌, ◌∙◌, ℕ, ◌+◌, ◌*◌, ◌<◌, List, length, map, slice_get, Some, sym, ap, subst, arith, inl, inr}
use Rattle.std.proofs.lemmas.Option.{slice_get_within}
use Rattle.md_bitmap.proofs.Padded.{length-padded}
use Rattle.md_device.specs.Splice.{SameOutside}
use Rattle.md_kept_members.specs.View.{MemberView}
use Rattle.md_members.specs.Areas.{bitmap_sectors}
use Rattle.md_model.specs.Content.{HoldsAtRest}
use Rattle.md_model.specs.Devices.{Stored}
use Rattle.md_model.specs.Openings.{IsWithinLimits}
use Rattle.md_model.specs.Sectors.{Geometry}
use Rattle.md_model.proofs.Puts.{by_same}
use Rattle.md_model.proofs.Steps.Keeps.{IsKept}
use Rattle.md_members.specs.DeviceWrites.Writes.{Write}
use Rattle.md_kept_members.specs.OnDevices.Storing.{sector_from_super}
use Rattle.md_state.specs.DiskWrites.{IsTried}
use Rattle.md_state.specs.Members.{IsMember}
use Rattle.md_state.specs.View.{ArrayView, Disk, geometry_of}
use Rattle.md_array.specs.ReadAsKept.{HasWidth}
use Rattle.md_array.specs.Worlds.{stored_on, super_of, world_of}
use Rattle.md_array.proofs.StepLemmas.OneMember.{stored_there}
use Rattle.md_array.proofs.Worlds.Outside.{starts_at}
use Rattle.md_array.proofs.Worlds.PartsApart.{HasParts, block_beside_marks, log_beside_marks, marks_alone, parts_of}
use Rattle.md_array.proofs.Worlds.ReadAsKept.{stays}
use Rattle.md_laws.specs.Left.{contents_of}
use Rattle.md_laws.specs.Runs.{Moment, history_of}
use Rattle.md_laws.proofs.Runs.MirrorContents.{life_held_at}
use Rattle.md_laws.proofs.Runs.MirrorLives.{keeps_geometry, life_kept}
use Rattle.md_laws.proofs.Runs.MirrorRuns.{starts}
use Rattle.md_laws.proofs.Runs.Moments.{IsSoundAt, life_keeps, sound_when_opened}
use Rattle.md_laws.proofs.Crashes.AsFailed.{failed_as_tried}
use Rattle.md_laws.proofs.Crashes.LeftContents.{got_like, read_in}
use Rattle.md_assembly.proofs.Indices.{got_within}
use Rattle.md_call_laws.specs.Crashes.TornWrites.{ContentAfterLoneMarks, IsLeftByLoneMarks, StartsAfterLoneMarks, halted_over}
use Rattle.md_call_laws.proofs.CrashLemmas.HaltedOver.{sound_over}
use Rattle.md_call_laws.proofs.CrashLemmas.LoneMember as lone

-- ---- what it left
module _ (t : Moment) (at : IsSoundAt t) (left : List Disk) (l : IsLeftByLoneMarks t left) where
  abbrev k : ℕ
  k = l.on

  abbrev a : ArrayView
  a = t.mirror.array

  abbrev g : Geometry
  g = geometry_of t.mirror.array

  abbrev m : MemberView
  m = l.call.member

  abbrev w : Write
  w = l.call.write

  abbrev first : ℕ
  first = sector_from_super m.superblock.bitmap_offset

  -- at the end of the write too, any bytes may stand in its range
  pub tries : (disks : List Disk) × IsTried k w t.mirror.disks disks × (map (λ d. d.content) disks ≡ contents_of left)
  tries = elim l.since [
    | inl within ↦ failed_as_tried k w t.mirror.disks l.new.disks (contents_of left) at.honest l.call.halts.disks within
    | inr after ↦ (l.new.disks, l.call.halts.disks.tried, sym after)
  ]

  abbrev pub disks : List Disk
  disks = tries.0

  tried : IsTried k w t.mirror.disks disks
  tried = tries.1

  pub same_contents : contents_of disks ≡ contents_of left
  same_contents = tries.2

  abbrev is_member : IsMember a k m
  is_member = l.call.may.in_sync.member

  outside : (d e : Disk) → slice_get t.mirror.disks k ≡ Some d → slice_get disks k ≡ Some e → SameOutside (512 * (first + l.block)) 512 d.content e.content
  outside d e was is =
      let write = l.call.may.write in
      let sector : w.sector ≡ first + l.block = ap (λ (x : Write). x.sector) write.is ∙ ap (λ (n : ℕ). n + l.block) (sym (starts_at m.superblock write.start write.starts)) in
      let long : length w.bytes ≡ 512 = ap (λ (x : Write). length x.bytes) write.is ∙ length-padded 512 _ in
      subst (λ (n : ℕ). SameOutside (512 * (first + l.block)) n d.content e.content) long
      (subst (λ (s : ℕ). SameOutside (512 * s) (length w.bytes) d.content e.content) sector (tried.outside d e was is))

  has_parts : (d : Disk) → slice_get t.mirror.disks k ≡ Some d → HasParts a m d.content
  has_parts d was = parts_of t.mirror at.sound k d m was is_member

  low : (d : Disk) → slice_get t.mirror.disks k ≡ Some d → l.block < bitmap_sectors m.stored.chunks
  low d was = subst (λ (n : ℕ). l.block < bitmap_sectors n) (sym (has_parts d was).count) l.call.may.inside

  pub sound_torn : IsSoundAt (halted_over t disks)
  sound_torn = sound_over t at k w disks tried m is_member
      (λ d e was is.
      let x = got_like left disks (sym same_contents) k e is in
      let wide = subst (λ (c : List ℕ). HasWidth a.chunks.sectors m.superblock c) x.2 (l.header x.0 x.1) in
      stays a m t.failed_at (t.misread k) d.content e.content
      (block_beside_marks a m d.content e.content (has_parts d was) l.block (low d was) (outside d e was is))
      (log_beside_marks a m d.content e.content (has_parts d was) l.block (low d was) (outside d e was is))
      (λ _. wide) (at.read k d m was is_member))

  abbrev stored : ℕ → Stored
  stored = (world_of t.mirror t.requests).stored

  abbrev torn : ℕ → Stored
  torn = read_in a disks

  alone : torn k ≡ record (stored k) { bits = (torn k).bits; bitmap_events = (torn k).bitmap_events; bitmap_cleared = (torn k).bitmap_cleared; bitmap_fits = (torn k).bitmap_fits }
  alone =
      let in_list = slice_get_within a.members k m is_member in
      let as_many = at.sound.fits.as_many in
      let long = tried.as_many in
      let d = got_within t.mirror.disks k (omega arith) in
      let e = got_within disks k (omega arith) in
      let was = stored_there t.mirror.disks a k m d.0 is_member d.1 in
      let is = stored_there disks a k m e.0 is_member e.1 in
      is
      ∙ marks_alone a m d.0.content e.0.content (has_parts d.0 d.1) l.block (low d.0 d.1) (outside d.0 e.0 d.1 e.1)
      ∙ (λ i. record (sym was i) { bits = (sym is i).bits; bitmap_events = (sym is i).bitmap_events; bitmap_cleared = (sym is i).bitmap_cleared; bitmap_fits = (sym is i).bitmap_fits })

  -- what this says of a device, k among them
  of_each : {A : Type 0} (of : Stored → A) → of (torn k) ≡ of (stored k) → (j : ℕ) → of (torn j) ≡ of (stored j)
  of_each of here j = by_same j k
      (λ same. ap (λ (i : ℕ). of (torn i)) same ∙ here ∙ ap (λ (i : ℕ). of (stored i)) (sym same))
      (λ off. ap of (ap (stored_on a (slice_get a.members j)) (tried.others j off)))

  pub supers : (j : ℕ) → (torn j).super ≡ (stored j).super
  supers = of_each (λ (x : Stored). x.super) (ap (λ (x : Stored). x.super) alone)

  pub lists : (j s : ℕ) → (torn j).listed s ≡ (stored j).listed s
  lists j s = of_each (λ (x : Stored). x.listed s) (ap (λ (x : Stored). x.listed s) alone) j

  pub contents : (j s : ℕ) → (torn j).content s ≡ (stored j).content s
  contents j s = of_each (λ (x : Stored). x.content s) (ap (λ (x : Stored). x.content s) alone) j

-- ---- at a moment of a life
pub starts_after_lone_marks : StartsAfterLoneMarks
starts_after_lone_marks before m start es rest final t life left l next again =
    let at = life_keeps m es rest final t (sound_when_opened before m start.honest start.opened) life in
    let here = keeps_geometry before m start es rest final t life in
    lone.begins_after t l.on l.alone left (disks t at left l) (same_contents t at left l) (sound_torn t at left l) (supers t at left l) (contents t at left l) final
    (subst IsWithinLimits (sym here) (starts before m start).small)
    (subst (λ x. IsKept x (super_of final.array.shared) (history_of t)) (sym here) (life_kept before m start es rest final t life))
    next again

pub content_after_lone_marks : ContentAfterLoneMarks
content_after_lone_marks before m a start holds es rest final t b life left l next again =
    let x = life_held_at before m a start holds es rest final t b life in
    let c = lone.content_after t l.on l.alone left (disks t x.sound left l) (same_contents t x.sound left l) (sound_torn t x.sound left l) (supers t x.sound left l) (contents t x.sound left l) final
    (subst IsWithinLimits (sym x.geometry) (starts before m start).small)
    (subst (λ g. IsKept g (super_of final.array.shared) (history_of t)) (sym x.geometry) x.held.kept)
    next again b
    (subst (λ g. HoldsAtRest g b (history_of t).now) (sym x.geometry) x.held.holds.at_rest)
    (λ _. Unit {0}) (λ p s _ _ off. sym (lists t x.sound left l p s) ∙ off) in
    (c.0, c.1, λ s low. c.2 s low tt)
