-- A log of the only member in sync, with any bytes: it is found alone in sync, and holds what it held where it listed nothing.
use Rattle.std.proofs.Common.{◌≡◌, ◌∙◌, ℕ, ◌*◌, ◌/◌, true≢false, true, false, List, length, map, slice_get, Some, refl, sym, ap, subst, arith, inl, inr}
use Rattle.std.proofs.lemmas.Option.{slice_get_within}
use Rattle.md_device.specs.Splice.{SameOutside}
use Rattle.md_format.specs.Fields.{number_at}
use Rattle.md_kept_members.specs.View.{MemberView}
use Rattle.md_super.specs.Log.{has_bad_block_log}
use Rattle.md_model.specs.Content.{HoldsAtRest}
use Rattle.md_model.specs.Devices.{Stored}
use Rattle.md_model.specs.Openings.{IsWithinLimits}
use Rattle.md_model.specs.Worlds as worlds
use Rattle.md_model.specs.Worlds.{IsQuiet, World}
use Rattle.md_model.proofs.Puts.{by_same}
use Rattle.md_model.proofs.Steps.Keeps.{IsKept}
use Rattle.md_members.specs.DeviceWrites.Writes.{Write}
use Rattle.md_kept_members.specs.OnDevices.Storing.{sector_from_super}
use Rattle.md_state.specs.DiskWrites.{IsTried}
use Rattle.md_state.specs.Members.{IsMember}
use Rattle.md_state.specs.View.{ArrayView, Disk}
use Rattle.md_array.specs.Worlds.{stored_on, super_of, world_of}
use Rattle.md_array.proofs.Rebuilding.StoreLog.{is_log, own_beside}
use Rattle.md_array.proofs.Rebuilding.MemberStored.{log_long}
use Rattle.md_array.proofs.StepLemmas.OneMember.{stored_there}
use Rattle.md_array.proofs.Worlds.PartsApart.{HasParts, block_beside_log, header_beside_log, log_alone, parts_of}
use Rattle.md_array.proofs.Worlds.States.{in_sync_recorded}
use Rattle.md_laws.specs.Left.{contents_of}
use Rattle.md_laws.specs.Runs.{Moment, history_of}
use Rattle.md_laws.proofs.Runs.MirrorContents.{life_held_at}
use Rattle.md_laws.proofs.Runs.MirrorLives.{keeps_geometry, life_kept}
use Rattle.md_laws.proofs.Runs.MirrorRuns.{starts}
use Rattle.md_laws.proofs.Runs.Moments.{IsSoundAt, life_keeps, sound_when_opened}
use Rattle.md_laws.proofs.Crashes.AsFailed.{failed_as_tried}
use Rattle.md_laws.proofs.Crashes.LeftContents.{read_in}
use Rattle.md_assembly.proofs.Indices.{got_within}
use Rattle.md_call_laws.specs.Crashes.TornWrites.{ContentAfterLoneLog, IsLeftByLoneLog, StartsAfterLoneLog, halted_over}
use Rattle.md_call_laws.proofs.CrashLemmas.HaltedOver.{sound_over}
use Rattle.md_call_laws.proofs.CrashLemmas.LoneMember as lone

-- ---- what it left
module _ (t : Moment) (at : IsSoundAt t) (left : List Disk) (l : IsLeftByLoneLog t left) where
  abbrev k : ℕ
  k = l.on

  abbrev a : ArrayView
  a = t.mirror.array

  abbrev m : MemberView
  m = l.call.member

  abbrev w : Write
  w = l.call.write

  -- at the end of the write too, any bytes may stand in its range
  pub tries : (disks : List Disk) × IsTried k w t.mirror.disks disks × (map (λ d. d.content) disks ≡ contents_of left)
  tries = elim l.since [
    | inl within ↦ failed_as_tried k w t.mirror.disks l.new.disks (contents_of left) at.honest l.call.halts.disks within
    | inr after ↦ (l.new.disks, l.call.halts.disks.tried, sym after)
  ]

  abbrev pub disks : List Disk
  disks = tries.0

  tried : IsTried k w t.mirror.disks disks
  tried = tries.1

  pub same_contents : contents_of disks ≡ contents_of left
  same_contents = tries.2

  abbrev is_member : IsMember a k m
  is_member = l.call.in_sync.member

  has_log : has_bad_block_log m.superblock ≡ true
  has_log = (is_log m w l.call.among).0

  outside : (d e : Disk) → slice_get t.mirror.disks k ≡ Some d → slice_get disks k ≡ Some e
      → SameOutside (512 * sector_from_super m.superblock.bblog_offset) (512 * m.superblock.bblog_size) d.content e.content
  outside d e was is =
      subst (λ (n : ℕ). SameOutside (512 * sector_from_super m.superblock.bblog_offset) n d.content e.content) (log_long m l.call.room has_log)
      (subst (λ (z : Write). SameOutside (512 * z.sector) (length z.bytes) d.content e.content) (is_log m w l.call.among).1 (tried.outside d e was is))

  has_parts : (d : Disk) → slice_get t.mirror.disks k ≡ Some d → HasParts a m d.content
  has_parts d was = parts_of t.mirror at.sound k d m was is_member

  pub sound_torn : IsSoundAt (halted_over t disks)
  sound_torn = sound_over t at k w disks tried m is_member
      (λ d e was is.
      let had = at.read k d m was is_member in
      let block = block_beside_log a m d.content e.content (has_parts d was) has_log (outside d e was is) in
      let header = header_beside_log a m d.content e.content (has_parts d was) has_log (outside d e was is) in
      record {
        super = λ un. own_beside a m d.content e.content block m.superblock refl refl refl refl refl (had.super un);
        header = λ un. elim (had.header un) [
          | inl width ↦ inl (ap (λ (h : List ℕ). number_at 4 52 h / 512) header ∙ width)
          | inr gone ↦ absurd (true≢false (sym (in_sync_recorded m.state l.call.in_sync.in_sync) ∙ gone.0))
        ];
      })

  abbrev stored : ℕ → Stored
  stored = (world_of t.mirror t.requests).stored

  abbrev torn : ℕ → Stored
  torn = read_in a disks

  alone : torn k ≡ record (stored k) { listed = (torn k).listed }
  alone =
      let in_list = slice_get_within a.members k m is_member in
      let as_many = at.sound.fits.as_many in
      let long = tried.as_many in
      let d = got_within t.mirror.disks k (omega arith) in
      let e = got_within disks k (omega arith) in
      let was = stored_there t.mirror.disks a k m d.0 is_member d.1 in
      let is = stored_there disks a k m e.0 is_member e.1 in
      is
      ∙ log_alone a m d.0.content e.0.content (has_parts d.0 d.1) has_log (outside d.0 e.0 d.1 e.1)
      ∙ (λ i. record (sym was i) { listed = (sym is i).listed })

  -- what this says of a device, k among them
  of_each : {A : Type 0} (of : Stored → A) → of (torn k) ≡ of (stored k) → (j : ℕ) → of (torn j) ≡ of (stored j)
  of_each of here j = by_same j k
      (λ same. ap (λ (i : ℕ). of (torn i)) same ∙ here ∙ ap (λ (i : ℕ). of (stored i)) (sym same))
      (λ off. ap of (ap (stored_on a (slice_get a.members j)) (tried.others j off)))

  pub supers : (j : ℕ) → (torn j).super ≡ (stored j).super
  supers = of_each (λ (x : Stored). x.super) (ap (λ (x : Stored). x.super) alone)

  pub contents : (j s : ℕ) → (torn j).content s ≡ (stored j).content s
  contents j s = of_each (λ (x : Stored). x.content s) (ap (λ (x : Stored). x.content s) alone) j

-- ---- at a moment of a life
pub starts_after_lone_log : StartsAfterLoneLog
starts_after_lone_log before m start es rest final t life left l next again =
    let at = life_keeps m es rest final t (sound_when_opened before m start.honest start.opened) life in
    let here = keeps_geometry before m start es rest final t life in
    lone.begins_after t l.on l.alone left (disks t at left l) (same_contents t at left l) (sound_torn t at left l) (supers t at left l) (contents t at left l) final
    (subst IsWithinLimits (sym here) (starts before m start).small)
    (subst (λ x. IsKept x (super_of final.array.shared) (history_of t)) (sym here) (life_kept before m start es rest final t life))
    next again

pub content_after_lone_log : ContentAfterLoneLog
content_after_lone_log before m a start holds es rest final t b life left l next again =
    let x = life_held_at before m a start holds es rest final t b life in
    let c = lone.content_after t l.on l.alone left (disks t x.sound left l) (same_contents t x.sound left l) (sound_torn t x.sound left l) (supers t x.sound left l) (contents t x.sound left l) final
    (subst IsWithinLimits (sym x.geometry) (starts before m start).small)
    (subst (λ g. IsKept g (super_of final.array.shared) (history_of t)) (sym x.geometry) x.held.kept)
    next again b
    (subst (λ g. HoldsAtRest g b (history_of t).now) (sym x.geometry) x.held.holds.at_rest)
    (λ s. ((p : ℕ) → worlds.IsInSync (world_of t.mirror t.requests) p → ((world_of t.mirror t.requests).stored p).listed s ≡ false)) (λ p s known in_p _. known p in_p) in
    (c.0, c.1, λ s low quiet when known. c.2 s low known quiet when)
