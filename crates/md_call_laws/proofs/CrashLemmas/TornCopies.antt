-- A copy that halted the mirror, with any bytes in its range: its chunks are marked on each member in sync, so the marks cover what differs.
use Rattle.std.proofs.Common.{◌≡◌, ◌≢◌, ◌∙◌, ◌⊎◌, inl, inr, ℕ, ◌+◌, ◌*◌, ◌<◌, ◌≤◌, Bool, false, true≢false, List, map, slice_get, Some, sym, ap, subst, arith}
use Rattle.std.proofs.lemmas.Option.{none-some, slice_get_within}
use Rattle.md_device.specs.Splice.{SameOutside}
use Rattle.md_kept_members.specs.View.{MemberView}
use Rattle.md_model.specs.Assembly.{IsFound}
use Rattle.md_model.specs.Content.{Content, BecomesAtOpening, HoldsUnmarked}
use Rattle.md_model.specs.Devices.{Covered, Stored, is_marked}
use Rattle.md_model.specs.Openings.{IsWithinLimits}
use Rattle.md_model.specs.Sectors.{Geometry, chunk_of}
use Rattle.md_model.specs.Crashes as crashes
use Rattle.md_model.specs.Worlds as worlds
use Rattle.md_model.specs.Worlds.{World}
use Rattle.md_model.proofs.Cases.{by_option, by_range}
use Rattle.md_model.proofs.Lives.Safe.{unmarked-bits}
use Rattle.md_model.proofs.Puts.{by_same}
use Rattle.md_model.proofs.Steps.Keeps.{IsKept}
use Rattle.md_model.proofs.Steps.Tracked.{agree_as}
use Rattle.md_members.specs.DeviceWrites.Writes.{Write}
use Rattle.md_state.specs.Steps.CopyData.{run_write}
use Rattle.md_state.specs.DiskWrites.{IsTried}
use Rattle.md_state.specs.Members.{IsMember}
use Rattle.md_state.specs.View.{ArrayView, Disk, MirrorView, geometry_of}
use Rattle.md_array.specs.Worlds.{none_in_flight, stored_of, stored_on, super_of, world_of}
use Rattle.md_array.proofs.StepLemmas.OneMember.{stored_there}
use Rattle.md_array.proofs.Worlds.PartsApart.{data_alone, data_elsewhere, parts_of}
use Rattle.md_array.proofs.Worlds.ReadAsKept.{read_beside_data}
use Rattle.md_array.proofs.Worlds.SectorCopied.{may_copy_chunk}
use Rattle.md_laws.specs.Left.{contents_of}
use Rattle.md_laws.specs.Lives.{AreFoundAgain}
use Rattle.md_laws.specs.Runs.{Moment, history_of}
use Rattle.md_laws.proofs.Runs.MirrorContents.{life_held_at}
use Rattle.md_laws.proofs.Runs.MirrorLives.{keeps_geometry, life_kept}
use Rattle.md_laws.proofs.Runs.MirrorRuns.{starts}
use Rattle.md_laws.proofs.Runs.Moments.{IsSoundAt, life_keeps, sound_when_opened}
use Rattle.md_laws.proofs.Crashes.AsFailed.{failed_as_tried}
use Rattle.md_laws.proofs.Crashes.LeftContents.{read_in}
use Rattle.md_assembly.proofs.Indices.{got_within}
use Rattle.md_call_laws.specs.Crashes.TornWrites.{BeginsAfter, ContentAfterCopy, IsLeftByCopy, IsOpenedAfter, StartsAfterCopy, halted_over}
use Rattle.md_call_laws.proofs.CrashLemmas.AfterHalt as after
use Rattle.md_call_laws.proofs.CrashLemmas.HaltedOver.{sound_over}

-- ---- what it left
module _ (t : Moment) (at : IsSoundAt t) (left : List Disk) (l : IsLeftByCopy t left) where
  abbrev k : ℕ
  k = l.on

  abbrev a : ArrayView
  a = t.mirror.array

  abbrev g : Geometry
  g = geometry_of t.mirror.array

  abbrev m : MemberView
  m = l.call.copy.may.target

  abbrev sector : ℕ
  sector = l.sector

  abbrev many : ℕ
  many = l.call.copy.sectors

  -- it is none of the sectors
  abbrev IsBeside : ℕ → Type 0
  IsBeside s = (s < sector) ⊎ (sector + many ≤ s)

  abbrev w : Write
  w = run_write m sector l.call.bytes

  -- at the end of the write too, any bytes may stand in its range
  pub tries : (disks : List Disk) × IsTried k w t.mirror.disks disks × (map (λ d. d.content) disks ≡ contents_of left)
  tries = elim l.since [
    | inl within ↦ failed_as_tried k w t.mirror.disks l.new.disks (contents_of left) at.honest l.call.halts.disks within
    | inr after ↦ (l.new.disks, l.call.halts.disks.tried, sym after)
  ]

  abbrev pub disks : List Disk
  disks = tries.0

  tried : IsTried k w t.mirror.disks disks
  tried = tries.1

  pub same_contents : contents_of disks ≡ contents_of left
  same_contents = tries.2

  abbrev is_member : IsMember a k m
  is_member = l.call.copy.may.in_sync.member

  outside : (d e : Disk) → slice_get t.mirror.disks k ≡ Some d → slice_get disks k ≡ Some e → SameOutside (512 * (m.superblock.data_offset + sector)) (512 * many) d.content e.content
  outside d e was is = subst (λ (n : ℕ). SameOutside (512 * (m.superblock.data_offset + sector)) n d.content e.content) l.call.copy.long (tried.outside d e was is)

  pub sound_torn : IsSoundAt (halted_over t disks)
  sound_torn = sound_over t at k w disks tried m is_member
      (λ d e was is. read_beside_data a m d.content e.content (parts_of t.mirror at.sound k d m was is_member) sector many l.call.copy.may.inside (outside d e was is) t.failed_at (t.misread k) (at.read k d m was is_member))

  abbrev stored : ℕ → Stored
  stored = (world_of t.mirror t.requests).stored

  abbrev torn : ℕ → Stored
  torn = read_in a disks

  -- the device, before and after
  record IsThere : Type 0 where
    old : Disk
    was : slice_get t.mirror.disks k ≡ Some old
    new : Disk
    is : slice_get disks k ≡ Some new

  there : IsThere
  there =
      let low = slice_get_within a.members k m is_member in
      let as_many = at.sound.fits.as_many in
      let long = tried.as_many in
      let d = got_within t.mirror.disks k (omega arith) in
      let e = got_within disks k (omega arith) in
      record { old = d.0; was = d.1; new = e.0; is = e.1 }

  before_there : stored k ≡ stored_of a m there.old.content
  before_there = stored_there t.mirror.disks a k m there.old is_member there.was

  now_there : torn k ≡ stored_of a m there.new.content
  now_there = stored_there disks a k m there.new is_member there.is

  alone : torn k ≡ record (stored k) { content = (torn k).content }
  alone =
      let content_is = ap (λ (s : Stored). s.content) now_there in
      now_there
      ∙ data_alone a m there.old.content there.new.content (parts_of t.mirror at.sound k there.old m there.was is_member) sector many l.call.copy.may.inside (outside there.old there.new there.was there.is)
      ∙ (λ i. record (sym before_there i) { content = sym content_is i })

  elsewhere : (s : ℕ) → IsBeside s → (torn k).content s ≡ (stored k).content s
  elsewhere s beside =
      ap (λ (x : Stored). x.content s) now_there
      ∙ data_elsewhere a m there.old.content there.new.content (parts_of t.mirror at.sound k there.old m there.was is_member) sector many l.call.copy.may.inside
      (outside there.old there.new there.was there.is) s beside
      ∙ sym (ap (λ (x : Stored). x.content s) before_there)

  others : (j : ℕ) → j ≢ k → torn j ≡ stored j
  others j off = ap (stored_on a (slice_get a.members j)) (tried.others j off)

  -- what this says of a device, k among them
  of_each : {A : Type 0} (of : Stored → A) → of (torn k) ≡ of (stored k) → (j : ℕ) → of (torn j) ≡ of (stored j)
  of_each of here j = by_same j k
      (λ same. ap (λ (i : ℕ). of (torn i)) same ∙ here ∙ ap (λ (i : ℕ). of (stored i)) (sym same))
      (λ off. ap of (others j off))

  pub supers : (j : ℕ) → (torn j).super ≡ (stored j).super
  supers = of_each (λ (x : Stored). x.super) (ap (λ (x : Stored). x.super) alone)

  pub lists : (j s : ℕ) → (torn j).listed s ≡ (stored j).listed s
  lists j s = of_each (λ (x : Stored). x.listed s) (ap (λ (x : Stored). x.listed s) alone) j

  pub marks : (j c : ℕ) → is_marked (torn j) c ≡ is_marked (stored j) c
  marks j c = of_each (λ (x : Stored). is_marked x c) (ap (λ (x : Stored). is_marked x c) alone) j

  pub contents : (j s : ℕ) → IsBeside s → (torn j).content s ≡ (stored j).content s
  contents j s beside = of_each (λ (x : Stored). x.content s) (elsewhere s beside) j

  -- ---- an opening of them
  module _ (opened : MirrorView) (small : IsWithinLimits g) (kept : IsKept g (super_of opened.array.shared) (history_of t)) (next : MirrorView) (again : IsOpenedAfter opened t left next) where
    abbrev of_torn : IsOpenedAfter opened t disks next
    of_torn = after.over_same t left disks same_contents opened next again

    abbrev devices : AreFoundAgain (halted_over t disks) of_torn.found
    devices = of_torn.devices

    abbrev made : ℕ → Stored
    made = after.made t disks sound_torn opened small kept supers next of_torn

    abbrev now : World
    now = (history_of t).now

    abbrev Found : ℕ → Type 0
    Found = IsFound g made (super_of next.array.shared)

    in_then : (i : ℕ) → Found i → worlds.IsInSync now i
    in_then = after.was_so t disks sound_torn opened small kept supers next of_torn

    place : (i : ℕ) → Found i → (p : ℕ) × (devices.at i ≡ Some p)
    place i f = by_option (devices.at i)
        (λ none. absurd (none-some f.own (sym (after.gone t disks sound_torn opened small kept supers next of_torn i none) ∙ f.is)))
        (λ p is. (p, is))

    halves : (i p : ℕ) → devices.at i ≡ Some p → crashes.IsHalfOpened g (torn i) (made i)
    halves = after.half t disks sound_torn opened small kept supers next of_torn

    -- where one of them has no mark, it had none
    bit_then : (i s : ℕ) → s < g.size → Found i → is_marked (made i) (chunk_of g s) ≡ false → (now.stored i).bits (chunk_of g s) ≡ false
    bit_then i s low f off =
        let p = place i f in
        unmarked-bits (now.stored i) (chunk_of g s) (sym (marks i (chunk_of g s)) ∙ (halves i p.0 p.1).marks s low off)

    -- so it is none of the sectors
    other_sector : (i s : ℕ) → worlds.IsInSync now i → (now.stored i).bits (chunk_of g s) ≡ false → IsBeside s
    other_sector i s on off = by_range sector many s
        (λ from to. absurd (true≢false
        (sym ((may_copy_chunk t.mirror at.sound at.honest t.requests at.in_flight (chunk_of g s) (l.call.copy.may.may s from to)).stored i on)
        ∙ kept.tracked.known i (chunk_of g s) on ∙ off)))
        (λ beside. beside)

    content_then : (i s : ℕ) → Found i → IsBeside s → (made i).content s ≡ (now.stored i).content s
    content_then i s f beside = let p = place i f in ap (λ (x : ℕ → List ℕ). x s) (halves i p.0 p.1).content ∙ contents i s beside

    listed_then : (i s : ℕ) → Found i → (made i).listed s ≡ (now.stored i).listed s
    listed_then i s f = let p = place i f in ap (λ (x : ℕ → Bool). x s) (halves i p.0 p.1).listed ∙ lists i s

    covered : Covered g made Found
    covered i j n s low f_i f_j f_n off =
        let bit = bit_then i s low f_i off in
        let other = other_sector i s (in_then i f_i) bit in
        agree_as (now.stored j) (now.stored n) (made j) (made n) s
        (content_then j s f_j other) (content_then n s f_n other) (listed_then j s f_j) (listed_then n s f_n)
        (kept.tracked.on_members i j n s (in_then i f_i) (in_then j f_j) (in_then n f_n) bit)

    pub begins_after : BeginsAfter opened t left next again
    begins_after = record {
      start = after.start t disks sound_torn opened small kept supers next of_torn covered;
      among = after.among t disks sound_torn opened small kept supers next of_torn;
    }

    -- ---- the content
    abbrev w_next : World
    w_next = world_of next none_in_flight

    module _ (b : Content) (held : HoldsUnmarked g b now) where
      content : Content
      content = after.held t disks sound_torn opened small kept supers next of_torn covered b

      unmarked : (i s : ℕ) → s < g.size → worlds.IsInSync w_next i → (w_next.stored i).bits (chunk_of g s) ≡ false → content s ≡ b s
      unfolding content
      unmarked i s low on off =
          let x = after.came_from t disks sound_torn opened small kept supers next of_torn i on in
          let f = after.found_there t disks sound_torn opened small kept supers next of_torn i x.0 x.1 on in
          let clear = sym (after.bit_at t disks sound_torn opened small kept supers next of_torn i x.0 s low on x.1) ∙ off in
          let bit = bit_then x.0 s low f clear in
          let other = other_sector x.0 s (in_then x.0 f) bit in
          after.stays t disks sound_torn opened small kept supers next of_torn covered b s
          (λ n p in_n is unlisted.
          let f_n = after.found_there t disks sound_torn opened small kept supers next of_torn n p is in_n in
          let free = sym (listed_then p s f_n) ∙ sym (after.listed_at t disks sound_torn opened small kept supers next of_torn n p s low in_n is) ∙ unlisted in
          content_then p s f_n other ∙ held x.0 p s low (in_then x.0 f) (in_then p f_n) free bit)
          low

      pub content_after : (c : Content) × BecomesAtOpening (geometry_of next.array) w_next b c
      unfolding content
      content_after = (content, after.becomes t disks sound_torn opened small kept supers next of_torn covered b unmarked)

-- ---- at a moment of a life
pub starts_after_copy : StartsAfterCopy
starts_after_copy before m start es rest final t life left l next again =
    let at = life_keeps m es rest final t (sound_when_opened before m start.honest start.opened) life in
    let here = keeps_geometry before m start es rest final t life in
    begins_after t at left l final
    (subst IsWithinLimits (sym here) (starts before m start).small)
    (subst (λ x. IsKept x (super_of final.array.shared) (history_of t)) (sym here) (life_kept before m start es rest final t life))
    next again

pub content_after_copy : ContentAfterCopy
content_after_copy before m a start holds es rest final t b life left l next again =
    let x = life_held_at before m a start holds es rest final t b life in
    content_after t x.sound left l final
    (subst IsWithinLimits (sym x.geometry) (starts before m start).small)
    (subst (λ g. IsKept g (super_of final.array.shared) (history_of t)) (sym x.geometry) x.held.kept)
    next again b
    (subst (λ g. HoldsUnmarked g b (history_of t).now) (sym x.geometry) x.held.holds.unmarked)
