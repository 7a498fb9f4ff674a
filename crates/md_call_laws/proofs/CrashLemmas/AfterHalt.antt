-- An opening of devices that a crash left within a write that halted the mirror: the write changed no superblock, so the members in sync that it
-- finds were so before.
use Rattle.std.proofs.Common.{◌≡◌, ◌∙◌, inl, inr, ℕ, ◌<◌, ◌≤◌, true, false, true≢false, List, slice_get, Option, Some, None, refl, sym, ap, subst}
use Rattle.std.specs.Prelude.{option_map, unwrap_or}
use Rattle.std.proofs.lemmas.Option.{none-some}
use Rattle.md_kept_members.specs.View.{MemberView}
use Rattle.md_model.specs.Assembly.{IsFound}
use Rattle.md_model.specs.Content.{Content, BecomesAtOpening, Holds}
use Rattle.md_model.specs.Devices.{AgreeAt, Covered, Stored, Super, is_marked}
use Rattle.md_model.specs.Openings as openings
use Rattle.md_model.specs.Openings.{IsWithinLimits}
use Rattle.md_model.specs.Runs as runs
use Rattle.md_model.specs.Sectors.{Geometry, chunk_of}
use Rattle.md_model.specs.States.{is_in_sync}
use Rattle.md_model.specs.Crashes as crashes
use Rattle.md_model.specs.Worlds as worlds
use Rattle.md_model.specs.Worlds.{World}
use Rattle.md_model.proofs.Cases.{by_option}
use Rattle.md_model.proofs.Content.Picked.{holds_picked, picked, picked_same}
use Rattle.md_model.proofs.Lives.OpeningCovers.{own_of, slot_of}
use Rattle.md_model.proofs.Lives.Safe.{safe_at_crash}
use Rattle.md_model.proofs.Steps.Keeps.{IsKept}
use Rattle.md_state.specs.Members.{IsInSync}
use Rattle.md_state.specs.View.{ArrayView, Disk, MirrorView, geometry_of}
use Rattle.md_array.specs.Open.Opened.{IsOpenedFrom}
use Rattle.md_array.specs.Worlds.{none_in_flight, nothing_stored, stored_on, super_of, world_of}
use Rattle.md_array.proofs.Worlds.InSync.{in_sync_is, in_sync_there}
use Rattle.md_array.proofs.Worlds.Shown.{own_is}
use Rattle.md_laws.specs.Left.{contents_of}
use Rattle.md_laws.specs.Lives.{AreFoundAgain, IsAsWide, IsThereInSync}
use Rattle.md_laws.specs.Runs.{IsStart, Moment, history_of}
use Rattle.md_laws.proofs.Openings.OpenedFrom.{opened_from, opened_in_place, super_was}
use Rattle.md_laws.proofs.Openings.Reopened.{read_alike, same_geometry}
use Rattle.md_laws.proofs.Runs.MirrorLives.{at_none, at_some, made_of, opens}
use Rattle.md_laws.proofs.Runs.MirrorRuns.{starts}
use Rattle.md_laws.proofs.Runs.Moments.{IsSoundAt}
use Rattle.md_laws.proofs.Crashes.LeftContents.{read_in, read_same}
use Rattle.md_call_laws.specs.Crashes.TornWrites.{IsOpenedAfter, halted_over}

-- a halted array reads of a device what it read before
halted_reads : (a : ArrayView) (o : Option MemberView) (d : Option Disk) → stored_on (record a { halted = true }) o d ≡ stored_on a o d
halted_reads a (Some m) (Some d) = refl
halted_reads a (Some m) None = refl
halted_reads a None (Some d) = refl
halted_reads a None None = refl

-- ---- the same opening, where what was left is told by other devices with the same bytes
module _ (t : Moment) (left disks : List Disk) (same : contents_of disks ≡ contents_of left) where
  pub there_over : (at : ℕ → Option ℕ) → IsThereInSync (halted_over t left) at → IsThereInSync (halted_over t disks) at
  there_over at x = record { device = x.device; member = x.member; in_sync = x.in_sync; place = x.place; there = x.there }

  pub wide_over : (found : List Disk) (at : ℕ → Option ℕ) (device place : ℕ) → IsAsWide (halted_over t left) found at device place → IsAsWide (halted_over t disks) found at device place
  wide_over found at device place wide = elim wide [ inl whole ↦ inl whole | inr (inl on) ↦ inr (inl (there_over at on)) | inr (inr has) ↦ inr (inr has) ]

  abbrev pub devices_over : (found : List Disk) (d : AreFoundAgain (halted_over t left) found) → contents_of d.left ≡ contents_of left → AreFoundAgain (halted_over t disks) found
  devices_over found d of_these =
      let r = d.recorded in
      record {
        left = d.left;
        is_left = inl (of_these ∙ sym same);
        honest = d.honest;
        from = d.from;
        at = d.at;
        found = d.found;
        again = d.again;
        unspoiled = d.unspoiled;
        readable = d.readable;
        recorded = record { device = r.device; place = r.place; there = r.there; recorded = r.recorded; wide = wide_over found d.at r.device r.place r.wide };
      }

  module _ (opened next : MirrorView) (again : IsOpenedAfter opened t left next) where
    abbrev pub over_same : IsOpenedAfter opened t disks next
    over_same = record {
      found = again.found;
      devices = devices_over again.found again.devices again.of_these;
      of_these = again.of_these ∙ sym same;
      others = again.others;
      opens = again.opens;
      fit = again.fit;
      out = again.out;
    }

module _ (t : Moment) (disks : List Disk) (at : IsSoundAt (halted_over t disks)) (opened : MirrorView)
    (small : IsWithinLimits (geometry_of t.mirror.array)) (kept : IsKept (geometry_of t.mirror.array) (super_of opened.array.shared) (history_of t))
    (supers : (k : ℕ) → (read_in t.mirror.array disks k).super ≡ ((world_of t.mirror t.requests).stored k).super)
    (next : MirrorView) (again : IsOpenedAfter opened t disks next) where
  abbrev found : List Disk
  found = again.found

  abbrev devices : AreFoundAgain (halted_over t disks) again.found
  devices = again.devices

  abbrev from_these : IsOpenedFrom again.found next
  from_these = again.opens

  abbrev g : Geometry
  g = geometry_of t.mirror.array

  abbrev was : Super
  was = super_of opened.array.shared

  abbrev first : Super
  first = super_of next.array.shared

  abbrev then : Moment
  then = halted_over t disks

  abbrev w : World
  w = world_of next none_in_flight

  abbrev stored : ℕ → Stored
  stored = (world_of t.mirror t.requests).stored

  -- what stood on the devices, by what is kept of the array
  abbrev pub torn : ℕ → Stored
  torn = read_in t.mirror.array disks

  -- those that are there, as the next opening has them
  abbrev pub made : ℕ → Stored
  made = made_of then at next found devices from_these

  pub half : (k j : ℕ) → devices.at k ≡ Some j → crashes.IsHalfOpened g (torn k) (made k)
  half k j is =
      let read : read_in then.mirror.array devices.left k ≡ torn k =
      read_same then.mirror.array devices.left disks again.of_these k ∙ halted_reads t.mirror.array (slice_get t.mirror.array.members k) (slice_get disks k) in
      subst (λ (x : Stored). crashes.IsHalfOpened g x (made k)) read
      (subst (crashes.IsHalfOpened g (read_in then.mirror.array devices.left k)) (sym (at_some then at next found devices from_these k j is))
      (read_alike then at found next.array devices from_these.array k j is))

  pub gone : (k : ℕ) → devices.at k ≡ None → (made k).super ≡ None
  gone k is = ap (λ (x : Stored). x.super) (at_none then at next found devices from_these k is)

  -- ---- the same devices as if they were whole
  abbrev whole : ℕ → Stored
  whole k = unwrap_or (option_map (λ (_ : ℕ). stored k) (devices.at k)) nothing_stored

  whole_there : (k j : ℕ) → devices.at k ≡ Some j → whole k ≡ stored k
  whole_there k j is = ap (λ o. unwrap_or (option_map (λ (_ : ℕ). stored k) o) nothing_stored) is

  whole_gone : (k : ℕ) → devices.at k ≡ None → whole k ≡ nothing_stored
  whole_gone k is = ap (λ o. unwrap_or (option_map (λ (_ : ℕ). stored k) o) nothing_stored) is

  same_super : (k : ℕ) → (whole k).super ≡ (made k).super
  same_super k = by_option (devices.at k)
      (λ none. ap (λ (x : Stored). x.super) (whole_gone k none) ∙ sym (gone k none))
      (λ j is. ap (λ (x : Stored). x.super) (whole_there k j is) ∙ sym (supers k) ∙ sym (half k j is).super)

  itself : (d : Stored) → crashes.IsHalfOpened g d d
  itself d = record { super = refl; content = refl; listed = refl; marks = λ s low off. off }

  is_left : crashes.IsLeftByCrash g (history_of t) whole
  is_left = (
    stored,
    inl refl,
    λ k. by_option (devices.at k)
        (λ none. inr (ap (λ (x : Stored). x.super) (whole_gone k none)))
        (λ j is. inl (subst (crashes.IsHalfOpened g (stored k)) (sym (whole_there k j is)) (itself (stored k)))),
    λ k spoiled. by_option (devices.at k)
        (λ none. ap (λ (x : Stored). x.super) (whole_gone k none))
        (λ j is. absurd (true≢false (sym spoiled ∙ devices.unspoiled k j is))),
  )

  pub it : openings.IsOpenedFrom g (read_in next.array found) first w
  it = opens then at next found devices from_these

  -- none of those that were left has a newer superblock
  greatest : (k : ℕ) (own : Super) → (whole k).super ≡ Some own → own.events ≤ next.array.shared.events
  greatest k own e = by_option (devices.at k)
      (λ none. absurd (none-some own (sym (ap (λ (x : Stored). x.super) (whole_gone k none)) ∙ e)))
      (λ j is. let x = it.all j own (sym (ap (λ (x : Stored). x.super) (at_some then at next found devices from_these k j is)) ∙ sym (same_super k) ∙ e) in it.opened.freshest.greatest x.0 own x.1)

  freshest : crashes.IsFreshestWithAbsent was whole first
  freshest =
      let fresh = it.opened.freshest in
      let x = own_is found next devices.honest from_these fresh.at first fresh.is in
      record {
        whose = by_option (devices.from fresh.at)
            (λ none. inr (subst (λ (v : Super). v.events ≤ opened.array.shared.events) x.2 (again.others fresh.at x.0 x.1 none)))
            (λ k is. inl (
              k,
              same_super k ∙ ap (λ (d : Stored). d.super) (at_some then at next found devices from_these k fresh.at (devices.found fresh.at k is))
                  ∙ super_was found next devices.honest from_these fresh.at first fresh.is,
            ));
        greatest = greatest;
      }

  safe : crashes.IsSafe g (history_of t) whole first
  safe = safe_at_crash g small was (history_of t) kept whole first is_left freshest again.fit

  -- who is found in sync among them was so
  pub was_so : (k : ℕ) → IsFound g made first k → worlds.IsInSync (history_of t).now k
  was_so k f = safe.among k (record { own = f.own; is = same_super k ∙ f.is; in_sync = f.in_sync })

  -- ---- a member in sync of the next mirror
  pub from_left : (k : ℕ) (n : MemberView) → IsInSync next.array k n → (i : ℕ) × (devices.from k ≡ Some i)
  from_left k n on = by_option (devices.from k)
      (λ none. absurd (true≢false (sym on.in_sync ∙ again.out k n on.member none)))
      (λ i is. (i, is))

  pub came_from : (k : ℕ) → worlds.IsInSync w k → (i : ℕ) × (devices.from k ≡ Some i)
  came_from k on = let x = in_sync_is next.disks next.array none_in_flight k on in from_left k x.0 x.1

  pub placed : (k i : ℕ) → devices.from k ≡ Some i → made i ≡ read_in next.array found k
  placed k i is = at_some then at next found devices from_these i k (devices.found k i is)

  pub found_there : (k i : ℕ) → devices.from k ≡ Some i → worlds.IsInSync w k → IsFound g made first i
  found_there k i is on =
      let x = own_of g first w it.opened k on in
      record {
        own = x.0;
        is = ap (λ (d : Stored). d.super) (placed k i is) ∙ super_was found next devices.honest from_these k x.0 x.1;
        in_sync = sym (ap is_in_sync (it.opened.states.by_table k x.0 x.1)) ∙ on;
      }

  pub among : (k : ℕ) (n : MemberView) → IsInSync next.array k n → (i : ℕ) × (devices.from k ≡ Some i) × (o : MemberView) × IsInSync t.mirror.array i o
  among k n on =
      let from = from_left k n on in
      let was_in = was_so from.0 (found_there k from.0 from.1 (in_sync_there next.disks next.array none_in_flight k n on)) in
      let o = in_sync_is t.mirror.disks t.mirror.array t.requests from.0 was_in in
      (from.0, from.1, o.0, o.1)

  -- ---- what it holds
  abbrev OpensInPlace : Geometry → Type 0
  OpensInPlace x = (o : openings.IsOpenedFrom x (read_in next.array found) first w) × ((j : ℕ) → o.at j ≡ j)

  same_chunks : geometry_of next.array ≡ g
  same_chunks = same_geometry then at found next.array devices from_these.array

  in_place : OpensInPlace g
  in_place = subst OpensInPlace same_chunks (opened_from found next devices.honest from_these, opened_in_place found next devices.honest from_these)

  slot : (k : ℕ) → worlds.IsInSync w k → k < w.members
  slot = slot_of g first w in_place.0.opened

  read_at : (k i : ℕ) → devices.from k ≡ Some i → read_in next.array found (in_place.0.at k) ≡ made i
  read_at k i is = ap (read_in next.array found) (in_place.1 k) ∙ sym (placed k i is)

  pub content_at : (k i s : ℕ) → s < g.size → worlds.IsInSync w k → devices.from k ≡ Some i → (w.stored k).content s ≡ (made i).content s
  content_at k i s low on is = in_place.0.content k s low (slot k on) ∙ ap (λ (d : Stored). d.content s) (read_at k i is)

  pub listed_at : (k i s : ℕ) → s < g.size → worlds.IsInSync w k → devices.from k ≡ Some i → (w.stored k).listed s ≡ (made i).listed s
  listed_at k i s low on is = in_place.0.listed k s low (slot k on) ∙ ap (λ (d : Stored). d.listed s) (read_at k i is)

  pub bit_at : (k i s : ℕ) → s < g.size → worlds.IsInSync w k → devices.from k ≡ Some i → (w.stored k).bits (chunk_of g s) ≡ is_marked (made i) (chunk_of g s)
  bit_at k i s low on is = in_place.0.bits k s low on ∙ ap (λ (d : Stored). is_marked d (chunk_of g s)) (read_at k i is)

  -- ---- the marks cover what differs
  module _ (covered : Covered g made (IsFound g made first)) where
    covered_next : Covered g (read_in next.array found) (worlds.IsInSync w)
    covered_next i j k s low a b c off =
        let x = came_from i a in
        let y = came_from j b in
        let z = came_from k c in
        subst (λ (d : Stored). AgreeAt d (read_in next.array found k) s) (placed j y.0 y.1) (subst (λ (d : Stored). AgreeAt (made y.0) d s) (placed k z.0 z.1)
        (covered x.0 y.0 z.0 s low (found_there i x.0 x.1 a) (found_there j y.0 y.1 b) (found_there k z.0 z.1 c)
        (ap (λ (d : Stored). is_marked d (chunk_of g s)) (placed i x.0 x.1) ∙ off)))

    pub start : IsStart found next
    start = record {
      honest = devices.honest;
      opened = from_these;
      covered = subst (λ x. Covered x (read_in next.array found) (worlds.IsInSync w)) (sym same_chunks) covered_next;
    }

    begins : runs.IsStart g first w
    begins = subst (λ x. runs.IsStart x first w) same_chunks (starts found next start)

    -- ---- a content that they held where nothing was torn
    module _ (b : Content) where
      abbrev pub held : Content
      held s = picked w (b s) s w.members

      pub holds : Holds (geometry_of next.array) held w
      holds = subst (λ x. Holds x held w) (sym same_chunks) (holds_picked g first w begins b)

      pub stays : (s : ℕ) → ((k i : ℕ) → worlds.IsInSync w k → devices.from k ≡ Some i → (w.stored k).listed s ≡ false → (made i).content s ≡ b s) → s < g.size → held s ≡ b s
      stays s all low = picked_same g first w begins b 0 s (λ k on clear. let x = came_from k on in content_at k x.0 s low on x.1 ∙ all k x.0 on x.1 clear)

      -- it becomes that at the opening
      pub becomes : ((i s : ℕ) → s < g.size → worlds.IsInSync w i → (w.stored i).bits (chunk_of g s) ≡ false → held s ≡ b s) → BecomesAtOpening (geometry_of next.array) w b held
      becomes unmarked = subst (λ x. BecomesAtOpening x w b held) (sym same_chunks)
          (record { holds = holds_picked g first w begins b; unmarked = unmarked; kept = λ s _ all. picked_same g first w begins b 0 s all })
