-- Something is done on one device after another, up to the first on which it fails; and then something else.
use Rattle.std.proofs.Common.{◌≡◌, ℕ, ◌≤◌, ◌<◌, ◌+◌, ◌*◌, List, [], ◌∷◌, length, refl, sym, ◌∙◌, subst, arith, set, get_or}
use Rattle.std.specs.Prelude.{slice_get, Some}
use Rattle.std.proofs.lemmas.Option.{slice_get_within}
use Rattle.md_state.specs.View.{Disk}
use Rattle.md_state.specs.DeviceChanges.{AreSame, EachPair, StaysHonest}
use Rattle.md_array.proofs.General.Indices.{at_set_same, got_other}
use Rattle.md_array.proofs.Openings.DevicesInTurn.{each_after, none_touched, same_place, still_same}
use Rattle.md_state.proofs.Stays.{stays_then}
use Rattle.md_assembly.proofs.Indices.{got_same}
use Rattle.md_kept_members.specs.OnDevices.Superblocks.{own_write}
use Rattle.md_metadata.specs.declared.bitmap_grow.growth.Growth.{Growth}
use Rattle.md_metadata.specs.declared.bitmap_grow.fault.GrowFault.{GrowFault}
use Rattle.md_metadata.specs.declared.bitmap_grow.fault.GrowFault.TheVariants.{Member, BadChunk, NoRoom, Assemble, HasBitmap, NotInSync, MetadataFault, NoMemory}
use Rattle.md_metadata.specs.Grow.Growing.{AllGrown, AreDone, EndsAtDevice, EndsInSuperblocks, EndsNaming, FitGrowth, HaveBitmaps, HaveSuperblocks, IsStoredAt, OfMember, OnMember}
use Rattle.md_metadata.specs.Grow.Stored.{FailsInPart, GetsBitmap, GetsSuperblock, grow_writes, sectors_of}
use Rattle.md_metadata.proofs.GrowLemmas.StoredOn.{fails_naming, grows}

-- it is done on the first k devices, and those from there on are what they were
pub record AreDoneTo (Done : ℕ → Disk → Disk → Type 0) (before now : List Disk) (k : ℕ) : Type 0 where
  pub same : AreSame before now
  pub earlier : EachPair (λ j d e. j < k → Done j d e) before now
  pub rest : (j : ℕ) (d : Disk) → k ≤ j → slice_get now j ≡ Some d → slice_get before j ≡ Some d

module _ (Done : ℕ → Disk → Disk → Type 0) where
  pub done_none : (disks : List Disk) → AreDoneTo Done disks disks 0
  done_none disks = record {
    same = (none_touched disks).same;
    earlier = λ j d e was is below. absurd (omega arith);
    rest = λ j d from at. at;
  }

  module _ (before now : List Disk) (k : ℕ) (d e : Disk) (to : AreDoneTo Done before now k) (here : slice_get now k ≡ Some d) (stays : StaysHonest d e) where
    pub done_more : Done k d e → AreDoneTo Done before (set now k e) (k + 1)
    done_more done = record {
      same = still_same before now k d e here to.same stays;
      earlier = each_after (λ j x y. j < k → Done j x y) (λ j x y. j < k + 1 → Done j x y) before now k d e here to.earlier
          (λ j x y other is below. is (omega arith))
          (λ x was is below. let same_disk : x ≡ d = got_same before k x d was (to.rest k d (omega arith) here) in rw (same_disk) done);
      rest = λ j x from at_j. to.rest j x (omega arith) (sym (got_other now k j e (λ same. absurd (omega arith))) ∙ at_j);
    }

    pub ends_at_device : (Failed : ℕ → Disk → Disk → Type 0) → Failed k d e → EndsAtDevice Done Failed before (set now k e) k
    ends_at_device Failed fails = record {
      same = still_same before now k d e here to.same stays;
      within = slice_get_within before k d (to.rest k d (omega arith) here);
      failed = λ x y was is.
          let same_before : x ≡ d = got_same before k x d was (to.rest k d (omega arith) here) in
          let same_after : y ≡ e = got_same (set now k e) k y e is (at_set_same now k e (slice_get_within now k d here)) in
          rw (same_before, same_after) fails;
      earlier = each_after (λ j x y. j < k → Done j x y) (λ j x y. j < k → Done j x y) before now k d e here to.earlier (λ j x y other is. is) (λ x was is below. absurd (omega arith));
      later = λ j x y was is behind. sym (got_same before j x y was (to.rest j y (omega arith) (sym (got_other now k j e (λ same. absurd (omega arith))) ∙ is)));
    }

  pub done_all : (before now : List Disk) (k : ℕ) → AreDoneTo Done before now k → length now ≤ k → AreDone Done before now
  done_all before now k to end = record {
    same = to.same;
    each = λ j d e was is. let within = slice_get_within now j e is in to.earlier j d e was is (omega arith);
  }

-- ---- bitmaps, and then superblocks
same_then : (before mid after : List Disk) → AreSame before mid → AreSame mid after → AreSame before after
same_then before mid after first second = record {
  as_many = second.as_many ∙ first.as_many;
  honest = λ k d e was is.
      let m = get_or mid k e in
      let at = same_place mid after k e second.as_many is e in
      stays_then d m e (first.honest k d m was at) (second.honest k m e at is);
}

-- what is said of the member that a fault names
pub on_member : (P Q : ℕ → Type 0) → ((k : ℕ) → P k → Q k) → (f : GrowFault) → OnMember P f → OnMember Q f
on_member P Q more (Member k why) named = named
on_member P Q more BadChunk named = named
on_member P Q more NoRoom named = named
on_member P Q more (Assemble why) named = named
on_member P Q more HasBitmap named = named
on_member P Q more (NotInSync k) named = named
on_member P Q more (MetadataFault k) named = more k named
on_member P Q more NoMemory named = named

pub still_fits : (g : Growth) (before mid : List Disk) → FitGrowth g before → HaveBitmaps g before mid → FitGrowth g mid
still_fits g before mid fits bitmaps = record {
  few = fits.few;
  after_super = fits.after_super;
  as_many = bitmaps.same.as_many ∙ fits.as_many;
  room = λ k m at.
      let d = get_or before k m in
      let was = same_place before mid k m bitmaps.same.as_many at m in
      omega (arith, fits.room k d was, (bitmaps.each k d m was at).kept.size);
}

module _ (g : Growth) (before mid after : List Disk) (fits : FitGrowth g before) (bitmaps : HaveBitmaps g before mid) where
  -- what was done to a device on the way to `after`
  module _ (as_many : length after ≡ length mid) (k : ℕ) (d e : Disk) (was : slice_get before k ≡ Some d) (is : slice_get after k ≡ Some e) where
    abbrev m : Disk
    m = get_or mid k e

    at : slice_get mid k ≡ Some m
    at = same_place mid after k e as_many is e

    both : 0 < sectors_of g → OfMember g (GetsSuperblock g) k m e → IsStoredAt g k d e
    both some superblock info own = grows g info.superblock d m e (bitmaps.each k d m was at) fits.after_super some (fits.room k d was) (superblock info own)

    stopped : OfMember g (λ own. FailsInPart g (own_write g.shared own ∷ [])) k m e → OfMember g (λ own. FailsInPart g (grow_writes g own)) k d e
    stopped fails info own = fails_naming g info.superblock d m e (bitmaps.each k d m was at) (fails info own)

    bitmap_alone : e ≡ m → GetsBitmap g d e
    bitmap_alone same = subst (GetsBitmap g d) (sym same) (bitmaps.each k d m was at)

  pub all_grown : 0 < sectors_of g → HaveSuperblocks g mid after → AllGrown g before after
  all_grown some superblocks = record {
    same = same_then before mid after bitmaps.same superblocks.same;
    each = λ k d e was is.
        let many = superblocks.same.as_many in
        both many k d e was is some (superblocks.each k (get_or mid k e) e (same_place mid after k e many is e) is);
  }

  pub ends_in_superblocks : (k : ℕ) → 0 < sectors_of g → EndsNaming g mid after k → EndsInSuperblocks g before after k
  ends_in_superblocks k some ends =
      let many = ends.same.as_many in
      record {
        same = same_then before mid after bitmaps.same ends.same;
        within = omega (arith, ends.within, bitmaps.same.as_many);
        failed = λ d e was is. stopped many k d e was is (ends.failed (get_or mid k e) e (same_place mid after k e many is e) is);
        earlier = λ j d e was is below. both many j d e was is some (ends.earlier j (get_or mid j e) e (same_place mid after j e many is e) is below);
        later = λ j d e was is behind. bitmap_alone many j d e was is (ends.later j (get_or mid j e) e (same_place mid after j e many is e) is behind);
      }
