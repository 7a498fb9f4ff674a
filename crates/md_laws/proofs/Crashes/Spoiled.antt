-- What a crash leaves within a call by which a member that is rebuilt tells of it, the write of its superblock might leave that failed.
use Rattle.std.proofs.Common.{Bool, ◌≡◌, ◌≢◌, ◌⊎◌, ℕ, zero, suc, ◌+◌, ◌*◌, ◌<◌, inl, inr, true, List, [], ◌∷◌, ◌++◌, append_assoc, length, length-set, map, set, slice_get, Some, false, refl, sym, ap, ◌∙◌, subst, arith}
use Rattle.std.proofs.lemmas.Option.{none-some, same_Some, slice_get_within}
use Rattle.md_assembly.proofs.Indices.{got_same, got_within}
use Rattle.md_bitmap.specs.Marks.{Bitmap}
use Rattle.md_device.specs.Splice.{SameOutside}
use Rattle.md_kept_members.specs.View.{MemberView}
use Rattle.md_kept_members.specs.OnDevices.Storing.{log_writes}
use Rattle.md_kept_members.specs.OnDevices.Superblocks.{write_of}
use Rattle.md_state.specs.DeviceChanges.{StaysHonest}
use Rattle.md_state.specs.DiskWrites.{IsFailed, IsTried, IsWritten}
use Rattle.md_state.specs.Members.{IsMember}
use Rattle.md_state.specs.Missing.{is_rebuilt}
use Rattle.md_state.specs.View.{Disk, MirrorView, of_disks}
use Rattle.md_members.specs.Areas.{bitmap_sectors}
use Rattle.md_members.specs.DeviceWrites.Bitmaps.{bitmap_writes}
use Rattle.md_members.specs.DeviceWrites.Writes.{FailsInWrites, IsAnyIn, IsCutShort, Write, after}
use Rattle.md_array.specs.Consistency.{IsConsistent}
use Rattle.md_array.specs.Steps.Enrol.{Enrols, FailsToEnrol, MayEnrolSectors}
use Rattle.md_array.specs.Steps.EnrolEvents.{FailsAtSuper, Prepares, prepared, writes_before}
use Rattle.md_array.specs.Events.{HasWriteFailed, IsSameBesideMarks}
use Rattle.md_array.specs.Worlds.{AreHonest}
use Rattle.md_array.proofs.General.Indices.{got_other}
use Rattle.md_array.proofs.Rebuilding.CutBefore.{cut_enrol, cut_first}
use Rattle.md_array.proofs.Rebuilding.EnrolSpoils.{ends_alike, enrols_instead, instead}
use Rattle.md_array.proofs.Rebuilding.InBetween.{may_rebuild_it, prepared_is, prepares, then_at, then_disk}
use Rattle.md_laws.specs.Spoiled.{IsLeftSpoiled, CrashesAsSpoiled, CrashesAtEnrolAsSpoiled, CrashesAtFailedEnrolAsSpoiled}
use Rattle.md_laws.specs.CrashesWithin.{IsLeftBut, MayAllBeLeft}
use Rattle.md_laws.proofs.Crashes.AloneChanged.{contents_with, found_alone, crashes_at_enrol, used_alone, with_contents}
use Rattle.md_laws.proofs.Crashes.AtSteps.{new_has}
use Rattle.md_laws.proofs.Crashes.AsFailed.{failed_as_tried, left_as_tried, crashes_as_tried}

-- ---- one device has failed once more
abbrev bumped : ℕ → List Disk → List Disk
bumped k [] = []
bumped zero (d ∷ ds) = record d { failures = d.failures + 1 } ∷ ds
bumped (suc k) (d ∷ ds) = d ∷ bumped k ds

long_bumped : (k : ℕ) (ds : List Disk) → length (bumped k ds) ≡ length ds
long_bumped k [] = refl
long_bumped zero (d ∷ ds) = refl
long_bumped (suc k) (d ∷ ds) = ap suc (long_bumped k ds)

contents_bumped : (k : ℕ) (ds : List Disk) → map (λ (d : Disk). d.content) (bumped k ds) ≡ map (λ (d : Disk). d.content) ds
contents_bumped k [] = refl
contents_bumped zero (d ∷ ds) = refl
contents_bumped (suc k) (d ∷ ds) = ap (λ (cs : List (List ℕ)). d.content ∷ cs) (contents_bumped k ds)

others_bumped : (k : ℕ) (ds : List Disk) (j : ℕ) → j ≢ k → slice_get (bumped k ds) j ≡ slice_get ds j
others_bumped k [] j apart = refl
others_bumped zero (d ∷ ds) zero apart = absurd (apart refl)
others_bumped zero (d ∷ ds) (suc j) apart = refl
others_bumped (suc k) (d ∷ ds) zero apart = refl
others_bumped (suc k) (d ∷ ds) (suc j) apart = others_bumped k ds j (λ same. apart (ap suc same))

was_bumped : (k : ℕ) (ds : List Disk) (e : Disk) → slice_get (bumped k ds) k ≡ Some e → (d : Disk) × (slice_get ds k ≡ Some d) × (e ≡ record d { failures = d.failures + 1 })
was_bumped k [] e is = absurd (none-some e is)
was_bumped zero (d ∷ ds) e is = (d, refl, sym (same_Some (record d { failures = d.failures + 1 }) e is))
was_bumped (suc k) (d ∷ ds) e is = was_bumped k ds e is

-- a torn write, as one that failed
module _ (k : ℕ) (w : Write) (before found : List Disk) (tried : IsTried k w before found) where
  failed_once : HasWriteFailed k w before (bumped k found)
  failed_once = record {
    tried = record {
      as_many = long_bumped k found ∙ tried.as_many;
      others = λ j apart. others_bumped k found j apart ∙ tried.others j apart;
      stays = λ d e was is.
          let x = was_bumped k found e is in
          let stayed = tried.stays d x.0 was x.1 in
          subst (StaysHonest d) (sym x.2) (record { honest = stayed.honest; counted = (let more = stayed.counted in omega arith); grown = stayed.grown });
      outside = λ d e was is.
          let x = was_bumped k found e is in
          subst (λ (y : Disk). SameOutside (512 * w.sector) (length w.bytes) d.content y.content) (sym x.2) (tried.outside d x.0 was x.1);
    };
    failed = λ d e was is _.
        let x = was_bumped k found e is in
        let more = (tried.stays d x.0 was x.1).counted in
        subst (λ (y : Disk). d.failures < y.failures) (sym x.2) (omega arith);
  }

spoiled_by : (k : ℕ) (m : MemberView) (old : MirrorView) (bytes : List ℕ) (left : List (List ℕ)) → IsMember old.array k m → is_rebuilt m.state ≡ true → old.array.halted ≡ false → length bytes ≡ 4096
    → (found : List Disk) → IsTried k (record { sector = 8; bytes = bytes }) old.disks found → map (λ (d : Disk). d.content) found ≡ left → IsLeftSpoiled k old left
spoiled_by k m old bytes left at rebuilt running size found tried same = record {
  other = record { disks = bumped k found; array = old.array };
  spoils = record {
    member = m;
    at = at;
    rebuilt = rebuilt;
    running = running;
    array = refl;
    write = record { sector = 8; bytes = bytes };
    sector = refl;
    size = size;
    disks = failed_once k (record { sector = 8; bytes = bytes }) old.disks found tried;
  };
  contents = contents_bumped k found ∙ same;
}

pub crashes_as_spoiled : CrashesAsSpoiled
crashes_as_spoiled k m old new left honest at rebuilt call may =
    let wrote : old.array.halted ≡ false → (bytes : List ℕ) → length bytes ≡ 4096 → IsWritten k (record { sector = 8; bytes = bytes }) old.disks new.disks → IsLeftSpoiled k old left =
    λ running bytes size done. let f = crashes_as_tried k (record { sector = 8; bytes = bytes }) old.disks new.disks left honest done may in spoiled_by k m old bytes left at rebuilt running size f.0 f.1 f.2 in
    let failed : old.array.halted ≡ false → (bytes : List ℕ) → length bytes ≡ 4096 → IsFailed k (record { sector = 8; bytes = bytes }) old.disks new.disks → IsLeftSpoiled k old left =
    λ running bytes size tried. let f = failed_as_tried k (record { sector = 8; bytes = bytes }) old.disks new.disks left honest tried may in spoiled_by k m old bytes left at rebuilt running size f.0 f.1 f.2 in
    elim call [
      | inl (inl admits) ↦ wrote admits.may.running _ admits.readable.size admits.disks
      | inl (inr (inl fails)) ↦ failed fails.may.running _ fails.readable.size fails.disks
      | inl (inr (inr further)) ↦
          elim further.1 [
            | inl stores ↦ wrote stores.may.idle.running _ stores.readable.size stores.disks
            | inr fails ↦ failed fails.running _ fails.readable.size fails.disks
          ]
      | inr (inl records) ↦ wrote records.may.running _ records.may.readable.size records.disks
      | inr (inr leaves) ↦ failed leaves.may.running _ leaves.may.readable.size leaves.disks
    ]

-- ---- within an enrolment
module _ (k : ℕ) (copied lost : ℕ → Bool) (old new : MirrorView) (left : List (List ℕ)) (c : IsConsistent old) (may : MayEnrolSectors k copied lost old) (r : Enrols k copied lost old new)
    (P : List ℕ → List ℕ → Type 0) (but : IsLeftBut k P old.disks left) where
  -- before the superblock is written
  early : IsLeftBut k (IsSameBesideMarks r.comes.member) old.disks left → (mid : MirrorView) × Prepares k old mid × (map (λ (d : Disk). d.content) mid.disks ≡ left)
  early same = (
    record { disks = with_contents old.disks left; array = old.array },
    record {
      may = may_rebuild_it k copied lost old new c r may;
      array = refl;
      disks = found_alone k (IsSameBesideMarks r.comes.member) old.disks left same (λ d b is. is.size);
    },
    contents_with old.disks left but.as_many,
  )

  module _ (d : Disk) (was : slice_get old.disks k ≡ Some d) (x : List ℕ) (there : slice_get left k ≡ Some x) where
    abbrev then : Disk
    then = then_disk k copied lost old new c r d was

    late : SameOutside (512 * 8) 4096 then.content x → IsLeftSpoiled k (prepared r) left
    late outside =
        let w : Write = write_of new.array.shared r.member in
        let is = prepared_is k copied lost old new c r d was in
        let mid : MirrorView = record old { disks = set old.disks k then } in
        let since : IsLeftBut k (IsAnyIn w) mid.disks left = record {
          as_many = but.as_many ∙ sym (length-set old.disks k then);
          others = λ j apart e y found here. but.others j apart e y (sym (got_other old.disks k j then apart) ∙ found) here;
          this = λ e y found here.
              let one : e ≡ then = got_same mid.disks k e then found (then_at k copied lost old new c r d was) in
              let two : y ≡ x = same_Some y x (sym here ∙ there) in
              subst (λ (z : List ℕ). IsAnyIn w e.content z) (sym two)
              (subst (λ (z : Disk). IsAnyIn w z.content x) (sym one) (subst (λ (n : ℕ). SameOutside (512 * 8) n then.content x) (sym r.readable.size) outside));
        } in
        let f = left_as_tried k w mid.disks left since in
        subst (λ (v : MirrorView). IsLeftSpoiled k v left) (sym is)
        (spoiled_by k r.comes.member mid w.bytes left r.comes.at (may_rebuild_it k copied lost old new c r may).rebuilt r.may.running r.readable.size f.0 f.1 f.2)

  -- of member k its bitmap and its log may be other than before, or its superblock than after them
  by_write : ((d : Disk) (was : slice_get old.disks k ≡ Some d) (x : List ℕ) → P d.content x
      → IsSameBesideMarks r.comes.member d.content x ⊎ SameOutside (512 * 8) 4096 (then_disk k copied lost old new c r d was).content x)
      → (mid : MirrorView) × Prepares k old mid × ((map (λ (d : Disk). d.content) mid.disks ≡ left) ⊎ IsLeftSpoiled k mid left)
  by_write cut =
      let low = slice_get_within old.array.members k r.comes.member r.comes.at in
      let many = c.fits.as_many in
      let long = but.as_many in
      let d = got_within old.disks k (omega arith) in
      let x = got_within left k (omega arith) in
      elim (cut d.0 d.1 x.0 (but.this d.0 x.0 d.1 x.1)) [
        | inl same ↦
            let p = early (record {
              as_many = but.as_many;
              others = but.others;
              this = λ e y was there.
                  let one : e ≡ d.0 = got_same old.disks k e d.0 was d.1 in
                  let two : y ≡ x.0 = same_Some y x.0 (sym there ∙ x.1) in
                  rw (one, two) same;
            }) in
            (p.0, p.1, inl p.2)
        | inr outside ↦ (prepared r, prepares k copied lost old new c r may, inr (late d.0 d.1 x.0 x.1 outside))
      ]

pub crashes_at_enrol_as_spoiled : CrashesAtEnrolAsSpoiled
crashes_at_enrol_as_spoiled k copied lost old new left c honest may r left_so =
    by_write k copied lost old new left c may r (λ was x. IsCutShort was r.writes x) (crashes_at_enrol k copied lost old new left honest r left_so) (cut_enrol k copied lost old new c r)

-- ---- within one of which the last write failed
module _ (k : ℕ) (copied lost : ℕ → Bool) (old new : MirrorView) (left : List (List ℕ)) (c : IsConsistent old) (honest : AreHonest old.disks) (f : FailsToEnrol k copied lost old new) (s : FailsAtSuper f)
    (left_so : MayAllBeLeft old.disks new.disks left) where
  -- what it would be, had that not failed
  abbrev other : MirrorView
  other = instead k copied lost old new c f s.disk s.is

  abbrev r : Enrols k copied lost old other
  r = enrols_instead k copied lost old new c f s.disk s.is

  abbrev w : Write
  w = write_of other.array.shared f.member

  abbrev fails : FailsInWrites of_disks f.writes s.disk s.left
  fails = (f.disks.change s.disk s.left s.is s.left_is).0

  abbrev Failing : List ℕ → List ℕ → Type 0
  Failing was x = IsSameBesideMarks f.comes.member was x ⊎ SameOutside (512 * 8) 4096 (after was (writes_before f)) x

  order : writes_before f ++ w ∷ [] ≡ fails.done ++ fails.tried ∷ []
  order =
      append_assoc (bitmap_writes f.are.start f.are.header f.member.stored (bitmap_sectors f.member.stored.chunks)) (log_writes f.member.superblock f.member.bad) (w ∷ [])
      ∙ sym f.are.are ∙ fails.order ∙ ap (λ (ws : List Write). fails.done ++ fails.tried ∷ ws) s.last

  failing : (x : List ℕ) → IsCutShort s.disk.content fails.done x ⊎ IsAnyIn fails.tried (after s.disk.content fails.done) x → Failing s.disk.content x
  failing x (inl cut) =
      inl (cut_first k copied lost old other c r s.disk s.is x (subst (λ (ws : List Write). IsCutShort s.disk.content ws x) (sym (ends_alike (writes_before f) fails.done w fails.tried order).0) cut))
  failing x (inr any) =
      let same = ends_alike (writes_before f) fails.done w fails.tried order in
      inr (subst (λ (n : ℕ). SameOutside (512 * 8) n (after s.disk.content (writes_before f)) x) f.readable.size
      (subst (λ (ws : List Write). IsAnyIn w (after s.disk.content ws) x) (sym same.0) (subst (λ (v : Write). IsAnyIn v (after s.disk.content fails.done) x) (sym same.1) any)))

  left_failing : (x : List ℕ) → slice_get left k ≡ Some x → Failing s.disk.content x
  left_failing x found =
      elim (left_so.each k s.disk s.left x s.is s.left_is found) [
        | inl kept ↦ inl (subst (IsSameBesideMarks f.comes.member s.disk.content) (sym kept) (record { size = refl; beside = λ at n _. refl }))
        | inr new ↦
            failing x (new_has s.disk.crashes s.left.crashes (λ c. IsCutShort s.disk.content fails.done c ⊎ IsAnyIn fails.tried (after s.disk.content fails.done) c) (fails.within (honest k s.disk s.is)) new.0 x new.1)
      ]

  but : IsLeftBut k Failing old.disks left
  but =
      let alone = used_alone k old.disks new.disks left _ (λ was x. Unit {0}) f.disks left_so (λ d e x was change there. tt) in
      record {
        as_many = alone.as_many;
        others = alone.others;
        this = λ d x was found. subst (λ (y : Disk). Failing y.content x) (got_same old.disks k s.disk d s.is was) (left_failing x found);
      }

  pub crashes_failing : MayEnrolSectors k copied lost old → (mid : MirrorView) × Prepares k old mid × ((map (λ (d : Disk). d.content) mid.disks ≡ left) ⊎ IsLeftSpoiled k mid left)
  crashes_failing may = by_write k copied lost old other left c may r Failing but (λ d was x is. is)

pub crashes_at_failed_enrol_as_spoiled : CrashesAtFailedEnrolAsSpoiled
crashes_at_failed_enrol_as_spoiled k copied lost old new left c honest may f s left_so = crashes_failing k copied lost old new left c honest f s left_so may
