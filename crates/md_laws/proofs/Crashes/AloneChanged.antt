-- What a crash leaves where one device alone is written: of a member that is rebuilt, what another such change leaves at its end.
use Rattle.std.proofs.Common.{Bool, ◌≡◌, ◌∙◌, ⊎_elim, inl, ℕ, zero, suc, List, [], ◌∷◌, length, map, slice_get, Some, sym, ap, refl, subst, arith}
use Rattle.std.proofs.lemmas.Option.{none-some, same_Some, slice_get_within}
use Rattle.md_assembly.proofs.Indices.{got_within}
use Rattle.md_device.proofs.Leaving.{leaves_none}
use Rattle.md_state.specs.DeviceChanges.{LeavesOn, StaysHonest}
use Rattle.md_state.specs.View.{Disk, MirrorView}
use Rattle.md_members.specs.DeviceWrites.Writes.{IsCutShort, Write}
use Rattle.md_bitmap.specs.Marks.{Bitmap}
use Rattle.md_array.specs.Consistency.{IsConsistent}
use Rattle.md_array.specs.Steps.Enrol.{Enrols, IsUsedAlone, MayEnrolSectors}
use Rattle.md_array.specs.Steps.EnrolEvents.{Prepares}
use Rattle.md_array.specs.Events.{IsChangedAlone, IsSameBesideMarks, IsSameBesideUnsaid}
use Rattle.md_array.specs.Worlds.{AreHonest, block_on}
use Rattle.md_array.proofs.Rebuilding.CutBefore.{cut_with_super}
use Rattle.md_array.proofs.Rebuilding.InBetween.{may_rebuild_it}
use Rattle.md_laws.specs.CrashesWithin.{IsLeftBut, IsLeftFailing, MayAllBeLeft, MayBeLeft, CrashesAsFilled, CrashesAsPrepared, CrashesAtEnrol, CrashesAtFailedEnrol}
use Rattle.md_laws.proofs.Crashes.AtSteps.{new_has, none_new}
use Rattle.md_laws.proofs.Crashes.WithinAdd.{cut_none}
use Rattle.md_device.proofs.Failing.{fails_none}
use Rattle.std.specs.Prelude.{⊤}

-- devices with these contents in place of theirs
abbrev pub with_contents : List Disk → List (List ℕ) → List Disk
with_contents [] cs = []
with_contents (d ∷ ds) [] = d ∷ ds
with_contents (d ∷ ds) (c ∷ cs) = record d { content = c } ∷ with_contents ds cs

pub long_with : (ds : List Disk) (cs : List (List ℕ)) → length (with_contents ds cs) ≡ length ds
long_with [] cs = refl
long_with (d ∷ ds) [] = refl
long_with (d ∷ ds) (c ∷ cs) = let rest = long_with ds cs in omega arith

pub contents_with : (ds : List Disk) (cs : List (List ℕ)) → length cs ≡ length ds → map (λ (d : Disk). d.content) (with_contents ds cs) ≡ cs
contents_with [] [] long = refl
contents_with [] (c ∷ cs) long = absurd (omega arith)
contents_with (d ∷ ds) [] long = absurd (omega arith)
contents_with (d ∷ ds) (c ∷ cs) long = ap (λ (xs : List (List ℕ)). c ∷ xs) (contents_with ds cs (omega arith))

pub got_with : (ds : List Disk) (cs : List (List ℕ)) (k : ℕ) (d : Disk) (c : List ℕ) → slice_get ds k ≡ Some d → slice_get cs k ≡ Some c
    → slice_get (with_contents ds cs) k ≡ Some (record d { content = c })
got_with [] cs k d c at is = absurd (none-some d at)
got_with (x ∷ ds) [] k d c at is = absurd (none-some c is)
got_with (x ∷ ds) (y ∷ cs) zero d c at is =
    let a : x ≡ d = same_Some x d at in
    let b : y ≡ c = same_Some y c is in
    λ i. Some (record (a i) { content = b i })
got_with (x ∷ ds) (y ∷ cs) (suc k) d c at is = got_with ds cs k d c at is

-- ---- what is left
pub left_alone : (k : ℕ) (Related : List ℕ → List ℕ → Type 0) (before after : List Disk) (left : List (List ℕ)) → ((c : List ℕ) → Related c c) → AreHonest before
    → IsChangedAlone k Related before after → MayAllBeLeft before after left → IsLeftBut k Related before left
left_alone k Related before after left same honest is may =
    let many = is.as_many in
    record {
      as_many = may.as_many;
      others = λ j apart d c was found.
          let low = slice_get_within before j d was in
          let e = got_within after j (omega arith) in
          ⊎_elim (λ kept. kept) (λ new. new_has d.crashes e.0.crashes (λ x. x ≡ d.content) ((is.others j apart d e.0 was e.1).1.1 (honest j d was)) new.0 c new.1)
          (may.each j d e.0 c was e.1 found);
      this = λ d c was found.
          let low = slice_get_within before k d was in
          let e = got_within after k (omega arith) in
          ⊎_elim (λ kept. subst (Related d.content) (sym kept) (same d.content)) (λ new. new_has d.crashes e.0.crashes (Related d.content) (is.within d e.0 was e.1 (honest k d was)) new.0 c new.1)
          (may.each k d e.0 c was e.1 found);
    }

-- ---- the same, as devices that are found at the end
module _ (k : ℕ) (Related : List ℕ → List ℕ → Type 0) (before : List Disk) (left : List (List ℕ)) (but : IsLeftBut k Related before left) where
  record IsFound (j : ℕ) (d e : Disk) : Type 0 where
    bytes : List ℕ
    at_left : slice_get left j ≡ Some bytes
    same : e ≡ record d { content = bytes }

  found : (j : ℕ) (d e : Disk) → slice_get before j ≡ Some d → slice_get (with_contents before left) j ≡ Some e → IsFound j d e
  found j d e was is =
      let low = slice_get_within before j d was in
      let long = but.as_many in
      let c = got_within left j (omega arith) in
      record { bytes = c.0; at_left = c.1; same = same_Some e (record d { content = c.0 }) (sym is ∙ got_with before left j d c.0 was c.1) }

  pub found_alone : ((d : Disk) (c : List ℕ) → Related d.content c → length c ≡ length d.content) → IsChangedAlone k Related before (with_contents before left)
  found_alone long = record {
    as_many = long_with before left;
    others = λ j apart d e was is.
        let x = found j d e was is in
        let kept : x.bytes ≡ d.content = but.others j apart d x.bytes was x.at_left in (
          subst (λ (y : Disk). StaysHonest d y) (sym x.same) (record { honest = refl; counted = omega arith; grown = fails_none d.faults (λ _. ⊤) }),
          (
            ap (λ (y : Disk). y.content) x.same ∙ kept,
            λ _. subst (λ (y : Disk). LeavesOn (λ c. c ≡ d.content) d y) (sym x.same) (leaves_none d.crashes (λ c. c ≡ d.content)),
          ),
        );
    stays = λ d e was is. let x = found k d e was is in subst (λ (y : Disk). StaysHonest d y) (sym x.same) (record { honest = refl; counted = omega arith; grown = fails_none d.faults (λ _. ⊤) });
    size = λ d e was is. let x = found k d e was is in ap (λ (y : Disk). length y.content) x.same ∙ long d x.bytes (but.this d x.bytes was x.at_left);
    changed = λ d e was is _. let x = found k d e was is in subst (λ (y : Disk). Related d.content y.content) (sym x.same) (but.this d x.bytes was x.at_left);
    within = λ d e was is _. let x = found k d e was is in subst (λ (y : Disk). LeavesOn (Related d.content) d y) (sym x.same) (leaves_none d.crashes (Related d.content));
  }

pub crashes_as_filled : CrashesAsFilled
crashes_as_filled k old new left honest fills may =
    let Related : List ℕ → List ℕ → Type 0 = IsSameBesideUnsaid old.array fills.may.member in
    let but = left_alone k Related old.disks new.disks left (λ c. record { size = refl; beside = λ at n _. refl }) honest fills.disks may in (
      record { disks = with_contents old.disks left; array = old.array },
      record { may = fills.may; noted = fills.noted; array = refl; disks = found_alone k Related old.disks left but (λ d c is. is.size) },
      contents_with old.disks left but.as_many,
    )

pub crashes_as_prepared : CrashesAsPrepared
crashes_as_prepared k old new left honest prepares may =
    let Related : List ℕ → List ℕ → Type 0 = IsSameBesideMarks prepares.may.member in
    let but = left_alone k Related old.disks new.disks left (λ c. record { size = refl; beside = λ at n _. refl }) honest prepares.disks may in (
      record { disks = with_contents old.disks left; array = old.array },
      record { may = prepares.may; array = refl; disks = found_alone k Related old.disks left but (λ d c is. is.size) },
      contents_with old.disks left but.as_many,
    )

-- ---- within the writes of an enrolment
pub used_alone : (k : ℕ) (before after : List Disk) (left : List (List ℕ)) (Change : Disk → Disk → Type 0) (P : List ℕ → List ℕ → Type 0) → IsUsedAlone k before after Change → MayAllBeLeft before after left
    → ((d e : Disk) (c : List ℕ) → slice_get before k ≡ Some d → Change d e → MayBeLeft d e c → P d.content c) → IsLeftBut k P before left
used_alone k before after left Change P is may this =
    let many = is.as_many in
    record {
      as_many = may.as_many;
      others = λ j apart d c was found.
          ⊎_elim (λ kept. kept) (λ new. absurd (none_new d.crashes new.0 c new.1)) (may.each j d d c was (is.others j apart ∙ was) found);
      this = λ d c was found.
          let low = slice_get_within before k d was in
          let e = got_within after k (omega arith) in
          this d e.0 c was (is.change d e.0 was e.1) (may.each k d e.0 c was e.1 found);
    }

pub crashes_at_enrol : CrashesAtEnrol
crashes_at_enrol k copied lost old new left honest r may =
    used_alone k old.disks new.disks left _ (λ was c. IsCutShort was r.writes c) r.disks may
    (λ d e c was change left_so. ⊎_elim (λ kept. subst (IsCutShort d.content r.writes) (sym kept) (cut_none d.content r.writes))
    (λ found. new_has d.crashes e.crashes (IsCutShort d.content r.writes) (change.0.within (honest k d was)) found.0 c found.1) left_so)

pub crashes_at_failed_enrol : CrashesAtFailedEnrol
crashes_at_failed_enrol k copied lost old new left honest r may =
    used_alone k old.disks new.disks left _ (λ was c. (done : List Write) × (tried : Write) × IsLeftFailing done tried was c) r.disks may
    (λ d e c was change left_so. (
      change.0.done,
      change.0.tried,
      ⊎_elim (λ kept. inl (subst (IsCutShort d.content change.0.done) (sym kept) (cut_none d.content change.0.done)))
          (λ found. new_has d.crashes e.crashes (IsLeftFailing change.0.done change.0.tried d.content) (change.0.within (honest k d was)) found.0 c found.1) left_so,
    ))

-- devices that were left so, where the superblock stands as before: those of a preparing
pub left_prepared : (k : ℕ) (copied lost : ℕ → Bool) (old new : MirrorView) → IsConsistent old → (r : Enrols k copied lost old new) → MayEnrolSectors k copied lost old
    → (left : List (List ℕ)) → IsLeftBut k (λ was c. IsCutShort was r.writes c) old.disks left
    → ((d : Disk) (c : List ℕ) → slice_get old.disks k ≡ Some d → slice_get left k ≡ Some c → block_on c ≡ block_on d.content)
    → (other : MirrorView) × Prepares k old other × (map (λ d. d.content) other.disks ≡ left)
left_prepared k copied lost old new c r may left but super =
    let m = r.comes.member in
    let Related : List ℕ → List ℕ → Type 0 = IsSameBesideMarks m in
    let as_prepared : IsLeftBut k Related old.disks left = record {
      as_many = but.as_many;
      others = but.others;
      this = λ d b was found. cut_with_super k copied lost old new c r d was b (but.this d b was found) (super d b was found);
    } in (
      record { disks = with_contents old.disks left; array = old.array },
      record { may = may_rebuild_it k copied lost old new c r may; array = refl; disks = found_alone k Related old.disks left as_prepared (λ d b is. is.size) },
      contents_with old.disks left but.as_many,
    )
