-- What a crash leaves within the write of an event: devices that the event might leave at its end, or that a torn write leaves.
use Rattle.std.proofs.Common.{◌≡◌, ◌≢◌, ◌∙◌, ◌⊎◌, ⊎_elim, inl, inr, ℕ, ◌*◌, ◌<◌, ◌≤◌, List, [], ◌∷◌, ◌++◌, length, map, slice_get, Some, sym, ap, refl, subst, arith}
use Rattle.std.specs.List.{insert}
use Rattle.std.proofs.lemmas.Bool.{cases_lt}
use Rattle.std.proofs.lemmas.List.{length-map}
use Rattle.std.proofs.lemmas.Option.{same_Some, slice_get_past, slice_get_within}
use Rattle.md_device.specs.Splice.{SameOutside, spliced}
use Rattle.md_device.specs.Device.{held, written}
use Rattle.md_device.specs.Crashes.{IsMixed}
use Rattle.md_device.proofs.Leaving.{in_three, leaves_none, three_same}
use Rattle.md_members.specs.DeviceWrites.Writes.{IsAnyIn, IsCutShort, Write}
use Rattle.md_members.proofs.DeviceWriteLemmas.Frames.{outside_none, outside_then}
use Rattle.md_members.proofs.DeviceWriteLemmas.Runs.{cut_one}
use Rattle.md_model.specs.Events.{Event}
use Rattle.md_model.proofs.Puts.{by_same}
use Rattle.md_state.specs.DeviceChanges.{LeavesOn, StaysHonest}
use Rattle.md_state.specs.DiskWrites.{HasThisFailed, IsFailed, IsTried, IsWritten}
use Rattle.md_state.specs.View.{Disk}
use Rattle.md_array.specs.Events.{IsSameBesideMarks, IsSameBesideUnsaid}
use Rattle.md_array.specs.Worlds.{AreHonest}
use Rattle.md_array.proofs.General.Indices.{got_in_map}
use Rattle.md_array.proofs.StepLemmas.WrittenLast.{honest_last}
use Rattle.md_laws.specs.CrashesWithin.{IsLeftBut, MayAllBeLeft, CrashesAsFailed, CrashesAsTried, CrashesAtEvents, CrashesUndivided}
use Rattle.md_laws.proofs.Crashes.AtSteps.{put_back, same_lists, crashes_at_failure, crashes_at_sector, crashes_at_write, crashes_in_memory}
use Rattle.md_laws.proofs.Crashes.AloneChanged.{contents_with, got_with, left_alone, long_with, with_contents}
use Rattle.md_laws.proofs.Crashes.WithinAdd.{cut_none, left_of_new}
use Rattle.md_assembly.proofs.Indices.{got_same, got_within}
use Rattle.md_device.proofs.Failing.{fails_none}
use Rattle.std.specs.Prelude.{⊤}

module _ (k : ℕ) (w : Write) (before after : List Disk) (left : List (List ℕ)) (P : List ℕ → List ℕ → Type 0) (tried : IsTried k w before after) (but : IsLeftBut k P before left) where
  abbrev found : List Disk
  found = with_contents after left

  -- device k, as it is found
  record IsFoundAt (d e : Disk) : Type 0 where
    then_was : Disk
    at_then : slice_get after k ≡ Some then_was
    bytes : List ℕ
    at_left : slice_get left k ≡ Some bytes
    same : e ≡ record then_was { content = bytes }

  found_at : (d e : Disk) → slice_get before k ≡ Some d → slice_get found k ≡ Some e → IsFoundAt d e
  found_at d e was is =
      let low = slice_get_within before k d was in
      let many = tried.as_many in
      let long = but.as_many in
      let a = got_within after k (omega arith) in
      let c = got_within left k (omega arith) in
      record {
        then_was = a.0;
        at_then = a.1;
        bytes = c.0;
        at_left = c.1;
        same = same_Some e (record a.0 { content = c.0 }) (sym is ∙ got_with after left k a.0 c.0 a.1 c.1);
      }

  others_found : (j : ℕ) → j ≢ k → slice_get found j ≡ slice_get before j
  others_found j apart =
      let many = tried.as_many in
      let long = but.as_many in
      let all = long_with after left in
      ⊎_elim
      (λ (low : j < length before).
      let d = got_within before j low in
      let c = got_within left j (omega arith) in
      let same : c.0 ≡ d.0.content = but.others j apart d.0 c.0 d.1 c.1 in
      got_with after left j d.0 c.0 (tried.others j apart ∙ d.1) c.1 ∙ (λ i. Some (record d.0 { content = same i })) ∙ sym d.1)
      (λ past. slice_get_past found j (omega arith) ∙ sym (slice_get_past before j past))
      (cases_lt j (length before))

  found_tried : ((d : Disk) (c : List ℕ) → slice_get before k ≡ Some d → P d.content c → SameOutside (512 * w.sector) (length w.bytes) d.content c) → IsTried k w before found
  found_tried outside = record {
    as_many = long_with after left ∙ tried.as_many;
    others = others_found;
    stays = λ d e was is.
        let x = found_at d e was is in
        let stayed = tried.stays d x.then_was was x.at_then in
        subst (λ (y : Disk). StaysHonest d y) (sym x.same) (record { honest = stayed.honest; counted = stayed.counted; grown = stayed.grown });
    outside = λ d e was is.
        let x = found_at d e was is in
        subst (λ (y : Disk). SameOutside (512 * w.sector) (length w.bytes) d.content y.content) (sym x.same) (outside d x.bytes was (but.this d x.bytes was x.at_left));
  }

  contents_found : map (λ (d : Disk). d.content) found ≡ left
  contents_found = contents_with after left (but.as_many ∙ sym tried.as_many)

pub crashes_as_failed : CrashesAsFailed
crashes_as_failed k w old new left honest fails may =
    let but = crashes_at_failure k w old.disks new.disks left honest fails.disks may in
    let tried = fails.disks.tried in (
      record { disks = with_contents new.disks left; array = new.array },
      record {
        disks = record {
          tried = found_tried k w old.disks new.disks left (IsAnyIn w) tried but (λ d c was any. any);
          failed = λ d e was is h.
              let x = found_at k w old.disks new.disks left (IsAnyIn w) tried but d e was is in
              subst (λ (y : Disk). d.failures < y.failures) (sym x.same) (fails.disks.failed d x.then_was was x.at_then h);
          there = λ d e was is.
              let x = found_at k w old.disks new.disks left (IsAnyIn w) tried but d e was is in
              subst (HasThisFailed w d) (sym x.same) (fails.disks.there d x.then_was was x.at_then);
          within = λ d e was is h.
              let x = found_at k w old.disks new.disks left (IsAnyIn w) tried but d e was is in
              subst (λ (y : Disk). LeavesOn (IsAnyIn w d.content) d y) (sym x.same) (fails.disks.within d x.then_was was x.at_then h);
        };
        array = fails.array;
      },
      contents_found k w old.disks new.disks left (IsAnyIn w) tried but,
    )

-- what a crash leaves within a write that fails, as of a torn write
pub failed_as_tried : (k : ℕ) (w : Write) (before after : List Disk) (left : List (List ℕ)) → AreHonest before → IsFailed k w before after → MayAllBeLeft before after left
    → (disks : List Disk) × IsTried k w before disks × (map (λ d. d.content) disks ≡ left)
failed_as_tried k w before after left honest failed may =
    let but = crashes_at_failure k w before after left honest failed may in
    (with_contents after left, found_tried k w before after left (IsAnyIn w) failed.tried but (λ d c was any. any), contents_found k w before after left (IsAnyIn w) failed.tried but)

-- a write that was not made
untouched : (k : ℕ) (w : Write) (disks : List Disk) → IsTried k w disks disks
untouched k w disks = record {
  as_many = refl;
  others = λ j apart. refl;
  stays = λ d e was is. subst (StaysHonest d) (got_same disks k d e was is) (record { honest = refl; counted = omega arith; grown = fails_none d.faults (λ _. ⊤) });
  outside = λ d e was is. subst (λ (x : Disk). SameOutside (512 * w.sector) (length w.bytes) d.content x.content) (got_same disks k d e was is) (outside_none (512 * w.sector) (length w.bytes) d.content);
}

-- devices that were left with any bytes in its range, as of a torn write
pub left_as_tried : (k : ℕ) (w : Write) (disks : List Disk) (left : List (List ℕ)) → IsLeftBut k (IsAnyIn w) disks left
    → (found : List Disk) × IsTried k w disks found × (map (λ d. d.content) found ≡ left)
left_as_tried k w disks left but =
    let none = untouched k w disks in
    (with_contents disks left, found_tried k w disks disks left (IsAnyIn w) none but (λ d c was any. any), contents_found k w disks disks left (IsAnyIn w) none but)

-- ---- what is left differs from what stands there after the write in its range at most
module _ (k : ℕ) (w : Write) (before after : List Disk) (left : List (List ℕ)) (honest : AreHonest before) (done : IsWritten k w before after) (may : MayAllBeLeft before after left) where
  but : IsLeftBut k (λ old c. IsCutShort old (w ∷ []) c) before left
  but = crashes_at_write k w before after left honest done may

  module _ (d e : Disk) (was : slice_get before k ≡ Some d) (is : slice_get after k ≡ Some e) where
    outside : SameOutside (512 * w.sector) (length w.bytes) d.content e.content
    outside = done.tried.outside d e was is

    back : SameOutside (512 * w.sector) (length w.bytes) e.content d.content
    back = record { size = sym outside.size; before = sym outside.before; after = sym outside.after }

    any_left : (c : List ℕ) → IsCutShort d.content (w ∷ []) c → IsAnyIn w e.content c
    any_left c cut =
        ⊎_elim
        (λ (all : c ≡ written d.content w.sector w.bytes).
        let same : e.content ≡ c = done.done d e was is (honest k d was) ∙ sym all in
        subst (IsAnyIn w e.content) same (outside_none (512 * w.sector) (length w.bytes) e.content))
        (λ (mixed : IsMixed w.sector w.bytes d.content c). outside_then back mixed.outside)
        (cut_one d.content c w cut)

  pub left_after_write : IsLeftBut k (IsAnyIn w) after left
  left_after_write = record {
    as_many = but.as_many ∙ sym done.tried.as_many;
    others = λ j apart e c there is. but.others j apart e c (sym (done.tried.others j apart) ∙ there) is;
    this = λ e c there is.
        let low = slice_get_within after k e there in
        let many = done.tried.as_many in
        let d = got_within before k (omega arith) in
        any_left d.0 e d.1 there c (but.this d.0 c d.1 is);
  }

pub crashes_as_tried : CrashesAsTried
crashes_as_tried k w before after left honest writes may =
    let cut : List ℕ → List ℕ → Type 0 = λ was c. IsCutShort was (w ∷ []) c in
    let but = crashes_at_write k w before after left honest writes may in (
      with_contents after left,
      found_tried k w before after left cut writes.tried but
          (λ d c was short.
          let low = slice_get_within before k d was in
          let many = writes.tried.as_many in
          let e = got_within after k (omega arith) in
          ⊎_elim
          (λ (done : c ≡ written d.content w.sector w.bytes). subst (SameOutside (512 * w.sector) (length w.bytes) d.content) (writes.done d e.0 was e.1 (honest k d was) ∙ sym done) (writes.tried.outside d e.0 was e.1))
          (λ (mixed : IsMixed w.sector w.bytes d.content c). mixed.outside)
          (cut_one d.content c w short)),
      contents_found k w before after left cut writes.tried but,
    )

-- a write of one sector is done, or is not
pub sector_done : (k : ℕ) (w : Write) (before after : List Disk) (left : List (List ℕ)) → AreHonest before → IsWritten k w before after → IsLeftBut k (λ was c. (c ≡ was) ⊎ (c ≡ written was w.sector w.bytes)) before left
    → (left ≡ map (λ (d : Disk). d.content) before) ⊎ (left ≡ map (λ (d : Disk). d.content) after)
sector_done k w before after left honest writes but =
    let many = writes.tried.as_many in
    let long = but.as_many in
    ⊎_elim
    (λ (low : k < length before).
    let d = got_within before k low in
    let c = got_within left k (omega arith) in
    ⊎_elim
    (λ (none : c.0 ≡ d.0.content). inl (same_lists (map (λ (x : Disk). x.content) before) left (long ∙ sym (length-map before (λ (x : Disk). x.content)))
    (λ j x y at is. by_same j k
    (λ here. same_Some y c.0 (sym is ∙ ap (slice_get left) here ∙ c.1) ∙ none ∙ sym (same_Some x d.0.content (sym at ∙ ap (slice_get (map (λ (z : Disk). z.content) before)) here ∙ got_in_map (λ (z : Disk). z.content) before k d.0 d.1)))
    (λ apart.
    let inside = slice_get_within left j y is in
    let b = got_within before j (omega arith) in
    but.others j apart b.0 y b.1 is ∙ sym (same_Some x b.0.content (sym at ∙ got_in_map (λ (z : Disk). z.content) before j b.0 b.1))))))
    (λ (done : c.0 ≡ written d.0.content w.sector w.bytes). inr (same_lists (map (λ (x : Disk). x.content) after) left (long ∙ sym many ∙ sym (length-map after (λ (x : Disk). x.content)))
    (λ j x y at is. by_same j k
    (λ here.
    let e = got_within after k (omega arith) in
    same_Some y c.0 (sym is ∙ ap (slice_get left) here ∙ c.1) ∙ done ∙ sym (writes.done d.0 e.0 d.1 e.1 (honest k d.0 d.1))
    ∙ sym (same_Some x e.0.content (sym at ∙ ap (slice_get (map (λ (z : Disk). z.content) after)) here ∙ got_in_map (λ (z : Disk). z.content) after k e.0 e.1)))
    (λ apart.
    let inside = slice_get_within left j y is in
    let b = got_within before j (omega arith) in
    but.others j apart b.0 y b.1 is ∙ sym (same_Some x b.0.content (sym at ∙ got_in_map (λ (z : Disk). z.content) after j b.0 (writes.tried.others j apart ∙ b.1)))))))
    (but.this d.0 c.0 d.1 c.1))
    (λ past. inl (same_lists (map (λ (x : Disk). x.content) before) left (long ∙ sym (length-map before (λ (x : Disk). x.content)))
    (λ j x y at is.
    let inside = slice_get_within left j y is in
    let b = got_within before j (omega arith) in
    but.others j (λ here. absurd (omega arith)) b.0 y b.1 is ∙ sym (same_Some x b.0.content (sym at ∙ got_in_map (λ (z : Disk). z.content) before j b.0 b.1)))))
    (cases_lt k (length before))

pub crashes_undivided : CrashesUndivided
unfolding spliced
crashes_undivided k w before after left honest writes may undivided =
    let but = crashes_at_write k w before after left honest writes may in
    sector_done k w before after left honest writes (record {
      as_many = but.as_many;
      others = but.others;
      this = λ d c was is. ⊎_elim (λ done. inr done)
          (λ (mixed : IsMixed w.sector w.bytes d.content c). ⊎_elim
          (λ (same : held c w.sector (length w.bytes) ≡ held d.content w.sector (length w.bytes)). inl (three_same (512 * w.sector) (length w.bytes) d.content c mixed.outside _ same ∙ sym (in_three d.content (512 * w.sector) (length w.bytes))))
          (λ (new : held c w.sector (length w.bytes) ≡ w.bytes). inr (three_same (512 * w.sector) (length w.bytes) d.content c mixed.outside w.bytes new))
          (undivided d c was is))
          (cut_one d.content c w (but.this d c was is));
    })

in_memory : (before after : List Disk) (left : List (List ℕ)) → after ≡ before → MayAllBeLeft before after left → left ≡ map (λ (d : Disk). d.content) before
in_memory before after left same may = crashes_in_memory before left (subst (λ (x : List Disk). MayAllBeLeft before x left) same may)

pub crashes_at_events : CrashesAtEvents
crashes_at_events (Event.Record k) before after left honest writes may = (writes.0, writes.1, crashes_at_write k writes.0 before after left honest writes.1 may)
crashes_at_events (Event.WriteMember n k) before after left honest writes may = (writes.0, writes.1, crashes_at_write k writes.0 before after left honest writes.1 may)
crashes_at_events (Event.StoreMarks k b) before after left honest writes may =
    sector_done k writes.0 before after left honest writes.2 (crashes_at_sector k writes.0 before after left writes.1 honest writes.2 may)
crashes_at_events (Event.WriteFails k part) before after left honest writes may = (writes.0, writes.1, crashes_at_failure k writes.0 before after left honest writes.1 may)
crashes_at_events (Event.Copy from k s) before after left honest writes may = tt
crashes_at_events Event.Resynced before after left honest writes may = in_memory before after left writes may
crashes_at_events Event.Unresynced before after left honest writes may = in_memory before after left writes may
crashes_at_events (Event.Remove k) before after left honest writes may =
    crashes_in_memory before left (subst (λ (x : List Disk). MayAllBeLeft before x left) (ap (λ (x : List Disk). insert x k writes.was) writes.others ∙ put_back before k writes.was writes.at) may)
crashes_at_events (Event.Add number new) before after left honest writes may =
    left_of_new before writes.was writes.now left (λ was c. IsCutShort was writes.writes c) (subst (λ (x : List Disk). MayAllBeLeft (before ++ writes.was ∷ []) x left) writes.disks may)
    (cut_none writes.was.content writes.writes)
    (writes.done.within writes.honest)
crashes_at_events (Event.ReAdd own offset device new) before after left honest writes may =
    crashes_at_write (length before) writes.write (before ++ writes.was ∷ []) after left (honest_last before writes.was honest writes.honest) writes.written may
crashes_at_events Event.MakeClean before after left honest writes may = in_memory before after left writes may
crashes_at_events (Event.Begin n p) before after left honest writes may = in_memory before after left writes may
crashes_at_events (Event.Finish n) before after left honest writes may = in_memory before after left writes may
crashes_at_events (Event.ClearIdle c) before after left honest writes may = in_memory before after left writes may
crashes_at_events (Event.Fail k) before after left honest writes may = in_memory before after left writes may
crashes_at_events (Event.LowerOffset k s) before after left honest writes may = in_memory before after left writes may
crashes_at_events (Event.Fill k) before after left honest writes may =
    left_alone k (IsSameBesideUnsaid writes.0 writes.1) before after left (λ c. record { size = refl; beside = λ at n _. refl }) honest writes.2 may
crashes_at_events (Event.Prepare k) before after left honest writes may =
    left_alone k (IsSameBesideMarks writes.0) before after left (λ c. record { size = refl; beside = λ at n _. refl }) honest writes.1 may
crashes_at_events (Event.RecordTargetFails k) before after left honest writes may = (writes.0, writes.1, crashes_at_failure k writes.0 before after left honest writes.1 may)
crashes_at_events (Event.SpoilTarget k) before after left honest writes may = tt
crashes_at_events (Event.Enrol k role listed) before after left honest writes may = tt
crashes_at_events (Event.Admit k role listed) before after left honest writes may = (writes.0, writes.1, crashes_at_write k writes.0 before after left honest writes.1 may)
crashes_at_events (Event.Checkpoint k sure listed) before after left honest writes may = (writes.0, writes.1, crashes_at_write k writes.0 before after left honest writes.1 may)
crashes_at_events (Event.NoteBad k more) before after left honest writes may = in_memory before after left writes may
crashes_at_events (Event.StoreLog k listed) before after left honest (inl same) may = inl (in_memory before after left same may)
crashes_at_events (Event.StoreLog k listed) before after left honest (inr writes) may = inr (writes.0, writes.1, crashes_at_write k writes.0 before after left honest writes.1 may)

-- ---- a write that fails, and that a crash left done or not done
module _ (k : ℕ) (w : Write) (before after : List Disk) (left : List (List ℕ)) (honest : AreHonest before) (failed : IsFailed k w before after) (may : MayAllBeLeft before after left) where
  but_failed : IsLeftBut k (IsAnyIn w) before left
  but_failed = crashes_at_failure k w before after left honest failed may

  as_it_was : ((d : Disk) (c : List ℕ) → slice_get before k ≡ Some d → slice_get left k ≡ Some c → c ≡ d.content) → left ≡ map (λ (d : Disk). d.content) before
  as_it_was same = same_lists (map (λ (d : Disk). d.content) before) left (but_failed.as_many ∙ sym (length-map before (λ (d : Disk). d.content)))
      (λ j x c at is.
      let low = slice_get_within left j c is in
      let long = but_failed.as_many in
      let d = got_within before j (omega arith) in
      let x_is : x ≡ d.0.content = same_Some x d.0.content (sym at ∙ got_in_map (λ (y : Disk). y.content) before j d.0 d.1) in
      by_same j k
      (λ here. same d.0 c (subst (λ (i : ℕ). slice_get before i ≡ Some d.0) here d.1) (subst (λ (i : ℕ). slice_get left i ≡ Some c) here is) ∙ sym x_is)
      (λ apart. but_failed.others j apart d.0 c d.1 is ∙ sym x_is))

  as_done : (d : Disk) (c : List ℕ) → slice_get before k ≡ Some d → slice_get left k ≡ Some c → c ≡ written d.content w.sector w.bytes
      → (disks : List Disk) × IsWritten k w before disks × (map (λ (y : Disk). y.content) disks ≡ left)
  as_done d c was is done =
      let none = untouched k w before in (
        with_contents before left,
        record {
          tried = found_tried k w before before left (IsAnyIn w) none but_failed (λ x y at any. any);
          done = λ x e at here h.
              let f = found_at k w before before left (IsAnyIn w) none but_failed x e at here in
              ap (λ (y : Disk). y.content) f.same ∙ same_Some f.bytes c (sym f.at_left ∙ is) ∙ done ∙ ap (λ (y : Disk). written y.content w.sector w.bytes) (same_Some d x (sym was ∙ at));
          within = λ x e at here h.
              let f = found_at k w before before left (IsAnyIn w) none but_failed x e at here in
              let same : f.then_was ≡ x = same_Some f.then_was x (sym f.at_then ∙ at) in
              subst (λ (y : Disk). LeavesOn (IsCutShort x.content (w ∷ [])) x y) (sym f.same)
              (subst (λ (y : Disk). LeavesOn (IsCutShort x.content (w ∷ [])) x y) (sym same) (leaves_none x.crashes (IsCutShort x.content (w ∷ []))));
        },
        contents_found k w before before left (IsAnyIn w) none but_failed,
      )

  pub done_or_not : ((d : Disk) (c : List ℕ) → slice_get before k ≡ Some d → slice_get left k ≡ Some c → (c ≡ d.content) ⊎ (c ≡ written d.content w.sector w.bytes))
      → (left ≡ map (λ (d : Disk). d.content) before) ⊎ ((disks : List Disk) × IsWritten k w before disks × (map (λ (y : Disk). y.content) disks ≡ left))
  done_or_not either = ⊎_elim
      (λ (low : k < length before).
      let long = but_failed.as_many in
      let d = got_within before k low in
      let c = got_within left k (omega arith) in
      ⊎_elim
      (λ (same : c.0 ≡ d.0.content). inl (as_it_was (λ x y at here. same_Some y c.0 (sym here ∙ c.1) ∙ same ∙ ap (λ (z : Disk). z.content) (same_Some d.0 x (sym d.1 ∙ at)))))
      (λ (done : c.0 ≡ written d.0.content w.sector w.bytes). inr (as_done d.0 c.0 d.1 c.1 done))
      (either d.0 c.0 d.1 c.1))
      (λ (past : length before ≤ k). inl (as_it_was (λ x y at here. let low = slice_get_within before k x at in absurd (omega arith))))
      (cases_lt k (length before))
