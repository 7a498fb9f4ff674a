-- A crash within a copy of sectors leaves some of them copied: those are events, one after another.
use Rattle.std.proofs.Common.{◌≡◌, ◌≢◌, ◌∙◌, ◌⊎◌, ⊎_elim, inl, inr, ℕ, zero, suc, ◌+◌, ◌*◌, ◌<◌, ◌≤◌, true, List, [], ◌∷◌, ◌++◌, length, take, drop, drop-drop, map, set, slice_get, Option, Some, refl, sym, ap, subst, arith, length-set}
use Rattle.std.proofs.lemmas.List.{length-drop, length-map, length-take-le, take-append-drop}
use Rattle.std.proofs.lemmas.Option.{same_Some, slice_get_within}
use Rattle.md_device.specs.Device.{held, written}
use Rattle.md_device.specs.Splice.{SameOutside, part, spliced}
use Rattle.md_device.specs.Crashes.{IsMixed}
use Rattle.md_device.proofs.Splices.{part_after, part_before, spliced_outside}
use Rattle.md_device.proofs.Leaving.{three_same}
use Rattle.md_model.specs.Events.{Event}
use Rattle.md_model.proofs.Puts.{by_same}
use Rattle.md_members.specs.DeviceWrites.Writes.{IsCutShort}
use Rattle.md_members.proofs.DeviceWriteLemmas.Runs.{cut_one}
use Rattle.md_kept_members.specs.View.{MemberView}
use Rattle.md_state.specs.View.{Disk, MirrorView}
use Rattle.md_state.specs.Steps.CopyData.{CopiesSector, CopiesTo, IsCopy, MayCopy, run_write}
use Rattle.md_state.specs.DeviceChanges.{StaysHonest}
use Rattle.md_state.specs.Steps.ReadData.{HoldsData}
use Rattle.md_state.specs.Requests.{AreInFlight}
use Rattle.md_array.specs.Consistency.{IsConsistent}
use Rattle.md_array.specs.InTurn.{Leads, Requests}
use Rattle.md_array.proofs.StepLemmas.CopiedRun.{first_holds, first_may, others_hold, others_may}
use Rattle.md_array.proofs.StepLemmas.WriteMember.{part-spliced_within}
use Rattle.md_array.proofs.StepLemmas.OneWrite.{at_device}
use Rattle.md_array.proofs.Worlds.PartsApart.{parts_of}
use Rattle.md_array.proofs.StepLemmas.RunsOfSectors.{first_half, half, second_half}
use Rattle.md_array.proofs.Worlds.SectorCopied.{copied_is_consistent, copy_happens}
use Rattle.md_array.proofs.General.Indices.{at_set_same, got_in_map, got_other}
use Rattle.md_laws.specs.HaltedWrites.{CrashesAtHaltedCopies}
use Rattle.md_laws.specs.CopyCrashes.{IsCopiedInPart, CrashesAtCopies, copies_at}
use Rattle.md_laws.specs.CrashesWithin.{IsLeftBut}
use Rattle.md_laws.proofs.Crashes.AtSteps.{same_lists, crashes_at_failure, crashes_at_write}
use Rattle.md_assembly.proofs.Indices.{got_within}
use Rattle.md_device.proofs.Failing.{fails_none}
use Rattle.std.specs.Prelude.{⊤}

-- some of these sectors were copied: the device then has these bytes, and the others are as they were
record IsCopiedTo (from k : ℕ) (old : MirrorView) (bytes : List ℕ) : Type 0 where
  sectors : List ℕ
  mid : MirrorView
  leads : (previous : Option Event) (requests : Requests) → AreInFlight old.array requests → Leads previous old requests (copies_at from k sectors) mid requests
  as_many : length mid.disks ≡ length old.disks
  others : (j : ℕ) → j ≢ k → slice_get mid.disks j ≡ slice_get old.disks j
  disk : Disk
  at : slice_get mid.disks k ≡ Some disk
  is : disk.content ≡ bytes

-- each of n sectors from this one on is as it was, or as written
abbrev EachEither : ℕ → ℕ → List ℕ → List ℕ → List ℕ → Type 0
EachEither first n bytes old new = (i : ℕ) → i < n → (held new (first + i) 512 ≡ held old (first + i) 512) ⊎ (held new (first + i) 512 ≡ held bytes i 512)

nothing_changed : (at : ℕ) (old new : List ℕ) → SameOutside at 0 old new → new ≡ old
nothing_changed at old new same =
    let none : at + 0 ≡ at = omega arith in
    sym (take-append-drop at new) ∙ ap (λ xs. xs ++ drop at new) same.before ∙ ap (λ xs. take at old ++ xs) (subst (λ (n : ℕ). drop n new ≡ drop n old) none same.after) ∙ take-append-drop at old

-- ---- the first sector
module _ (at n : ℕ) (bytes old new : List ℕ) (same : SameOutside at (512 + n) old new) (low : at + 512 ≤ length old) where
  first_part : part (half at 512 n old new same low) at 512 ≡ part new at 512
  first_part = sym (part_before (second_half at 512 n old new same low) at 512 (omega arith))

  first_copied : part new at 512 ≡ take 512 bytes → 512 ≤ length bytes → half at 512 n old new same low ≡ spliced old at (take 512 bytes)
  unfolding spliced
  first_copied is long =
      three_same at 512 old (half at 512 n old new same low) (first_half at 512 n old new same low) (take 512 bytes) (first_part ∙ is)
      ∙ ap (λ (x : ℕ). take at old ++ (take 512 bytes ++ drop (at + x) old)) (sym (length-take-le 512 bytes long))

  first_left : part new at 512 ≡ part old at 512 → half at 512 n old new same low ≡ old
  first_left is =
      three_same at 512 old (half at 512 n old new same low) (first_half at 512 n old new same low) (part old at 512) (first_part ∙ is)
      ∙ sym (three_same at 512 old old (record { size = refl; before = refl; after = refl }) (part old at 512) refl)

-- a write that was cut short left each sector as it was or as written, and one that was done, too
as_mixed : (k sector : ℕ) (bytes : List ℕ) (old new : MirrorView) → IsConsistent old → (t : CopiesTo k sector bytes old new) → (d : Disk) → slice_get old.disks k ≡ Some d → d.honest ≡ true
    → (x : List ℕ) → IsCutShort d.content (run_write t.copy.may.target sector bytes ∷ []) x → IsMixed (t.copy.may.target.superblock.data_offset + sector) bytes d.content x
as_mixed k sector bytes old new c t d at honest x cut =
    let m = t.copy.may.target in
    let first = m.superblock.data_offset + sector in
    let parts = parts_of old c k d m at t.copy.may.in_sync.member in
    let fits = parts.placed.data_holds in
    let within = parts.placed.data_within in
    let size = parts.size in
    let inside = t.copy.may.inside in
    let long = t.copy.long in
    ⊎_elim
    (λ (done : x ≡ written d.content first bytes). subst (IsMixed first bytes d.content) (sym done) (record {
      outside = spliced_outside d.content (512 * first) bytes (length bytes) refl (omega arith);
      each = λ i below. inr (ap (λ (p : ℕ). part (written d.content first bytes) p 512) (place first i) ∙ part-spliced_within d.content (512 * first) bytes (512 * i) 512 (omega arith) (omega arith));
    }))
    (λ mixed. mixed)
    (cut_one d.content x (run_write m sector bytes) cut)
  where
    place : (first i : ℕ) → 512 * (first + i) ≡ 512 * first + 512 * i
    place first i = omega arith

-- ---- one after another
-- what is shown of so many sectors
abbrev Copied : ℕ → ℕ → ℕ → Type 0
Copied n from k =
    (s : ℕ) (bytes : List ℕ) (old : MirrorView) (d : Disk) (left : List ℕ) → IsConsistent old → (may : MayCopy from k s n old.array) → length bytes ≡ 512 * n
    → HoldsData old from s bytes → slice_get old.disks k ≡ Some d
    → SameOutside (512 * (may.target.superblock.data_offset + s)) (512 * n) d.content left → EachEither (may.target.superblock.data_offset + s) n bytes d.content left → IsCopiedTo from k old left

none_copied : (from k : ℕ) → Copied 0 from k
none_copied from k s bytes old d left c may long holds at same each = record {
  sectors = [];
  mid = old;
  leads = λ previous requests in_flight. (refl, refl);
  as_many = refl;
  others = λ j apart. refl;
  disk = d;
  at = at;
  is = sym (nothing_changed (512 * (may.target.superblock.data_offset + s)) d.content left same);
}

module _ (n from k : ℕ) (go : Copied n from k) (s : ℕ) (bytes : List ℕ) (old : MirrorView) (d : Disk) (left : List ℕ) (c : IsConsistent old) (may : MayCopy from k s (suc n) old.array) (long : length bytes ≡ 512 * suc n)
    (holds : HoldsData old from s bytes) (at : slice_get old.disks k ≡ Some d)
    (same : SameOutside (512 * (may.target.superblock.data_offset + s)) (512 * suc n) d.content left) (each : EachEither (may.target.superblock.data_offset + s) (suc n) bytes d.content left) where
  abbrev m : MemberView
  m = may.target

  abbrev start : ℕ
  start = 512 * (m.superblock.data_offset + s)

  here : (m.superblock.data_offset + s) + 0 ≡ m.superblock.data_offset + s
  here = omega arith

  outside : SameOutside start (512 + 512 * n) d.content left
  outside = subst (λ (x : ℕ). SameOutside start x d.content left) sums same
    where
      sums : 512 * suc n ≡ 512 + 512 * n
      sums = omega arith

  low : start + 512 ≤ length d.content
  low =
      let parts = parts_of old c k d m at may.in_sync.member in
      let fits = parts.placed.data_holds in
      let within = parts.placed.data_within in
      let size = parts.size in
      let inside = may.inside in
      omega arith

  abbrev middle : List ℕ
  middle = half start 512 (512 * n) d.content left outside low

  next : 512 * (m.superblock.data_offset + (s + 1)) ≡ start + 512
  next = omega arith

  rest_same : SameOutside (512 * (m.superblock.data_offset + (s + 1))) (512 * n) middle left
  rest_same = subst (λ (x : ℕ). SameOutside x (512 * n) middle left) (sym next) (second_half start 512 (512 * n) d.content left outside low)

  long_rest : length (drop 512 bytes) ≡ 512 * n
  long_rest = let l = length-drop 512 bytes in omega arith

  -- a later sector, of the device as it is by then
  rest_each : EachEither (m.superblock.data_offset + (s + 1)) n (drop 512 bytes) middle left
  unfolding part
  rest_each i below =
      let place : (m.superblock.data_offset + s) + (i + 1) ≡ (m.superblock.data_offset + (s + 1)) + i = omega arith in
      let after : part middle (512 * ((m.superblock.data_offset + (s + 1)) + i)) 512 ≡ part d.content (512 * ((m.superblock.data_offset + (s + 1)) + i)) 512 =
      part_after (first_half start 512 (512 * n) d.content left outside low) (512 * ((m.superblock.data_offset + (s + 1)) + i)) 512 (omega arith) in
      let bytes_there : part bytes (512 * (i + 1)) 512 ≡ part (drop 512 bytes) (512 * i) 512 = ap (λ (x : ℕ). take 512 (drop x bytes)) shift ∙ ap (take 512) (sym (drop-drop (512 * i) 512 bytes)) in
      ⊎_elim
      (λ was. inl (subst (λ (x : ℕ). held left x 512 ≡ held d.content x 512) place was ∙ sym after))
      (λ now. inr (subst (λ (x : ℕ). held left x 512 ≡ held bytes (i + 1) 512) place now ∙ bytes_there))
      (each (i + 1) (omega arith))
    where
      shift : 512 * (i + 1) ≡ 512 + 512 * i
      shift = omega arith

  -- it is as it was: no event
  as_it_was : held left (m.superblock.data_offset + s) 512 ≡ held d.content (m.superblock.data_offset + s) 512 → IsCopiedTo from k old left
  as_it_was was =
      let kept : middle ≡ d.content = first_left start (512 * n) bytes d.content left outside low was in
      go (s + 1) (drop 512 bytes) old d left c (others_may from k s n old.array may) long_rest
      (others_hold old from s bytes holds old refl refl (omega arith)) at
      (subst (λ (x : List ℕ). SameOutside (512 * (m.superblock.data_offset + (s + 1))) (512 * n) x left) kept rest_same)
      (subst (λ (x : List ℕ). EachEither (m.superblock.data_offset + (s + 1)) n (drop 512 bytes) x left) kept rest_each)

  -- it is copied
  abbrev now : Disk
  now = record d { content = middle }

  abbrev mid : MirrorView
  mid = record { disks = set old.disks k now; array = old.array }

  in_list : k < length old.disks
  in_list = slice_get_within old.disks k d at

  as_written : held left (m.superblock.data_offset + s) 512 ≡ held bytes 0 512 → IsCopiedTo from k old left
  unfolding part
  as_written is =
      let long_first = length-take-le 512 bytes (omega arith) in
      let copied : middle ≡ written d.content (m.superblock.data_offset + s) (take 512 bytes) = first_copied start (512 * n) bytes d.content left outside low is (omega arith) in
      let copies : CopiesSector from k s old mid = record {
        bytes = take 512 bytes;
        long = long_first;
        may = first_may from k s n old.array may;
        holds = first_holds old from s bytes holds 512 (omega arith);
        disks = record {
          tried = record {
            as_many = length-set old.disks k now;
            others = λ j apart. got_other old.disks k j now apart;
            stays = at_device old.disks k d now StaysHonest at (record { honest = refl; counted = omega arith; grown = fails_none d.faults (λ _. ⊤) });
            outside = at_device old.disks k d now (λ x y. SameOutside start (length (take 512 bytes)) x.content y.content) at
                (subst (λ (x : ℕ). SameOutside start x d.content middle) (sym long_first) (first_half start 512 (512 * n) d.content left outside low));
          };
          done = at_device old.disks k d now (λ x y. x.honest ≡ true → y.content ≡ written x.content (m.superblock.data_offset + s) (take 512 bytes)) at (λ _. copied);
        };
        array = refl;
      } in
      let rest = go (s + 1) (drop 512 bytes) mid now left (copied_is_consistent from k s old mid c copies) (others_may from k s n old.array may) long_rest
      (others_hold old from s bytes holds mid refl (got_other old.disks k from now may.apart) (omega arith)) (at_set_same old.disks k now in_list) rest_same rest_each in
      record {
        sectors = s ∷ rest.sectors;
        mid = rest.mid;
        leads = λ previous requests in_flight.
            (mid, requests, tt, (refl, copies), (λ honest whole. copy_happens from k s old mid c copies honest requests in_flight), rest.leads (Some (Event.Copy from k s)) requests in_flight);
        as_many = rest.as_many ∙ length-set old.disks k now;
        others = λ j apart. rest.others j apart ∙ got_other old.disks k j now apart;
        disk = rest.disk;
        at = rest.at;
        is = rest.is;
      }

  one_more : IsCopiedTo from k old left
  one_more = ⊎_elim
      (λ was. as_it_was (subst (λ (x : ℕ). held left x 512 ≡ held d.content x 512) here was))
      (λ copied. as_written (subst (λ (x : ℕ). held left x 512 ≡ held bytes 0 512) here copied))
      (each 0 (omega arith))

copied_in_part : (n from k : ℕ) → Copied n from k
copied_in_part zero from k = none_copied from k
copied_in_part (suc n) from k = one_more n from k (copied_in_part n from k)

-- ---- what a crash leaves
-- no other device changed, and this one has each sector as it was or as written
pub left_in_part : (k sector : ℕ) (bytes : List ℕ) (old : MirrorView) (left : List (List ℕ)) → IsConsistent old → (copy : IsCopy k sector bytes old)
    → IsLeftBut k (IsMixed (copy.may.target.superblock.data_offset + sector) bytes) old.disks left → IsCopiedInPart k old left
left_in_part k sector bytes old left c copy but =
    let m = copy.may.target in
    let low = slice_get_within old.array.members k m copy.may.in_sync.member in
    let as_many = c.fits.as_many in
    let long = but.as_many in
    let d = got_within old.disks k (omega arith) in
    let x = got_within left k (omega arith) in
    let mixed = but.this d.0 x.0 d.1 x.1 in
    let reached = copied_in_part copy.sectors copy.from k sector bytes old d.0 x.0 c copy.may copy.long copy.holds d.1
    (subst (λ (n : ℕ). SameOutside (512 * (m.superblock.data_offset + sector)) n d.0.content x.0) copy.long mixed.outside)
    (λ i below. let size = copy.long in mixed.each i (omega arith)) in
    record {
      from = copy.from;
      sectors = reached.sectors;
      mid = reached.mid;
      leads = reached.leads;
      contents = sym (same_lists (map (λ (y : Disk). y.content) reached.mid.disks) left (but.as_many ∙ sym reached.as_many ∙ sym (length-map reached.mid.disks (λ (y : Disk). y.content)))
          (λ j y z was is. by_same j k
          (λ same.
          same_Some z x.0 (sym is ∙ ap (slice_get left) same ∙ x.1) ∙ sym reached.is
          ∙ sym (same_Some y reached.disk.content (sym was ∙ ap (slice_get (map (λ (e : Disk). e.content) reached.mid.disks)) same ∙ got_in_map (λ (e : Disk). e.content) reached.mid.disks k reached.disk reached.at)))
          (λ apart.
          let inside = slice_get_within left j z is in
          let e = got_within old.disks j (omega arith) in
          but.others j apart e.0 z e.1 is
          ∙ sym (same_Some y e.0.content (sym was ∙ got_in_map (λ (f : Disk). f.content) reached.mid.disks j e.0 (reached.others j apart ∙ e.1))))));
    }

pub crashes_at_copies : CrashesAtCopies
crashes_at_copies k sector bytes old new left c honest t may =
    let but = crashes_at_write k (run_write t.copy.may.target sector bytes) old.disks new.disks left honest t.disks may in
    left_in_part k sector bytes old left c t.copy (record {
      as_many = but.as_many;
      others = but.others;
      this = λ d x was is. as_mixed k sector bytes old new c t d was (honest k d was) x (but.this d x was is);
    })

-- where the write fails and halts the mirror
pub crashes_at_halted_copies : CrashesAtHaltedCopies
crashes_at_halted_copies k sector n old new left c honest h may mixed =
    let but = crashes_at_failure k (run_write h.copy.may.target sector h.bytes) old.disks new.disks left honest h.halts.disks may in
    left_in_part k sector h.bytes old left c h.copy (record { as_many = but.as_many; others = but.others; this = mixed })
