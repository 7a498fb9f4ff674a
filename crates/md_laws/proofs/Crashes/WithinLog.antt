-- A crash within `store_log` is before it or after it, where the log changes in its first sector alone.
use Rattle.std.proofs.Common.{◌≡◌, ◌⊎◌, ⊎_elim, inl, inr, ℕ, zero, suc, ◌+◌, ◌*◌, ◌<◌, ◌≤◌, Bool, true, false, if◌then◌else◌, List, [], ◌∷◌, ◌++◌, drop, length, map, take, slice_get, Some, sym, ap, ◌∙◌, subst, arith}
use Rattle.std.proofs.Math.Seq.{drop-drop, take-add}
use Rattle.std.proofs.lemmas.Bool.{cases_lt}
use Rattle.std.proofs.lemmas.List.{take_all}
use Rattle.md_badblocks.specs.Log.{log_bytes}
use Rattle.md_device.specs.Device.{held, written}
use Rattle.md_device.specs.Splice.{part, spliced}
use Rattle.md_device.specs.Crashes.{IsMixed}
use Rattle.md_device.proofs.Leaving.{in_three, three_same}
use Rattle.md_kept_members.specs.Enrolling.{log_room}
use Rattle.md_kept_members.specs.View.{MemberView}
use Rattle.md_model.proofs.Cases.{by_test}
use Rattle.md_kept_members.specs.OnDevices.Storing.{sector_from_super}
use Rattle.md_state.specs.DiskWrites.{IsWritten}
use Rattle.md_state.specs.View.{Disk, MirrorView}
use Rattle.md_super.specs.Log.{has_bad_block_log}
use Rattle.md_members.specs.DeviceWrites.Writes.{Write}
use Rattle.md_members.proofs.DeviceWriteLemmas.Runs.{cut_one}
use Rattle.md_array.specs.Steps.StoreLog.{AreWritten, StoresLog}
use Rattle.md_array.specs.Worlds.{AreHonest}
use Rattle.md_array.proofs.Rebuilding.MemberStored.{log_long}
use Rattle.md_laws.specs.CrashesWithin.{DiffersInFirst, IsLeftBut, MayAllBeLeft, CrashesAtLog}
use Rattle.md_laws.proofs.Crashes.AsFailed.{sector_done}
use Rattle.md_laws.proofs.Crashes.AtSteps.{crashes_at_write, crashes_in_memory}

by_first : (P : ℕ → Type 0) (i : ℕ) → P 0 → (0 < i → P i) → P i
by_first P zero none some = none
by_first P (suc i) none some = some (omega arith)

-- ---- two ranges of whole sectors that agree in each
none_there : (xs : List ℕ) (at : ℕ) → part xs at (512 * 0) ≡ []
unfolding part
none_there xs at = let none : 512 * 0 ≡ 0 = omega arith in ap (λ (n : ℕ). take n (drop at xs)) none

in_two : (xs : List ℕ) (at m n : ℕ) → part xs at (m + n) ≡ part xs at m ++ part xs (at + m) n
unfolding part
in_two xs at m n = take-add m n (drop at xs) ∙ ap (λ (ys : List ℕ). take m (drop at xs) ++ take n ys) (drop-drop m at xs)

by_sectors : (xs ys : List ℕ) (at bt n : ℕ) → ((i : ℕ) → i < n → part xs (at + 512 * i) 512 ≡ part ys (bt + 512 * i) 512) → part xs at (512 * n) ≡ part ys bt (512 * n)
by_sectors xs ys at bt zero same = none_there xs at ∙ sym (none_there ys bt)
by_sectors xs ys at bt (suc n) same =
    let whole : 512 * suc n ≡ 512 * n + 512 = omega arith in
    let earlier = by_sectors xs ys at bt n (λ i low. same i (omega arith)) in
    let last = same n (omega arith) in
    ap (part xs at) whole ∙ in_two xs at (512 * n) 512 ∙ (λ i. earlier i ++ last i) ∙ sym (in_two ys bt (512 * n) 512) ∙ sym (ap (part ys bt) whole)

module _ (k : ℕ) (old new : MirrorView) (left : List (List ℕ)) (honest : AreHonest old.disks) (r : StoresLog k old new)
    (differs : (d : Disk) → slice_get old.disks k ≡ Some d → DiffersInFirst r.member d.content) (may : MayAllBeLeft old.disks new.disks left) where
  abbrev m : MemberView
  m = r.member

  abbrev has : Bool
  has = has_bad_block_log m.superblock

  abbrev n : ℕ
  n = m.superblock.bblog_size

  abbrev start : ℕ
  start = sector_from_super m.superblock.bblog_offset

  abbrev w : Write
  w = record { sector = start; bytes = log_bytes m.bad (log_room m.superblock) }

  log_written : has ≡ true → IsWritten k w old.disks new.disks
  log_written there = (subst (λ (ws : List Write). AreWritten k ws old.disks new.disks) (ap (λ (b : Bool). if b then w ∷ [] else []) there) r.disks).1

  same_disks : has ≡ false → new.disks ≡ old.disks
  same_disks none = subst (λ (ws : List Write). AreWritten k ws old.disks new.disks) (ap (λ (b : Bool). if b then w ∷ [] else []) none) r.disks

  -- ---- the log was stored, in sectors as before or as written
  module _ (there : has ≡ true) (d : Disk) (was : slice_get old.disks k ≡ Some d) (c : List ℕ) (mixed : IsMixed start w.bytes d.content c) where
    long : length w.bytes ≡ 512 * n
    long = log_long m r.room there

    -- sector i of the log, in a device
    placed : (xs : List ℕ) (i : ℕ) → part xs (512 * start + 512 * i) 512 ≡ held xs (start + i) 512
    placed xs i = ap (λ (at : ℕ). part xs at 512) (let same : 512 * start + 512 * i ≡ 512 * (start + i) = omega arith in same)

    inside : (i : ℕ) → i < n → 512 * i < length w.bytes
    inside i low = let all = long in omega arith

    later : (i : ℕ) → 0 < i → i < n → held c (start + i) 512 ≡ held d.content (start + i) 512
    later i some low = ⊎_elim (λ same. same) (λ new. new ∙ sym (differs d was i some low)) (mixed.each i (inside i low))

    all_before : ((i : ℕ) → i < n → held c (start + i) 512 ≡ held d.content (start + i) 512) → c ≡ d.content
    all_before each =
        let all = by_sectors c d.content (512 * start) (512 * start) n (λ i low. placed c i ∙ each i low ∙ sym (placed d.content i)) in
        three_same (512 * start) (length w.bytes) d.content c mixed.outside _ (subst (λ (x : ℕ). part c (512 * start) x ≡ part d.content (512 * start) x) (sym long) all)
        ∙ sym (in_three d.content (512 * start) (length w.bytes))

    all_written : ((i : ℕ) → i < n → held c (start + i) 512 ≡ held w.bytes i 512) → c ≡ written d.content start w.bytes
    unfolding spliced part
    all_written each =
        let all = by_sectors c w.bytes (512 * start) 0 n (λ i low. placed c i ∙ each i low ∙ ap (λ (at : ℕ). part w.bytes at 512) (let same : 512 * i ≡ 0 + 512 * i = omega arith in same)) in
        let whole : part w.bytes 0 (512 * n) ≡ w.bytes = take_all (512 * n) w.bytes (let most = long in omega arith) in
        three_same (512 * start) (length w.bytes) d.content c mixed.outside w.bytes (subst (λ (x : ℕ). part c (512 * start) x ≡ w.bytes) (sym long) (all ∙ whole))

    -- by its first sector
    either : (c ≡ d.content) ⊎ (c ≡ written d.content start w.bytes)
    either = ⊎_elim
        (λ (some : 0 < n). ⊎_elim
        (λ (first : held c (start + 0) 512 ≡ held d.content (start + 0) 512). inl (all_before (λ i low. by_first (λ j. held c (start + j) 512 ≡ held d.content (start + j) 512) i first (λ more. later i more low))))
        (λ (first : held c (start + 0) 512 ≡ held w.bytes 0 512). inr (all_written (λ i low. by_first (λ j. held c (start + j) 512 ≡ held w.bytes j 512) i first (λ more. later i more low ∙ differs d was i more low))))
        (mixed.each 0 (inside 0 some)))
        (λ (none : n ≤ 0). inl (all_before (λ i low. absurd (omega arith))))
        (cases_lt 0 n)

  left_so : has ≡ true → IsLeftBut k (λ was c. (c ≡ was) ⊎ (c ≡ written was start w.bytes)) old.disks left
  left_so there =
      let but = crashes_at_write k w old.disks new.disks left honest (log_written there) may in
      record {
        as_many = but.as_many;
        others = but.others;
        this = λ d c was is. ⊎_elim (λ done. inr done) (λ (mixed : IsMixed start w.bytes d.content c). either there d was c mixed) (cut_one d.content c w (but.this d c was is));
      }

  before_or_after : (left ≡ map (λ (d : Disk). d.content) old.disks) ⊎ (left ≡ map (λ (d : Disk). d.content) new.disks)
  before_or_after = by_test has
      (λ there. sector_done k w old.disks new.disks left honest (log_written there) (left_so there))
      (λ none. inl (crashes_in_memory old.disks left (subst (λ (disks : List Disk). MayAllBeLeft old.disks disks left) (same_disks none) may)))

pub crashes_at_log : CrashesAtLog
crashes_at_log k old new left honest r differs may = before_or_after k old new left honest r differs may
