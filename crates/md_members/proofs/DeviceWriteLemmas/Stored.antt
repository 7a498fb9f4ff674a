-- What stands on a device once the writes of a bitmap are done, and what a crash leaves within them.
use Rattle.std.proofs.Common.{◌≡◌, ◌⊎◌, ℕ, zero, suc, ◌+◌, ◌-◌, ◌*◌, ◌<◌, ◌≤◌, min, inl, inr, List, [], ◌∷◌, ◌++◌, length, slice_index, drop, refl, ap, sym, ◌∙◌, subst, arith, get_or-drop, drop-drop}
use Rattle.std.proofs.lemmas.Bool.{cases_lt}
use Rattle.std.proofs.lemmas.List.{append-nil, ext_get_or}
use Rattle.md_device.specs.Splice.{SameOutside, part}
use Rattle.md_device.specs.Device.{written}
use Rattle.md_device.specs.Crashes.{IsMixed}
use Rattle.md_device.proofs.Leaving.{mixed_one}
use Rattle.md_device.proofs.Splices.{length-part, part_after, part-spliced, spliced_outside, slice_index-part}
use Rattle.md_bitmap.specs.declared.header.BitmapHeader.{BitmapHeader}
use Rattle.md_bitmap.specs.Marks.{Bitmap, padded}
use Rattle.md_bitmap.specs.Sectors.{bitmap_bytes, bitmap_sector}
use Rattle.md_bitmap.proofs.Blocks.{length-bitmap_sector}
use Rattle.md_bitmap.proofs.Padded.{length-padded, slice_index-padded}
use Rattle.md_members.specs.DeviceWrites.Bitmaps.{bitmap_run, bitmap_runs, bitmap_write, bitmap_writes, run_sectors, runs_of}
use Rattle.md_members.specs.DeviceWrites.Writes.{IsCutShort, IsNextMixed, Write, after}
use Rattle.md_members.proofs.DeviceWriteLemmas.Frames.{outside_around, outside_none, outside_then}
use Rattle.md_members.proofs.DeviceWriteLemmas.Runs.{after-append, cut_last}
use Rattle.md_members.proofs.DeviceWriteLemmas.Sectors.{length-bitmap_run, runs_from}

-- ---- parts of parts

pub part-part : (xs : List ℕ) (at size p n : ℕ) → at + size ≤ length xs → p + n ≤ size → part xs (at + p) n ≡ part (part xs at size) p n
part-part xs at size p n fits inside =
    let long = length-part xs at size fits in
    ext_get_or 0 (part xs (at + p) n) (part (part xs at size) p n)
    (length-part xs (at + p) n (omega arith) ∙ sym (length-part (part xs at size) p n (omega (arith, long))))
    (λ i l. let low : i < n = omega (arith, length-part xs (at + p) n (omega arith)) in
    let place : at + p + i ≡ at + (p + i) = omega arith in
    slice_index-part xs (at + p) n i low ∙ ap (slice_index xs) place
    ∙ sym (slice_index-part xs at size (p + i) (omega arith)) ∙ sym (slice_index-part (part xs at size) p n i low))

part-padded : (xs : List ℕ) (size p n : ℕ) → p + n ≤ size → part (padded size xs) p n ≡ padded n (drop p xs)
part-padded xs size p n inside =
    let long = length-part (padded size xs) p n (omega (arith, length-padded size xs)) in
    ext_get_or 0 (part (padded size xs) p n) (padded n (drop p xs)) (long ∙ sym (length-padded n (drop p xs)))
    (λ i l. let low : i < n = omega (arith, long) in
    slice_index-part (padded size xs) p n i low ∙ slice_index-padded size xs (p + i) (omega arith)
    ∙ sym (get_or-drop p xs i 0) ∙ sym (slice_index-padded n (drop p xs) i low))

-- ---- the sectors of a bitmap
module _ (start : ℕ) (h : BitmapHeader) (m : Bitmap) where
  -- its sectors from `from` on and below `to` stand in their places, and nothing else has changed
  pub record AreStored (from to : ℕ) (old new : List ℕ) : Type 0 where
    pub outside : SameOutside (512 * (start + from)) (512 * (to - from)) old new
    pub each : (i : ℕ) → from ≤ i → i < to → part new (512 * (start + i)) 512 ≡ bitmap_sector h m i

  stored_none : (at : ℕ) (old : List ℕ) → AreStored at at old old
  stored_none at old = record { outside = outside_none (512 * (start + at)) (512 * (at - at)) old; each = λ i low high. absurd (omega arith) }

  stored_then : (from mid to : ℕ) (old between new : List ℕ) → from ≤ mid → mid ≤ to → AreStored mid to old between → AreStored from mid between new → AreStored from to old new
  stored_then from mid to old between new low high first second = record {
    outside = outside_then (outside_around first.outside (512 * (start + from)) (512 * (to - from)) (omega arith) (omega arith))
        (outside_around second.outside (512 * (start + from)) (512 * (to - from)) (omega arith) (omega arith));
    each = λ i at_least below. elim (cases_lt i mid) [
      | inl lower ↦ second.each i at_least lower
      | inr upper ↦ part_after second.outside (512 * (start + i)) 512 (omega arith) ∙ first.each i upper below
    ];
  }

  stored_one : (i : ℕ) (old : List ℕ) → 512 * (start + i) + 512 ≤ length old → AreStored i (i + 1) old (written old (start + i) (bitmap_sector h m i))
  stored_one i old room =
      let long = length-bitmap_sector h m i in
      record {
        outside = spliced_outside old (512 * (start + i)) (bitmap_sector h m i) (512 * (i + 1 - i)) (omega (arith, long)) (omega arith);
        each = λ j low high.
            let same : j ≡ i = omega arith in
            rw same (part-spliced old (512 * (start + i)) (bitmap_sector h m i) 512 (sym long) (omega arith));
      }

  -- the bytes of a run hold each of its sectors
  run_part : (n k i : ℕ) → 1 + 128 * k ≤ i → i < 1 + 128 * k + run_sectors n k → part (bitmap_run start h m n k).bytes (512 * (i - (1 + 128 * k))) 512 ≡ bitmap_sector h m i
  run_part n k i low high =
      let first = 1 + 128 * k in
      let b = bitmap_bytes h m in
      let behind : 512 * first + 512 * (i - first) ≡ 512 * i = omega arith in
      part-padded (drop (512 * first) b) (512 * run_sectors n k) (512 * (i - first)) 512 (omega arith)
      ∙ ap (padded 512) (drop-drop (512 * (i - first)) (512 * first) b ∙ ap (λ (k : ℕ). drop k b) behind)

  stored_run : (n k : ℕ) (old : List ℕ) → 1 + 128 * k < n → 512 * (start + n) ≤ length old → AreStored (1 + 128 * k) (1 + 128 * k + run_sectors n k) old (written old (start + (1 + 128 * k)) (bitmap_run start h m n k).bytes)
  stored_run n k old inside room =
      let first = 1 + 128 * k in
      let count = run_sectors n k in
      let at = 512 * (start + first) in
      let bytes = (bitmap_run start h m n k).bytes in
      let new = written old (start + first) bytes in
      let long : length bytes ≡ 512 * count = length-bitmap_run start h m n k in
      let width : 512 * (first + count - first) ≡ length bytes = omega (arith, long) in
      let outside : SameOutside at (512 * (first + count - first)) old new = spliced_outside old at bytes (512 * (first + count - first)) width (omega arith) in
      let whole : part new at (512 * count) ≡ bytes = part-spliced old at bytes (512 * count) (sym long) (omega arith) in
      record {
        outside = outside;
        each = λ i low high.
            let place : 512 * (start + i) ≡ at + 512 * (i - first) = omega arith in
            ap (λ (p : ℕ). part new p 512) place
            ∙ part-part new at (512 * count) (512 * (i - first)) 512 (omega (arith, outside.size)) (omega arith)
            ∙ ap (λ (xs : List ℕ). part xs (512 * (i - first)) 512) whole
            ∙ run_part n k i low high;
      }

  stored_runs : (n k : ℕ) (old : List ℕ) → 0 < n → k ≤ runs_of n → 512 * (start + n) ≤ length old → AreStored 1 (min n (1 + 128 * k)) old (after old (bitmap_runs start h m n k))
  stored_runs n zero old some few room =
      let one : 1 ≡ min n (1 + 128 * 0) = omega arith in
      subst (λ (to : ℕ). AreStored 1 to old old) one (stored_none 1 old)
  stored_runs n (suc k) old some few room =
      let inside : 1 + 128 * k < n = omega arith in
      let to : 1 + 128 * k + run_sectors n k ≡ min n (1 + 128 * suc k) = omega arith in
      let from : min n (1 + 128 * k) ≡ 1 + 128 * k = omega arith in
      let this = stored_run n k old inside room in
      let between = written old (start + (1 + 128 * k)) (bitmap_run start h m n k).bytes in
      let rest : AreStored 1 (1 + 128 * k) between (after between (bitmap_runs start h m n k)) =
      subst (λ (t : ℕ). AreStored 1 t between (after between (bitmap_runs start h m n k))) from (stored_runs n k between some (omega arith) (omega (arith, this.outside.size))) in
      let both = stored_then 1 (1 + 128 * k) (1 + 128 * k + run_sectors n k) old between (after between (bitmap_runs start h m n k)) (omega arith) (omega arith) this rest in
      rw (runs_from start h m n (suc k) k (omega arith)) (subst (λ (t : ℕ). AreStored 1 t old (after between (bitmap_runs start h m n k))) to both)

  -- all of its n sectors
  pub stored_all : (n : ℕ) (old : List ℕ) → 0 < n → 512 * (start + n) ≤ length old → AreStored 0 n old (after old (bitmap_writes start h m n))
  stored_all n old some room =
      let all : min n (1 + 128 * runs_of n) ≡ n = omega arith in
      let between = after old (bitmap_runs start h m n (runs_of n)) in
      let runs : AreStored 1 n old between = subst (λ (t : ℕ). AreStored 1 t old between) all (stored_runs n (runs_of n) old some (omega arith) room) in
      let first = stored_one 0 between (omega (arith, runs.outside.size)) in
      rw (after-append old (bitmap_runs start h m n (runs_of n)) (bitmap_write start h m 0 ∷ []))
      (stored_then 0 1 n old between (written between (start + 0) (bitmap_sector h m 0)) (omega arith) (omega arith) runs first)

  -- ---- what a crash leaves within these writes
  runs_cut : (n k : ℕ) (done rest : List Write) (old left : List ℕ) → k ≤ runs_of n → 512 * (start + n) ≤ length old → bitmap_runs start h m n k ≡ done ++ rest → IsNextMixed rest (after old done) left
      → SameOutside (512 * (start + 1)) (512 * (n - 1)) old left
  runs_cut n zero [] [] old left few room order same = subst (SameOutside (512 * (start + 1)) (512 * (n - 1)) old) (sym same) (outside_none (512 * (start + 1)) (512 * (n - 1)) old)
  runs_cut n zero [] (w ∷ rest) old left few room order mixed = absurd (let e : ◌≡◌ {A = List Write} [] (w ∷ rest) = order in cc)
  runs_cut n zero (w ∷ done) rest old left few room order mixed = absurd (let e : ◌≡◌ {A = List Write} [] (w ∷ (done ++ rest)) = order in cc)
  runs_cut n (suc k) [] [] old left few room order same = subst (SameOutside (512 * (start + 1)) (512 * (n - 1)) old) (sym same) (outside_none (512 * (start + 1)) (512 * (n - 1)) old)
  runs_cut n (suc k) [] (w ∷ rest) old left few room order mixed =
      let both : bitmap_run start h m n k ∷ bitmap_runs start h m n k ≡ w ∷ rest = sym (runs_from start h m n (suc k) k (omega arith)) ∙ order in
      let first : w ≡ bitmap_run start h m n k = cc in
      let inside : 1 + 128 * k < n = omega arith in
      let cut : IsMixed (bitmap_run start h m n k).sector (bitmap_run start h m n k).bytes old left = subst (λ (x : Write). IsMixed x.sector x.bytes old left) first mixed in
      let long = length-bitmap_run start h m n k in
      outside_around cut.outside (512 * (start + 1)) (512 * (n - 1)) (omega arith) (omega (arith, long))
  runs_cut n (suc k) (w ∷ done) rest old left few room order mixed =
      let both : bitmap_run start h m n k ∷ bitmap_runs start h m n k ≡ w ∷ (done ++ rest) = sym (runs_from start h m n (suc k) k (omega arith)) ∙ order in
      let first : w ≡ bitmap_run start h m n k = cc in
      let others : bitmap_runs start h m n k ≡ done ++ rest = cc in
      let this = stored_run n k old (omega arith) room in
      let between = written old (start + (1 + 128 * k)) (bitmap_run start h m n k).bytes in
      let cut : IsNextMixed rest (after between done) left = subst (λ (x : Write). IsNextMixed rest (after (written old x.sector x.bytes) done) left) first mixed in
      outside_then (outside_around this.outside (512 * (start + 1)) (512 * (n - 1)) (omega arith) (omega arith))
      (runs_cut n k done rest between left (omega arith) (omega (arith, this.outside.size)) others cut)

  -- all marks are stored, or the first sector, which has the header, is as it was
  pub stored_cut : (n : ℕ) (old left : List ℕ) → 0 < n → 512 * (start + n) ≤ length old → IsCutShort old (bitmap_writes start h m n) left
      → (left ≡ after old (bitmap_writes start h m n)) ⊎ SameOutside (512 * (start + 1)) (512 * (n - 1)) old left
  stored_cut n old left some room cut =
      let runs = bitmap_runs start h m n (runs_of n) in
      let kept : SameOutside (512 * (start + 1)) (512 * (n - 1)) old (after old runs) =
      runs_cut n (runs_of n) runs [] old (after old runs) (omega arith) room (sym (append-nil runs)) refl in
      elim (cut_last old left runs (bitmap_write start h m 0) cut) [
        | inl earlier ↦ inr (runs_cut n (runs_of n) earlier.done earlier.rest old left (omega arith) room earlier.order earlier.mixed)
        | inr (inl mixed) ↦ elim (mixed_one (start + 0) (bitmap_sector h m 0) (after old runs) left (length-bitmap_sector h m 0) mixed) [
          | inl none ↦ inr (subst (SameOutside (512 * (start + 1)) (512 * (n - 1)) old) (sym none) kept)
          | inr done ↦ inl (done ∙ sym (after-append old runs (bitmap_write start h m 0 ∷ [])))
        ]
        | inr (inr all) ↦ inl all
      ]
