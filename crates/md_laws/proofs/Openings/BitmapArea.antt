-- The writes of a bitmap stay in its area, also where one of them fails.
use Rattle.std.proofs.Common.{◌≡◌, ℕ, zero, suc, ◌+◌, ◌*◌, ◌<◌, ◌≤◌, List, [], ◌∷◌, ◌++◌, length, refl, sym, subst, arith}
use Rattle.std.specs.Prelude.{⊤}
use Rattle.md_device.specs.Device.{written}
use Rattle.md_device.specs.Splice.{SameOutside}
use Rattle.md_device.proofs.Splices.{spliced_outside}
use Rattle.md_bitmap.specs.declared.header.BitmapHeader.{BitmapHeader}
use Rattle.md_bitmap.specs.Marks.{Bitmap}
use Rattle.md_bitmap.proofs.Blocks.{length-bitmap_sector}
use Rattle.md_members.specs.DeviceWrites.Bitmaps.{bitmap_runs, bitmap_write, bitmap_writes, runs_of}
use Rattle.md_members.specs.DeviceWrites.Writes.{IsAnyIn, IsNextMixed, Write, after}
use Rattle.md_members.proofs.DeviceWriteLemmas.Frames.{outside_around, outside_none, outside_then}
use Rattle.md_members.proofs.DeviceWriteLemmas.Sectors.{length-bitmap_run, runs_from}

-- the write lies in the n sectors from this one on
pub record IsIn (start n : ℕ) (w : Write) : Type 0 where
  pub from : start ≤ w.sector
  pub to : 512 * w.sector + length w.bytes ≤ 512 * (start + n)

-- so does each of these
abbrev pub AllIn : ℕ → ℕ → List Write → Type 0
AllIn start n [] = ⊤
AllIn start n (w ∷ ws) = IsIn start n w × AllIn start n ws

-- the next of them left any bytes in its range; where there is none, nothing was done
abbrev pub IsNextAny : List Write → List ℕ → List ℕ → Type 0
IsNextAny [] old left = left ≡ old
IsNextAny (w ∷ rest) old left = IsAnyIn w old left

pub next_any : (rest more : List Write) (old left : List ℕ) → IsNextMixed rest old left → IsNextAny (rest ++ more) old left
next_any [] [] old left same = same
next_any [] (w ∷ more) old left same = subst (IsAnyIn w old) (sym same) (outside_none (512 * w.sector) (length w.bytes) old)
next_any (w ∷ rest) more old left mixed = mixed.outside

pub area_kept : (start n : ℕ) (made rest : List Write) (old left : List ℕ) → AllIn start n (made ++ rest) → 512 * (start + n) ≤ length old → IsNextAny rest (after old made) left
    → SameOutside (512 * start) (512 * n) old left
area_kept start n [] [] old left all room same = subst (SameOutside (512 * start) (512 * n) old) (sym same) (outside_none (512 * start) (512 * n) old)
area_kept start n [] (w ∷ rest) old left all room any =
    let from = all.0.from in
    let to = all.0.to in
    outside_around any (512 * start) (512 * n) (omega arith) (omega arith)
area_kept start n (w ∷ made) rest old left all room next =
    let from = all.0.from in
    let to = all.0.to in
    let this : SameOutside (512 * w.sector) (length w.bytes) old (written old w.sector w.bytes) = spliced_outside old (512 * w.sector) w.bytes (length w.bytes) refl (omega arith) in
    let size = this.size in
    outside_then (outside_around this (512 * start) (512 * n) (omega arith) (omega arith))
    (area_kept start n made rest (written old w.sector w.bytes) left all.1 (omega arith) next)

module _ (start : ℕ) (h : BitmapHeader) (m : Bitmap) (n : ℕ) (some : 0 < n) where
  runs_in : (k : ℕ) (more : List Write) → k ≤ runs_of n → AllIn start n more → AllIn start n (bitmap_runs start h m n k ++ more)
  runs_in zero more few all = all
  runs_in (suc k) more few all =
      let long = length-bitmap_run start h m n k in
      let inside : 1 + 128 * k < n = omega arith in
      subst (λ (ws : List Write). AllIn start n (ws ++ more)) (sym (runs_from start h m n (suc k) k (omega arith)))
      ((record { from = omega arith; to = omega (arith, long) }, runs_in k more (omega arith) all))

  pub all_in : AllIn start n (bitmap_writes start h m n)
  all_in = let long = length-bitmap_sector h m 0 in runs_in (runs_of n) (bitmap_write start h m 0 ∷ []) (omega arith) (record { from = omega arith; to = omega (arith, long) }, tt)
