-- The writes of a bitmap.
use Rattle.std.proofs.Common.{◌≡◌, ℕ, ◌+◌, ◌*◌, ◌≤◌, List, [], ◌∷◌, ◌++◌, length, take, drop, map, replicate, reverse, refl, ap, sym, ◌∙◌}
use Rattle.std.specs.List.{range_with_len}
use Rattle.std.proofs.lemmas.List.{length-take-le, reverse-append, take-replicate}
use Rattle.md_bitmap.specs.declared.header.BitmapHeader.{BitmapHeader}
use Rattle.md_bitmap.specs.Marks.{Bitmap, padded}
use Rattle.md_bitmap.specs.Sectors.{bitmap_bytes, bitmap_sector}
use Rattle.md_bitmap.proofs.Padded.{length-padded}
use Rattle.md_bitmap.proofs.Numbers.{range_more}
use Rattle.md_members.specs.DeviceWrites.Writes.{Write}
use Rattle.md_members.specs.DeviceWrites.Bitmaps.{bitmap_run, bitmap_runs, bitmap_write, run_sectors, sectors_write}

-- the writes of one run more, which is number k
pub runs_from : (start : ℕ) (h : BitmapHeader) (m : Bitmap) (n runs k : ℕ) → runs ≡ k + 1 → bitmap_runs start h m n runs ≡ (bitmap_run start h m n k ∷ []) ++ bitmap_runs start h m n k
runs_from start h m n runs k e =
    ap (bitmap_runs start h m n) e
    ∙ ap (λ xs. map (bitmap_run start h m n) (reverse xs)) (range_more k)
    ∙ ap (map (bitmap_run start h m n)) (reverse-append (range_with_len 0 k) (k ∷ []))

pub length-bitmap_run : (start : ℕ) (h : BitmapHeader) (m : Bitmap) (n k : ℕ) → length (bitmap_run start h m n k).bytes ≡ 512 * run_sectors n k
length-bitmap_run start h m n k = length-padded (512 * run_sectors n k) (drop (512 * (1 + 128 * k)) (bitmap_bytes h m))

pub write_is : (start : ℕ) (h : BitmapHeader) (m : Bitmap) (i at : ℕ) (bytes : List ℕ) → at ≡ start + i → bytes ≡ bitmap_sector h m i → ◌≡◌ {A = Write} (record { sector = at; bytes = bytes }) (bitmap_write start h m i)
write_is start h m i at bytes here is = rw (here, is) refl

pub sectors_are : (start : ℕ) (h : BitmapHeader) (m : Bitmap) (first count at : ℕ) (bytes : List ℕ) → at ≡ start + first → bytes ≡ padded (512 * count) (drop (512 * first) (bitmap_bytes h m)) → ◌≡◌ {A = Write} (record { sector = at; bytes = bytes }) (sectors_write start h m first count)
sectors_are start h m first count at bytes here is = rw (here, is) refl

-- the first of zeros
pub zeros_front : (zs : List ℕ) (k : ℕ) → k ≤ length zs → zs ≡ replicate (length zs) 0 → take k zs ≡ replicate (length (take k zs)) 0
zeros_front zs k fits zeros =
    let cut : take k zs ≡ replicate k 0 = ap (take k) zeros ∙ take-replicate k (length zs) 0 fits in
    cut ∙ ap (λ (n : ℕ). replicate n 0) (sym (length-take-le k zs fits))
