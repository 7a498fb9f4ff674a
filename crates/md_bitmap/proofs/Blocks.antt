-- A bitmap in sectors: its header's bytes and the bits after them.
use Rattle.std.proofs.Common.{◌≡◌, ℕ, zero, suc, ◌+◌, ◌-◌, ◌*◌, ◌<◌, ◌≤◌, min, List, ◌++◌, length, take, drop, replicate, append_assoc, refl, ap, sym, ◌∙◌, arith}
use Rattle.std.proofs.Math.Seq.{drop-append-add, take-append-add}
use Rattle.std.proofs.lemmas.List.{length-append}
use Rattle.md_bitmap.specs.declared.header.BitmapHeader.{BitmapHeader}
use Rattle.md_bitmap.specs.Header.{header_bytes}
use Rattle.md_bitmap.specs.Marks.{Bitmap, is_set, padded}
use Rattle.md_bitmap.specs.Sectors.{bitmap_bytes, bitmap_sector}
use Rattle.md_bitmap.proofs.Bits.{is_set-first_sector, is_set-later_sector}
use Rattle.md_bitmap.proofs.Padded.{length-padded, padded_parts}

pub length-bitmap_sector : (h : BitmapHeader) (m : Bitmap) (i : ℕ) → length (bitmap_sector h m i) ≡ 512
length-bitmap_sector h m i = length-padded 512 (drop (512 * i) (header_bytes h ++ m.bytes))

-- bytes after a front that fit it
padded_behind : (n k : ℕ) (front bytes : List ℕ) → length front ≡ n → padded (n + k) (front ++ bytes) ≡ front ++ padded k bytes
padded_behind n k front bytes long =
    let m = min (length bytes) k in
    let whole : n + m ≡ min (length (front ++ bytes)) (n + k) = omega (arith, length-append front bytes) in
    let rest : n + k - (n + m) ≡ k - m = omega arith in
    let cut : take (n + m) (front ++ bytes) ≡ front ++ take m bytes = ap (λ i. take (i + m) (front ++ bytes)) (sym long) ∙ take-append-add front bytes m in
    padded_parts (n + k) (n + m) (front ++ bytes) whole ∙ ap (λ i. take (n + m) (front ++ bytes) ++ replicate i 0) rest
    ∙ ap (λ xs. xs ++ replicate (k - m) 0) cut ∙ append_assoc front (take m bytes) (replicate (k - m) 0) ∙ ap (λ xs. front ++ xs) (sym (padded_parts k m bytes refl))

-- the first n bytes: the header, and the bits that fit after it
pub from_start : (h : BitmapHeader) (m : Bitmap) (n : ℕ) → length (header_bytes h) ≡ 256 → 256 ≤ n → header_bytes h ++ padded (n - 256) m.bytes ≡ padded n (drop (512 * 0) (bitmap_bytes h m))
from_start h m n long room =
    let whole : 256 + (n - 256) ≡ n = omega arith in
    sym (padded_behind 256 (n - 256) (header_bytes h) m.bytes long) ∙ ap (λ k. padded k (bitmap_bytes h m)) whole

-- n bytes from a later sector on
pub from_later : (h : BitmapHeader) (m : Bitmap) (i n : ℕ) → length (header_bytes h) ≡ 256 → 0 < i → padded n (drop (512 * i - 256) m.bytes) ≡ padded n (drop (512 * i) (bitmap_bytes h m))
from_later h m i n long later =
    let behind : length (header_bytes h) + (512 * i - 256) ≡ 512 * i = omega arith in
    ap (padded n) (sym (drop-append-add (header_bytes h) m.bytes (512 * i - 256)) ∙ ap (λ k. drop k (bitmap_bytes h m)) behind)

pub sector_bit : (h : BitmapHeader) (m : Bitmap) (i j : ℕ) → length (header_bytes h) ≡ 256 → j < 4096 → 2048 ≤ 4096 * i + j → is_set (bitmap_sector h m i) j ≡ is_set m.bytes (4096 * i + j - 2048)
sector_bit h m zero j long low from =
    let at : 4096 * 0 + j - 2048 ≡ j - 2048 = omega arith in
    ap (λ (xs : List ℕ). is_set xs j) (sym (from_start h m 512 long (omega arith)))
    ∙ is_set-first_sector (header_bytes h) m.bytes j long (omega arith) low ∙ ap (is_set m.bytes) (sym at)
sector_bit h m (suc i) j long low from =
    ap (λ (xs : List ℕ). is_set xs j) (sym (from_later h m (suc i) 512 long (omega arith))) ∙ is_set-later_sector m.bytes (suc i) j (omega arith) low
