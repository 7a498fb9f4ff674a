-- What stands in a bitmap's area once its sectors are written.
use Rattle.std.proofs.Common.{◌≡◌, ℕ, ◌+◌, ◌*◌, ◌/◌, ◌%◌, ◌<◌, ◌≤◌, List, ◌++◌, length, drop, slice_index, sym, ap, ◌∙◌, subst, eqb, arith, get_or-drop}
use Rattle.std.specs.Int.{div_ceil, bit_at}
use Rattle.std.proofs.lemmas.Grind.{div_ceil_times}
use Rattle.std.proofs.lemmas.List.{ext_get_or, get_or-append-add, get_or_append_left}
use Rattle.md_device.proofs.Splices.{length-part, slice_index-part}
use Rattle.md_bitmap.specs.declared.header.BitmapHeader.{BitmapHeader}
use Rattle.md_bitmap.specs.Header.{IsHeader, header_bytes}
use Rattle.md_bitmap.specs.Marks.{Bitmap, is_set}
use Rattle.md_bitmap.proofs.Padded.{slice_index-padded}
use Rattle.md_members.specs.Areas.{bitmap_sectors}
use Rattle.md_members.specs.DeviceWrites.Bitmaps.{bitmap_writes}
use Rattle.md_members.proofs.DeviceWriteLemmas.Stored.{AreStored, stored_all}
use Rattle.md_array.specs.Worlds.{header_on}
use Rattle.md_members.specs.DeviceWrites.Writes.{after}

-- the bitmap that starts at a sector of the device: its header, and the marks after it
pub record HoldsBitmap (content : List ℕ) (start : ℕ) (h : BitmapHeader) (m : Bitmap) : Type 0 where
  pub header : IsHeader (header_on content start) h
  pub bits : (c : ℕ) → c < m.chunks → is_set (drop (512 * start + 256) content) c ≡ is_set m.bytes c

-- each byte of the area
byte_written : (start : ℕ) (h : BitmapHeader) (m : Bitmap) (n : ℕ) (old new : List ℕ) → AreStored start h m 0 n old new → (p : ℕ) → p < 512 * n → slice_index new (512 * start + p) ≡ slice_index (header_bytes h ++ m.bytes) p
byte_written start h m n old new w p l =
    let i = p / 512 in
    let r = p % 512 in
    let place : 512 * (start + i) + r ≡ 512 * start + p = omega arith in
    let there : 512 * i + r ≡ p = omega arith in
    let small : r < 512 = omega arith in
    ap (slice_index new) (sym place)
    ∙ sym (slice_index-part new (512 * (start + i)) 512 r small)
    ∙ ap (λ xs. slice_index xs r) (w.each i (omega arith) (omega arith))
    ∙ slice_index-padded 512 (drop (512 * i) (header_bytes h ++ m.bytes)) r small
    ∙ get_or-drop (512 * i) (header_bytes h ++ m.bytes) r 0
    ∙ ap (slice_index (header_bytes h ++ m.bytes)) there

-- the bit of a chunk lies in the area
pub within_area : (chunks c : ℕ) → c < chunks → 256 + c / 8 < 512 * bitmap_sectors chunks
within_area chunks c h =
    let bytes = div_ceil_times chunks 8 (omega arith) in
    let sectors = div_ceil_times (256 + div_ceil chunks 8) 512 (omega arith) in
    omega (arith, bytes.0, sectors.0)

pub is_set-same : (xs ys : List ℕ) (c : ℕ) → slice_index xs (c / 8) ≡ slice_index ys (c / 8) → is_set xs c ≡ is_set ys c
unfolding is_set
is_set-same xs ys c e = ap (λ (b : ℕ). eqb (bit_at b (c % 8)) 1) e

-- of a device with room for it
pub holds_stored : (start : ℕ) (h : BitmapHeader) (m : Bitmap) (old new : List ℕ) → length (header_bytes h) ≡ 256 → IsHeader (header_bytes h) h
    → 512 * (start + bitmap_sectors m.chunks) ≤ length new → AreStored start h m 0 (bitmap_sectors m.chunks) old new → HoldsBitmap new start h m
holds_stored start h m old new long spelled fits w =
    let byte = byte_written start h m (bitmap_sectors m.chunks) old new w in
    let some = div_ceil_times (256 + div_ceil m.chunks 8) 512 (omega arith) in
    let front : header_on new start ≡ header_bytes h = ext_get_or 0 (header_on new start) (header_bytes h)
    (length-part new (512 * start) 256 (omega (arith, some.0)) ∙ sym long)
    (λ i l. let low : i < 256 = omega (arith, length-part new (512 * start) 256 (omega (arith, some.0))) in
    slice_index-part new (512 * start) 256 i low ∙ byte i (omega (arith, some.0)) ∙ get_or_append_left (header_bytes h) m.bytes 0 i (omega arith)) in
    record {
      header = subst (λ (bytes : List ℕ). IsHeader bytes h) (sym front) spelled;
      bits = λ c l. is_set-same (drop (512 * start + 256) new) m.bytes c
          (let place : 512 * start + 256 + c / 8 ≡ 512 * start + (256 + c / 8) = omega arith in
          let behind : 256 + c / 8 ≡ length (header_bytes h) + c / 8 = omega arith in
          get_or-drop (512 * start + 256) new (c / 8) 0
          ∙ ap (slice_index new) place
          ∙ byte (256 + c / 8) (within_area m.chunks c l)
          ∙ ap (slice_index (header_bytes h ++ m.bytes)) behind
          ∙ get_or-append-add (header_bytes h) m.bytes (c / 8) 0);
    }

pub holds_written : (start : ℕ) (h : BitmapHeader) (m : Bitmap) (old new : List ℕ) → length (header_bytes h) ≡ 256 → IsHeader (header_bytes h) h
    → 512 * (start + bitmap_sectors m.chunks) ≤ length old → new ≡ after old (bitmap_writes start h m (bitmap_sectors m.chunks)) → HoldsBitmap new start h m
holds_written start h m old new long spelled fits done =
    let n = bitmap_sectors m.chunks in
    let w : AreStored start h m 0 n old new = subst (AreStored start h m 0 n old) (sym done) (stored_all start h m n old (omega arith) fits) in
    let size = w.outside.size in
    holds_stored start h m old new long spelled (omega arith) w
