-- What an honest device holds of a member that was read from it.
use Rattle.std.proofs.Common.{◌≡◌, ℕ, ◌+◌, ◌*◌, ◌/◌, ◌<◌, ◌≤◌, true, List, length, drop, slice_index, Option, Some, None, refl, sym, ap, ◌∙◌, subst, arith, length-take, length-drop, take-take, get_or-take, get_or-drop}
use Rattle.std.proofs.lemmas.Option.{none-some, same_Some}
use Rattle.md_device.specs.Splice.{part}
use Rattle.md_device.proofs.Splices.{length-part}
use Rattle.md_format.specs.Fields.{bytes_at}
use Rattle.md_super.specs.declared.superblock.Superblock.{Superblock}
use Rattle.md_bitmap.specs.declared.header.BitmapHeader.{BitmapHeader}
use Rattle.md_bitmap.specs.Header.{IsHeader}
use Rattle.md_bitmap.specs.Marks.{Bitmap}
use Rattle.md_members.specs.declared.info.MemberInfo.{MemberInfo}
use Rattle.md_members.specs.Areas.{has_bitmap, bitmap_sectors}
use Rattle.md_members.specs.Reading.{ReadsSuper, ReadsBitmap, ReadsHeader, BitmapStartsAt, chunks_of, front_of}
use Rattle.md_members.specs.Members.{HasBitmap, IsReadMember, sectors_of_device}
use Rattle.md_kept_members.specs.OwnFields.{kept_superblock}
use Rattle.md_array.specs.Worlds.{header_on}
use Rattle.md_array.proofs.Openings.OwnFields.{at_offset, bitmap_same, reads_next}
use Rattle.md_array.proofs.Worlds.Outside.{starts_at}
use Rattle.md_array.proofs.Worlds.Writes.{HoldsBitmap, is_set-same, within_area}

-- the bitmap that was read beside a superblock, where its header is this one
pub record HasRead (content : List ℕ) (v : Superblock) (h : BitmapHeader) (marks : Option Bitmap) : Type 0 where
  pub there : has_bitmap v ≡ true
  pub stored : Bitmap
  pub stored_is : marks ≡ Some stored
  pub bitmap : ReadsBitmap content true (sectors_of_device content) v h stored

read_bitmap : (content : List ℕ) (v : Superblock) (o : Option BitmapHeader) (marks : Option Bitmap) (h : BitmapHeader) → HasBitmap content true v o marks → o ≡ Some h → HasRead content v h marks
read_bitmap content v (Some g) (Some m) h b e =
    record { there = b.0; stored = m; stored_is = refl; bitmap = subst (λ x. ReadsBitmap content true (sectors_of_device content) v x m) (same_Some g h e) b.1 }
read_bitmap content v None None h b e = absurd (none-some h e)
read_bitmap content v (Some g) None h b e = absurd b
read_bitmap content v None (Some m) h b e = absurd b

pub read_of : (content : List ℕ) (info : MemberInfo) (offset : ℕ) (v : Superblock) (h : BitmapHeader) → IsReadMember content true info → v ≡ at_offset offset (kept_superblock info) → info.header ≡ Some h → HasRead content v h info.marks
read_of content info offset v h read same header =
    let r = read_bitmap content info.superblock info.header info.marks h read.bitmap header in
    subst (λ x. HasRead content x h info.marks) (sym same) (record {
      there = bitmap_same info.bad info.superblock ∙ r.there;
      stored = r.stored;
      stored_is = r.stored_is;
      bitmap = reads_next info.bad offset info.superblock content true (sectors_of_device content) h r.stored r.bitmap;
    })

front_is : (content : List ℕ) (at : ℕ) → front_of (part content at 512) ≡ part content at 256
unfolding bytes_at part
front_is content at = take-take 256 512 (drop at content) (omega arith)

-- the header there
pub header_there : (content : List ℕ) (v : Superblock) (h : BitmapHeader) (start : ℕ) → ReadsHeader content true v h → BitmapStartsAt v start → IsHeader (header_on content start) h
header_there content v h start r at =
    let same : r.start ≡ start = sym (starts_at v r.start r.at) ∙ starts_at v start at in
    let front : front_of r.sector ≡ header_on content start =
    ap front_of (r.read.from_device refl) ∙ front_is content (512 * r.start) ∙ ap (header_on content) same in
    subst (λ (bytes : List ℕ). IsHeader bytes h) front r.fields

marked_byte : (content area bytes : List ℕ) (start n i : ℕ) → area ≡ part content (512 * start) n → bytes ≡ drop 256 area → 256 + i < n → slice_index (drop (512 * start + 256) content) i ≡ slice_index bytes i
unfolding part
marked_byte content area bytes start n i a b h =
    let place : 512 * start + 256 + i ≡ 512 * start + (256 + i) = omega arith in
    let whole : slice_index bytes i ≡ slice_index content (512 * start + (256 + i)) =
    ap (λ xs. slice_index xs i) b ∙ get_or-drop 256 area i 0 ∙ ap (λ xs. slice_index xs (256 + i)) a
    ∙ get_or-take n (drop (512 * start) content) (256 + i) 0 h ∙ get_or-drop (512 * start) content (256 + i) 0 in
    get_or-drop (512 * start + 256) content i 0 ∙ ap (slice_index content) place ∙ sym whole

-- the header and the marks there
pub holds_read : (content : List ℕ) (v : Superblock) (h : BitmapHeader) (m : Bitmap) (start : ℕ) → ReadsBitmap content true (sectors_of_device content) v h m → BitmapStartsAt v start → HoldsBitmap content start h m
holds_read content v h m start r at = record {
  header = header_there content v h start r.header at;
  bits = λ c below.
      let same : r.start ≡ start = sym (starts_at v r.start r.at) ∙ starts_at v start at in
      let n = bitmap_sectors (chunks_of v h) in
      let area : r.marks.area ≡ part content (512 * start) (512 * n) = r.marks.read.from_device refl ∙ ap (λ s. part content (512 * s) (512 * n)) same in
      let low : c < chunks_of v h = subst (λ k. c < k) r.marks.chunks_are below in
      is_set-same (drop (512 * start + 256) content) m.bytes c
      (marked_byte content r.marks.area m.bytes start (512 * n) (c / 8) area r.marks.bits (within_area (chunks_of v h) c low));
}

-- the lengths of fields of bytes that were read
pub length-bytes_at : (n i : ℕ) (bytes : List ℕ) → i + n ≤ length bytes → length (bytes_at n i bytes) ≡ n
unfolding bytes_at
length-bytes_at n i bytes h = omega (arith, length-take n (drop i bytes), length-drop i bytes)

pub uuid_long : (content : List ℕ) (v : Superblock) → ReadsSuper content true v → length v.set_uuid ≡ 16
uuid_long content v r =
    let within = r.read.within in
    let size : length r.bytes ≡ 4096 = ap length (r.read.from_device refl) ∙ length-part content 4096 4096 (omega arith) in
    ap length r.fields.set_uuid ∙ length-bytes_at 16 16 r.bytes (omega arith)

pub name_long : (content : List ℕ) (v : Superblock) (h : BitmapHeader) → ReadsHeader content true v h → length h.cluster_name ≡ 64
name_long content v h r =
    let within = r.read.within in
    let sector : length r.sector ≡ 512 = ap length (r.read.from_device refl) ∙ length-part content (512 * r.start) 512 (omega arith) in
    let front : length (front_of r.sector) ≡ 256 = length-bytes_at 256 0 r.sector (omega arith) in
    ap length r.fields.cluster_name ∙ length-bytes_at 64 72 (front_of r.sector) (omega arith)
