-- Devices fit the array that they make.
use Rattle.std.proofs.Common.{◌≡◌, ℕ, ◌≤◌, Bool, true, List, Option, Some, None, map, refl, sym, ap, ◌∙◌, arith, subst, ◌^◌}
use Rattle.std.specs.Prelude.{slice_get, option_map}
use Rattle.std.proofs.lemmas.Option.{none-some, same_Some, slice_get-map, slice_get_within}
use Rattle.md_super.specs.declared.superblock.Superblock.{Superblock}
use Rattle.md_bitmap.specs.declared.header.BitmapHeader.{BitmapHeader}
use Rattle.md_bitmap.specs.Marks.{Bitmap}
use Rattle.md_bitmap.specs.Sound.{IsChunkSize, chunk_count}
use Rattle.md_bitmap.proofs.Accepted.{sound_is}
use Rattle.md_members.specs.declared.info.MemberInfo.{MemberInfo}
use Rattle.md_members.specs.Areas.{has_bitmap}
use Rattle.md_members.specs.Members.{HasBitmap, reads_log, sectors_of_device}
use Rattle.md_members.specs.Reading.{ReadsBitmap, ReadsHeader, front_of}
use Rattle.md_kept_members.specs.View.{MemberView}
use Rattle.md_kept_members.specs.OwnFields.{kept_superblock}
use Rattle.md_state.specs.View.{Disk, ArrayView}
use Rattle.md_state.proofs.Kept.Geometry.{alike, states_as_many}
use Rattle.md_array.specs.Open.Opened.{IsArrayOf}
use Rattle.md_array.specs.Fits.{Fits, FitsMember}
use Rattle.md_array.proofs.Openings.OwnFields.{at_offset, bitmap_same, placed_next}
use Rattle.md_array.proofs.Openings.Whole.{are_whole}
use Rattle.md_array.proofs.Openings.ListTold.{told_next}
use Rattle.md_array.specs.Worlds.{lies_in}
use Rattle.md_badblocks.specs.declared.run.Run.{Run}
use Rattle.md_assembly.proofs.Indices.{got_within}

-- the bitmap that was read with a header
record ReadsWith (content : List ℕ) (honest : Bool) (v : Superblock) (h : BitmapHeader) : Type 0 where
  has : has_bitmap v ≡ true
  marks : Bitmap
  reads : ReadsBitmap content honest (sectors_of_device content) v h marks

reads_with : (content : List ℕ) (honest : Bool) (v : Superblock) (header : Option BitmapHeader) (marks : Option Bitmap) (h : BitmapHeader) → header ≡ Some h → HasBitmap content honest v header marks → ReadsWith content honest v h
reads_with content honest v (Some g) (Some m) h is b = record { has = b.0; marks = m; reads = subst (λ (x : BitmapHeader). ReadsBitmap content honest (sectors_of_device content) v x m) (same_Some g h is) b.1 }
reads_with content honest v (Some g) None h is b = absurd b
reads_with content honest v None (Some m) h is b = absurd b
reads_with content honest v None None h is b = absurd (none-some h is)

chunk_size_of : (content : List ℕ) (honest : Bool) (v : Superblock) (h : BitmapHeader) → ReadsHeader content honest v h → IsChunkSize h.chunksize
chunk_size_of content honest v h read = rw read.fields.chunksize (sound_is (front_of read.sector) read.sound).chunk_size

-- the superblock of an array is that of a member
superblock_at : (infos : List MemberInfo) (i : ℕ) (v : Superblock) → slice_get (map (λ info. info.superblock) infos) i ≡ Some v → (info : MemberInfo) × (slice_get infos i ≡ Some info) × (info.superblock ≡ v)
superblock_at infos i v is = by (slice_get infos i) refl where
  by : (o : Option MemberInfo) → slice_get infos i ≡ o → (info : MemberInfo) × (slice_get infos i ≡ Some info) × (info.superblock ≡ v)
  by (Some info) at = (info, at, same_Some info.superblock v (sym (slice_get-map (λ info. info.superblock) infos i ∙ ap (option_map (λ info. info.superblock)) at) ∙ is))
  by None at = absurd (none-some v (sym (slice_get-map (λ info. info.superblock) infos i ∙ ap (option_map (λ info. info.superblock)) at) ∙ is))

-- a member that is kept of what was read on its device
kept_fits : (a : ArrayView) (m : MemberView) (d : Disk) (offset : ℕ) (info : MemberInfo) → 16 ≤ sectors_of_device d.content → sectors_of_device d.content ≤ 2 ^ 54
    → m.superblock ≡ at_offset offset (kept_superblock info) → m.stored.chunks ≡ chunk_count info.superblock.size m.header.chunksize → a.shared.size ≡ info.superblock.size
    → ReadsWith d.content d.honest info.superblock m.header → ((sector : ℕ) → lies_in m.bad sector ≡ true → reads_log (kept_superblock info) ≡ true) → FitsMember a m d
kept_fits a m d offset info long short superblock chunks size read told = record {
  long = long;
  short = short;
  has = rw superblock (bitmap_same info.bad info.superblock ∙ read.has);
  placed = rw (superblock, chunks) (placed_next info.bad offset info.superblock (sectors_of_device d.content) _ read.reads.placed);
  few_chunks = rw chunks read.reads.few_chunks;
  sound = record {
    chunk_size = chunk_size_of d.content d.honest info.superblock m.header read.reads.header;
    few_chunks = rw size read.reads.few_chunks;
  };
  told = λ _ sector bad. ap reads_log superblock ∙ told sector bad;
}

pub fits : (disks : List Disk) (a : ArrayView) → IsArrayOf disks a → Fits disks a
fits disks a of = record {
  as_many = sym (of.remembered.as_many ∙ of.read.as_many);
  each = λ k d m at_disk at_member.
      let within = slice_get_within a.members k m at_member in
      let as_many = of.remembered.as_many in
      let states = states_as_many of.infos of.assembly of.assembled in
      let info = got_within of.infos k (omega arith) in
      let state = got_within of.assembly.states.items k (omega arith) in
      let kept = of.remembered.each k info.0 state.0 m info.1 state.1 at_member in
      let member = of.read.each k d info.0 at_disk info.1 in
      let whole = are_whole disks of.infos of.read of.sound in
      let fresh = superblock_at of.infos of.assembly.freshest a.shared of.remembered.shared in
      let same = alike of.infos of.assembly.freshest k fresh.0 info.0 (whole of.assembly.freshest fresh.0 fresh.1).header m.header whole of.sound fresh.1 info.1 (whole of.assembly.freshest fresh.0 fresh.1).has_header kept.header in
      let within = member.superblock.read.within in
      kept_fits a m d _ info.0 (omega arith) (of.read.short k d at_disk) kept.superblock kept.chunks (ap (λ (v : Superblock). v.size) (sym fresh.2) ∙ same.size)
      (reads_with d.content d.honest info.0.superblock info.0.header info.0.marks m.header kept.header member.bitmap)
      (λ sector bad. told_next d.content d.honest info.0.superblock info.0.bad member.bad sector (sym (ap (λ (runs : List Run). lies_in runs sector) kept.bad) ∙ bad));
}
