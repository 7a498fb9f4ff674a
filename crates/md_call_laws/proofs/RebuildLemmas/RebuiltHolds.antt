-- In the life of a mirror a rebuilt member holds the content.
use Rattle.std.proofs.Common.{◌≡◌, ◌∙◌, ℕ, ◌+◌, ◌*◌, ◌/◌, ◌<◌, inl, inr, true, false, true≢false, List, slice_get, Some, refl, sym, ap, subst, arith}
use Rattle.std.specs.Int.{div_ceil}
use Rattle.std.proofs.lemmas.Bool.{cases_lt}
use Rattle.std.proofs.lemmas.Grind.{div_ceil_times}
use Rattle.std.proofs.lemmas.Nat.{div_below, mul-le}
use Rattle.std.proofs.lemmas.Option.{slice_get_within}
use Rattle.md_assembly.proofs.Indices.{got_within}
use Rattle.md_badblocks.specs.Runs.{IsBad}
use Rattle.md_bitmap.specs.Chunks.{InChunk}
use Rattle.md_bitmap.specs.Marks.{Bitmap, is_set}
use Rattle.md_device.specs.Splice.{part}
use Rattle.md_kept_members.specs.Enrolling.{IsOf}
use Rattle.md_kept_members.specs.View.{MemberView}
use Rattle.md_model.specs.Content.{Content, Holds}
use Rattle.md_model.specs.Devices.{Super}
use Rattle.md_model.specs.Events.{Event}
use Rattle.md_model.specs.Sectors.{Geometry}
use Rattle.md_model.proofs.Cases.{by_test}
use Rattle.md_state.specs.Missing.{is_missing}
use Rattle.md_state.specs.View.{ArrayView, Disk, MirrorView, geometry_of}
use Rattle.md_array.specs.Consistency.{IsConsistent}
use Rattle.md_array.specs.Steps.Enrol.{HoldsContent}
use Rattle.md_array.proofs.Worlds.PartsApart.{ends_below}
use Rattle.md_array.specs.Steps.Lend.{IsBesideChunk}
use Rattle.md_array.specs.Worlds.{AreHonest, none_in_flight, world_of}
use Rattle.md_array.proofs.Rebuilding.HeldContent.{its_chunk}
use Rattle.md_laws.specs.Lives.{MirrorLifeWith}
use Rattle.md_laws.specs.Runs.{IsStart, Moment}
use Rattle.md_laws.proofs.Runs.MirrorContents.{IsHeldAt, life_held_at}
use Rattle.md_copy.specs.declared.rebuilt.Rebuilt.{Rebuilt}
use Rattle.md_copy.specs.Rebuilding.{BeginsRebuild, Rebuilds}
use Rattle.md_copy.specs.Rebuilt.{HasRebuilt, IsBesideCopied, IsRebuilt}
use Rattle.md_copy.proofs.Done.RebuiltByCall.{has_rebuilt}
use Rattle.md_call_laws.specs.Rebuilds.RebuiltInLife.{CopiesContent, HeldWhatItHad, RebuildsContent}
use Rattle.md_call_laws.proofs.RebuildLemmas.HeldOnDisks.{has_content}

-- ---- chunks
-- a sector lies in one chunk alone
pub one_chunk : (width size b c s : ℕ) → InChunk width size b s → InChunk width size c s → b ≡ c
one_chunk width size b c s x y =
    elim (cases_lt b c) [
      | inl less ↦ let up = mul-le (b + 1) width c width (omega arith) (omega arith) in let high = x.below in let low = y.from in absurd (omega (arith, up, high, low))
      | inr more ↦ elim (cases_lt c b) [
        | inl less ↦ let up = mul-le (c + 1) width b width (omega arith) (omega arith) in let high = y.below in let low = x.from in absurd (omega (arith, up, high, low))
        | inr same ↦ omega arith
      ]
    ]

-- beside each other one
pub beside_other : (a : ArrayView) (offset b c s : ℕ) → InChunk a.chunks.sectors a.chunks.size c s → (b ≡ c → ⊥) → IsBesideChunk a.chunks offset (512 * (offset + s)) 512 b
beside_other a offset b c s inside other =
    let width = a.chunks.sectors in
    let from = inside.from in
    let below = inside.below in
    elim (cases_lt b c) [
      | inl less ↦ let up = mul-le (b + 1) width c width (omega arith) (omega arith) in inr (omega (arith, up, from))
      | inr more ↦ elim (cases_lt c b) [
        | inl less ↦ let up = mul-le (c + 1) width b width (omega arith) (omega arith) in inl (omega (arith, up, below))
        | inr same ↦ absurd (other (omega arith))
      ]
    ]

module _ (target : ℕ) (copied orphans : Bitmap) (old last : MirrorView) (sound : IsConsistent old) (honest : AreHonest old.disks) (r : IsRebuilt target copied orphans old last)
    (content : Content) (has : HoldsContent old.disks old.array content) where
  abbrev a : ArrayView
  a = old.array

  abbrev m : MemberView
  m = r.member

  abbrev at : ℕ → ℕ
  at s = 512 * (m.superblock.data_offset + s)

  pub copies : (e : Disk) → slice_get last.disks target ≡ Some e → (c s : ℕ) → c < a.marks.chunks → is_set copied.bytes c ≡ true → InChunk a.chunks.sectors a.chunks.size c s
      → part e.content (at s) 512 ≡ content s
  copies = r.holds honest content has

  module _ (had : HeldWhatItHad target content old) (e : Disk) (at_e : slice_get last.disks target ≡ Some e) (s : ℕ) (low : s < a.chunks.size)
      (unlisted : IsBad r.now.bad (m.superblock.data_offset + s) → ⊥) where
    abbrev c : ℕ
    c = s / a.chunks.sectors

    inside : InChunk a.chunks.sectors a.chunks.size c s
    inside = its_chunk a.chunks.size a.chunks.sectors s sound.chunks.wide low

    c_low : c < a.marks.chunks
    c_low =
        let bounds = div_ceil_times a.chunks.size a.chunks.sectors sound.chunks.wide in
        subst (λ (x : ℕ). c < x) (sym sound.chunks.count) (div_below s a.chunks.sectors (div_ceil a.chunks.size a.chunks.sectors) sound.chunks.wide (omega (arith, bounds.0)))

    of_chunk : (set : Bitmap) → set.chunks ≡ a.marks.chunks → is_set set.bytes c ≡ true → IsOf a.chunks m.superblock.data_offset set (m.superblock.data_offset + s)
    of_chunk set chunks is = record { chunk = c; early = subst (λ (x : ℕ). c < x) (sym chunks) c_low; in_set = is; of_chunk = record { at = s; inside = inside; is = refl } }

    -- one that nobody may give is listed
    lacked : is_set copied.bytes c ≡ false → is_missing a m c ≡ true → ⊥
    lacked uncopied missing =
        let orphan = (r.orphans_are c c_low).1 (missing, λ served. true≢false (sym ((r.copied_are c c_low).1 (missing, served)) ∙ uncopied)) in
        let bound = ends_below old sound target m r.at in
        unlisted ((r.bad.bad (m.superblock.data_offset + s)).1 (inr (of_chunk orphans r.orphan_chunks orphan, omega arith)))

    not_copied : is_set copied.bytes c ≡ false → IsOf a.chunks m.superblock.data_offset copied (m.superblock.data_offset + s) → ⊥
    not_copied uncopied of =
        let is = of.of_chunk.is in
        let same : s ≡ of.of_chunk.at = omega arith in
        let one = one_chunk a.chunks.sectors a.chunks.size of.chunk c s (subst (InChunk a.chunks.sectors a.chunks.size of.chunk) (sym same) of.of_chunk.inside) inside in
        true≢false (sym of.in_set ∙ ap (is_set copied.bytes) one ∙ uncopied)

    -- one that it had is as before
    stayed : is_set copied.bytes c ≡ false → is_missing a m c ≡ false → part e.content (at s) 512 ≡ content s
    stayed uncopied present =
        let member_low = slice_get_within a.members target m r.at in
        let many = sound.fits.as_many in
        let d = got_within old.disks target (omega arith) in
        let fits = (sound.fits.each target d.0 m d.1 r.at).placed.data_holds in
        let size = sound.chunks.size in
        let own = sound.chunks.member_size target m r.at in
        let clear : IsBad m.bad (m.superblock.data_offset + s) → ⊥ = λ bad. unlisted ((r.bad.bad (m.superblock.data_offset + s)).1 (inl (bad, not_copied uncopied))) in
        let apart : IsBesideCopied a m copied (at s) 512 = record {
          from = omega arith;
          to = omega (arith, fits, size, own);
          beside = λ b set. beside_other a m.superblock.data_offset b c s inside (λ same. true≢false (sym set ∙ ap (is_set copied.bytes) same ∙ uncopied));
        } in
        r.beside d.0 e d.1 at_e (at s) 512 apart ∙ had d.0 m d.1 r.at s low present clear

    pub holds_all : part e.content (at s) 512 ≡ content s
    holds_all = by_test (is_set copied.bytes c)
        (λ set. copies e at_e c s c_low set inside)
        (λ uncopied. by_test (is_missing a m c) (λ missing. absurd (lacked uncopied missing)) (stayed uncopied))

-- ---- at a moment of a life
-- where a rebuild may begin
pub held_at_begin : {g : Geometry} {opened : Super} {b : Content} (t : Moment) → IsHeldAt g opened t b → (target : ℕ) {ready : MirrorView} {none : Bitmap} → BeginsRebuild target t.mirror ready none
    → HoldsContent t.mirror.disks t.mirror.array b
held_at_begin {g} {opened} {b} t at target {ready} {none} begins =
    has_content t at.sound begins.may.idle begins.may.resynced_target.resynced b (subst (λ g. Holds g b (world_of t.mirror t.requests)) (sym at.geometry) at.held.holds)

module _ (before : List Disk) (m : MirrorView) (a : Content) (start : IsStart before m) (holds : Holds (geometry_of m.array) a (world_of m none_in_flight)) (es : List Event) (rest : List (List Event)) (final : MirrorView)
    (last : Moment) (b : Content) (life : MirrorLifeWith m a es rest final last b) (target : ℕ) (told : Rebuilt) (new : MirrorView) (h : Rebuilds target told last.mirror new) where
  abbrev r : HasRebuilt target told last.mirror new
  r = has_rebuilt target told last.mirror new h

  sound_there : IsConsistent last.mirror
  sound_there = (life_held_at before m a start holds es rest final last b life).sound.sound

  honest_there : AreHonest last.mirror.disks
  honest_there = (life_held_at before m a start holds es rest final last b life).sound.honest

  has_it : HoldsContent last.mirror.disks last.mirror.array b
  has_it = held_at_begin last (life_held_at before m a start holds es rest final last b life) target h.begins

  pub copies_there : (r : HasRebuilt target told last.mirror new) × ((e : Disk) → slice_get new.disks target ≡ Some e → (c s : ℕ) → c < last.mirror.array.marks.chunks → is_set r.copied.bytes c ≡ true
      → InChunk last.mirror.array.chunks.sectors last.mirror.array.chunks.size c s → part e.content (512 * (r.rebuilt.member.superblock.data_offset + s)) 512 ≡ b s)
  copies_there = (r, copies target r.copied r.orphans last.mirror new sound_there honest_there r.rebuilt b has_it)

  pub holds_there : (r : HasRebuilt target told last.mirror new) × (HeldWhatItHad target b last.mirror → (e : Disk) → slice_get new.disks target ≡ Some e
      → (s : ℕ) → s < last.mirror.array.chunks.size → (IsBad r.rebuilt.now.bad (r.rebuilt.member.superblock.data_offset + s) → ⊥) → part e.content (512 * (r.rebuilt.member.superblock.data_offset + s)) 512 ≡ b s)
  holds_there = (r, holds_all target r.copied r.orphans last.mirror new sound_there honest_there r.rebuilt b has_it)

pub copies_content : CopiesContent
copies_content before m a start holds es rest final last b life target told new h = copies_there before m a start holds es rest final last b life target told new h

pub rebuilds_content : RebuildsContent
rebuilds_content before m a start holds es rest final last b life target told new h = holds_there before m a start holds es rest final last b life target told new h
