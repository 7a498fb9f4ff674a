-- A salvage leaves what lies beside the sectors that it writes, byte by byte: also those of a chunk that it could not give.
use Rattle.std.proofs.Common.{◌≡◌, ◌≢◌, ◌∙◌, ◌⊎◌, ℕ, zero, suc, ◌+◌, ◌-◌, ◌*◌, ◌/◌, ◌<◌, ◌≤◌, false, List, [], ◌∷◌, ◌++◌, drop, take, drop-drop, slice_get, refl, sym, ap, subst, arith, inl, inr}
use Rattle.std.proofs.lemmas.Bool.{both_ways, cases_Bool, cases_lt}
use Rattle.std.proofs.lemmas.List.{drop-take, take-append-drop, take-take}
use Rattle.std.proofs.lemmas.Option.{same_Some}
use Rattle.md_badblocks.specs.declared.run.Run.{Run}
use Rattle.md_badblocks.specs.Runs.{IsBad}
use Rattle.md_bitmap.specs.declared.chunks.Chunks.{Chunks}
use Rattle.md_bitmap.specs.Chunks.{InChunk}
use Rattle.md_bitmap.specs.Marks.{Bitmap, is_set}
use Rattle.md_device.specs.Splice.{part}
use Rattle.md_device.proofs.Splices.{part_part}
use Rattle.md_kept_members.specs.SectorLists.{in_runs}
use Rattle.md_kept_members.specs.View.{MemberView}
use Rattle.md_kept_members.proofs.SectorSets.{bad_in, in_bad}
use Rattle.md_state.specs.DiskWrites.{AtDevice}
use Rattle.md_state.specs.Members.{IsMember}
use Rattle.md_state.specs.Missing.{is_missing}
use Rattle.md_state.specs.View.{ArrayView, Disk, MirrorView}
use Rattle.md_array.proofs.Rebuilding.HeldContent.{chunk_unique}
use Rattle.md_copy.specs.Salvaging.Filling.{AreSalvaged, FillsChunk, SalvagesChunk}
use Rattle.md_copy.specs.Salvaging.Sectors.{IsLacked}
use Rattle.md_copy.proofs.Held.HeldRecorded.{chunks_is, data_kept, lacked}
use Rattle.md_copy.proofs.SalvageLaws.SectorsKept.{between, chunk_filled_stay, chunk_stays}

-- ---- bytes
part_none : (xs ys : List ℕ) (at : ℕ) → part xs at 0 ≡ part ys at 0
unfolding part
part_none xs ys at = refl

part_step : (xs : List ℕ) (at n : ℕ) → part xs at (n + 1) ≡ part xs at n ++ part xs (at + n) 1
unfolding part
part_step xs at n =
    sym (take-append-drop n (take (n + 1) (drop at xs)))
    ∙ ap (λ ys. ys ++ drop n (take (n + 1) (drop at xs))) (take-take n (n + 1) (drop at xs) (omega arith))
    ∙ ap (λ ys. take n (drop at xs) ++ ys) (drop-take n 1 (drop at xs) ∙ ap (take 1) (drop-drop n at xs))

-- what is the same byte by byte is the same
pub same_bytes : (xs ys : List ℕ) (at n : ℕ) → ((p : ℕ) → at ≤ p → p < at + n → part xs p 1 ≡ part ys p 1) → part xs at n ≡ part ys at n
same_bytes xs ys at zero each = part_none xs ys at
same_bytes xs ys at (suc n) each =
    let more : suc n ≡ n + 1 = omega arith in
    let first = same_bytes xs ys at n (λ p from below. each p from (omega (arith, below))) in
    let last = each (at + n) (omega arith) (omega arith) in
    ap (part xs at) more ∙ part_step xs at n ∙ ap (λ zs. zs ++ part xs (at + n) 1) first ∙ ap (λ zs. part ys at n ++ zs) last ∙ sym (part_step ys at n) ∙ sym (ap (part ys at) more)

-- a byte of a sector
byte_of : (xs : List ℕ) (start p : ℕ) → start ≤ p → p < start + 512 → part xs p 1 ≡ part (part xs start 512) (p - start) 1
byte_of xs start p from below =
    let there : start + (p - start) ≡ p = omega (arith, from) in
    sym (part_part xs start 512 (p - start) 1 (omega (arith, from, below)) ∙ ap (λ i. part xs i 1) there)

pub byte_same : (xs ys : List ℕ) (start p : ℕ) → start ≤ p → p < start + 512 → part xs start 512 ≡ part ys start 512 → part xs p 1 ≡ part ys p 1
byte_same xs ys start p from below same = byte_of xs start p from below ∙ ap (λ zs. part zs (p - start) 1) same ∙ sym (byte_of ys start p from below)

-- ---- a chunk that was filled has no sector that comes to be lost
-- The chunk is copied, or some sector of it is lost already.
abbrev IsDone : Chunks → ℕ → Bitmap → List Run → Type 0
IsDone q c copied lost = is_set copied.bytes c ≡ false → ((s : ℕ) → InChunk q.sectors q.size c s → IsBad lost s → ⊥) → ⊥

module _ (target : ℕ) where
  chunk_other : (c d : ℕ) (copied after : Bitmap) (lost more : List Run) (now filled : MirrorView) → FillsChunk target d copied after lost more now filled → IsDone now.array.chunks c copied lost → c ≢ d
  chunk_other c d copied after lost more now filled h done same =
      let f = h.fills.within in
      done (ap (is_set copied.bytes) same ∙ (h.left f.member f.at).uncopied)
      (λ s inside bad. h.fresh s (subst (λ x. InChunk now.array.chunks.sectors now.array.chunks.size x s) same inside) bad)

  still_done : (c d : ℕ) (copied after : Bitmap) (lost more : List Run) (now filled : MirrorView) → FillsChunk target d copied after lost more now filled → c ≢ d → IsDone now.array.chunks c copied lost
      → IsDone now.array.chunks c after more
  still_done c d copied after lost more now filled h other done clear none = done (sym (h.others c other) ∙ clear) (λ s inside bad. none s inside (h.fills.kept s bad))

  -- once it is filled it is done
  done_then : (c : ℕ) (copied after : Bitmap) (lost more : List Run) (now filled : MirrorView) → FillsChunk target c copied after lost more now filled → IsDone now.array.chunks c after more
  done_then c copied after lost more now filled h clear none = both_ways (is_set after.bytes c) clear (h.own.1 none)

  pub chunks_stay : (c : ℕ) (copied after : Bitmap) (lost more : List Run) (now new : MirrorView) → SalvagesChunk target c copied after lost more now new → new.array.chunks ≡ now.array.chunks
  chunks_stay c copied after lost more now new h = (chunk_stays target c copied after lost more now new h).members.chunks

  later_none : (cs : List ℕ) (copied after : Bitmap) (lost more : List Run) (now new : MirrorView) → AreSalvaged target cs copied after lost more now new → 0 < now.array.chunks.sectors
      → (c : ℕ) → IsDone now.array.chunks c copied lost → (s : ℕ) → InChunk now.array.chunks.sectors now.array.chunks.size c s → IsBad more s → IsBad lost s
  later_none [] copied after lost more now new h wide c done s inside bad = subst (λ (xs : List Run). IsBad xs s) h.1 bad
  later_none (d ∷ ds) copied after lost more now new h wide c done s inside bad =
      let f = h.3.fills in
      let other = chunk_other c d copied h.0 lost h.1 now h.3.filled f done in
      let same = chunks_stay d copied h.0 lost h.1 now h.2 h.3 in
      let then = still_done c d copied h.0 lost h.1 now h.3.filled f other done in
      let was = later_none ds h.0 after h.1 more h.2 new h.4 (subst (λ (q : Chunks). 0 < q.sectors) (sym same) wide) c (subst (λ (q : Chunks). IsDone q c h.0 h.1) (sym same) then) s
      (subst (λ (q : Chunks). InChunk q.sectors q.size c s) (sym same) inside) bad in
      elim (f.fills.none s was) [
        | inl begun ↦ begun
        | inr here ↦
            let there = (f.range s).1 (here.0, here.1) in
            absurd (other (chunk_unique now.array.chunks.size now.array.chunks.sectors s c wide inside ∙ sym (chunk_unique now.array.chunks.size now.array.chunks.sectors s d wide there)))
      ]

-- ---- a byte
-- the byte lies beside each sector that the target lacks, and that is not lost in the end
abbrev pub IsBesideAll : ℕ → List Run → ℕ → ℕ → MirrorView → Type 0
IsBesideAll target final offset p v =
    (m : MemberView) → IsMember v.array target m → (s : ℕ) → IsLacked v.array m s → (IsBad final s → ⊥) → (p + 1 ≤ 512 * (offset + s)) ⊎ (512 * (offset + s + 1) ≤ p)

-- the target's data area lies here
abbrev pub HasArea : ℕ → ℕ → ℕ → MirrorView → Type 0
HasArea target offset size v = (m : MemberView) → IsMember v.array target m → (m.superblock.data_offset ≡ offset) × (m.superblock.data_size ≡ size)

module _ (target : ℕ) (final : List Run) (offset size p : ℕ) (from : 512 * offset ≤ p) (to : p + 1 ≤ 512 * (offset + size)) where
  abbrev s : ℕ
  s = p / 512 - offset

  -- the chunk is filled
  filled_byte : (c : ℕ) (copied after : Bitmap) (lost more : List Run) (now filled : MirrorView) (h : FillsChunk target c copied after lost more now filled) → 0 < now.array.chunks.sectors
      → HasArea target offset size now → IsBesideAll target final offset p now → ((q : ℕ) → InChunk now.array.chunks.sectors now.array.chunks.size c q → IsBad final q → IsBad more q)
      → AtDevice target now.disks filled.disks (λ d e. part e.content p 1 ≡ part d.content p 1)
  filled_byte c copied after lost more now filled h wide area out later d e was is =
      let f = h.fills.within in
      let own = (area f.member f.at).0 in
      elim (cases_lt s h.start) [
        | inl low ↦ f.beside d e was is p 1 (inl (omega (arith, low, own, from)))
        | inr above ↦ elim (cases_lt s h.end) [
          | inr past ↦ f.beside d e was is p 1 (inr (omega (arith, past, own, from)))
          | inl below ↦
              let inside = (h.range s).1 (above, below) in
              let chunk = chunk_unique now.array.chunks.size now.array.chunks.sectors s c wide inside in
              let lacks : IsLacked now.array f.member s = record { inside = inside.within; missing = ap (is_missing now.array f.member) (sym chunk) ∙ (h.left f.member f.at).missing } in
              elim (cases_Bool (in_runs final s)) [
                | inl lost_there ↦
                    byte_same e.content d.content (512 * (f.member.superblock.data_offset + s)) p (omega (arith, own, from)) (omega (arith, own, from))
                    (h.fills.as_was s above below (later s inside (bad_in final s lost_there)) d e was is)
                | inr free ↦ elim (out f.member f.at s lacks (λ bad. both_ways (in_runs final s) free (in_bad final s bad))) [
                  | inl before ↦ absurd (omega (arith, before, from))
                  | inr after ↦ absurd (omega (arith, after, from))
                ]
              ]
        ]
      ]

  -- what it lacks once how far it is rebuilt is recorded it lacked before
  lacked_was : (c : ℕ) (copied after : Bitmap) (lost more : List Run) (now new : MirrorView) (h : SalvagesChunk target c copied after lost more now new) (n : MemberView) → IsMember new.array target n → (q : ℕ) → IsLacked new.array n q
      → (m : MemberView) × IsMember now.array target m × IsLacked now.array m q
  lacked_was c copied after lost more now new h n at q lacks = elim h.ends [
    | inl kept ↦
        let same : new.array ≡ now.array = ap (λ (v : MirrorView). v.array) kept.1 ∙ h.fills.fills.within.array in
        (n, subst (λ (a : ArrayView). IsMember a target n) same at, subst (λ (a : ArrayView). IsLacked a n q) same lacks)
    | inr is ↦
        let r = is.1 in
        let same = h.fills.fills.within.array in
        let chunks = chunks_is target after h.filled new h.fills.sound r in
        let inside = subst (λ (k : Chunks). q < k.size) chunks lacks.inside in
        let missing = lacked target after h.filled new h.fills.sound r n at (q / h.filled.array.chunks.sectors) (ap (λ (k : Chunks). is_missing new.array n (q / k.sectors)) (sym chunks) ∙ lacks.missing) in
        (r.may.member, subst (λ (a : ArrayView). IsMember a target r.may.member) same r.may.at, subst (λ (a : ArrayView). IsLacked a r.may.member q) same (record { inside = inside; missing = missing }))
  ]

  chunk_byte : (c : ℕ) (copied after : Bitmap) (lost more : List Run) (now new : MirrorView) (h : SalvagesChunk target c copied after lost more now new) → 0 < now.array.chunks.sectors
      → HasArea target offset size now → IsBesideAll target final offset p now → ((q : ℕ) → InChunk now.array.chunks.sectors now.array.chunks.size c q → IsBad final q → IsBad more q)
      → AtDevice target now.disks new.disks (λ d e. part e.content p 1 ≡ part d.content p 1)
  chunk_byte c copied after lost more now new h wide area out later d e was is = elim h.ends [
    | inl kept ↦ filled_byte c copied after lost more now h.filled h.fills wide area out later d e was (ap (λ (v : MirrorView). slice_get v.disks target) (sym kept.1) ∙ is)
    | inr both ↦
        let r = both.1 in
        let x = between target now h.filled (chunk_filled_stay target h.fills.start h.fills.end now h.filled h.fills.fills.within).devices target d was in
        let m = r.may.member in
        let own = area m (subst (λ (a : ArrayView). IsMember a target m) h.fills.fills.within.array r.may.at) in
        let at = own.0 in
        let long = own.1 in
        data_kept target after h.filled new h.fills.sound r x.0 e x.1 is p 1 (omega (arith, at, from)) (omega (arith, at, long, to))
        ∙ filled_byte c copied after lost more now h.filled h.fills wide area out later d x.0 was x.1
  ]

  pub salvaged_byte : (cs : List ℕ) (copied after : Bitmap) (lost : List Run) (now new : MirrorView) → AreSalvaged target cs copied after lost final now new → 0 < now.array.chunks.sectors
      → HasArea target offset size now → IsBesideAll target final offset p now → AtDevice target now.disks new.disks (λ d e. part e.content p 1 ≡ part d.content p 1)
  salvaged_byte [] copied after lost now new h wide area out d e was is =
      ap (λ (x : Disk). part x.content p 1) (same_Some e d (sym is ∙ ap (λ (v : MirrorView). slice_get v.disks target) h.2 ∙ was))
  salvaged_byte (c ∷ cs) copied after lost now new h wide area out d e was is =
      let stay = chunk_stays target c copied h.0 lost h.1 now h.2 h.3 in
      let x = between target now h.2 stay.devices target d was in
      let wide_then = subst (λ (q : Chunks). 0 < q.sectors) (sym stay.members.chunks) wide in
      let done = subst (λ (q : Chunks). IsDone q c h.0 h.1) (sym stay.members.chunks) (done_then target c copied h.0 lost h.1 now h.3.filled h.3.fills) in
      let later : (q : ℕ) → InChunk now.array.chunks.sectors now.array.chunks.size c q → IsBad final q → IsBad h.1 q =
      λ q inside bad. later_none target cs h.0 after h.1 final h.2 new h.4 wide_then c done q (subst (λ (k : Chunks). InChunk k.sectors k.size c q) (sym stay.members.chunks) inside) bad in
      salvaged_byte cs h.0 after h.1 h.2 new h.4 wide_then
      (λ n at. (let m = stay.members.before target n at in let own = area m.0 m.1 in (m.2.offset ∙ own.0, m.2.size ∙ own.1)))
      (λ n at q lacks isnt. (let m = lacked_was c copied h.0 lost h.1 now h.2 h.3 n at q lacks in out m.0 m.1 q m.2 isnt)) x.0 e x.1 is
      ∙ chunk_byte c copied h.0 lost h.1 now h.2 h.3 wide area out later d x.0 was x.1
