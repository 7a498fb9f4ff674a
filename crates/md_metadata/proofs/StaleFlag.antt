-- A bitmap's first sector with BITMAP_STALE in its header: no reader accepts the bitmap; and it can be put back.
use Rattle.std.proofs.Common.{◌≡◌, ◌∙◌, ℕ, ◌+◌, ◌*◌, ◌^◌, ◌<◌, ◌≤◌, true, List, ◌++◌, [], ◌∷◌, length, take, drop, drop-drop, pos, Result, Ok, Err, MatchResult, append_assoc, refl, sym, ap, subst, arith}
use Rattle.std.specs.Prelude.{bit_or}
use Rattle.std.proofs.lemmas.List.{length-take, take-append-drop}
use Rattle.byteorder.specs.Endian.{little_bytes}
use Rattle.md_format.specs.Fields.{number_at}
use Rattle.md_format.proofs.Parts.{number_in}
use Rattle.md_format.proofs.Written.{number_at-behind, number_at-little_bytes}
use Rattle.md_device.specs.declared.device.Device.{Ghosts}
use Rattle.md_device.specs.Device.{held}
use Rattle.md_device.specs.Splice.{SameOutside, part, spliced}
use Rattle.md_device.proofs.Splices.{drop-spliced, take-spliced}
use Rattle.md_super.specs.declared.superblock.Superblock.{Superblock}
use Rattle.md_super.specs.Format.{IsSuper}
use Rattle.md_super.proofs.Unique.{unique}
use Rattle.md_bitmap.specs.declared.header.BitmapHeader.{BitmapHeader}
use Rattle.md_members.specs.Areas.{AreAreasPlaced, bitmap_area, has_bitmap, super_area}
use Rattle.md_members.specs.Members.{IsAccepted}
use Rattle.md_members.specs.Reading.{BitmapStartsAt, ReadsHeader, ReadsSuper, front_of}
use Rattle.md_members.specs.DeviceWrites.Writes.{MakesWrites, Write}
use Rattle.md_kept_members.proofs.OnDeviceLemmas.Beside.{stays}
use Rattle.md_state.specs.DiskWrites.{IsFailed, IsWritten}
use Rattle.md_state.specs.View.{disk_of}
use Rattle.md_array.proofs.StepLemmas.OneWrite.{is_failed, is_written}
use Rattle.md_metadata.specs.ComingBack.{stale_sector}

-- what is written over a part, and then what stood there
pub spliced_back : (xs : List ℕ) (at : ℕ) (ys zs : List ℕ) → length zs ≡ length ys → at + length ys ≤ length xs → zs ≡ part xs at (length ys) → spliced (spliced xs at ys) at zs ≡ xs
unfolding part spliced
spliced_back xs at ys zs long fits is =
    let n : ℕ = length ys in
    let over : List ℕ = spliced xs at ys in
    let front : take at over ≡ take at xs = take-spliced xs at ys at (omega arith) (omega arith) in
    let behind : drop (at + length zs) over ≡ drop (at + n) xs =
    ap (λ (k : ℕ). drop (at + k) over) long ∙ drop-spliced xs at ys (at + n) (omega arith) (omega arith) in
    ap (λ (f : List ℕ). f ++ (zs ++ drop (at + length zs) over)) front
    ∙ ap (λ (r : List ℕ). take at xs ++ (zs ++ r)) behind
    ∙ ap (λ (m : List ℕ). take at xs ++ (m ++ drop (at + n) xs)) is
    ∙ ap (λ (r : List ℕ). take at xs ++ (take n (drop at xs) ++ r)) (sym (drop-drop n at xs))
    ∙ ap (λ (r : List ℕ). take at xs ++ r) (take-append-drop n (drop at xs))
    ∙ take-append-drop at xs

-- the state of a header in a sector that has the flag
pub state_of_flagged : (sector : List ℕ) (state : ℕ) → length sector ≡ 512 → state < 2 ^ 32 → number_at 4 48 (take 48 sector ++ little_bytes 4 state ++ drop 52 sector) ≡ state
state_of_flagged sector state long low =
    ap (number_at 4 48) (append_assoc (take 48 sector) (little_bytes 4 state) (drop 52 sector))
    ∙ number_at-behind 4 48 0 (take 48 sector) (little_bytes 4 state ++ drop 52 sector) (let n = length-take 48 sector in omega arith)
    ∙ number_at-little_bytes 4 state (drop 52 sector) (let e : state < 2 ^ 32 = low in omega arith)

-- the superblock of a member stays when its bitmap's first sector is written
pub superblock_stays : (old new : List ℕ) (sectors start : ℕ) (v w : Superblock) → ReadsSuper old true v → AreAreasPlaced sectors v 1 → has_bitmap v ≡ true → BitmapStartsAt v start
    → SameOutside (512 * start) 512 old new → ReadsSuper new true w → w ≡ v
superblock_stays old new sectors start v w was placed has at same is =
    let block : held new 8 4096 ≡ held old 8 4096 =
    stays (bitmap_area v 1) start (sym at) old new same super_area 8 refl (placed.bitmap has).from_super 4096 4096 (omega arith) (omega arith) in
    unique was.bytes w v (subst (λ (bytes : List ℕ). IsSuper bytes w) (is.read.from_device refl ∙ block ∙ sym (was.read.from_device refl)) is.fields) was.fields

-- a bitmap is not accepted of which the first sector has another state than 0
pub unaccepted : (content : List ℕ) (start : ℕ) (sector : List ℕ) (v : Superblock) (h : BitmapHeader) → held content start 512 ≡ sector → 0 < number_at 4 48 sector → BitmapStartsAt v start
    → ReadsHeader content true v h → IsAccepted v h → ⊥
unaccepted content start sector v h there flagged at reads accepted =
    let sum : pos reads.start ≡ pos start = reads.at ∙ sym at in
    let here : reads.start ≡ start = cc in
    let is : reads.sector ≡ sector = reads.read.from_device refl ∙ ap (λ (s : ℕ). held content s 512) here ∙ there in
    let state : h.state ≡ number_at 4 48 sector =
    reads.fields.state ∙ sym (number_in 4 0 256 48 reads.sector (front_of reads.sector) refl (omega arith)) ∙ ap (number_at 4 48) is in
    let none = accepted.state in
    omega arith

-- one write to a device that stands alone
pub written_or_not : {D : Type 0} (g : Ghosts D) (was now : D) (w : Write) → SameOutside (512 * w.sector) (length w.bytes) (g.content was) (g.content now) → {T E : Type 0} (result : Result T E) → MakesWrites g (w ∷ []) was now result
    → MatchResult result (λ _. IsWritten 0 w (disk_of g was ∷ []) (disk_of g now ∷ [])) (λ _. IsFailed 0 w (disk_of g was ∷ []) (disk_of g now ∷ []))
written_or_not g was now w outside (Ok x) does = is_written g (was ∷ []) 0 was refl now w (omega arith) outside does
written_or_not g was now w outside (Err e) fails = is_failed g (was ∷ []) 0 was refl now w (omega arith) outside fails

-- the sector with this state is the one with the flag
pub stale_with : (sector : List ℕ) (state : ℕ) → state ≡ number_at 4 48 sector → (out : List ℕ) → out ≡ take 48 sector ++ little_bytes 4 (bit_or state 2) ++ drop 52 sector → out ≡ stale_sector sector
unfolding stale_sector
stale_with sector state is out put = put ∙ ap (λ (s : ℕ). take 48 sector ++ little_bytes 4 (bit_or s 2) ++ drop 52 sector) is
