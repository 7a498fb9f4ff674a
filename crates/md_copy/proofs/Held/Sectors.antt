-- Chunks on a device: where they lie, sector by sector.
use Rattle.std.proofs.Common.{◌≡◌, ◌≢◌, ◌∙◌, ℕ, ◌+◌, ◌-◌, ◌*◌, ◌≤◌, List, sym, ap, arith, inl, inr}
use Rattle.std.proofs.lemmas.Bool.{cases_lt}
use Rattle.std.proofs.lemmas.Nat.{mul-le}
use Rattle.md_device.specs.Splice.{part}
use Rattle.md_device.proofs.Splices.{part_part}
use Rattle.md_bitmap.specs.declared.chunks.Chunks.{Chunks}
use Rattle.md_bitmap.specs.Chunks.{InChunk}
use Rattle.md_collect.specs.Places.{bytes_of_chunk, chunk_on, start_of}
use Rattle.md_pass.specs.Beside.{LiesBesideChunk}

-- a sector of the chunk, counted from its start
sector_of : (content : List ℕ) (offset : ℕ) (chunks : Chunks) (c s : ℕ) → InChunk chunks.sectors chunks.size c s
    → part (chunk_on content offset chunks c) (512 * (s - start_of chunks c)) 512 ≡ part content (512 * (offset + s)) 512
unfolding chunk_on
sector_of content offset chunks c s inside =
    let from = inside.from in
    let below = inside.below in
    let within = inside.within in
    let whole = part_part content (512 * (offset + start_of chunks c)) (bytes_of_chunk chunks c) (512 * (s - start_of chunks c)) 512 (omega arith) in
    let place : 512 * (offset + start_of chunks c) + 512 * (s - start_of chunks c) ≡ 512 * (offset + s) = omega arith in
    whole ∙ ap (λ n. part content n 512) place

pub same_sector : (xs ys : List ℕ) (p q : ℕ) (chunks : Chunks) (c s : ℕ) → chunk_on xs p chunks c ≡ chunk_on ys q chunks c → InChunk chunks.sectors chunks.size c s
    → part xs (512 * (p + s)) 512 ≡ part ys (512 * (q + s)) 512
same_sector xs ys p q chunks c s same inside =
    sym (sector_of xs p chunks c s inside) ∙ ap (λ zs. part zs (512 * (s - start_of chunks c)) 512) same ∙ sector_of ys q chunks c s inside

-- a chunk whose bytes are as they were
pub same_chunk : (xs ys : List ℕ) (p : ℕ) (chunks : Chunks) (c : ℕ) → part xs (512 * (p + start_of chunks c)) (bytes_of_chunk chunks c) ≡ part ys (512 * (p + start_of chunks c)) (bytes_of_chunk chunks c)
    → chunk_on xs p chunks c ≡ chunk_on ys p chunks c
unfolding chunk_on
same_chunk xs ys p chunks c same = same

-- two chunks lie beside one another
pub apart_chunks : (chunks : Chunks) (offset c b : ℕ) → c ≢ b → LiesBesideChunk chunks offset (512 * (offset + start_of chunks c)) (bytes_of_chunk chunks c) b
apart_chunks chunks offset c b other =
    elim (cases_lt c b) [
      | inl below ↦
          inl (
          let here = mul-le c chunks.sectors (c + 1) chunks.sectors (omega arith) (omega arith) in
          let up = mul-le (c + 1) chunks.sectors b chunks.sectors (omega (arith, below)) (omega arith) in
          omega (arith, here, up)
          )
      | inr from ↦
          inr (
          let here = mul-le b chunks.sectors (b + 1) chunks.sectors (omega arith) (omega arith) in
          let less : b + 1 ≤ c = elim (cases_lt b c) [ inl low ↦ (omega (arith, low)) | inr high ↦ absurd (other (omega (arith, from, high))) ] in
          let up = mul-le (b + 1) chunks.sectors c chunks.sectors less (omega arith) in
          omega (arith, here, up)
          )
    ]

-- it lies in the data area that has room for the array
pub chunk_within : (chunks : Chunks) (c size : ℕ) → chunks.size ≤ size → c * chunks.sectors ≤ chunks.size → 512 * (start_of chunks c) + bytes_of_chunk chunks c ≤ 512 * size
chunk_within chunks c size room low = omega (arith, room, low)
