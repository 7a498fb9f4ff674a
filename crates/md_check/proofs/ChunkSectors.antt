-- A sector lies in one chunk.
use Rattle.std.proofs.Common.{◌≡◌, ℕ, ◌+◌, ◌*◌, ◌/◌, ◌<◌, ◌≤◌, min, ap, arith}
use Rattle.std.proofs.Math.Nat.{add-mul, lt-div-mul-add, div-mul-le_self}
use Rattle.std.proofs.lemmas.Nat.{div_below, le-div}
use Rattle.md_bitmap.specs.Chunks.{InChunk}

next_start : (c w : ℕ) → (c + 1) * w ≡ c * w + w
next_start c w = let e : (c + 1) * w ≡ c * w + 1 * w = add-mul c 1 w in omega arith

pub in_its_chunk : (w size s : ℕ) → 0 < w → s < size → InChunk w size (s / w) s
in_its_chunk w size s wide inside =
    let e = next_start (s / w) w in
    let up : s < s / w * w + w = lt-div-mul-add wide in
    let down : s / w * w ≤ s = div-mul-le_self s w in
    record { from = down; below = omega arith; within = inside }

pub chunk_is : (w size c s : ℕ) → 0 < w → InChunk w size c s → c ≡ s / w
chunk_is w size c s wide inside =
    let down = le-div c s w wide inside.from in
    let up = div_below s w (c + 1) wide inside.below in
    omega arith

pub before_end : (w size s c end : ℕ) → 0 < w → s < size → c ≡ s / w → end ≡ min ((c + 1) * w) size → s < end
before_end w size s c end wide inside is at =
    let here : (c + 1) * w ≡ (s / w + 1) * w = ap (λ n. (n + 1) * w) is in
    let e = next_start (s / w) w in
    let up : s < s / w * w + w = lt-div-mul-add wide in
    omega arith
