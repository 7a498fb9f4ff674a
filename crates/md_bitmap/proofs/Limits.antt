-- How many chunks cover so many sectors.
use Rattle.std.proofs.Common.{◌≡◌, ℕ, ◌%◌, ◌+◌, ◌*◌, ◌/◌, ◌<◌, ◌≤◌, leb, sym, ap, ◌∙◌, ◌^◌, arith}
use Rattle.std.proofs.Math.Nat.{add-mul, mul_assoc, div-lt_iff_lt-mul, lt_of_mul-lt-mul_right, mul-le-mul_right}
use Rattle.std.proofs.lemmas.Bool.{eqb-true, leb-true, le-leb}
use Rattle.std.proofs.lemmas.Grind.{div_ceil_times}
use Rattle.std.specs.Int.{div_ceil}
use Rattle.std.specs.Int.Count.{ones, ones_cat}
use Rattle.std.specs.Cmp.{both_ways}
use Rattle.std.proofs.lemmas.Nat.{zero_from_ones}
use Rattle.md_bitmap.specs.Sound.{IsChunkSize, chunk_count}

few_from_size : (s c : ℕ) → 0 < c → s ≤ 1048576 * c / 512 → chunk_count s c ≤ 1048576
few_from_size s c positive h =
    let bounds = div_ceil_times (s * 512) c positive in
    let expand : (1048576 + 1) * c ≡ 1048576 * c + 1 * c = add-mul 1048576 1 c in
    let below : chunk_count s c * c < (1048576 + 1) * c = omega (arith, bounds.1) in
    let few : chunk_count s c < 1048576 + 1 = lt_of_mul-lt-mul_right c below in
    omega arith

size_from_few : (s c : ℕ) → 0 < c → chunk_count s c ≤ 1048576 → s ≤ 1048576 * c / 512
size_from_few s c positive h =
    let bounds = div_ceil_times (s * 512) c positive in
    let most : chunk_count s c * c ≤ 1048576 * c = mul-le-mul_right c h in
    omega (arith, bounds.0)

-- sectors that the most chunks cover
pub leb-few_chunks : (s c : ℕ) → 0 < c → leb s (1048576 * c / 512) ≡ leb (chunk_count s c) 1048576
leb-few_chunks s c positive =
    both_ways (leb s (1048576 * c / 512)) (leb (chunk_count s c) 1048576)
    (λ e. le-leb (chunk_count s c) 1048576 (few_from_size s c positive (leb-true s (1048576 * c / 512) e)))
    (λ e. le-leb s (1048576 * c / 512) (size_from_few s c positive (leb-true (chunk_count s c) 1048576 e)))

-- a sector of the array lies in one of its chunks
pub div-lt-div_ceil : (size width sector : ℕ) → 0 < width → sector < size → sector / width < div_ceil size width
div-lt-div_ceil size width sector positive h =
    let bounds = div_ceil_times size width positive in
    let below : sector < div_ceil size width * width = omega (arith, bounds.0) in
    (div-lt_iff_lt-mul positive).1 below

-- a chunk has whole sectors
chunk-mod-sector : (c : ℕ) → IsChunkSize c → c % 512 ≡ 0
chunk-mod-sector c size =
    let split : c ≡ c / 512 * 2 ^ 9 + c % 512 = omega arith in
    let parts = ones_cat 9 (c / 512) (c % 512) (omega arith) in
    let one : ones c ≡ 1 = eqb-true (ones c) 1 size.power in
    let whole : ones (c / 512) ≡ 0 → ⊥ = λ none. absurd (omega (arith, zero_from_ones (c / 512) none, size.least)) in
    let together : ones c ≡ ones (c / 512) + ones (c % 512) = ap ones split ∙ parts in
    zero_from_ones (c % 512) (omega arith)

-- two quotients rounded up, by their bounds
pub not_above : (s w p q : ℕ) → p * w < s + w → s ≤ q * w → p ≤ q
not_above s w p q below enough =
    let expand : (q + 1) * w ≡ q * w + 1 * w = add-mul q 1 w in
    let less : p * w < (q + 1) * w = omega arith in
    let h : p < q + 1 = lt_of_mul-lt-mul_right w less in
    omega arith

-- as many chunks by their sectors as by their bytes
pub div_ceil-sectors : (s c : ℕ) → IsChunkSize c → div_ceil s (c / 512) ≡ chunk_count s c
div_ceil-sectors s c size =
    let w = c / 512 in
    let p = div_ceil s w in
    let q = chunk_count s c in
    let least = size.least in
    let bytes : c ≡ w * 512 = omega (arith, chunk-mod-sector c size) in
    let by_sectors = div_ceil_times s w (omega arith) in
    let by_bytes = div_ceil_times (s * 512) c (omega arith) in
    let product : q * c ≡ q * w * 512 = ap (λ (x : ℕ). q * x) bytes ∙ sym (mul_assoc q w 512) in
    let enough : s ≤ q * w = omega (arith, by_bytes.0) in
    let below : q * w < s + w = omega (arith, by_bytes.1) in
    let up = not_above s w p q by_sectors.1 enough in
    let down = not_above s w q p below by_sectors.0 in
    omega arith
