-- The numbers of the log's entries, and their bytes.
use Rattle.std.proofs.Common.{◌≡◌, ℕ, zero, suc, ◌+◌, ◌*◌, ◌%◌, ◌^◌, ◌<◌, ◌≤◌, List, [], ◌∷◌, ◌++◌, length, map, take, drop, replicate, refl, sym, ap, ◌∙◌, arith}
use Rattle.std.specs.List.{range_with_len, flat_map}
use Rattle.std.proofs.Math.Nat.{pow-le-pow_right, mul-le-mul_left, mod-eq_of_lt}
use Rattle.std.proofs.lemmas.List.{take_at, append_assoc, length-append, length-take-le, append-nil}
use Rattle.std.proofs.lemmas.List.FromFn.{map-range_with_len_more}
use Rattle.std.proofs.lemmas.Grind.{flat_map-append}
use borrow.Rule.Slice.PartMut.{put_mid}
use Rattle.byteorder.specs.Endian.{little_bytes}
use Rattle.md_badblocks.specs.Log.{all_ones}

-- a sector or a length of an entry keeps all its bits
pub shifted : (x shift : ℕ) → x < 2 ^ 54 → shift ≤ 9 → x * 2 ^ shift % 2 ^ 64 ≡ x * 2 ^ shift
shifted x shift small le =
    let unit : 2 ^ shift ≤ 2 ^ 9 = pow-le-pow_right {n = 2} (omega arith) le in
    let product : x * 2 ^ shift ≤ x * 2 ^ 9 = mul-le-mul_left x unit in
    mod-eq_of_lt (omega arith)

-- an entry written over the front of what lies after place a
pub front_written : (a k n : ℕ) (xs ys bytes rest : List ℕ) → ys ≡ bytes ++ rest → a ≤ length xs → length bytes ≡ 8 → n ≡ a + 8 → take n (put_mid a k xs ys) ≡ take a xs ++ bytes
front_written a k n xs ys bytes rest e le eight is =
    let count = length-append (take a xs) bytes in
    let short = length-take-le a xs le in
    let same : take a xs ++ ((bytes ++ rest) ++ drop k (drop a xs)) ≡ (take a xs ++ bytes) ++ (rest ++ drop k (drop a xs)) = ap (λ zs. take a xs ++ zs) (append_assoc bytes rest (drop k (drop a xs))) ∙ sym (append_assoc (take a xs) bytes (rest ++ drop k (drop a xs))) in
    rw e (ap (λ zs. take n zs) same ∙ take_at (take a xs ++ bytes) (rest ++ drop k (drop a xs)) n (omega arith))

-- one more entry of a run
pub bytes_more : (f : ℕ → ℕ) (k : ℕ) → flat_map (little_bytes 8) (map f (range_with_len 0 (k + 1))) ≡ flat_map (little_bytes 8) (map f (range_with_len 0 k)) ++ little_bytes 8 (f k)
bytes_more f k =
    ap (λ es. flat_map (little_bytes 8) es) (map-range_with_len_more f 0 k k (omega arith))
    ∙ flat_map-append (little_bytes 8) (map f (range_with_len 0 k)) (f k ∷ [])
    ∙ ap (λ ys. flat_map (little_bytes 8) (map f (range_with_len 0 k)) ++ ys) (append-nil (little_bytes 8 (f k)))

pub length-bytes : (es : List ℕ) → length (flat_map (little_bytes 8) es) ≡ 8 * length es
length-bytes [] = refl
length-bytes (e ∷ es) = let rest = length-bytes es in omega arith

-- entries of all ones
pub bytes-ones : (n : ℕ) → flat_map (little_bytes 8) (replicate n all_ones) ≡ replicate (8 * n) 255
bytes-ones zero = refl
bytes-ones (suc n) =
    let more : 8 * suc n ≡ suc (suc (suc (suc (suc (suc (suc (suc (8 * n)))))))) = omega arith in
    rw (more, bytes-ones n) refl
