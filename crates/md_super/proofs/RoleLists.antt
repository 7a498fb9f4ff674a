-- The list of roles.
use Rattle.std.proofs.Common.{◌≡◌, ℕ, zero, suc, ◌+◌, ◌*◌, ◌^◌, ◌<◌, List, [], ◌∷◌, All, length, get_or, refl, ◌∙◌, arith}
use Rattle.std.specs.List.{flat_map}
use Rattle.std.proofs.lemmas.List.{ext_get_or}
use Rattle.std.proofs.lemmas.List.Elements.{All-head, All-tail}
use Rattle.std.proofs.lemmas.List.FromFn.{length-map-range_with_len, get_or-map-range_with_len}
use Rattle.byteorder.specs.Endian.{little_bytes}
use Rattle.md_format.specs.Fields.{number_at, bytes_at}
use Rattle.md_format.proofs.Parts.{number_in}
use Rattle.md_format.proofs.Written.{number_at-behind, number_at-little_bytes}
use Rattle.md_super.specs.Format.{roles_in}

-- a number of a list of numbers of two bytes
number_of_two : (xs : List ℕ) (k d : ℕ) → All (λ x. x < 2 ^ 16) xs → k < length xs → number_at 2 (2 * k) (flat_map (little_bytes 2) xs) ≡ get_or xs k d
number_of_two [] k d fit h = absurd (omega (arith, h))
number_of_two (x ∷ xs) zero d fit h = number_at-little_bytes 2 x (flat_map (little_bytes 2) xs) (All-head (λ y. y < 2 ^ 16) x xs fit)
number_of_two (x ∷ xs) (suc k) d fit h =
    number_at-behind 2 (2 * suc k) (2 * k) (little_bytes 2 x) (flat_map (little_bytes 2) xs) (omega arith)
    ∙ number_of_two xs k d (All-tail (λ y. y < 2 ^ 16) x xs fit) (omega (arith, h))

pub length-flat_map_two : (xs : List ℕ) → length (flat_map (little_bytes 2) xs) ≡ 2 * length xs
length-flat_map_two [] = refl
length-flat_map_two (x ∷ xs) = let rest = length-flat_map_two xs in omega arith

pub length-roles_in : (count : ℕ) (bytes : List ℕ) → length (roles_in count bytes) ≡ count
unfolding roles_in
length-roles_in count bytes = length-map-range_with_len (λ i. number_at 2 (256 + 2 * i) bytes) 0 count

-- the roles read back
pub roles_read_back : (roles bytes : List ℕ) → All (λ role. role < 2 ^ 16) roles → bytes_at (2 * length roles) 256 bytes ≡ flat_map (little_bytes 2) roles → roles_in (length roles) bytes ≡ roles
unfolding roles_in
roles_read_back roles bytes fit e =
    let role : ℕ → ℕ = λ i. number_at 2 (256 + 2 * i) bytes in
    let long = length-map-range_with_len role 0 (length roles) in
    ext_get_or 0 _ roles long (λ i h.
    let within : i < length roles = omega (arith, h, long) in
    get_or-map-range_with_len role 0 (length roles) i i 0 within (omega arith)
    ∙ number_in 2 256 (2 * length roles) (2 * i) bytes (flat_map (little_bytes 2) roles) e (omega (arith, within))
    ∙ number_of_two roles i 0 fit within)
