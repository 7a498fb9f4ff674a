-- The values of a report, as the code makes them, and texts of numbers in a row.
use Rattle.std.proofs.Common.{◌≡◌, ℕ, suc, ◌+◌, ◌-◌, ◌≤◌, not, ◌==◌, List, [], ◌∷◌, ◌++◌, length, map, take, drop, append-nil, ap, ◌∙◌, refl, sym, arith}
use Rattle.std.specs.List.{take_while, prefix_len, flat_map, range_with_len}
use Rattle.std.proofs.lemmas.Grind.{flat_map-append}
use Rattle.std.proofs.lemmas.List.{take_all, take-map, length-drop}
use Rattle.std.proofs.lemmas.List.Folds.{length-prefix_len}
use Rattle.std.proofs.lemmas.List.FromFn.{take-map-range_with_len}
use Rattle.md_bitmap.proofs.Numbers.{range_push}
use Rattle.md_examine.specs.Lines.{hex_text, hex8_text, shown_byte, name_text}
use Rattle.md_examine.specs.SuperblockReport.{array_state, state_letter}

pub hex_is : (n z : ℕ) (digits : List ℕ) → digits ≡ hex8_text n → length digits ≡ 8 → z ≡ length (take_while (λ d. d == 48) (take 7 digits)) → take (8 - z) (drop z digits) ≡ hex_text n
unfolding hex_text
hex_is n z digits e long zeros =
    take_all (8 - z) (drop z digits) (omega (arith, length-drop z digits)) ∙ rw (zeros, e) refl

pub name_is : (name all : List ℕ) (len : ℕ) → all ≡ map shown_byte name → len ≡ length (take_while (λ b. not (b == 0)) name) → take len all ≡ name_text name
unfolding name_text
name_is name all len e n =
    let front : len ≡ prefix_len (λ b. not (b == 0)) name = n ∙ length-prefix_len (λ b. not (b == 0)) name in
    rw (e, front) (take-map shown_byte (prefix_len (λ b. not (b == 0)) name) name)

pub state_is : (roles all : List ℕ) (raid_disks : ℕ) → raid_disks ≤ 32 → all ≡ array_state roles 32 → take raid_disks all ≡ array_state roles raid_disks
unfolding array_state
state_is roles all raid_disks few e = ap (take raid_disks) e ∙ take-map-range_with_len (state_letter roles) 0 32 raid_disks few

-- the text of one more number
pub flat_map_next : (f : ℕ → List ℕ) (k : ℕ) → flat_map f (range_with_len 0 k) ++ f k ≡ flat_map f (range_with_len 0 (k + 1))
flat_map_next f k =
    let front = flat_map f (range_with_len 0 k) in
    let same : 0 + k ≡ k = omega arith in
    let next : suc k ≡ k + 1 = omega arith in
    let more : flat_map f (range_with_len 0 (suc k)) ≡ front ++ f (0 + k) =
    ap (flat_map f) (range_push 0 k) ∙ flat_map-append f (range_with_len 0 k) ((0 + k) ∷ []) ∙ ap (λ (t : List ℕ). front ++ t) (append-nil (f (0 + k))) in
    ap (λ (n : ℕ). front ++ f n) (sym same) ∙ sym more ∙ ap (λ (n : ℕ). flat_map f (range_with_len 0 n)) next
