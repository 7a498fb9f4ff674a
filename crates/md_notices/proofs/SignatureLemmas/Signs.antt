-- Magic numbers in a sector, and past the end of a device.
use Rattle.std.proofs.Common.{◌≡◌, ℕ, ◌+◌, ◌-◌, ◌*◌, ◌/◌, ◌%◌, ◌<◌, ◌≤◌, ◌==◌, List, [], ◌∷◌, length, take, drop, drop-drop, Bool, true, false, refl, ◌∙◌, sym, ap, arith}
use Rattle.std.proofs.lemmas.List.{drop-take, drop_all, take_all, take-take}
use Rattle.std.proofs.lemmas.Bool.{ne_eqb}
use Rattle.std.proofs.lemmas.Slice.Eq.{bytes_eq-Decides}
use Rattle.std.proofs.Math.Seq.{take-nil}
use Rattle.std.proofs.lemmas.Bool.Decides.{nat_tests}
use Rattle.std.specs.Str.{bytes_eq}
use Rattle.md_device.specs.Device.{held}
use Rattle.md_device.specs.Splice.{part}
use Rattle.md_notices.specs.Signatures.Magics.{Sign, has_sign, is_in_one_sector}

-- a part of a sector of the content
pub part_of_sector : (content : List ℕ) (sector at n : ℕ) → at + n ≤ 512 → part (held content sector 512) at n ≡ part content (512 * sector + at) n
unfolding part
part_of_sector content sector at n within =
    let ys : List ℕ = drop (512 * sector) content in
    let e : 512 ≡ at + (512 - at) = omega arith in
    let fits : n ≤ 512 - at = omega arith in
    ap (λ m. take n (drop at (take m ys))) e
    ∙ ap (take n) (drop-take at (512 - at) ys)
    ∙ take-take n (512 - at) (drop at ys) fits
    ∙ ap (take n) (drop-drop at (512 * sector) content)

pub part_past : (content : List ℕ) (at n : ℕ) → length content ≤ at → part content at n ≡ []
unfolding part
part_past content at n past = ap (take n) (drop_all at content past) ∙ take-nil n

pub record InSector (s : Sign) : Type 0 where
  pub some : 0 < length s.bytes
  pub ends : s.place % 512 + length s.bytes ≤ 512

pub in_sector : (s : Sign) → is_in_one_sector s ≡ true → InSector s
in_sector s h = record { some = grind (arith, nat_tests); ends = grind (arith, nat_tests) }

-- the sector where it stands shows it
pub in_its_sector : (content sector : List ℕ) (s : Sign) → is_in_one_sector s ≡ true → sector ≡ held content (s.place / 512) 512
    → bytes_eq (part sector (s.place % 512) (length s.bytes)) s.bytes ≡ has_sign content s
in_its_sector content sector s short is =
    let there : 512 * (s.place / 512) + s.place % 512 ≡ s.place = omega arith in
    ap (λ b. bytes_eq (part b (s.place % 512) (length s.bytes)) s.bytes) is
    ∙ ap (λ p. bytes_eq p s.bytes) (part_of_sector content (s.place / 512) (s.place % 512) (length s.bytes) (in_sector s short).ends)
    ∙ ap (λ p. bytes_eq (part content p (length s.bytes)) s.bytes) there

none_is : (bytes : List ℕ) → 0 < length bytes → bytes_eq [] bytes ≡ false
none_is [] some = absurd (omega (arith, some))
none_is (b ∷ bytes) some = refl

-- it does not stand past the end
pub not_past : (content : List ℕ) (s : Sign) → is_in_one_sector s ≡ true → length content ≤ 512 * (s.place / 512) → has_sign content s ≡ false
not_past content s short past =
    let far : length content ≤ s.place = omega arith in
    ap (λ p. bytes_eq p s.bytes) (part_past content s.place (length s.bytes) far) ∙ none_is s.bytes (in_sector s short).some

pub whole_sectors : (len n : ℕ) → len ≡ 512 * n → len / 512 ≡ n
whole_sectors len n e = omega arith

pub none_is_empty : (bytes : List ℕ) (r : Bool) → r ≡ (length bytes == 0) → r ≡ bytes_eq [] bytes
none_is_empty [] r e = e
none_is_empty (b ∷ bytes) r e = e ∙ ne_eqb (length (b ∷ bytes)) 0 (λ h. omega (arith, h))

false_unless : (b : Bool) → (b ≡ true → ⊥) → b ≡ false
false_unless true h = absurd (h refl)
false_unless false h = refl

-- bytes that are too few
pub too_few : (bytes : List ℕ) (place : ℕ) (wanted : List ℕ) → length (drop place bytes) < length wanted → bytes_eq (part bytes place (length wanted)) wanted ≡ false
unfolding part
too_few bytes place wanted few =
    let all : take (length wanted) (drop place bytes) ≡ drop place bytes = take_all (length wanted) (drop place bytes) (omega (arith, few)) in
    false_unless (bytes_eq (take (length wanted) (drop place bytes)) wanted)
    (λ e. let same : drop place bytes ≡ wanted = sym all ∙ (bytes_eq-Decides (take (length wanted) (drop place bytes)) wanted).0 e in
    let long = ap length same in omega (arith, few, long))
