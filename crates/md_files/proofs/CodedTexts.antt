-- Texts in which no character hides.
use Rattle.std.proofs.Common.{◌≡◌, ℕ, Bool, true, false, not, ◌&&◌, ◌||◌, ◌==◌, List, [], ◌∷◌, ◌++◌, if◌then◌else◌, map, refl, ap, ◌∙◌, true≢false}
use Rattle.std.specs.List.{flat_map, list_any}
use Rattle.std.specs.Str.{chars, IsUtf8}
use lib.Utf8.{encodes, encode}
use Rattle.std.proofs.lemmas.Str.{encodes-chars}
use Rattle.std.proofs.lemmas.List.{flat_map_more}
use Rattle.std.proofs.lemmas.List.Concat.{flat_map-cons}
use Rattle.md_streams.specs.ShownNames.Shown.{is_hidden}
use Rattle.md_files.specs.Streams.CodedText.{code_text, coded, coded_char}

-- a character that does not hide
plain_char : (c : ℕ) → is_hidden c ≡ false → coded_char c ≡ encode c
plain_char c shown = ap (λ (h : Bool). if h && not (c == 10) then code_text c else encode c) shown

or_false_left : (a b : Bool) → (a || b) ≡ false → a ≡ false
or_false_left false b e = refl
or_false_left true b e = absurd (true≢false e)

or_false_right : (a b : Bool) → (a || b) ≡ false → b ≡ false
or_false_right false b e = e
or_false_right true b e = absurd (true≢false e)

plain_chars : (cs : List ℕ) → list_any is_hidden cs ≡ false → flat_map coded_char cs ≡ encodes cs
plain_chars [] shown = refl
plain_chars (c ∷ cs) shown =
    let first = plain_char c (or_false_left (is_hidden c) (list_any is_hidden cs) shown) in
    let rest = plain_chars cs (or_false_right (is_hidden c) (list_any is_hidden cs) shown) in
    flat_map-cons coded_char c cs ∙ rw (first, rest) refl

-- a text in which none hides
pub coded_plain : (text : List ℕ) → IsUtf8 text → list_any is_hidden (chars text) ≡ false → coded text ≡ text
coded_plain text utf8 shown = plain_chars (chars text) shown ∙ encodes-chars text utf8

-- the codes of one character more
pub coded_more : (cs : List ℕ) (c : ℕ) → flat_map coded_char cs ++ coded_char c ≡ flat_map coded_char (cs ++ c ∷ [])
coded_more cs c = flat_map_more coded_char [] cs c

pub same_items : (xs : List ℕ) → xs ≡ map (λ c. c) xs
same_items [] = refl
same_items (x ∷ xs) = ap (λ (ys : List ℕ). x ∷ ys) (same_items xs)
