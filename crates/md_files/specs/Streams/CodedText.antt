-- Text in which no character hides.
use Rattle.std.specs.Prelude.{ℕ, ◌/◌, ◌%◌, ◌==◌, ◌&&◌, not, List, [], ◌∷◌, chars, if◌then◌else◌}
use Rattle.std.specs.Char.{digit_char, encode_utf8}
use Rattle.std.specs.List.{flat_map}
use Rattle.md_streams.specs.ShownNames.Shown.{is_hidden}

-- a backslash, u, and four hex digits
abbrev pub code_text : ℕ → List ℕ
code_text c = 92 ∷ 117 ∷ digit_char (c / 4096 % 16) ∷ digit_char (c / 256 % 16) ∷ digit_char (c / 16 % 16) ∷ digit_char (c % 16) ∷ []

-- Of what hides the line feed alone stands as it is.
abbrev pub coded_char : ℕ → List ℕ
coded_char c = if is_hidden c && not (c == 10) then code_text c else encode_utf8 c

abbrev pub coded : List ℕ → List ℕ
coded text = flat_map coded_char (chars text)
