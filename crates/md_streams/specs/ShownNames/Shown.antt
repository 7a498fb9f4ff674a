-- How a name is shown.
use Rattle.std.specs.Prelude.{ℕ, ◌/◌, ◌%◌, ◌==◌, Bool, ◌&&◌, ◌||◌, List, [], ◌∷◌, ◌++◌, chars, codes, nat_le, nat_lt, if◌then◌else◌}
use Rattle.std.specs.Char.{digit_char}
use Rattle.std.specs.List.{flat_map, list_any}

-- Characters that are not shown as they are: control characters (Unicode's category Cc), LINE and PARAGRAPH SEPARATOR, and those with
-- the property Bidi_Control, which change the direction in which text is shown.
abbrev pub is_hidden : ℕ → Bool
is_hidden c =
    nat_lt c 0x20 || nat_le 0x7f c && nat_le c 0x9f || c == 0x61c || c == 0x200e || c == 0x200f
    || nat_le 0x2028 c && nat_le c 0x202e || nat_le 0x2066 c && nat_le c 0x2069

-- what stands for a byte between bash's $' and '
abbrev pub byte_text : ℕ → List ℕ
byte_text b =
    if b == 92 || b == 39 then 92 ∷ b ∷ []  -- a backslash, and an apostrophe
    else if nat_lt b 0x20 || nat_lt 0x7e b then 92 ∷ 120 ∷ digit_char (b / 16) ∷ digit_char (b % 16) ∷ []
    else b ∷ []

-- a word of bash, in ASCII, for these bytes
abbrev pub quoted_text : List ℕ → List ℕ
quoted_text name = codes "$'" ++ flat_map byte_text name ++ codes "'"

-- A name in which no character hides is shown as it stands.
unfoldable pub shown : List ℕ → List ℕ
shown name = if list_any is_hidden (chars name) then quoted_text name else name
