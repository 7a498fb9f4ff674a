-- Labelled lines and the values in them: the form of the reports is this project's own.
use Rattle.std.specs.Prelude.{ℕ, ◌-◌, ◌==◌, not, ◌&&◌, nat_le, if◌then◌else◌, List, [], ◌∷◌, ◌++◌, length, map, drop, take, replicate, codes, decimal}
use Rattle.std.specs.List.{take_while}
use Rattle.std.specs.Int.{w32, to_be_bytes}
use Rattle.hex.specs.Hex.{encode_lower}

-- a label, filled with spaces to 15 columns
abbrev pub column : List ℕ → List ℕ
column label = label ++ replicate (15 - length label) 32

-- a labelled line
unfoldable pub line_text : List ℕ → List ℕ → List ℕ
line_text label value = label ++ codes " : " ++ value ++ 10 ∷ []

-- a text that ends with column n or past it, with spaces in front
unfoldable pub right_aligned : ℕ → List ℕ → List ℕ
right_aligned n text = replicate (n - length text) 32 ++ text

-- eight hex digits, of a number below 2 ^ 32
unfoldable pub hex8_text : ℕ → List ℕ
hex8_text n = encode_lower (to_be_bytes w32 n)

-- The number's hex digits without the zeros in front, but for the last.
unfoldable pub hex_text : ℕ → List ℕ
hex_text n = drop (length (take_while (λ d. d == 48) (take 7 (hex8_text n)))) (hex8_text n)

abbrev pub sectors_text : ℕ → List ℕ
sectors_text n = decimal n ++ codes " sectors"

-- a byte of a name, `?` where it can't be shown
abbrev pub shown_byte : ℕ → ℕ
shown_byte b = if nat_le 0x20 b && nat_le b 0x7e then b else 63

-- a name, up to its first zero byte
unfoldable pub name_text : List ℕ → List ℕ
name_text name = map shown_byte (take_while (λ b. not (b == 0)) name)
