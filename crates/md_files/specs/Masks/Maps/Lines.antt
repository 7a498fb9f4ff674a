-- The text of a map as lines and fields, as ddrescue's manual has it ("Mapfile structure").
use Rattle.std.specs.Prelude.{ℕ, ◌==◌, ◌||◌, ◌&&◌, Bool, not, nat_lt, nat_le, List, length, slice_index}
use Rattle.std.specs.List.{slice_split, filter, take_while}

-- white space, as `isspace` of C has it
abbrev pub is_space : ℕ → Bool
is_space b = b == 32 || (nat_le 9 b && nat_le b 13)

abbrev pub is_line_feed : ℕ → Bool
is_line_feed b = b == 10

-- what line feeds end; the last one is what follows the last line feed, which is empty in a whole text
unfoldable pub lines_of : List ℕ → List (List ℕ)
lines_of text = slice_split is_line_feed text

abbrev pub is_word : List ℕ → Bool
is_word w = nat_lt 0 (length w)

-- a '#' at the start of a line or after white space begins a comment
abbrev pub is_no_comment : List ℕ → Bool
is_no_comment w = not (slice_index w 0 == 35)

-- the words of a line, up to a comment
unfoldable pub fields_of : List ℕ → List (List ℕ)
fields_of line = take_while is_no_comment (filter is_word (slice_split is_space line))
