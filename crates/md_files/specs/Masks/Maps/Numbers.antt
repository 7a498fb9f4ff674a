-- Numbers as a map writes them: "decimal, hexadecimal, or octal values, using the same syntax as integer constants in C++".
use Rattle.std.specs.Prelude.{ℕ, ◌^◌, ◌==◌, ◌||◌, ◌&&◌, Bool, false, nat_lt, List, length, drop, slice_index, Option, Some, None, if◌then◌else◌}
use Rattle.std.specs.List.{list_all}
use Rattle.std.specs.Char.{digit_value}
use Rattle.std.specs.Str.Parse.{digits_value}

-- one digit or more in the radix, and nothing else
abbrev pub is_numeral : ℕ → List ℕ → Bool
is_numeral radix digits = nat_lt 0 (length digits) && list_all (λ c. nat_lt (digit_value c) radix) digits

-- the number that digits write in the radix, where it is below 2^64
unfoldable pub numeral : ℕ → List ℕ → Option ℕ
numeral radix digits = if is_numeral radix digits && nat_lt (digits_value radix digits) (2 ^ 64) then Some (digits_value radix digits) else None

-- The field begins with 0x or 0X.
abbrev pub is_hexadecimal : List ℕ → Bool
is_hexadecimal field = slice_index field 0 == 48 && (slice_index field 1 == 120 || slice_index field 1 == 88)

-- the number that a field writes
unfoldable pub number_of : List ℕ → Option ℕ
number_of field = if is_hexadecimal field then numeral 16 (drop 2 field) else (if slice_index field 0 == 48 then numeral 8 field else numeral 10 field)

-- a positive decimal integer
abbrev pub is_positive : Option ℕ → Bool
is_positive None = false
is_positive (Some n) = nat_lt 0 n
