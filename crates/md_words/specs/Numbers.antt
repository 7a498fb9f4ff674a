-- Numbers and sizes that words say.
use Rattle.std.specs.Prelude.{ℕ, ◌*◌, ◌-◌, ◌^◌, ◌==◌, ◌&&◌, Bool, Option, Some, None, length, nat_lt, slice_index, take, if◌then◌else◌}
use Rattle.std.specs.List.{list_all}
use Rattle.std.specs.Str.Parse.{digits_value, without_leading_plus}
use Rattle.std.specs.Char.{digit_value}
use Rattle.clap.specs.Words.{Text}

-- whether the text is a number: one decimal digit or more, and nothing else
abbrev pub is_number : Text → Bool
is_number text = nat_lt 0 (length text) && list_all (λ c. nat_lt (digit_value c) 10) text

-- the number that a text says, which a plus may precede; 0 for one that is no number of so many bits, which the parser
-- takes for no option
abbrev pub number_or_zero : ℕ → Text → ℕ
number_or_zero bits text =
    let digits = without_leading_plus text in
    if is_number digits && nat_lt (digits_value 10 digits) (2 ^ bits) then digits_value 10 digits else 0

abbrev pub fits_bits : ℕ → Text → Bool
fits_bits bits text =
    let digits = without_leading_plus text in
    is_number digits && nat_lt (digits_value 10 digits) (2 ^ bits)

-- whether a text ends in this letter
abbrev pub ends_in : ℕ → Text → Bool
ends_in letter text = nat_lt 0 (length text) && (slice_index text (length text - 1) == letter)

-- what stands before it, where one does
abbrev pub before : ℕ → Text → Option Text
before letter text = if ends_in letter text then Some (take (length text - 1) text) else None

abbrev pub number_or : Option Text → ℕ → Text × ℕ → Text × ℕ
number_or None kib size = size
number_or (Some number) kib size = (number, kib)

-- A size by its number and its unit, in units of which a KiB has this many. As mdadm(8) has it, the suffix is K, M, G or T; without
-- one the number stands for itself.
abbrev pub number_and_unit : ℕ → Text → Text × ℕ
number_and_unit kib text =
    number_or (before 75 text) kib (number_or (before 77 text) (1024 * kib)
    (number_or (before 71 text) (1024 ^ 2 * kib) (number_or (before 84 text) (1024 ^ 3 * kib) (text, 1))))

-- a number of units altogether, which fit so many bits, if the text is a number
abbrev pub total_of : ℕ → Text × ℕ → Option ℕ
total_of bits size =
    if fits_bits 64 size.0 && nat_lt (number_or_zero 64 size.0 * size.1) (2 ^ bits)
    then Some (number_or_zero 64 size.0 * size.1) else None

-- the KiB of a size, if the text says one: a plain number is so many KiB
unfoldable pub kib_in : ℕ → Text → Option ℕ
kib_in bits text = total_of bits (number_and_unit 1 text)

-- the sectors of 512 bytes that a text says: a plain number is so many sectors
unfoldable pub sectors_in : Text → Option ℕ
sectors_in text = total_of 64 (number_and_unit 2 text)
