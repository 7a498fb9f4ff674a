-- The image that counts as a device of the array, as `--data-of` says it.
use Rattle.std.specs.Prelude.{ℕ, List, length, Option, Some, None, position, unwrap_or, if◌then◌else◌}
use Rattle.std.specs.Option.{option_zip}
use Rattle.std.specs.Path.{rsplit_once}
use Rattle.std.specs.Str.{bytes_eq}
use Rattle.clap.specs.Words.{Text}
use Rattle.md_words.specs.Asks.{Ask, compares}
use Rattle.md_words.specs.Numbers.{fits_bits, number_or_zero}
use Rattle.md_read_commands.specs.declared.stand_in.put.StandIn.{StandIn}

-- the number that a text says in decimal, if it is one of 32 bits
abbrev pub said_number : Text → Option ℕ
said_number text = if fits_bits 32 text then Some (number_or_zero 32 text) else None

-- the index of the first image of the name, and the number
abbrev pub image_and_number : List Text → Option (Text × Text) → Option (ℕ × ℕ)
image_and_number images None = None
image_and_number images (Some parts) =
    option_zip (position (λ image. bytes_eq image parts.0) images) (said_number parts.1)

-- What `IMAGE=NUMBER` says: the name stands before the last `=`, and the number after it. The index is past the images where it says
-- no image or no number.
abbrev pub named_in : List Text → Text → ℕ × ℕ
named_in images text = unwrap_or (image_and_number images (rsplit_once 61 text)) (length images, 0)

-- The image is compared with the members in sync where the command compares these, and lacks all else.
abbrev pub stand_in_by : Ask → List Text → Text → StandIn
stand_in_by ask images text =
    record { index = (named_in images text).0; number = (named_in images text).1; compared = compares ask }
