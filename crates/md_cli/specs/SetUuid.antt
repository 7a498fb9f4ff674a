-- The UUID of an array that `create` makes.
use Rattle.std.specs.Prelude.{ℕ, ◌+◌, ◌/◌, ◌==◌, ◌&&◌, Bool, List, length, slice_index, Option, Some, None, option_map, if◌then◌else◌}
use Rattle.clap.specs.Words.{Text}
use Rattle.uuid.specs.Parts.{with_variant, with_version}
use Rattle.uuid.specs.Text.{by_index, parsed}
use Rattle.uuid.specs.declared.Variant.TheVariants.{RFC4122}
use Rattle.uuid.specs.declared.Version.TheVariants.{Random}

-- whether a text stands as mdadm writes a UUID: four groups of eight digits, with colons between them
abbrev pub has_colons : Text → Bool
has_colons text =
    (length text == 35)
    && (slice_index text 8 == 58) && (slice_index text 17 == 58) && (slice_index text 26 == 58)

-- the digits that stand between the colons
abbrev pub without_colons : Text → Text
without_colons text = by_index 32 (λ place. slice_index text (place + place / 8))

-- the UUID that a text says, in a form of RFC 9562 or as mdadm writes it
abbrev pub uuid_of_text : Text → Option (List ℕ)
uuid_of_text text = if has_colons text then parsed (without_colons text) else parsed text

-- version 4 of RFC 9562: random bytes in which the bits of the version and the variant are set
abbrev pub random_uuid : List ℕ → List ℕ
random_uuid bytes = with_version (with_variant bytes RFC4122) Random

-- the UUID of the array: the one that is named, and else one that is made of random bytes, where there are any
abbrev pub set_uuid_of : Option Text → Option (List ℕ) → Option (List ℕ)
set_uuid_of (Some text) random = uuid_of_text text
set_uuid_of None random = option_map random_uuid random
