-- Fields of a block of bytes as they stand, a line each.
use Rattle.std.specs.Prelude.{ℕ, ◌%◌, ◌^◌, List, ◌++◌, codes, decimal}
use Rattle.std.specs.Fmt.{signed_decimal}
use Rattle.std.specs.Int.{w32, cast_signed}
use Rattle.uuid.specs.Text.{hyphenated_text, lower}
use Rattle.md_format.specs.Fields.{number_at, bytes_at}
use Rattle.md_examine.specs.Lines.{column, line_text, hex_text, hex8_text, name_text}
use Rattle.md_raw_reports.specs.declared.fields.Field.{Field}
use Rattle.md_raw_reports.specs.declared.fields.Kind.{Kind}
use Rattle.md_raw_reports.specs.declared.fields.Kind.TheVariants as kind

-- the value of a field that starts at this byte, and its unit
abbrev pub value_text : List ℕ → Kind → ℕ → List ℕ → List ℕ
value_text bytes kind.Byte at unit = decimal (number_at 1 at bytes) ++ unit
value_text bytes kind.Half at unit = decimal (number_at 2 at bytes) ++ unit
value_text bytes kind.Word at unit = decimal (number_at 4 at bytes) ++ unit
value_text bytes kind.Long at unit = decimal (number_at 8 at bytes) ++ unit
value_text bytes kind.Signed at unit = signed_decimal (cast_signed w32 (number_at 4 at bytes)) ++ unit
value_text bytes kind.Time at unit = decimal (number_at 8 at bytes % 2 ^ 40) ++ unit
value_text bytes kind.HexByte at unit = codes "0x" ++ hex_text (number_at 1 at bytes)
value_text bytes kind.Hex at unit = codes "0x" ++ hex_text (number_at 4 at bytes)
value_text bytes kind.HexDigits at unit = hex8_text (number_at 4 at bytes)
value_text bytes kind.Id at unit = hyphenated_text lower (bytes_at 16 at bytes)
value_text bytes kind.Name at unit = name_text (bytes_at 32 at bytes)

abbrev pub field_text : List ℕ → Field → List ℕ
field_text bytes field = line_text field.label.now (value_text bytes field.kind field.at field.unit.now)

-- a row of a report's table: a field by its label
pub record Row : Type 0 where
  pub label : List ℕ
  pub kind : Kind
  pub at : ℕ
  pub unit : List ℕ

abbrev pub row : List ℕ → Kind → ℕ → List ℕ → Row
row label kind at unit = record { label = label; kind = kind; at = at; unit = unit }

abbrev pub row_text : List ℕ → Row → List ℕ
row_text bytes r = line_text (column r.label) (value_text bytes r.kind r.at r.unit)
