-- Fields of a block of bytes as they stand: each a name and a value.
use Rattle.std.specs.Prelude.{ℕ, ◌%◌, ◌^◌, List}
use Rattle.std.specs.Int.{w32, cast_signed}
use Rattle.uuid.specs.Text.{hyphenated_text, lower}
use Rattle.serde_json.specs.Data.{Data, string}
use Rattle.md_format.specs.Fields.{number_at, bytes_at}
use Rattle.md_examine.specs.Lines.{hex8_text, name_text}
use Rattle.md_raw_reports.specs.declared.fields.Field.{Field as TableField}
use Rattle.md_raw_reports.specs.declared.fields.Kind.{Kind}
use Rattle.md_raw_reports.specs.declared.fields.Kind.TheVariants as kind
use Rattle.md_report.specs.AsJson.Objects.{Field, field, signed, whole}

-- the value of a field that starts at this byte
abbrev pub value_of : List ℕ → Kind → ℕ → Data
value_of bytes kind.Byte at = whole (number_at 1 at bytes)
value_of bytes kind.Half at = whole (number_at 2 at bytes)
value_of bytes kind.Word at = whole (number_at 4 at bytes)
value_of bytes kind.Long at = whole (number_at 8 at bytes)
value_of bytes kind.Signed at = signed (cast_signed w32 (number_at 4 at bytes))
value_of bytes kind.Time at = whole (number_at 8 at bytes % 2 ^ 40)
value_of bytes kind.HexByte at = whole (number_at 1 at bytes)
value_of bytes kind.Hex at = whole (number_at 4 at bytes)
value_of bytes kind.HexDigits at = string (hex8_text (number_at 4 at bytes))
value_of bytes kind.Id at = string (hyphenated_text lower (bytes_at 16 at bytes))
value_of bytes kind.Name at = string (name_text (bytes_at 32 at bytes))

-- a field of the program's table
abbrev pub table_field : List ℕ → TableField → Field
table_field bytes f = field f.name.now (value_of bytes f.kind f.at)

-- a named_row of an object's table
pub record NamedRow : Type 0 where
  pub name : List ℕ
  pub kind : Kind
  pub at : ℕ

abbrev pub named_row : List ℕ → Kind → ℕ → NamedRow
named_row name kind at = record { name = name; kind = kind; at = at }

abbrev pub row_field : List ℕ → NamedRow → Field
row_field bytes r = field r.name (value_of bytes r.kind r.at)
