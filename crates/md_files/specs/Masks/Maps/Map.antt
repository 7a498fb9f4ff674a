-- What a map says.
use Rattle.std.specs.Prelude.{◌≡◌, ◌≢◌, ℕ, ◌+◌, ◌/◌, ◌<◌, ◌≤◌, ◌⊎◌, ◌↔◌, ⊤, Bool, false, nat_lt, List, [], ◌∷◌, ◌++◌, length, map, sum_by, Option, Some, None}
use Rattle.std.specs.List.{filter}
use Rattle.std.specs.Option.{option_map}
use Rattle.md_badblocks.specs.declared.run.Run.{Run}
use Rattle.md_badblocks.specs.Runs.{IsBad}
use Rattle.md_files.specs.Masks.Maps.Lines.{lines_of, fields_of}
use Rattle.md_files.specs.Masks.Maps.Rows.{IsStatusRow, IsBlockRow, line_fault_of}
use Rattle.md_files.specs.declared.masks.maps.line.Block.{Block}
use Rattle.md_files.specs.declared.masks.maps.fault.LineFault.{LineFault}
use Rattle.md_files.specs.declared.masks.maps.fault.LineFault.TheVariants.{Cut}
use Rattle.md_files.specs.declared.masks.maps.fault.MapFault.{MapFault}
use Rattle.md_files.specs.declared.masks.maps.fault.MapFault.TheVariants.{Line, NoStatusLine, EndsAt, NoMemory}

-- a line says something: it has fields
abbrev pub is_row : List (List ℕ) → Bool
is_row row = nat_lt 0 (length row)

-- what lines say: the fields of each that has some
unfoldable pub rows_of : List (List ℕ) → List (List (List ℕ))
rows_of lines = filter is_row (map fields_of lines)

-- the rows are those of the blocks, which follow one another from `from` on, up to `size` at most
abbrev pub AreBlocks : ℕ → ℕ → List (List (List ℕ)) → List Block → Type 0
AreBlocks size from [] [] = ⊤
AreBlocks size from (row ∷ rows) (block ∷ blocks) =
    IsBlockRow row block × (block.start ≡ from) × (from + block.len ≤ size) × AreBlocks size (from + block.len) rows blocks
AreBlocks size from [] (block ∷ blocks) = ⊥
AreBlocks size from (row ∷ rows) [] = ⊥

-- what the rows say: nothing yet, or the status line and then the blocks
abbrev pub IsSaid : ℕ → List (List (List ℕ)) → Option (List Block) → Type 0
IsSaid size [] None = ⊤
IsSaid size (row ∷ rows) (Some blocks) = IsStatusRow row × AreBlocks size 0 rows blocks
IsSaid size [] (Some blocks) = ⊥
IsSaid size (row ∷ rows) None = ⊥

-- where blocks from 0 on end
abbrev pub end_of_blocks : List Block → ℕ
end_of_blocks blocks = sum_by (λ b. b.len) blocks

-- the text is a map of `size` bytes in these blocks: each line is ended by a line feed, the first that says something is the
-- status line, the others are the blocks, and these follow one another from 0 to the size
pub record IsMap (size : ℕ) (text : List ℕ) (blocks : List Block) : Type 0 where
  pub lines : List (List ℕ)
  pub whole : lines_of text ≡ lines ++ [] ∷ []
  pub said : IsSaid size (rows_of lines) (Some blocks)
  pub full : end_of_blocks blocks ≡ size

-- one of the bytes from a place on is in the sector
abbrev pub HasByte : ℕ → ℕ → ℕ → Type 0
HasByte start len sector = (k : ℕ) × (start ≤ k) × (k < start + len) × (k / 512 ≡ sector)

-- the block is not rescued, and a byte of it is in the sector
abbrev pub IsLostIn : Block → ℕ → Type 0
IsLostIn block sector = (block.rescued ≡ false) × HasByte block.start block.len sector

-- a byte of the sector is in a block that is not rescued
abbrev pub IsMissing : List Block → ℕ → Type 0
IsMissing [] sector = ⊥
IsMissing (block ∷ blocks) sector = IsLostIn block sector ⊎ IsMissing blocks sector

-- what a map is read as: the sectors of which it lacks a byte
pub record IsMapReadAs (size : ℕ) (text : List ℕ) (missing : List Run) : Type 0 where
  pub blocks : List Block
  pub map : IsMap size text blocks
  pub lacks : (sector : ℕ) → IsBad missing sector ↔ IsMissing blocks sector

-- the fault of a line, by what those before it say, and what follows it: nothing follows a line that no line feed ends
abbrev pub IsFaultOf : ℕ → Option (List Block) → List ℕ → List (List ℕ) → LineFault → Type 0
IsFaultOf size before line [] fault = (line ≢ []) × (fault ≡ Cut)
IsFaultOf size before line (next ∷ rest) fault = line_fault_of size (option_map end_of_blocks before) (fields_of line) ≡ Some fault

-- the line of this number has the fault, and those before it have none
pub record IsFirstLineFault (size : ℕ) (text : List ℕ) (number : ℕ) (fault : LineFault) : Type 0 where
  pub lines : List (List ℕ)
  pub line : List ℕ
  pub rest : List (List ℕ)
  pub whole : lines_of text ≡ lines ++ line ∷ rest
  pub numbered : number ≡ length lines + 1
  pub before : Option (List Block)
  pub said : IsSaid size (rows_of lines) before
  pub stands : IsFaultOf size before line rest fault

-- no line has a fault, and this is what they say
pub record IsFaultless (size : ℕ) (text : List ℕ) (said : Option (List Block)) : Type 0 where
  pub lines : List (List ℕ)
  pub whole : lines_of text ≡ lines ++ [] ∷ []
  pub rows : IsSaid size (rows_of lines) said

-- why a text is refused as a map of `size` bytes; NoMemory can come where it is one
abbrev pub IsMapRefused : ℕ → List ℕ → MapFault → Type 0
IsMapRefused size text (Line number fault) = IsFirstLineFault size text number fault
IsMapRefused size text NoStatusLine = IsFaultless size text None
IsMapRefused size text (EndsAt e) = (blocks : List Block) × IsFaultless size text (Some blocks) × (end_of_blocks blocks ≡ e) × (e < size)
IsMapRefused size text NoMemory = (blocks : List Block) × IsMap size text blocks
