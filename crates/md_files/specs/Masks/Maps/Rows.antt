-- What a line of a map says, by its fields.
use Rattle.std.specs.Prelude.{◌≡◌, ⊤, ℕ, ◌+◌, ◌≤◌, ◌==◌, ◌||◌, ◌&&◌, Bool, true, false, not, nat_lt, List, [], ◌∷◌, length, slice_index, Option, Some, None, is_some, if◌then◌else◌}
use Rattle.std.specs.Option.{option_to_list}
use Rattle.md_files.specs.Masks.Maps.Numbers.{number_of, numeral, is_positive}
use Rattle.md_files.specs.declared.masks.maps.line.Block.{Block}
use Rattle.md_files.specs.declared.masks.maps.line.Line.{Line}
use Rattle.md_files.specs.declared.masks.maps.line.Line.TheVariants.{Blank, Status as StatusLine, Data}
use Rattle.md_files.specs.declared.masks.maps.fault.LineFault.{LineFault}
use Rattle.md_files.specs.declared.masks.maps.fault.LineFault.TheVariants.{Fields, Number, Status, Overlap, Gap, PastEnd}

-- the statuses of blocks that are not rescued: ? * / -
abbrev pub is_failed_status : ℕ → Bool
is_failed_status c = c == 63 || (c == 42 || (c == 47 || c == 45))

-- whether the blocks of a status are rescued, which is the status +
unfoldable pub rescued_of : List ℕ → Option Bool
rescued_of field = if not (length field == 1) then None else (if slice_index field 0 == 43 then Some true else (if is_failed_status (slice_index field 0) then Some false else None))

-- a current status, which may also be F or G
unfoldable pub is_current_status : List ℕ → Bool
is_current_status field = length field == 1 && (slice_index field 0 == 43 || (is_failed_status (slice_index field 0) || (slice_index field 0 == 70 || slice_index field 0 == 71)))

-- the pass that a status line says: where an older ddrescue wrote none, the first
abbrev pub pass_of : Option (List ℕ) → Option ℕ
pass_of None = Some 1
pass_of (Some pass) = numeral 10 pass

-- the status line: the current position, the current status and the current pass, which an older ddrescue left out
abbrev pub IsStatusRow : List (List ℕ) → Type 0
IsStatusRow row = (position : List ℕ) × (status : List ℕ) × (pass : Option (List ℕ)) × (row ≡ position ∷ status ∷ option_to_list pass)
    × (is_some (number_of position) ≡ true) × (is_current_status status ≡ true) × (is_positive (pass_of pass) ≡ true)

-- the line of a block: its position, its size and its status
abbrev pub IsBlockRow : List (List ℕ) → Block → Type 0
IsBlockRow row block = (position : List ℕ) × (size : List ℕ) × (status : List ℕ) × (row ≡ position ∷ size ∷ status ∷ [])
    × (number_of position ≡ Some block.start) × (number_of size ≡ Some block.len) × (rescued_of status ≡ Some block.rescued)

-- what a line is, where the blocks before it end at `end`, if the status line has been
abbrev pub IsLine : ℕ → Option ℕ → List (List ℕ) → Line → Type 0
IsLine size end row Blank = row ≡ []
IsLine size end row StatusLine = (end ≡ None) × IsStatusRow row
IsLine size end row (Data block) = (end ≡ Some block.start) × IsBlockRow row block × (block.start + block.len ≤ size)

-- the block that a line says, if it says one, ends there at most
abbrev pub BlockEndsBy : ℕ → Line → Type 0
BlockEndsBy limit Blank = ⊤
BlockEndsBy limit StatusLine = ⊤
BlockEndsBy limit (Data block) = block.start + block.len ≤ limit

-- the first fault of a block's place, where the one before ends at `from`
abbrev pub place_fault : ℕ → ℕ → ℕ → ℕ → Option LineFault
place_fault size from start len =
    if nat_lt start from then Some Overlap else (if nat_lt from start then Some Gap else (if nat_lt size (start + len) then Some PastEnd else None))

-- the first fault of a block
abbrev pub block_fault : ℕ → ℕ → Option ℕ → Option ℕ → Option Bool → Option LineFault
block_fault size from None len rescued = Some Number
block_fault size from (Some start) None rescued = Some Number
block_fault size from (Some start) (Some len) None = Some Status
block_fault size from (Some start) (Some len) (Some rescued) = place_fault size from start len

-- the first fault of a status line
abbrev pub status_fault : Option ℕ → Bool → Option ℕ → Option LineFault
status_fault position status pass =
    if not (is_some position && is_positive pass) then Some Number else (if not status then Some Status else None)

-- the first fault of a line that a line feed ends
unfoldable pub line_fault_of : ℕ → Option ℕ → List (List ℕ) → Option LineFault
line_fault_of size end [] = None
line_fault_of size None (position ∷ status ∷ []) = status_fault (number_of position) (is_current_status status) (pass_of None)
line_fault_of size None (position ∷ status ∷ pass ∷ []) = status_fault (number_of position) (is_current_status status) (pass_of (Some pass))
line_fault_of size (Some from) (position ∷ len ∷ status ∷ []) = block_fault size from (number_of position) (number_of len) (rescued_of status)
line_fault_of size end (field ∷ fields) = Some Fields
