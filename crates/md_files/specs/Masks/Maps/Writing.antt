-- The map that is written for an image of which these sectors are lacking, and of which those before a place were not tried.
use Rattle.std.specs.Prelude.{◌≡◌, ◌↔◌, ◌<◌, ◌≤◌, ℕ, ◌+◌, ◌-◌, ◌*◌, ◌^◌, Bool, true, false, List, [], ◌∷◌, ◌++◌, min, nat_lt, codes, if◌then◌else◌}
use Rattle.std.specs.List.{flat_map}
use Rattle.std.specs.Fmt.{digits, padded_integral, format_spec}
use Rattle.md_badblocks.specs.Runs.{IsBad, IsCanonical}
use Rattle.md_badblocks.specs.declared.run.Run.{Run}
use Rattle.md_files.specs.declared.masks.maps.line.Block.{Block}

abbrev pub block : ℕ → ℕ → Bool → Block
block start len rescued = record { start = start; len = len; rescued = rescued }

-- the bytes from one place up to another, which are rescued
abbrev pub rescued_between : ℕ → ℕ → List Block
rescued_between from to = if nat_lt from to then block from (to - from) true ∷ [] else []

-- the blocks from `from` on: the bytes of the runs are not rescued, and all between are
abbrev pub blocks_from : ℕ → ℕ → List Run → List Block
blocks_from size from [] = rescued_between from size
blocks_from size from (run ∷ runs) = let start = 512 * run.start in let end = min (512 * (run.start + run.len)) size in
    rescued_between from start ++ (block start (end - start) false ∷ blocks_from size end runs)

-- a number in hexadecimal, with zeros up to eight digits
unfoldable pub hexadecimal : ℕ → List ℕ
hexadecimal n = 48 ∷ 120 ∷ padded_integral (format_spec 32 0 4 8 (2 ^ 64 - 1)) false [] (digits 16 true n)

-- the bytes before this place, which are not rescued
abbrev pub untried_before : ℕ → List Block
untried_before tried = if nat_lt 0 tried then block 0 tried false ∷ [] else []

-- the status of bytes: rescued, not tried, or bad
abbrev pub status_text : Bool → Bool → List ℕ
status_text true untried = codes "+"
status_text false true = codes "?"
status_text false false = codes "-"

-- the line of a block, without its line feed; bytes were tried from this place on
unfoldable pub block_line : ℕ → Block → List ℕ
block_line tried b =
    hexadecimal b.start ++ (codes "  " ++ (hexadecimal b.len ++ (codes "  " ++ status_text b.rescued (nat_lt b.start tried))))

abbrev pub ended : List ℕ → List ℕ
ended line = line ++ 10 ∷ []

-- what stands before the blocks; the status is that of a copy that is finished
abbrev pub head_lines : List (List ℕ)
head_lines =
    codes "# Mapfile. Created by mdcli"
    ∷ codes "# current_pos  current_status  current_pass"
    ∷ codes "0x00000000     +               1"
    ∷ codes "#      pos        size  status"
    ∷ []

abbrev pub lines_text : ℕ → List Block → List ℕ
lines_text tried bs = flat_map (λ b. ended (block_line tried b)) bs

-- the text of the map of `size` bytes, of which those from this place on were tried
unfoldable pub map_text : ℕ → ℕ → List Run → List ℕ
map_text size tried runs = flat_map ended head_lines ++ lines_text tried (untried_before tried ++ blocks_from size tried runs)

-- The text is the map of an array up to the last of so many sectors from this one on, and of no more than a
-- device has. Of these just the missing ones are lacking, and those before were not tried.
pub record IsMapOfRead (sector count : ℕ) (missing : List Run) (text : List ℕ) : Type 0 where
  pub end : ℕ
  pub lost : List Run
  pub ends : end ≡ min (sector + count) (2 ^ 54)
  pub runs : IsCanonical lost
  pub among : (s : ℕ) → IsBad lost s ↔ (IsBad missing s × (sector ≤ s) × (s < end))
  pub text_is : text ≡ map_text (512 * end) (512 * min sector end) lost
