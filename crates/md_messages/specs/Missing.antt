-- What is said of sectors that were not given, and for which zeros or what another member has was put out.
use Rattle.std.specs.Prelude.{ℕ, ◌+◌, ◌-◌, ◌==◌, nat_lt, List, [], ◌++◌, Option, Some, None, codes, decimal, length, sum_by, if◌then◌else◌}
use Rattle.std.specs.List.{flat_map}
use Rattle.md_badblocks.specs.declared.run.Run.{Run}
use Rattle.md_streams.specs.declared.gaps.Gaps.{Gaps}
use Rattle.md_words.specs.Asks.{Ask, fills}
use Rattle.md_messages.specs.declared.missing.Stands.{Stands}
use Rattle.md_messages.specs.declared.missing.Stands.TheVariants.{Zeros, Others}

-- what is said after one sector, after several, and after how many there are
abbrev pub after_one : Stands → List ℕ
after_one Zeros = codes " of the array is missing: zeros stand in its place\n"
after_one Others = codes " of the array may be older or newer: it is another member's\n"

abbrev pub after_several : Stands → List ℕ
after_several Zeros = codes " of the array are missing: zeros stand in their place\n"
after_several Others = codes " of the array may be older or newer: they are another member's\n"

abbrev pub after_count : Stands → List ℕ
after_count Zeros = codes " runs are missing\n"
after_count Others = codes " runs may be older or newer\n"

-- one sector
abbrev pub single_text : Stands → ℕ → List ℕ
single_text stands first = (codes "mdcli: sector " ++ decimal first) ++ after_one stands

-- those from one to another
abbrev pub between_text : ℕ → ℕ → List ℕ
between_text first last = (codes "mdcli: sectors " ++ decimal first) ++ (codes " to " ++ decimal last)

abbrev pub several_text : Stands → ℕ → ℕ → List ℕ
several_text stands first last = between_text first last ++ after_several stands

-- the line of a run
abbrev pub gap_text : Stands → Run → List ℕ
gap_text stands run =
    if run.len == 1 then single_text stands run.start
    else several_text stands run.start (run.start + run.len - 1)

-- how many sectors there are in so many runs
abbrev pub count_text : Stands → ℕ → ℕ → List ℕ
count_text stands sectors runs =
    (codes "mdcli: " ++ decimal sectors) ++ (codes " sectors in " ++ decimal runs) ++ after_count stands

abbrev pub gap_count : List Run → ℕ
gap_count runs = sum_by (λ run. run.len) runs

abbrev pub count_if_several : Stands → List Run → List ℕ
count_if_several stands runs =
    if nat_lt 1 (length runs) then count_text stands (gap_count runs) (length runs) else []

-- a line for each run, and the count of all where there are several
unfoldable pub runs_text : Stands → List Run → List ℕ
runs_text stands runs = flat_map (gap_text stands) runs ++ count_if_several stands runs

-- those for which zeros stand, and then those that are another member's
abbrev pub gaps_text : Gaps → List ℕ
gaps_text gaps = runs_text Zeros gaps.missing ++ runs_text Others gaps.others

-- where it is known which were not given
abbrev pub gaps_told : Option Gaps → List ℕ
gaps_told None = []
gaps_told (Some gaps) = gaps_text gaps

-- of a command that was to fill them
abbrev pub gap_lines : Ask → Option Gaps → List ℕ
gap_lines ask gaps = if fills ask then gaps_told gaps else []
