-- The bad block log of a member, as md.c has it (super_1_load, super_1_sync): u64 entries, little-endian, each a
-- sector in the top 54 bits and a length in the low 10, both in units of 2^bblog_shift sectors; all ones end the list.
-- An entry that is written has at most 512 sectors (BB_MAX_LEN of badblocks.h).
use Rattle.std.specs.Prelude.{ℕ, ◌+◌, ◌-◌, ◌*◌, ◌/◌, ◌%◌, ◌^◌, ◌<◌, ◌==◌, ◌↔◌, List, ◌++◌, length, map, min, replicate}
use Rattle.std.specs.List.{range_with_len, before_first, flat_map}
use Rattle.byteorder.specs.Endian.{little_bytes}
use Rattle.md_format.specs.Fields.{number_at}
use Rattle.md_badblocks.specs.declared.run.Run.{Run}
use Rattle.md_badblocks.specs.Runs.{IsBad, IsCanonical, entry_count, entries_needed}

-- the entry that ends a list
abbrev pub all_ones : ℕ
all_ones = 2 ^ 64 - 1

-- the numbers in eight bytes each
abbrev pub entries_in : List ℕ → List ℕ
entries_in bytes = map (λ i. number_at 8 (8 * i) bytes) (range_with_len 0 (length bytes / 8))

-- the run that an entry names
abbrev pub run_of : ℕ → ℕ → Run
run_of shift entry = record { start = entry / 1024 * 2 ^ shift; len = entry % 1024 * 2 ^ shift }

-- the runs that a log names: those of the entries before the first of all ones
abbrev pub named_runs : ℕ → List ℕ → List Run
named_runs shift bytes = map (run_of shift) (before_first (λ entry. entry == all_ones) (entries_in bytes))

-- what a log is read as: the maximal runs of the sectors below 2^54 that it names. The rest of its sectors are dropped
pub record IsReadAs (shift : ℕ) (bytes : List ℕ) (runs : List Run) : Type 0 where
  pub canonical : IsCanonical runs
  pub named : (sector : ℕ) → IsBad runs sector ↔ (IsBad (named_runs shift bytes) sector × (sector < 2 ^ 54))

-- entry k of a run: 512 sectors, or the rest in the last
abbrev pub entry_at : Run → ℕ → ℕ
entry_at run k = (run.start + 512 * k) * 1024 + min 512 (run.len - 512 * k)

-- the entries of a run, cut from its start
abbrev pub entries_of : Run → List ℕ
entries_of run = map (entry_at run) (range_with_len 0 (entry_count run))

-- the log that is written for the runs where there is room for so many entries
abbrev pub log_bytes : List Run → ℕ → List ℕ
log_bytes runs room =
    flat_map (little_bytes 8) (flat_map entries_of runs ++ replicate (room - entries_needed runs) all_ones)
