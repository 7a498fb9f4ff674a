-- The checksum of a version 1 superblock (`calc_sb_1_csum` of the kernel's md driver).
use Rattle.std.specs.Prelude.{ℕ, ◌+◌, ◌-◌, ◌*◌, ◌/◌, ◌%◌, ◌^◌, ◌==◌, if◌then◌else◌, List, map, sum}
use Rattle.std.specs.List.{range_with_len}
use Rattle.md_format.specs.Fields.{number_at}

-- word k of the superblock, with the checksum's own word, at byte 216, taken as 0
abbrev pub word_at : List ℕ → ℕ → ℕ
word_at bytes k = if k == 54 then 0 else number_at 4 (4 * k) bytes

-- how many whole words the 256 + 2 * max_dev bytes have
abbrev pub word_count : ℕ → ℕ
word_count max_dev = 64 + max_dev / 2

-- the sum of the first words
unfoldable pub word_sum : List ℕ → ℕ → ℕ
word_sum bytes count = sum (map (word_at bytes) (range_with_len 0 count))

-- the last role, where the superblock ends in half a word
abbrev pub half_word : List ℕ → ℕ → ℕ
half_word bytes max_dev = if max_dev % 2 == 1 then number_at 2 (256 + 2 * (max_dev - 1)) bytes else 0

-- the carries of a sum, added into its low 32 bits
abbrev pub folded : ℕ → ℕ
folded total = (total % 2 ^ 32 + total / 2 ^ 32) % 2 ^ 32

-- the checksum of the first 256 + 2 * max_dev bytes
unfoldable pub checksum_of : List ℕ → ℕ → ℕ
checksum_of bytes max_dev = folded (word_sum bytes (word_count max_dev) + half_word bytes max_dev)
