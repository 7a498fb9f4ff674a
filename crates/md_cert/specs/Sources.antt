-- Masks of sources. The sources are 0 to 31.
use Rattle.std.specs.Prelude.{ℕ, ◌+◌, ◌==◌, ◌&&◌, nat_lt, zero, suc, Bool, if◌then◌else◌}
use Rattle.std.specs.Int.{bit_at}

-- the mask has the source
unfoldable pub has : ℕ → ℕ → Bool
has mask source = nat_lt source 32 && (bit_at mask source == 1)

-- how many numbers below n pass the test
unfoldable pub count_below : (ℕ → Bool) → ℕ → ℕ
count_below p zero = 0
count_below p (suc n) = if p n then count_below p n + 1 else count_below p n

-- how many sources pass the test
unfoldable pub count_sources : (ℕ → Bool) → ℕ
count_sources p = count_below p 32
