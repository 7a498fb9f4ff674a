-- Partition tables, by the tests that they have to pass.
use Rattle.std.proofs.Common.{◌≡◌, ◌≤◌, ◌*◌, ℕ, List, [], length, Bool, true, false, not, ◌&&◌, refl, ◌∙◌, ap, arith}
use Rattle.md_device.specs.Device.{held}
use Rattle.md_notices.specs.Signatures.Partitions.{has_mark, is_partition_table}
use Rattle.md_notices.proofs.SignatureLemmas.Signs.{part_past}

pub no_mark : (a b s u : Bool) → a ≡ false → false ≡ (a && (not b && (s && u)))
no_mark false b s u e = refl
no_mark true b s u e = cc

pub begins : (a b s u : Bool) → b ≡ true → false ≡ (a && (not b && (s && u)))
begins false true s u e = refl
begins true true s u e = refl
begins false false s u e = refl
begins true false s u e = cc

pub unsound : (a b s u : Bool) → s ≡ false → false ≡ (a && (not b && (s && u)))
unsound false b false u e = refl
unsound true true false u e = refl
unsound true false false u e = refl
unsound false b true u e = refl
unsound true true true u e = refl
unsound true false true u e = cc

pub as_used : (a b s u : Bool) → a ≡ true → b ≡ false → s ≡ true → u ≡ (a && (not b && (s && u)))
as_used true false true u p q r = refl
as_used false b s u p q r = cc
as_used true true s u p q r = cc
as_used true false false u p q r = cc

-- a device without a sector
pub no_table : (content : List ℕ) → length content ≤ 512 * 0 → is_partition_table (held content 0 512) ≡ false
unfolding is_partition_table has_mark
no_table content past =
    ap is_partition_table (part_past content (512 * 0) 512 past) ∙ rw (part_past [] 510 2 (omega arith)) refl
