-- Magic numbers, and when one stands on a device.
use Rattle.std.specs.Prelude.{ℕ, ◌+◌, ◌%◌, ◌&&◌, Bool, List, length, nat_lt, nat_le}
use Rattle.std.specs.Str.{bytes_eq}
use Rattle.md_device.specs.Splice.{part}
use Rattle.md_notices.specs.declared.signatures.magic.Magic.{Magic}

-- bytes at a place, which counts from the start of the device
pub record Sign : Type 0 where
  pub place : ℕ
  pub bytes : List ℕ

abbrev pub sign : ℕ → List ℕ → Sign
sign place bytes = record { place = place; bytes = bytes }

abbrev pub sign_of : Magic → Sign
sign_of m = sign m.place m.bytes.now

-- the content has these bytes at the place
abbrev pub has_sign : List ℕ → Sign → Bool
has_sign content s = bytes_eq (part content s.place (length s.bytes)) s.bytes

-- there are bytes, and one sector has them all
abbrev pub is_in_one_sector : Sign → Bool
is_in_one_sector s = nat_lt 0 (length s.bytes) && nat_le (s.place % 512 + length s.bytes) 512
