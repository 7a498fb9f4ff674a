-- What comes before the options (the NBD protocol, "Fixed newstyle negotiation").
use Rattle.std.specs.Prelude.{ℕ, Bool, Option, Some, None, List, ◌++◌, nat_lt, nat_le, if◌then◌else◌}
use Rattle.std.specs.Int.{w16, w64, to_be_bytes}
use Rattle.md_nbd.specs.Options.{option_magic}

-- "NBDMAGIC"
abbrev pub nbd_magic : ℕ
nbd_magic = 0x4e42444d41474943

-- the handshake flags: bit 0 FIXED_NEWSTYLE, 1 NO_ZEROES
abbrev pub handshake_flags : ℕ
handshake_flags = 3

abbrev pub greeting_bytes : List ℕ
greeting_bytes = to_be_bytes w64 nbd_magic ++ to_be_bytes w64 option_magic ++ to_be_bytes w16 handshake_flags

-- Whether the client wants no zeros after the answer to EXPORT_NAME, of its flags: bit 0 FIXED_NEWSTYLE, 1 NO_ZEROES. None where
-- it has others.
abbrev pub no_zeroes_of : ℕ → Option Bool
no_zeroes_of flags = if nat_lt flags 4 then Some (nat_le 2 flags) else None
