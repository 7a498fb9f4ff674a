-- What clients are told of the array (the NBD protocol, "Transmission flags").
use Rattle.std.specs.Prelude.{ℕ, if◌then◌else◌}
use Rattle.md_nbd.specs.declared.export.Export.{Export}

-- bit 0 HAS_FLAGS, 1 READ_ONLY, 2 SEND_FLUSH, 3 SEND_FUA, 8 CAN_MULTI_CONN
abbrev pub transmission_flags_of : Export → ℕ
transmission_flags_of e = if e.readonly then 0x107 else 0x0d

-- the sectors of 512 bytes that a request can name
abbrev pub sector_bytes : ℕ
sector_bytes = 512

-- the most bytes that one request reads or writes: what a client may send that never asked for block sizes ("Block size constraints")
abbrev pub most_bytes : ℕ
most_bytes = 0x2000000
