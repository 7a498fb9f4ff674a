-- Requests of the transmission phase as bytes, all numbers with the highest byte first (the NBD protocol, "Request message").
use Rattle.std.specs.Prelude.{ℕ, ◌<◌, ◌^◌, ◌==◌, List, ◌++◌, if◌then◌else◌}
use Rattle.std.specs.Int.{w16, w32, w64, to_be_bytes}
use Rattle.md_nbd.specs.declared.request.Request.{Request}

-- NBD_REQUEST_MAGIC
abbrev pub request_magic : ℕ
request_magic = 0x25609513

abbrev pub request_bytes : Request → List ℕ
request_bytes r =
    to_be_bytes w32 request_magic ++ to_be_bytes w16 r.flags ++ to_be_bytes w16 r.kind ++ to_be_bytes w64 r.cookie ++ to_be_bytes w64 r.offset ++ to_be_bytes w32 r.length

-- what has a spelling
pub record IsRequest (r : Request) : Type 0 where
  pub flags : r.flags < 2 ^ 16
  pub kind : r.kind < 2 ^ 16
  pub cookie : r.cookie < 2 ^ 64
  pub offset : r.offset < 2 ^ 64
  pub length : r.length < 2 ^ 32

-- NBD_CMD_READ, NBD_CMD_WRITE, NBD_CMD_DISC, NBD_CMD_FLUSH ("Request types")
abbrev pub CMD_READ : ℕ
CMD_READ = 0

abbrev pub CMD_WRITE : ℕ
CMD_WRITE = 1

abbrev pub CMD_DISC : ℕ
CMD_DISC = 2

abbrev pub CMD_FLUSH : ℕ
CMD_FLUSH = 3

-- NBD_CMD_FLAG_FUA ("Command flags")
abbrev pub FLAG_FUA : ℕ
FLAG_FUA = 1

-- how many bytes follow the head of a request: those that it writes, also where it is refused
abbrev pub payload_of : Request → ℕ
payload_of r = if r.kind == CMD_WRITE then r.length else 0
