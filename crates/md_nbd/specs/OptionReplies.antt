-- Replies to options as bytes (the NBD protocol, "Option reply types", "Information elements").
use Rattle.std.specs.Prelude.{ℕ, List, [], ◌++◌, length}
use Rattle.std.specs.Int.{w16, w32, w64, to_be_bytes}
use Rattle.md_nbd.specs.declared.export.Export.{Export}
use Rattle.md_nbd.specs.Export.{most_bytes, sector_bytes, transmission_flags_of}

abbrev pub option_reply_magic : ℕ
option_reply_magic = 0x3e889045565a9

abbrev pub option_reply : ℕ → ℕ → List ℕ → List ℕ
option_reply option kind body = to_be_bytes w64 option_reply_magic ++ to_be_bytes w32 option ++ to_be_bytes w32 kind ++ to_be_bytes w32 (length body) ++ body

-- NBD_REP_ACK, NBD_REP_SERVER, NBD_REP_INFO, NBD_REP_ERR_UNSUP, NBD_REP_ERR_INVALID, NBD_REP_ERR_UNKNOWN
abbrev pub REP_ACK : ℕ
REP_ACK = 1

abbrev pub REP_SERVER : ℕ
REP_SERVER = 2

abbrev pub REP_INFO : ℕ
REP_INFO = 3

abbrev pub REP_ERR_UNSUP : ℕ
REP_ERR_UNSUP = 0x80000001

abbrev pub REP_ERR_INVALID : ℕ
REP_ERR_INVALID = 0x80000003

abbrev pub REP_ERR_UNKNOWN : ℕ
REP_ERR_UNKNOWN = 0x80000006

-- NBD_INFO_EXPORT: the size in bytes, and the transmission flags
abbrev pub export_info : Export → List ℕ
export_info e = to_be_bytes w16 0 ++ to_be_bytes w64 e.size ++ to_be_bytes w16 (transmission_flags_of e)

-- NBD_INFO_BLOCK_SIZE: at least a sector, best a page, at most what the server keeps room for
abbrev pub block_size_info : List ℕ
block_size_info = to_be_bytes w16 3 ++ to_be_bytes w32 sector_bytes ++ to_be_bytes w32 4096 ++ to_be_bytes w32 most_bytes

-- what an option is answered that asks for the export: both, also where they were not asked for, and an end
abbrev pub export_replies : Export → ℕ → List ℕ
export_replies e option = option_reply option REP_INFO (export_info e) ++ option_reply option REP_INFO block_size_info ++ option_reply option REP_ACK []
