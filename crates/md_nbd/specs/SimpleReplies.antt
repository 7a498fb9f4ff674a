-- Replies of the transmission phase as bytes (the NBD protocol, "Simple reply message", "Error values").
use Rattle.std.specs.Prelude.{ℕ, List, ◌++◌}
use Rattle.std.specs.Int.{w32, w64, to_be_bytes}
use Rattle.md_nbd.specs.declared.reply.ErrorCode.{ErrorCode}
use Rattle.md_nbd.specs.declared.reply.ErrorCode.TheVariants.{NotPermitted, Io, Invalid, NoSpace, TooLarge}

-- NBD_SIMPLE_REPLY_MAGIC
abbrev pub simple_reply_magic : ℕ
simple_reply_magic = 0x67446698

-- The head of a reply to the request with this cookie, 0 for no error. The bytes that were read come after it.
abbrev pub simple_reply : ℕ → ℕ → List ℕ
simple_reply error cookie = to_be_bytes w32 simple_reply_magic ++ to_be_bytes w32 error ++ to_be_bytes w64 cookie

-- NBD_EPERM, NBD_EIO, NBD_EINVAL, NBD_ENOSPC, NBD_EOVERFLOW
abbrev pub error_number : ErrorCode → ℕ
error_number NotPermitted = 1
error_number Io = 5
error_number Invalid = 22
error_number NoSpace = 28
error_number TooLarge = 75

-- the whole reply to a request that was done and read nothing
abbrev pub success_reply : ℕ → List ℕ
success_reply cookie = simple_reply 0 cookie

-- the whole reply to a request that was not
abbrev pub error_reply : ErrorCode → ℕ → List ℕ
error_reply error cookie = simple_reply (error_number error) cookie
