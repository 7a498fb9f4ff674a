-- Options of the handshake as bytes (the NBD protocol, "Fixed newstyle negotiation", "Option types").
use Rattle.std.specs.Prelude.{◌≡◌, ℕ, ◌+◌, ◌*◌, ◌<◌, ◌^◌, Option, Some, None, nat_lt, ◌==◌, List, ◌++◌, length, take, drop, if◌then◌else◌}
use Rattle.std.specs.Int.{w16, w32, w64, from_be_bytes, to_be_bytes}

-- "IHAVEOPT"
abbrev pub option_magic : ℕ
option_magic = 0x49484156454f5054

-- what stands before the body of an option: its number, and how long the body is
abbrev pub option_head : ℕ → ℕ → List ℕ
option_head option size = to_be_bytes w64 option_magic ++ to_be_bytes w32 option ++ to_be_bytes w32 size

abbrev pub option_bytes : ℕ → List ℕ → List ℕ
option_bytes option body = option_head option (length body) ++ body

-- the longest body of an option that the server takes
abbrev pub longest_body : ℕ
longest_body = 65536

-- NBD_OPT_EXPORT_NAME, NBD_OPT_ABORT, NBD_OPT_LIST, NBD_OPT_INFO, NBD_OPT_GO
abbrev pub OPT_EXPORT_NAME : ℕ
OPT_EXPORT_NAME = 1

abbrev pub OPT_ABORT : ℕ
OPT_ABORT = 2

abbrev pub OPT_LIST : ℕ
OPT_LIST = 3

abbrev pub OPT_INFO : ℕ
OPT_INFO = 6

abbrev pub OPT_GO : ℕ
OPT_GO = 7

-- ---- what INFO and GO come with: the name of an export, and the kinds of information that the client would like
pub record AsksForName (name body : List ℕ) : Type 0 where
  pub count : ℕ
  pub kinds : List ℕ
  pub few : count < 2 ^ 16
  pub two : length kinds ≡ 2 * count
  pub whole : body ≡ to_be_bytes w32 (length name) ++ name ++ to_be_bytes w16 count ++ kinds

-- the length that the body says the name has, and how many kinds it says come after it
abbrev pub name_length_of : List ℕ → ℕ
name_length_of body = from_be_bytes w32 (take 4 body)

abbrev pub kind_count_of : List ℕ → ℕ
kind_count_of body = from_be_bytes w16 (take 2 (drop (name_length_of body) (drop 4 body)))

-- the name, where the body is just that
abbrev pub asked_name_of : List ℕ → Option (List ℕ)
asked_name_of body =
    if nat_lt (length body) 6 then None
    else (if nat_lt (length body) (name_length_of body + 6) then None
    else (if length body == name_length_of body + 6 + 2 * kind_count_of body then Some (take (name_length_of body) (drop 4 body)) else None))
