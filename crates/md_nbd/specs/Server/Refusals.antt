-- Why a request is answered with an error, in the order in which it is looked for, and the line that says so (this project's own).
use Rattle.std.specs.Prelude.{ℕ, ◌+◌, ◌-◌, ◌/◌, ◌==◌, ◌&&◌, nat_lt, List, ◌++◌, if◌then◌else◌, codes, decimal}
use Rattle.md_nbd.specs.declared.export.Export.{Export}
use Rattle.md_nbd.specs.declared.request.Request.{Request}
use Rattle.md_nbd.specs.declared.server.refusal.RequestFault.{RequestFault}
use Rattle.md_nbd.specs.declared.server.refusal.RequestFault.TheVariants.{NotWholeSectors, OnlyRead, PastEnd, Store, TooLong, UnknownCommand, UnknownFlags}
use Rattle.md_nbd.specs.declared.server.refusal.RefusedRequest.{RefusedRequest}
use Rattle.md_nbd.specs.declared.server.store.StoreFault.{StoreFault}
use Rattle.md_nbd.specs.declared.server.store.StoreFault.TheVariants.{Halted, Lacks, NoMemory, NotRead, NotWritten}
use Rattle.md_nbd.specs.Export.{most_bytes, sector_bytes}
use Rattle.md_nbd.specs.NbdRequests.{CMD_FLUSH, CMD_READ, CMD_WRITE}
use Rattle.md_nbd.specs.NbdTasks.{has_known_flags, has_whole_sectors, is_past_end}

-- ---- why
abbrev pub range_fault : Export → Request → RequestFault
range_fault e r =
    if nat_lt most_bytes r.length then TooLong
    else (if is_past_end e r then PastEnd
    else NotWholeSectors)

-- of a request that `task_of` refuses
abbrev pub task_fault : Export → Request → RequestFault
task_fault e r =
    if (r.kind == CMD_WRITE) && e.readonly then OnlyRead
    else (if has_known_flags e r then
    (if r.kind == CMD_READ then range_fault e r
    else (if r.kind == CMD_WRITE then range_fault e r
    else UnknownCommand))
    else UnknownFlags)

abbrev pub refused_for : Request → RequestFault → RefusedRequest
refused_for r fault = record { request = r; fault = fault }

-- ---- the line
-- NBD_CMD_TRIM, NBD_CMD_CACHE, NBD_CMD_WRITE_ZEROES, NBD_CMD_BLOCK_STATUS
abbrev pub command_text : ℕ → List ℕ
command_text kind =
    if kind == CMD_READ then codes "read"
    else (if kind == CMD_WRITE then codes "write"
    else (if kind == 4 then codes "trim"
    else (if kind == 5 then codes "cache"
    else (if kind == 6 then codes "write-zeroes"
    else (if kind == 7 then codes "block-status"
    else codes "command " ++ decimal kind)))))

unfoldable pub first_to_last_text : ℕ → ℕ → List ℕ
first_to_last_text first last = (codes " of sectors " ++ decimal first) ++ (codes " to " ++ decimal last)

abbrev pub sector_range_text : ℕ → ℕ → List ℕ
sector_range_text first count =
    if count == 1 then codes " of sector " ++ decimal first
    else first_to_last_text first (first + count - 1)

unfoldable pub bytes_text : ℕ → ℕ → List ℕ
bytes_text offset length = (codes " of " ++ decimal length) ++ (codes " bytes from byte " ++ decimal offset)

abbrev pub range_text : Request → List ℕ
range_text r =
    if has_whole_sectors r then sector_range_text (r.offset / sector_bytes) (r.length / sector_bytes)
    else bytes_text r.offset r.length

unfoldable pub transfer_text : Request → List ℕ
transfer_text r = command_text r.kind ++ range_text r

-- A flush is of all sectors.
abbrev pub request_text : Request → List ℕ
request_text r = if r.kind == CMD_FLUSH then codes "flush" else transfer_text r

unfoldable pub lacking_text : ℕ → List ℕ
lacking_text sector = (codes ": sector " ++ decimal sector) ++ codes " can't be read"

abbrev pub store_text : StoreFault → List ℕ
store_text Halted = codes ": the array is halted"
store_text (Lacks sector) = lacking_text sector
store_text NoMemory = codes ": out of memory"
store_text NotRead = codes ": the array gives no sector"
store_text NotWritten = codes ": the array takes no write"

abbrev pub reason_text : RequestFault → List ℕ
reason_text OnlyRead = codes ": the array is only read"
reason_text UnknownFlags = codes ": its flags are not known"
reason_text UnknownCommand = codes ": the server does no such request"
reason_text TooLong = codes ": longer than 32 MiB"
reason_text PastEnd = codes ": past the end of the array"
reason_text NotWholeSectors = codes ": empty, or not of whole sectors"
reason_text (Store fault) = store_text fault

unfoldable pub refused_request_text : RefusedRequest → List ℕ
refused_request_text x =
    codes "mdcli: refused: " ++ request_text x.request ++ reason_text x.fault ++ codes "\n"
