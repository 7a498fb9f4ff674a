-- What a request asks the server to do, or why it is refused (the NBD protocol, "Request types", "Command flags").
use Rattle.std.specs.Prelude.{◌≡◌, ℕ, ◌+◌, ◌*◌, ◌/◌, ◌%◌, ◌<◌, ◌≤◌, ◌&&◌, nat_lt, ◌==◌, Bool, if◌then◌else◌}
use Rattle.md_nbd.specs.declared.export.Export.{Export}
use Rattle.md_nbd.specs.declared.reply.ErrorCode.TheVariants.{NotPermitted, Invalid, NoSpace, TooLarge}
use Rattle.md_nbd.specs.declared.request.Request.{Request}
use Rattle.md_nbd.specs.declared.task.Task.{Task}
use Rattle.md_nbd.specs.declared.task.Task.TheVariants.{Read, Write, Flush, Disconnect, Refuse}
use Rattle.md_nbd.specs.Export.{most_bytes, sector_bytes}
use Rattle.md_nbd.specs.NbdRequests.{CMD_DISC, CMD_FLUSH, CMD_READ, CMD_WRITE, FLAG_FUA, payload_of}

-- Whole sectors, and at least one.
abbrev pub has_whole_sectors : Request → Bool
has_whole_sectors r = (r.offset % sector_bytes == 0) && (r.length % sector_bytes == 0) && nat_lt 0 r.length

abbrev pub is_past_end : Export → Request → Bool
is_past_end e r = nat_lt e.size (r.offset + r.length)

-- No flag but FUA, bit 0, where the export offers it, with any command. It asks that a write be on stable storage before it is
-- answered, and with other commands for nothing.
abbrev pub has_known_flags : Export → Request → Bool
has_known_flags e r = nat_lt r.flags (if e.readonly then 1 else 2)

abbrev pub read_task_of : Export → Request → Task
read_task_of e r =
    if nat_lt most_bytes r.length then Refuse TooLarge
    else (if is_past_end e r then Refuse Invalid
    else (if has_whole_sectors r then Read (r.offset / sector_bytes) (r.length / sector_bytes)
    else Refuse Invalid))

abbrev pub write_task_of : Export → Request → Task
write_task_of e r =
    if nat_lt most_bytes r.length then Refuse TooLarge
    else (if is_past_end e r then Refuse NoSpace
    else (if has_whole_sectors r then Write (r.offset / sector_bytes) (r.length / sector_bytes) (r.flags == FLAG_FUA)
    else Refuse Invalid))

-- A write to what is only read is not permitted, whatever else is wrong with it. A client that goes need not be right.
abbrev pub task_of : Export → Request → Task
task_of e r =
    if r.kind == CMD_DISC then Disconnect
    else (if (r.kind == CMD_WRITE) && e.readonly then Refuse NotPermitted
    else (if has_known_flags e r then
    (if r.kind == CMD_READ then read_task_of e r
    else (if r.kind == CMD_WRITE then write_task_of e r
    else (if r.kind == CMD_FLUSH then Flush
    else Refuse Invalid)))
    else Refuse Invalid))

-- ---- what is done for a request lies in the array
abbrev pub IsInExport : Export → ℕ → ℕ → Type 0
IsInExport e sector sectors = (0 < sectors) × (sector_bytes * sectors ≤ most_bytes) × (sector_bytes * sector + sector_bytes * sectors ≤ e.size)

-- The sectors lie in the array, as many as the request says, and just those that are written come with it.
abbrev pub FitsExport : Export → Request → Task → Type 0
FitsExport e r (Read sector sectors) = IsInExport e sector sectors × (payload_of r ≡ 0) × (r.length ≡ sector_bytes * sectors)
FitsExport e r (Write sector sectors through) = IsInExport e sector sectors × (payload_of r ≡ sector_bytes * sectors)
FitsExport e r Flush = payload_of r ≡ 0
FitsExport e r Disconnect = payload_of r ≡ 0
FitsExport e r (Refuse error) = Unit {0}
