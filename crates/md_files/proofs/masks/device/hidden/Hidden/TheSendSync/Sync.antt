-- It owns nothing, so threads may share it.
use denote.Param.Send.{IsSync, part_keyless}
use Rattle.md_files.specs.contracts.masks.device.hidden.Hidden.{the_row}
use Rattle.md_files.proofs.masks.device.hidden.Hidden.TheSendSync.Send.{send}

pub sync : IsSync the_row
sync = record { shared = λ d b o κ q. part_keyless the_row send q d b o }
