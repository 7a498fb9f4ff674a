-- Why a command is refused, as text. A fault of a call that it makes is shown as it is.
use Rattle.std.specs.Prelude.{ℕ, List, ◌++◌, codes, decimal}
use Rattle.md_refusals.specs.declared.fault.CommandFault.{CommandFault}
use Rattle.md_refusals.specs.declared.fault.CommandFault.TheVariants as command
use Rattle.md_messages.specs.FaultText.Calls.{check_refusal_text, rebuild_text, resync_text, stop_text, unread_refusal_text}
use Rattle.md_examine.specs.Members.{member_refusal_text}
use Rattle.md_messages.specs.FaultText.Openings.{create_text, grow_text, open_refusal_text, option_text}
use Rattle.md_messages.specs.FaultText.Steps.{add_text, begin_text, fail_text, re_add_text, remove_text}

-- An image is named by the place of its word.
unfoldable pub fault_text : CommandFault → List ℕ
fault_text command.BadCount = codes "BadCount"
fault_text (command.BadImage word why) = codes "BadImage " ++ decimal word
fault_text (command.Options why) = option_text why
fault_text (command.Member why) = member_refusal_text why
fault_text command.NoBitmap = codes "NoBitmap"
fault_text (command.Create why) = create_text why
fault_text (command.Grow why) = grow_text why
fault_text (command.MetadataFault word) = codes "MetadataFault " ++ decimal word
fault_text command.NoMemory = codes "NoMemory"
fault_text command.Declined = codes "Declined"
fault_text (command.NotAll role) = codes "NotAll " ++ decimal role
fault_text (command.Open why) = open_refusal_text why
fault_text command.InputFault = codes "InputFault"
fault_text command.NoPieceMemory = codes "NoMemory"
fault_text command.OutOfRange = codes "OutOfRange"
fault_text command.BadLength = codes "BadLength"
fault_text command.BadMember = codes "BadMember"
fault_text (command.Fail why) = fail_text why
fault_text (command.Remove why) = remove_text why
fault_text (command.Add why) = add_text why
fault_text (command.ReAdd why) = re_add_text why
fault_text (command.Rebuild why) = rebuild_text why
fault_text (command.Resync why) = resync_text why
fault_text (command.Check why) = check_refusal_text why
fault_text (command.Read why) = unread_refusal_text why
fault_text (command.Write why) = begin_text why
fault_text (command.Stop why) = stop_text why
fault_text command.OutputFault = codes "OutputFault"

-- the text of a fault after the program's name
unfoldable pub told_fault : CommandFault → List ℕ
told_fault why = codes "mdcli: " ++ fault_text why

-- the line that standard error is told
unfoldable pub refusal_line : CommandFault → List ℕ
refusal_line why = codes "mdcli: " ++ fault_text why ++ codes "\n"
