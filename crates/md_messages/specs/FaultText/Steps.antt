-- Why a step of an array is refused, as text.
use Rattle.std.specs.Prelude.{ℕ, List, ◌++◌, codes, decimal}
use Rattle.md_faults.specs.declared.add_fault.AddFault.{AddFault}
use Rattle.md_faults.specs.declared.add_fault.AddFault.TheVariants as add
use Rattle.md_faults.specs.declared.re_add_fault.ReAddFault.{ReAddFault}
use Rattle.md_faults.specs.declared.re_add_fault.ReAddFault.TheVariants as re_add
use Rattle.md_faults.specs.declared.step_fault.BeginFault.{BeginFault}
use Rattle.md_faults.specs.declared.step_fault.BeginFault.TheVariants as begin
use Rattle.md_faults.specs.declared.step_fault.FailFault.{FailFault}
use Rattle.md_faults.specs.declared.step_fault.FailFault.TheVariants as fail
use Rattle.md_faults.specs.declared.step_fault.RemoveFault.{RemoveFault}
use Rattle.md_faults.specs.declared.step_fault.RemoveFault.TheVariants as remove
use Rattle.md_examine.specs.Members.{member_refusal_text}

-- a request of a write
abbrev pub begin_text : BeginFault → List ℕ
begin_text begin.Halted = codes "Halted"
begin_text begin.OutOfRange = codes "OutOfRange"
begin_text (begin.Overlaps request) = codes "Overlaps " ++ decimal request
begin_text begin.NotResynced = codes "NotResynced"
begin_text begin.EventsFull = codes "EventsFull"
begin_text begin.NumbersSpent = codes "NumbersSpent"
begin_text begin.NoMemory = codes "NoMemory"

abbrev pub fail_text : FailFault → List ℕ
fail_text fail.Halted = codes "Halted"
fail_text fail.NotActive = codes "NotActive"
fail_text fail.LastMember = codes "LastMember"
fail_text fail.EventsFull = codes "EventsFull"

abbrev pub remove_text : RemoveFault → List ℕ
remove_text remove.Halted = codes "Halted"
remove_text remove.StillActive = codes "StillActive"
remove_text remove.EventsFull = codes "EventsFull"

abbrev pub add_text : AddFault → List ℕ
add_text add.Halted = codes "Halted"
add_text add.TooSmall = codes "TooSmall"
add_text add.Full = codes "Full"
add_text add.EventsFull = codes "EventsFull"
add_text add.WriteFault = codes "WriteFault"
add_text add.NoMemory = codes "NoMemory"

abbrev pub re_add_text : ReAddFault → List ℕ
re_add_text re_add.Halted = codes "Halted"
re_add_text (re_add.Member why) = codes "Member " ++ member_refusal_text why
re_add_text re_add.Full = codes "Full"
re_add_text re_add.NotReAddable = codes "NotReAddable"
re_add_text re_add.NoRole = codes "NoRole"
re_add_text re_add.EventsFull = codes "EventsFull"
re_add_text re_add.WriteFault = codes "WriteFault"
re_add_text re_add.NoMemory = codes "NoMemory"
