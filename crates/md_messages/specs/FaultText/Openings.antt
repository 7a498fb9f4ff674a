-- Why devices are not opened as an array, why none is made of them, and why one gets no bitmap, as text.
use Rattle.std.specs.Prelude.{ℕ, List, ◌++◌, codes, decimal}
use Rattle.md_array.specs.declared.fault.OpenFault.{OpenFault}
use Rattle.md_array.specs.declared.fault.OpenFault.TheVariants as open_fault
use Rattle.md_assembly.specs.declared.fault.AssembleFault.{AssembleFault}
use Rattle.md_assembly.specs.declared.fault.AssembleFault.TheVariants as assemble
use Rattle.md_refusals.specs.declared.data_of_fault.DataOfFault.{DataOfFault}
use Rattle.md_refusals.specs.declared.data_of_fault.DataOfFault.TheVariants as data_of
use Rattle.md_refusals.specs.declared.option_fault.OptionFault.{OptionFault}
use Rattle.md_refusals.specs.declared.option_fault.OptionFault.TheVariants as option
use Rattle.md_create.specs.declared.fault.CreateFault.{CreateFault}
use Rattle.md_create.specs.declared.fault.CreateFault.TheVariants as create
use Rattle.md_metadata.specs.declared.bitmap_grow.fault.GrowFault.{GrowFault}
use Rattle.md_metadata.specs.declared.bitmap_grow.fault.GrowFault.TheVariants as grow
use Rattle.md_examine.specs.Members.{member_refusal_text}

-- two devices of one number, by their places
abbrev pub double_number_text : ℕ → ℕ → List ℕ
double_number_text j k = (codes "DoubleNumber " ++ decimal j) ++ (codes " " ++ decimal k)

abbrev pub assemble_text : AssembleFault → List ℕ
assemble_text assemble.Empty = codes "Empty"
assemble_text assemble.TooMany = codes "TooMany"
assemble_text (assemble.Stranger k) = codes "Stranger " ++ decimal k
assemble_text (assemble.DoubleNumber j k) = double_number_text j k
assemble_text (assemble.NoBitmap k) = codes "NoBitmap " ++ decimal k
assemble_text (assemble.Geometry k) = codes "Geometry " ++ decimal k
assemble_text (assemble.DoubleRole role) = codes "DoubleRole " ++ decimal role
assemble_text assemble.NotEnough = codes "NotEnough"
assemble_text assemble.NoMemory = codes "NoMemory"

-- a device that is not read as a member is named by its place
abbrev pub unread_member_text : ℕ → List ℕ → List ℕ
unread_member_text k why = (codes "Member " ++ decimal k) ++ (codes " " ++ why)

abbrev pub open_refusal_text : OpenFault → List ℕ
open_refusal_text (open_fault.Member k why) = unread_member_text k (member_refusal_text why)
open_refusal_text (open_fault.Assemble why) = codes "Assemble " ++ assemble_text why
open_refusal_text (open_fault.MetadataFault k) = codes "MetadataFault " ++ decimal k
open_refusal_text open_fault.NoMemory = codes "NoMemory"

abbrev pub create_text : CreateFault → List ℕ
create_text create.BadGeometry = codes "BadGeometry"
create_text create.NoMemory = codes "NoMemory"

abbrev pub grow_text : GrowFault → List ℕ
grow_text (grow.Member k why) = unread_member_text k (member_refusal_text why)
grow_text grow.BadChunk = codes "BadChunk"
grow_text grow.NoRoom = codes "NoRoom"
grow_text (grow.Assemble why) = codes "Assemble " ++ assemble_text why
grow_text grow.HasBitmap = codes "HasBitmap"
grow_text (grow.NotInSync k) = codes "NotInSync " ++ decimal k
grow_text (grow.MetadataFault k) = codes "MetadataFault " ++ decimal k
grow_text grow.NoMemory = codes "NoMemory"

abbrev pub data_of_text : DataOfFault → List ℕ
data_of_text data_of.BadDataOf = codes "BadDataOf"
data_of_text data_of.NoArrayBeside = codes "NoArrayBeside"
data_of_text (data_of.NumberTaken k) = codes "NumberTaken " ++ decimal k
data_of_text data_of.NumberNotInSync = codes "NumberNotInSync"
data_of_text data_of.HasSuperblock = codes "HasSuperblock"
data_of_text data_of.DataElsewhere = codes "DataElsewhere"
data_of_text data_of.LogUnread = codes "LogUnread"
data_of_text data_of.DataPastEnd = codes "DataPastEnd"
data_of_text data_of.NoMemory = codes "NoMemory"

abbrev pub option_text : OptionFault → List ℕ
option_text option.BadLevel = codes "BadLevel"
option_text option.BadUuid = codes "BadUuid"
option_text option.BadName = codes "BadName"
option_text option.BadCount = codes "BadCount"
option_text option.BadBitmap = codes "BadBitmap"
option_text option.BadChunk = codes "BadChunk"
option_text option.BadSize = codes "BadSize"
option_text option.MapOfTarget = codes "MapOfTarget"
option_text (option.DataOf why) = data_of_text why
