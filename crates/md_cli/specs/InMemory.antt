-- What members get in memory whose images are only looked at: a bitmap, and what stands in for a superblock that can't be read.
use Rattle.std.specs.Prelude.{◌≡◌, ◌≢◌, ◌⊎◌, ◌*◌, ◌≤◌, ℕ, List, length, slice_get, Option, Some, None, Result, Ok, Err}
use Rattle.std.specs.List.{insert, remove}
use Rattle.md_state.specs.View.{Disk, MirrorView}
use Rattle.md_array.specs.Open.Opened.{IsOpenedFrom}
use Rattle.md_refusals.specs.declared.data_of_fault.DataOfFault.{DataOfFault}
use Rattle.md_refusals.specs.declared.data_of_fault.DataOfFault.TheVariants as data_of
use Rattle.md_refusals.specs.declared.fault.CommandFault.{CommandFault}
use Rattle.md_refusals.specs.declared.fault.CommandFault.TheVariants.{NoMemory, Options}
use Rattle.md_refusals.specs.declared.option_fault.OptionFault.TheVariants.{DataOf}
use Rattle.md_read_commands.specs.Fronted.{in_memory}
use Rattle.md_read_commands.specs.StandIn.{IsFreeNumber, StandsIn}
use Rattle.md_read_commands.specs.declared.stand_in.put.StandIn.{StandIn}
use Rattle.md_metadata.specs.Grow.Growing.{Grows, RefusesToGrow}
use Rattle.md_metadata.specs.declared.bitmap_grow.fault.GrowFault.{GrowFault}
use Rattle.md_metadata.specs.declared.bitmap_grow.fault.GrowFault.TheVariants.{HasBitmap}

-- An answer of `grow`, where it is as well that each member has a bitmap already.
abbrev pub given_or_had : Result (Unit {0}) GrowFault → Result (Unit {0}) GrowFault
given_or_had (Err HasBitmap) = Ok tt
given_or_had answer = answer

-- Where a bitmap with chunks of so many bytes is asked for, the members get it as by `grow`; or each of them has one, and nothing is
-- written.
abbrev pub GetsBitmapInMemory : Option ℕ → List Disk → List Disk → Type 0
GetsBitmapInMemory None before after = after ≡ before
GetsBitmapInMemory (Some chunk_bytes) before after =
    Grows chunk_bytes before after ⊎ RefusesToGrow chunk_bytes before after HasBitmap

-- A bitmap is asked for, and `grow` refuses to give it, for another reason than that each member has one.
pub record GetsNoBitmap (chunk : Option ℕ) (before : List Disk) (why : GrowFault) : Type 0 where
  pub chunk_bytes : ℕ
  pub asked : chunk ≡ Some chunk_bytes
  pub left : List Disk
  pub refused : RefusesToGrow chunk_bytes before left why
  pub lacking : why ≢ HasBitmap

-- ---- what stands in for a superblock
-- The other devices make an array that has the device with this number in sync, as far as they tell; and then the one of this index,
-- which lacked a superblock or a bitmap, is read as that. The others are as they were opened, in memory: no crash leaves anything.
pub record PutsStandIn (wanted : StandIn) (before after : List Disk) : Type 0 where
  pub lost : Disk
  pub at : slice_get before wanted.index ≡ Some (in_memory lost)
  pub opened : MirrorView
  pub opens : IsOpenedFrom (remove before wanted.index) opened
  pub free : IsFreeNumber opened.array wanted.number
  pub kept : Disk
  pub stands : StandsIn wanted (512 * opened.array.chunks.sectors) opened.array.shared lost kept
  pub is : after ≡ insert opened.disks wanted.index kept

abbrev pub GetsStandIn : Option StandIn → List Disk → List Disk → Type 0
GetsStandIn None before after = after ≡ before
GetsStandIn (Some wanted) before after = PutsStandIn wanted before after

-- the fault of the command for one of `--data-of`
abbrev pub refusal_of : DataOfFault → CommandFault
refusal_of data_of.NoMemory = NoMemory
refusal_of fault = Options (DataOf fault)

-- the others make no array, or there is no memory for it
abbrev pub MakesNoArray : CommandFault → Type 0
MakesNoArray why = (why ≡ NoMemory) ⊎ (why ≡ Options (DataOf data_of.NoArrayBeside))

-- One of these devices does not count as a device of the array, or there is none of its index.
pub record RefusesCounted (wanted : StandIn) (before : List Disk) (why : CommandFault) : Type 0 where
  pub fault : DataOfFault
  pub is : why ≡ refusal_of fault
  pub past : length before ≤ wanted.index → fault ≡ data_of.BadDataOf

-- why nothing stands in: where it isn't asked for, there is no memory for the list of devices
abbrev pub RefusesStandIn : Option StandIn → List Disk → CommandFault → Type 0
RefusesStandIn None before why = why ≡ NoMemory
RefusesStandIn (Some wanted) before why = RefusesCounted wanted before why
