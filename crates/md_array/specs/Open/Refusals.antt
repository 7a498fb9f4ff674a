-- Why devices are not opened as a mirror.
use Rattle.std.specs.Prelude.{◌≢◌, ℕ, List}
use Rattle.md_members.specs.declared.info.MemberInfo.{MemberInfo}
use Rattle.md_assembly.specs.declared.fault.AssembleFault.{AssembleFault}
use Rattle.md_assembly.specs.declared.fault.AssembleFault.TheVariants as assemble_fault
use Rattle.md_assembly.specs.declared.fault.AssembleFault.TheVariants.{NoMemory as NoMemoryOfAssembly}
use Rattle.md_assembly.specs.Faults.{IsFirstAssembleFault}
use Rattle.md_state.specs.View.{Disk, ArrayView}
use Rattle.md_state.specs.DeviceChanges.{IsUntouched}
use Rattle.md_array.specs.declared.fault.OpenFault.{OpenFault}
use Rattle.md_array.specs.declared.fault.OpenFault.TheVariants.{Member, Assemble, MetadataFault, NoMemory}
use Rattle.md_array.specs.Open.Members.{AreRead, RefusesDeviceRead}
use Rattle.md_array.specs.Open.Marks.{EndsAtMember}
use Rattle.md_array.specs.Open.Opened.{IsArrayOf}

-- all are read, and make no array for this reason
pub record RefusesAssembly (before : List Disk) (fault : AssembleFault) : Type 0 where
  pub infos : List MemberInfo
  pub read : AreRead before infos
  pub refused : IsFirstAssembleFault infos fault
  pub memory : fault ≢ assemble_fault.NoMemory

-- the fault of opening, where the members make no array for this reason
abbrev pub assembly_refusal_of : AssembleFault → OpenFault
assembly_refusal_of NoMemoryOfAssembly = NoMemory
assembly_refusal_of fault = Assemble fault

-- why there is no array to keep
abbrev pub RefusesArray : List Disk → List Disk → OpenFault → Type 0
RefusesArray before after (Member k fault) = RefusesDeviceRead before after k fault
RefusesArray before after (Assemble fault) = RefusesAssembly before fault
RefusesArray before after NoMemory = Unit {0}
RefusesArray before after _ = ⊥

-- These devices make an array, and storing its marks failed on member k.
pub record FailsStoringMarks (before after : List Disk) (k : ℕ) : Type 0 where
  pub array : ArrayView
  pub is : IsArrayOf before array
  pub stopped : EndsAtMember array before after k

-- why devices are not opened
abbrev pub RefusesOpen : List Disk → List Disk → OpenFault → Type 0
RefusesOpen before after (Member k fault) = IsUntouched before after × RefusesDeviceRead before after k fault
RefusesOpen before after (Assemble fault) = IsUntouched before after × RefusesAssembly before fault
RefusesOpen before after (MetadataFault k) = FailsStoringMarks before after k
RefusesOpen before after NoMemory = IsUntouched before after
