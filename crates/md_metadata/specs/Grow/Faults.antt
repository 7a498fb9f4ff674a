-- The fault of members that are not read, or make no array.
use Rattle.md_array.specs.declared.fault.OpenFault.{OpenFault}
use Rattle.md_array.specs.declared.fault.OpenFault.TheVariants.{Member as MemberAtOpening}
use Rattle.md_assembly.specs.declared.fault.AssembleFault.{AssembleFault}
use Rattle.md_assembly.specs.declared.fault.AssembleFault.TheVariants.{NoMemory as NoMemoryOfAssembly}
use Rattle.md_metadata.specs.declared.bitmap_grow.fault.GrowFault.{GrowFault}
use Rattle.md_metadata.specs.declared.bitmap_grow.fault.GrowFault.TheVariants.{Assemble, Member, NoMemory}

-- the fault of a grow whose members make no array
abbrev pub grow_refusal_of : AssembleFault → GrowFault
grow_refusal_of NoMemoryOfAssembly = NoMemory
grow_refusal_of fault = Assemble fault

-- the fault of a grow whose devices are not read as members
abbrev pub reading_refusal_of : OpenFault → GrowFault
reading_refusal_of (MemberAtOpening k fault) = Member k fault
reading_refusal_of fault = NoMemory
