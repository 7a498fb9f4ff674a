-- Devices are not read as members.
use Rattle.std.proofs.Common.{List}
use Rattle.md_array.specs.Open.Members.{RefusesReading}
use Rattle.md_array.specs.declared.fault.OpenFault.{OpenFault}
use Rattle.md_array.specs.declared.fault.OpenFault.TheVariants.{Member, Assemble, MetadataFault, NoMemory}
use Rattle.md_state.specs.View.{Disk}
use Rattle.md_metadata.specs.Grow.Faults.{reading_refusal_of}
use Rattle.md_metadata.specs.Grow.Growing.{RefusesGrowReading}

pub refused_as : (before after : List Disk) (fault : OpenFault) → RefusesReading before after fault → RefusesGrowReading before after (reading_refusal_of fault)
refused_as before after (Member k fault) refused = refused
refused_as before after (Assemble fault) refused = absurd refused
refused_as before after (MetadataFault k) refused = absurd refused
refused_as before after NoMemory refused = tt
