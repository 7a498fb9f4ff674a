use Rattle.md_read.proofs.SourceRoles.{AllListBelow}
use Rattle.md_read.proofs.sources.source_of.Given as goal

abbrev pub invariant-loop-role : goal.invariant-loop-role
invariant-loop-role g l = AllListBelow l.role l.sector l.sectors l.mirror.array
