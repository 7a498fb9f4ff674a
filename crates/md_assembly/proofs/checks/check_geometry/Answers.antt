use Rattle.std.proofs.Common.{refl, arith}
use Rattle.md_assembly.specs.Faults.{HasOtherGeometry}
use Rattle.md_assembly.proofs.Order.{geometry_passes}
use Rattle.md_assembly.proofs.Places.{first_related, none_related, still_none}
use Rattle.md_assembly.proofs.checks.check_geometry.Goals as goal

pub returns-then-has_other_geometry : goal.returns-then-has_other_geometry
returns-then-has_other_geometry c = record {
  stands = first_related HasOtherGeometry c.args.members.now c.loop-i.i c.loop-i.invariant _ _ (omega arith) c.index-members-0.is c.index-members-i.is (c.if-has_other_geometry.ensures.0 refl);
  first = c.requires;
}

pub loop-i-preserved : goal.loop-i-preserved
loop-i-preserved c =
    still_none HasOtherGeometry c.args.members.now c.loop-i.i c.loop-i.invariant _ _ (omega arith) c.index-members-0.is c.index-members-i.is c.if-has_other_geometry.ensures.1

pub returns : goal.returns
returns c = geometry_passes c.args.members.now c.requires (none_related HasOtherGeometry c.args.members.now c.loop-i.i c.loop-i.invariant (omega arith))
