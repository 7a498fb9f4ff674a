use Rattle.std.proofs.Common.{refl, arith}
use Rattle.md_assembly.specs.Faults.{IsStranger}
use Rattle.md_assembly.proofs.Order.{sets_pass}
use Rattle.md_assembly.proofs.Places.{first_related, none_related, still_none}
use Rattle.md_assembly.proofs.checks.check_sets.Goals as goal

pub returns-then-is_stranger : goal.returns-then-is_stranger
returns-then-is_stranger c = record {
  stands = first_related IsStranger c.args.members.now c.loop-i.i c.loop-i.invariant _ _ (omega arith) c.index-members-0.is c.index-members-i.is (c.if-is_stranger.ensures.0 refl);
  first = c.requires;
}

pub loop-i-preserved : goal.loop-i-preserved
loop-i-preserved c =
    still_none IsStranger c.args.members.now c.loop-i.i c.loop-i.invariant _ _ (omega arith) c.index-members-0.is c.index-members-i.is c.if-is_stranger.ensures.1

pub returns : goal.returns
returns c = sets_pass c.args.members.now c.requires (none_related IsStranger c.args.members.now c.loop-i.i c.loop-i.invariant (omega arith))
