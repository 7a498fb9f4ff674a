use Rattle.md_state.specs.Steps.Fail.{MayFail}
use Rattle.md_state.proofs.array.Array.member_failed.Goals as goal
use Rattle.md_assembly.proofs.Indices.{got_within}

pub returns-then-can_fail : goal.returns-then-can_fail
returns-then-can_fail c =
    let may : MayFail c.args.self.now c.args.k = c.if-can_fail.ensures in
    let member = got_within c.args.self.now.members c.args.k c.requires in
    record {
      member = member.0;
      at = member.1;
      other = may.other.other;
      other_member = may.other.member;
      other_in_sync = record { member = may.other.listed; in_sync = may.other.in_sync };
      apart = may.other.apart;
      unspent = may.unspent;
      array = c.fail.ensures member.0 member.1;
    }
