use Rattle.std.proofs.Common.{[], refl}
use Rattle.std.proofs.lemmas.Result.{err_from_is_err_and}
use Rattle.md_state.specs.Steps.Fail.{MayBeFailed}
use Rattle.md_state.proofs.array.Array.fail_member.Goals as goal

pub fail-requires-clause-unspent : goal.fail-requires-clause-unspent
fail-requires-clause-unspent c = (c.in_ok-check_fail.ensures []).may.unspent

pub returns-in_err-check_fail : goal.returns-in_err-check_fail
returns-in_err-check_fail c disks =
    let p = err_from_is_err_and c.from_residual.result c.from_residual.ensures.1 in
    rw (p.1, p.2) (c.in_err-check_fail.ensures disks)

pub returns : goal.returns
returns c disks =
    let may : MayBeFailed c.args.k c.args.self.now = c.in_ok-check_fail.ensures disks in
    let runs = may.runs in
    let other = may.may.other in
    record {
      runs = runs;
      disks = refl;
      array = record {
        member = runs.member;
        at = runs.at;
        other = other.other;
        other_member = other.member;
        other_in_sync = record { member = other.listed; in_sync = other.in_sync };
        apart = other.apart;
        unspent = may.may.unspent;
        array = c.fail.ensures runs.member runs.at;
      };
    }
