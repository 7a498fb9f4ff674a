use Rattle.std.proofs.Common.{refl}
use Rattle.md_commands.proofs.Checked.{checked_or_not, pending_stays}
use Rattle.md_refusals.proofs.Wrapped.{own_ok, own_on_ok}
use Rattle.md_commands.proofs.checking.check_members.Goals as goal

pub returns-in_err-mismatched-clause-pending : goal.returns-in_err-mismatched-clause-pending
returns-in_err-mismatched-clause-pending g c =
    pending_stays c.check_array.result c.args.mirror.now c.check_array.new.mirror c.check_array.ensures.gives

pub returns-clause-gives : goal.returns-clause-gives
returns-clause-gives g c =
    let checks = own_ok _ _ _ c.check_array.result _ _ c.check_array.ensures.gives c.in_ok-mismatched.ensures.cases c.in_ok-mismatched.ensures.variant refl in
    checked_or_not g.S.Sink c.args.mirror.now c.check_array.new.mirror c.args.out.now c.put_checked.new.out c.in_ok-mismatched.mismatched checks c.put_checked.result c.put_checked.ensures

pub returns-clause-told_of_reads : goal.returns-clause-told_of_reads
returns-clause-told_of_reads g c =
    own_on_ok _ _ c.check_array.result _ _ c.put_checked.result c.check_array.ensures.told c.in_ok-mismatched.ensures.cases c.in_ok-mismatched.ensures.variant refl
