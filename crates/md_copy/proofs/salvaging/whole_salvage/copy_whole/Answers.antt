use Rattle.std.proofs.Common.{[]}
use Rattle.std.proofs.lemmas.Result.{err_from_is_err_and}
use Rattle.md_assembly.proofs.Indices.{got_within}
use Rattle.md_copy.proofs.Passing.PassesGo.{begins_so, leaves_one, none_held, table_leaves}
use Rattle.md_copy.proofs.SalvageLemmas.WholePass.{may_leave_of, whole_fails, whole_made, whole_without_table}
use Rattle.md_copy.proofs.salvaging.whole_salvage.copy_whole.Goals as goal

pub returns-in_err-rows-clause-gives : goal.returns-in_err-rows-clause-gives
returns-in_err-rows-clause-gives g c m at =
    let p = err_from_is_err_and c.from_residual.result c.from_residual.ensures.1 in
    rw (p.1, p.2) (whole_without_table c.args.target m c.args.copied.now c.args.mirror.now c.requires.ready at c.in_err-rows.field-0.0 (c.in_err-rows.ensures.refused m at))

pub returns-in_err-rows-clause-leaves : goal.returns-in_err-rows-clause-leaves
returns-in_err-rows-clause-leaves g c =
    let p = err_from_is_err_and c.from_residual.result c.from_residual.ensures.1 in
    let v = c.args.mirror.now in
    let at = got_within v.array.members c.args.target c.requires.within in
    let fault = c.in_err-rows.field-0.0 in
    rw (p.1, p.2) (may_leave_of c.args.target c.args.copied.now v fault (table_leaves c.args.target at.0 c.args.copied.now v c.requires.ready c.requires.none at.1 fault (c.in_err-rows.ensures.refused at.0 at.1)))

pub make_pass-requires-clause-held : goal.make_pass-requires-clause-held
make_pass-requires-clause-held g c κs within = none_held c.args.target c.args.copied.now c.args.mirror.now c.requires.none

pub make_pass-requires-clause-table : goal.make_pass-requires-clause-table
make_pass-requires-clause-table g c κs within =
    let v = c.args.mirror.now in
    let at = got_within v.array.members c.args.target c.requires.within in
    (begins_so c.args.target at.0 c.args.copied.now v c.in_ok-rows.rows c.requires.ready c.requires.none at.1 (λ n there. c.in_ok-rows.ensures.ok n there) c.in_ok-rows.ensures.few).table

pub returns-in_err-passed-clause-gives : goal.returns-in_err-passed-clause-gives
returns-in_err-passed-clause-gives g c m at =
    let p = err_from_is_err_and c.from_residual-in_err-passed.result c.from_residual-in_err-passed.ensures.1 in
    rw (p.1, p.2) (whole_fails c.args.target m c.args.copied.now c.make_pass.new.copied c.in_ok-rows.rows c.args.mirror.now c.make_pass.new.mirror (c.in_ok-rows.ensures.ok m at) c.in_err-passed.field-0.0 c.in_err-passed.ensures.gives)

pub returns-in_err-passed-clause-leaves : goal.returns-in_err-passed-clause-leaves
returns-in_err-passed-clause-leaves g c =
    let p = err_from_is_err_and c.from_residual-in_err-passed.result c.from_residual-in_err-passed.ensures.1 in
    let v = c.args.mirror.now in
    let at = got_within v.array.members c.args.target c.requires.within in
    let so = begins_so c.args.target at.0 c.args.copied.now v c.in_ok-rows.rows c.requires.ready c.requires.none at.1 (λ n there. c.in_ok-rows.ensures.ok n there) c.in_ok-rows.ensures.few in
    let fault = c.in_err-passed.field-0.0 in
    rw (p.1, p.2) (may_leave_of c.args.target c.make_pass.new.copied c.make_pass.new.mirror fault
    (leaves_one c.args.target at.0 c.args.copied.now v v c.args.copied.now c.in_ok-rows.rows [] 0 so c.make_pass.new.copied c.make_pass.new.mirror fault c.in_err-passed.ensures.gives))

pub returns-clause-gives : goal.returns-clause-gives
returns-clause-gives g c m at =
    whole_made c.args.target m c.args.copied.now c.make_pass.new.copied c.in_ok-rows.rows c.args.mirror.now c.make_pass.new.mirror (c.in_ok-rows.ensures.ok m at) c.in_ok-passed.passed c.in_ok-passed.ensures.gives
