use Rattle.std.proofs.Common.{ap}
use Rattle.std.proofs.lemmas.Result.{err_from_is_err_and}
use Rattle.std.specs.Option.{option_copied}
use Rattle.md_files.proofs.MaskLemmas.MapLemmas.Faults.{fields_fault, pair_fault, status_fault_at, block_fault_at, place_fault_at}
use Rattle.md_files.proofs.masks.maps.line.read_line.Goals as goal

pub returns-in_err-row-clause-err : goal.returns-in_err-row-clause-err
returns-in_err-row-clause-err c =
    let p = err_from_is_err_and c.from_residual.result c.from_residual.ensures.1 in
    let q = c.in_err-row.ensures in
    rw (p.1, p.2) (fields_fault c.args.size c.args.end _ _ q.0 q.1 q.2 q.3)

pub returns-in_err-read_status-clause-err : goal.returns-in_err-read_status-clause-err
returns-in_err-read_status-clause-err c =
    let p = err_from_is_err_and c.from_residual-in_err-read_status.result c.from_residual-in_err-read_status.ensures.1 in
    let row = rw c.in-Some.is at c.in_ok-row.ensures in
    rw (p.1, p.2) (status_fault_at c.args.size c.args.end _ _ _ _ _ c.in_default-end.is row c.in_err-read_status.ensures.err)

pub returns-in_default-third-clause-err : goal.returns-in_default-third-clause-err
returns-in_default-third-clause-err c =
    let row = rw c.in-Some.is at c.in_ok-row.ensures in
    pair_fault c.args.size c.in-Some-end.from c.args.end _ _ _ _ c.in-Some-end.is row (ap option_copied c.in_default-third.is)

pub returns-in_err-block-clause-err : goal.returns-in_err-block-clause-err
returns-in_err-block-clause-err c =
    let p = err_from_is_err_and c.from_residual-in_err-block.result c.from_residual-in_err-block.ensures.1 in
    let row = rw (c.in-Some.is, c.in-Some-third.is) at c.in_ok-row.ensures in
    rw (p.1, p.2) (block_fault_at c.args.size c.in-Some-end.from c.args.end _ _ _ _ _ c.in-Some-end.is row (c.in_err-block.ensures.err c.args.size c.in-Some-end.from))

pub returns-in_err-check_place-clause-err : goal.returns-in_err-check_place-clause-err
returns-in_err-check_place-clause-err c =
    let p = err_from_is_err_and c.from_residual-in_err-check_place.result c.from_residual-in_err-check_place.ensures.1 in
    let row = rw (c.in-Some.is, c.in-Some-third.is) at c.in_ok-row.ensures in
    let is = c.in_ok-block.ensures.ok in
    rw (p.1, p.2) (place_fault_at c.args.size c.in-Some-end.from c.args.end _ _ _ _ _ _ _ _ c.in-Some-end.is row is.0 is.1 is.2 c.in_err-check_place.ensures.err)
