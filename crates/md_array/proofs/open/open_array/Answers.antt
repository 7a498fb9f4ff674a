use Rattle.std.proofs.Common.{map}
use Rattle.std.proofs.lemmas.Result.{err_from_is_err_and}
use Rattle.md_state.specs.View.{disk_of}
use Rattle.md_array.proofs.Openings.Fitting.{fits}
use Rattle.md_array.proofs.Openings.Opened.{fits_after, marked_after, marks_refused}
use Rattle.md_array.proofs.open.open_array.Goals as goal

pub store_needed_marks-requires : goal.store_needed_marks-requires
store_needed_marks-requires g c =
    let disks = map (disk_of g.D.Device) in
    fits_after (disks c.args.devices.now) (disks c.array_of.new.devices) c.in_ok-array.ensures.untouched c.in_ok-array.array (fits (disks c.args.devices.now) c.in_ok-array.array c.in_ok-array.ensures.ok)

pub returns-clause-ok : goal.returns-clause-ok
returns-clause-ok g c =
    let disks = map (disk_of g.D.Device) in
    record {
      array = c.in_ok-array.ensures.ok;
      marked = marked_after (disks c.args.devices.now) (disks c.array_of.new.devices) c.in_ok-array.ensures.untouched c.in_ok-array.array (disks c.store_needed_marks.new.devices) c.in_ok-store_needed_marks.ensures;
    }

pub returns-in_err-store_needed_marks-clause-err : goal.returns-in_err-store_needed_marks-clause-err
returns-in_err-store_needed_marks-clause-err g c =
    let p = err_from_is_err_and c.from_residual-in_err-store_needed_marks.result c.from_residual-in_err-store_needed_marks.ensures.1 in
    let disks = map (disk_of g.D.Device) in
    rw (p.1, p.2) (marks_refused (disks c.args.devices.now) (disks c.array_of.new.devices) (disks c.store_needed_marks.new.devices) c.in_ok-array.array c.in_err-store_needed_marks.field-0.0 c.in_ok-array.ensures.untouched c.in_ok-array.ensures.ok c.in_err-store_needed_marks.ensures)
