use Rattle.std.proofs.Common.{refl}
use Rattle.std.proofs.lemmas.Result.{err_from_is_err_and}
use Rattle.md_state.specs.View.{ArrayView}
use Rattle.md_state.specs.Steps.ClearIdle.{Clears, IsWithout, MayClear}
use Rattle.md_state.proofs.array.Array.clear_idle.Goals as goal
use Rattle.md_bitmap.specs.Marks.{Bitmap}

cleared : (a : ArrayView) (chunk : _) (marks : Bitmap) (disks : _) → MayClear chunk a → IsWithout chunk a.marks marks
    → Clears chunk (record { disks = disks; array = a }) (record { disks = disks; array = record a { marks = marks } })
cleared a chunk marks disks may left = record { may = may; disks = refl; left = left; array = refl }

pub returns-in_err-check_clear : goal.returns-in_err-check_clear
returns-in_err-check_clear c disks =
    let p = err_from_is_err_and c.from_residual.result c.from_residual.ensures.1 in
    rw (p.1, p.2) (c.in_err-check_clear.ensures disks)

pub returns : goal.returns
returns c disks =
    let may = c.in_ok-check_clear.ensures disks in
    rw (← c.self.view_is) (cleared _ c.args.chunk c.unmark.new.self disks (rw c.self.view_is may) (record { chunks = c.unmark.ensures.chunks; bits = c.unmark.ensures.bits }))
