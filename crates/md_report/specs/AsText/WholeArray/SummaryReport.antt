-- An array in one line: a form of this project's own.
use Rattle.std.specs.Prelude.{ℕ, List, ◌++◌, codes, decimal}
use Rattle.md_bitmap.specs.Marks.{Bitmap, count_set}
use Rattle.md_state.specs.View.{ArrayView}
use Rattle.md_notices.specs.Noticing.{in_sync_count}

-- how many chunks are marked
abbrev pub marked_chunks : Bitmap → ℕ
marked_chunks m = count_set m.bytes m.chunks

-- the whole report
unfoldable pub summary_text : ArrayView → List ℕ
summary_text a =
    (codes "in sync " ++ decimal (in_sync_count a.members))
    ++ (codes " of " ++ decimal a.shared.raid_disks)
    ++ (codes ", events " ++ decimal a.shared.events)
    ++ (codes ", marked " ++ decimal (marked_chunks a.marks))
    ++ codes "\n"
