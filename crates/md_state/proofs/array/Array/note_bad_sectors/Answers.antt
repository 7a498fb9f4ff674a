use Rattle.std.proofs.Common.{rules}
use Rattle.md_kept_members.specs.SectorLists.{in_runs}
use Rattle.md_state.specs.Steps.NoteBad.{MayNoteMore}
use Rattle.md_state.proofs.array.Array.note_bad_sectors.Goals as goal

pub returns : goal.returns
returns c =
    let may : MayNoteMore c.args.k (in_runs c.args.sectors.now) c.args.self.now c.in_ok-list.list = search rules in
    record { list = c.in_ok-list.list; may = may; array = c.set_list.ensures may.member may.at }
