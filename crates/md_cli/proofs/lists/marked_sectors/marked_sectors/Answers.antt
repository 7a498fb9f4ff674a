use Rattle.md_cli.proofs.GivenSectors.{marked_of}
use Rattle.md_cli.proofs.lists.marked_sectors.marked_sectors.Goals as goal

pub returns : goal.returns
returns g c =
    let a = c.args.mirror.now.array in
    marked_of a.chunks a.marks c.args.sectors.now c.in_ok-marked.marked c.in_ok-marked.ensures.same c.in_ok-rest.rest c.remove_placed.new.set c.in_ok-rest.ensures.unmarked c.in_ok-remove_placed.ensures.left
