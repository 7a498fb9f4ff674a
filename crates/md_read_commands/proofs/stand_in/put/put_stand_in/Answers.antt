use Rattle.std.proofs.Common.{ℕ, IfOk, subst}
use Rattle.md_super.specs.declared.superblock.Superblock.{Superblock}
use Rattle.md_state.specs.View.{disk_of}
use Rattle.md_read_commands.specs.Fronted.{fronted_disk}
use Rattle.md_read_commands.specs.StandIn.{StandsIn}
use Rattle.md_read_commands.proofs.Stands.{on_ok}
use Rattle.md_read_commands.proofs.stand_in.put.put_stand_in.Goals as goal

pub returns-clause-free : goal.returns-clause-free
returns-clause-free g c = on_ok c.stand_in_beside.result c.in_ok-check_number.ensures

pub returns-clause-stands : goal.returns-clause-stands
returns-clause-stands g c =
    let old = disk_of g.D.Device c.args.device in
    subst (λ (n : ℕ). IfOk c.stand_in_beside.result (λ d. StandsIn c.args.wanted n c.args.mirror.now.array.shared old (fronted_disk g.D.Device d))) c.in_ok-header.ensures
    (subst (λ (v : Superblock). IfOk c.stand_in_beside.result (λ d. StandsIn c.args.wanted c.in_ok-header.header.chunksize v old (fronted_disk g.D.Device d))) c.shared.ensures
    c.stand_in_beside.ensures)
