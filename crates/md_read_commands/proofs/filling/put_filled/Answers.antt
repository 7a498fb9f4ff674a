use Rattle.std.proofs.Common.{rules, Err, ◌≡◌}
use Rattle.md_refusals.specs.declared.fault.CommandFault.TheVariants.{NoPieceMemory}
use Rattle.md_read_commands.proofs.FilledPut.{no_piece}
use Rattle.md_read_commands.proofs.filling.put_filled.Goals as goal

pub returns-in_err-piece-clause-gives : goal.returns-in_err-piece-clause-gives
returns-in_err-piece-clause-gives g c =
    let passed : c.from_residual.result ≡ Err NoPieceMemory = search rules in
    rw passed (no_piece g.S.Sink c.args.way c.args.sectors.sector c.args.sectors.count c.args.gaps.now c.requires.none c.args.mirror.now c.args.out.now)

pub returns-in_err-holes-clause-gives : goal.returns-in_err-holes-clause-gives
returns-in_err-holes-clause-gives g c =
    let passed : c.from_residual-in_err-holes.result ≡ Err NoPieceMemory = search rules in
    rw passed (no_piece g.S.Sink c.args.way c.args.sectors.sector c.args.sectors.count c.args.gaps.now c.requires.none c.args.mirror.now c.args.out.now)
