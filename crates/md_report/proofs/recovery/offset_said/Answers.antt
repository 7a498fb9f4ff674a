use Rattle.std.proofs.Common.{◌∙◌, ℕ, ap, sym}
use Rattle.std.specs.Prelude.{min}
use Rattle.md_super.specs.declared.superblock.Superblock.{Superblock}
use Rattle.md_report.proofs.Recoveries.{superblock_at}
use Rattle.md_report.proofs.recovery.offset_said.Goals as goal

pub returns : goal.returns
returns g c m at =
    let a = c.args.mirror.now.array in
    let same = superblock_at a.members c.args.k m c.own.result.now at c.own.ensures in
    rw (same, ← c.chunks.ensures) c.min.ensures
