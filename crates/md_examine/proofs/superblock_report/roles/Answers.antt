use Rattle.std.proofs.Common.{ℕ, List, subst, codes}
use Rattle.md_streams.specs.Sink.{PutsOrFails}
use Rattle.md_examine.specs.Lines.{line_text, column}
use Rattle.md_examine.proofs.Texts.{state_is}
use Rattle.md_examine.proofs.superblock_report.roles.Goals as goal

pub returns : goal.returns
returns g c =
    let P : List ℕ → Type 0 = λ t. PutsOrFails g.S.Sink.contents g.S.Sink.failed c.args.out.now c.line.new.out (line_text (column (codes "Array State")) t) c.line.result in
    subst P (state_is c.args.v.now.roles c.state_letters-letters.result c.args.v.now.raid_disks c.args.v.now.in_profile.few_disks (c.state_letters-letters.ensures)) c.line.ensures
