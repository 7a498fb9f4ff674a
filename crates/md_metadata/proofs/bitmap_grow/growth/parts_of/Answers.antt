use Rattle.std.proofs.Common.{◌∙◌, rules, sym, subst}
use Rattle.std.proofs.lemmas.Option.{same_Some}
use Rattle.md_super.specs.declared.superblock.Superblock.{Superblock}
use Rattle.md_bitmap.specs.Sound.{IsSoundHeader}
use Rattle.md_metadata.specs.Grow.Growth.{IsMade}
use Rattle.md_metadata.proofs.bitmap_grow.growth.parts_of.Goals as goal

pub new_header-header-requires : goal.new_header-header-requires
new_header-header-requires c =
    subst (λ (w : Superblock). IsSoundHeader w.size c.args.chunk_bytes) (sym c.in_ok-shared.ensures) (c.requires.sound c.superblock_at-superblock.result.now c.superblock_at-superblock.ensures)

pub returns : goal.returns
returns c v at =
    let same = same_Some c.superblock_at-superblock.result.now v (sym c.superblock_at-superblock.ensures ∙ at) in
    subst (λ (w : Superblock). IsMade c.args.had c.args.members.now c.args.chunk_bytes c.args.chunks w c.in_ok-shared.shared c.new_header-header.result c.in_ok-marks.marks) same
    (record { shared_is = search rules; header = search rules; marks = c.in_ok-marks.ensures })
