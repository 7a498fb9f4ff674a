use Rattle.std.proofs.Common.{◌∙◌, sym}
use Rattle.md_assembly.specs.Assembled.{disputes, superblocks}
use Rattle.md_assembly.proofs.Freshness.{any_superblock}
use Rattle.md_assembly.proofs.freshest.is_disputed.Goals as goal

pub returns : goal.returns
returns c =
    let members = c.args.members.now in
    c.is_disputed_by_some.ensures ∙ sym (any_superblock (disputes (superblocks members) c.args.superblock.now) members)
