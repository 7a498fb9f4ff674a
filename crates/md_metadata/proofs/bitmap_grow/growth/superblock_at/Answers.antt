use Rattle.std.proofs.Common.{get_or}
use Rattle.std.proofs.lemmas.Option.{slice_get-get_or}
use Rattle.md_array.proofs.General.Indices.{got_in_map}
use Rattle.md_members.specs.declared.info.MemberInfo.{MemberInfo}
use Rattle.md_metadata.proofs.bitmap_grow.growth.superblock_at.Goals as goal

pub returns : goal.returns
returns c =
    got_in_map (λ (m : MemberInfo). m.superblock) c.args.members.now c.args.k (get_or c.args.members.now c.args.k c.index-members-k.result)
    (slice_get-get_or c.args.members.now c.args.k c.index-members-k.result c.requires)
