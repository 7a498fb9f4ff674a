use Rattle.std.proofs.Common.{◌≡◌, ◌∙◌, ap, length}
use Rattle.md_super.specs.Profile.{unsupported_features}
use Rattle.md_super.proofs.RoleLists.{length-roles_in}
use Rattle.md_super.proofs.decoding.read_fields.Goals as goal

pub from_vec-requires : goal.from_vec-requires
from_vec-requires c =
    let count : length c.in_ok-list.list.items ≡ c.u32_at.result = ap length c.in_ok-list.ensures ∙ length-roles_in c.u32_at.result c.args.bytes.now in
    rw (count, c.u32_at.ensures) c.requires.few_roles

pub invariant_of-result : goal.invariant_of-result
invariant_of-result c =
    let p = c.requires.profile in
    record {
      in_profile = record {
        features = ap unsupported_features c.u32_at-2.ensures ∙ p.features;
        level_is = c.u32_at-3.ensures ∙ p.level_is;
        some_disks = rw c.u32_at-6.ensures p.some_disks;
        few_disks = rw c.u32_at-6.ensures p.few_disks;
        super_offset_is = c.u64_at-6.ensures ∙ p.super_offset_is;
      };
    }
