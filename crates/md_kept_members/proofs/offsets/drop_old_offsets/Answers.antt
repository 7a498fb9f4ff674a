use Rattle.std.proofs.Common.{◌≡◌, ◌∙◌, ap, arith, get_or, set, refl}
use Rattle.md_kept_members.specs.Kept.{with_known_offset}
use Rattle.md_kept_members.proofs.Members.Mapping.{mapped_all, mapped_at, mapped_more, mapped_to}
use Rattle.md_kept_members.proofs.offsets.drop_old_offsets.Goals as goal

pub loop-member-init : goal.loop-member-init
loop-member-init c = refl

pub loop-member-preserved : goal.loop-member-preserved
loop-member-preserved c =
    let xs = c.args.members.now in
    let i = c.loop-member.member-index in
    let d = c.member-item.result in
    let new : c.drop_old_offset.new.member ≡ (with_known_offset c.args.cleared) (get_or xs i d) =
    c.drop_old_offset.ensures ∙ ap (with_known_offset c.args.cleared) (ap (λ ys. get_or ys i d) c.loop-member.invariant ∙ mapped_at (with_known_offset c.args.cleared) xs i (omega arith) d) in
    ap (λ ys. set ys i c.drop_old_offset.new.member) c.loop-member.invariant ∙ ap (set (mapped_to (with_known_offset c.args.cleared) xs i) i) new ∙ mapped_more (with_known_offset c.args.cleared) xs i (omega arith) d

pub returns : goal.returns
returns c = c.loop-member.invariant ∙ mapped_all (with_known_offset c.args.cleared) c.args.members.now c.loop-member.member-index (omega arith)
