use Rattle.std.proofs.Common.{◌≡◌, ◌∙◌, ap, arith, get_or, set, refl}
use Rattle.md_kept_members.specs.TakingBack.{lowered_member}
use Rattle.md_kept_members.proofs.Members.Mapping.{mapped_all, mapped_at, mapped_more, mapped_to}
use Rattle.md_kept_members.proofs.offsets.lower_offsets.Goals as goal

pub loop-member-init : goal.loop-member-init
loop-member-init c = refl

pub loop-member-preserved : goal.loop-member-preserved
loop-member-preserved c =
    let xs = c.args.members.now in
    let i = c.loop-member.member-index in
    let d = c.member-item.result in
    let new : c.lower_offset.new.member ≡ (lowered_member c.args.sector) (get_or xs i d) =
    c.lower_offset.ensures ∙ ap (lowered_member c.args.sector) (ap (λ ys. get_or ys i d) c.loop-member.invariant ∙ mapped_at (lowered_member c.args.sector) xs i (omega arith) d) in
    ap (λ ys. set ys i c.lower_offset.new.member) c.loop-member.invariant ∙ ap (set (mapped_to (lowered_member c.args.sector) xs i) i) new ∙ mapped_more (lowered_member c.args.sector) xs i (omega arith) d

pub returns : goal.returns
returns c = c.loop-member.invariant ∙ mapped_all (lowered_member c.args.sector) c.args.members.now c.loop-member.member-index (omega arith)
