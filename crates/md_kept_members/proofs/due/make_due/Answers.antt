use Rattle.std.proofs.Common.{◌≡◌, ◌∙◌, ap, arith, get_or, set, refl}
use Rattle.md_kept_members.specs.Members.{made_due}
use Rattle.md_kept_members.proofs.Members.Mapping.{mapped_all, mapped_at, mapped_more, mapped_to}
use Rattle.md_kept_members.proofs.due.make_due.Goals as goal

pub loop-member-init : goal.loop-member-init
loop-member-init c = refl

pub loop-member-preserved : goal.loop-member-preserved
loop-member-preserved c =
    let xs = c.args.members.now in
    let i = c.loop-member.member-index in
    let d = c.member-item.result in
    let new : c.note_due.new.member ≡ made_due (get_or xs i d) =
    c.note_due.ensures ∙ ap made_due (ap (λ ys. get_or ys i d) c.loop-member.invariant ∙ mapped_at made_due xs i (omega arith) d) in
    ap (λ ys. set ys i c.note_due.new.member) c.loop-member.invariant ∙ ap (set (mapped_to made_due xs i) i) new ∙ mapped_more made_due xs i (omega arith) d

pub returns : goal.returns
returns c = c.loop-member.invariant ∙ mapped_all made_due c.args.members.now c.loop-member.member-index (omega arith)
