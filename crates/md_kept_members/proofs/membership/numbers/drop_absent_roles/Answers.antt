use Rattle.std.proofs.Common.{◌≡◌, ◌∙◌, ◌+◌, sym, ap, subst, arith, length, set, cond}
use Rattle.std.proofs.lemmas.Bool.{lt-ltb}
use Rattle.md_kept_members.proofs.MembershipLemmas.AbsentRoles.{AreSettledTo, settled_absent, settled_all, settled_none, settled_present, with_roles}
use Rattle.md_kept_members.proofs.membership.numbers.drop_absent_roles.Goals as goal
use Rattle.md_kept_members.proofs.membership.numbers.drop_absent_roles.Goals.{then-is_absent, else-is_absent}

pub loop-number-init : goal.loop-number-init
loop-number-init c = settled_none c.args.shared.now c.args.members.now

pub loop-number-preserved : goal.loop-number-preserved
loop-number-preserved c =
    let v = c.args.shared.now in
    let members = c.args.members.now in
    let now = c.loop-number.shared in
    let n = c.loop-number.number in
    elim c.if-is_absent.branch [
      | then-is_absent w ↦
          let is : c.if-is_absent.shared ≡ with_roles now (set now.roles n 0xfffe) = w.shared-is
          ∙ w.drop_role.ensures
          ∙ ap (λ b. with_roles now (cond b (set now.roles n 0xfffe) now.roles)) (lt-ltb n (length now.roles) (omega arith)) in
          subst (AreSettledTo v members (n + 1)) (sym is)
          (settled_absent v now members n c.loop-number.invariant (omega arith) (sym c.is_absent.ensures ∙ w.if-is_absent.true))
      | else-is_absent w ↦ subst (AreSettledTo v members (n + 1)) (sym w.shared-is) (settled_present v now members n c.loop-number.invariant (sym c.is_absent.ensures ∙ w.if-is_absent.false))
    ]

pub returns : goal.returns
returns c = settled_all c.args.shared.now c.loop-number.shared c.args.members.now c.loop-number.number c.loop-number.invariant (omega arith)
