use Rattle.std.proofs.Common.{◌∙◌, ap, sym, arith, length, set, cond}
use Rattle.std.proofs.lemmas.Bool.{le-ltb, lt-ltb}
use Rattle.md_kept_members.proofs.MembershipLemmas.AbsentRoles.{with_roles}
use Rattle.md_kept_members.proofs.MembershipLemmas.Profiles.{same_profile}
use Rattle.md_kept_members.proofs.membership.numbers.drop_role.Goals as goal

pub returns-then-number-max_dev : goal.returns-then-number-max_dev
returns-then-number-max_dev c =
    let v = c.args.shared.now in
    same_profile _ _
    ∙ ap (with_roles v) (c.set.ensures ∙ ap (λ b. cond b (set v.roles c.args.number 0xfffe) v.roles) (sym (lt-ltb c.args.number (length v.roles) (omega arith))))

pub returns-else-number-max_dev : goal.returns-else-number-max_dev
returns-else-number-max_dev c =
    let v = c.args.shared.now in
    ap (with_roles v) (ap (λ b. cond b (set v.roles c.args.number 0xfffe) v.roles) (sym (le-ltb c.args.number (length v.roles) (omega arith))))
