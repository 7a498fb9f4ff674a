use Rattle.std.proofs.Common.{◌≡◌, ◌∙◌, ◌↔◌, ◌+◌, ℕ, length, refl, ap, sym, subst, arith}
use Rattle.std.specs.Int.{bit_at}
use Rattle.std.proofs.lemmas.Option.{slice_get_read}
use Rattle.md_kept_members.specs.OwnFields.{is_write_mostly}
use Rattle.md_kept_members.specs.Permitting.{IsServedIn}
use Rattle.md_kept_members.specs.View.{MemberView}
use Rattle.md_kept_members.proofs.Members.Roles.{no_members, one_more_role, one_other_role, other_flag, same_flag}
use Rattle.md_kept_members.proofs.permitting.served_roles.Goals as goal
use Rattle.md_kept_members.proofs.permitting.served_roles.Goals.{then-is_write_mostly-mostly, else-is_write_mostly-mostly}

pub loop-member-init : goal.loop-member-init
loop-member-init c role small = no_members c.args.members.now c.args.chunks c.args.chunk c.args.mostly role

pub loop-member-preserved : goal.loop-member-preserved
loop-member-preserved c role small =
    let members = c.args.members.now in
    let i = c.loop-member.member-index in
    let m = c.member-item.result in
    let there = slice_get_read members (length members) i m refl (omega arith) c.member-item.is in
    let is : c.is_write_mostly.result ≡ is_write_mostly m.superblock = c.is_write_mostly.ensures ∙ ap (λ (x : MemberView). is_write_mostly x.superblock) c.member.view_is in
    let before = c.loop-member.invariant role small in
    elim c.if-is_write_mostly-mostly.branch [
      | then-is_write_mostly-mostly w ↦
          subst (λ (roles : ℕ). (bit_at roles role ≡ 1) ↔ IsServedIn members (i + 1) c.args.chunks c.args.chunk c.args.mostly role) (sym w.roles-is)
          (one_more_role members i c.args.chunks c.args.chunk c.args.mostly role m there _ _ (sym is ∙ same_flag _ _ w.if-is_write_mostly-mostly.true) before (w.role_to_read-roles.ensures role small))
      | else-is_write_mostly-mostly w ↦
          subst (λ (roles : ℕ). (bit_at roles role ≡ 1) ↔ IsServedIn members (i + 1) c.args.chunks c.args.chunk c.args.mostly role) (sym w.roles-is)
          (one_other_role members i c.args.chunks c.args.chunk c.args.mostly role m there _ (λ flag. other_flag _ _ w.if-is_write_mostly-mostly.false (is ∙ flag)) before)
    ]

pub returns : goal.returns
returns c role small =
    let all : c.loop-member.member-index ≡ length c.args.members.now = omega arith in
    subst (λ (n : ℕ). (bit_at c.loop-member.roles role ≡ 1) ↔ IsServedIn c.args.members.now n c.args.chunks c.args.chunk c.args.mostly role) all (c.loop-member.invariant role small)
