use Rattle.std.proofs.Common.{◌≡◌, ℕ, max, MatchOption, length, ap, subst, refl, arith}
use Rattle.std.proofs.lemmas.Option.{slice_get_read}
use Rattle.md_kept_members.specs.View.{MemberView}
use Rattle.md_kept_members.proofs.Kept.Clearing.{cleared_more, last_or, not_cleared_more}
use Rattle.md_kept_members.proofs.cleared_at.last_cleared.Goals.{then-has_accepted, else-has_accepted}
use Rattle.md_kept_members.proofs.cleared_at.last_cleared.Goals as goal

pub loop-member-preserved : goal.loop-member-preserved
loop-member-preserved c =
    let members = c.args.members.now in
    let i = c.loop-member.member-index in
    let m = c.member-item.result in
    let there = slice_get_read members (length members) i m refl (omega arith) c.member-item.is in
    elim c.if-has_accepted.branch [
      | then-has_accepted w ↦
          let events : c.member.inside.header.events_cleared ≡ m.header.events_cleared = ap (λ (x : MemberView). x.header.events_cleared) c.member.view_is in
          let greater = subst (λ (n : ℕ). MatchOption c.loop-member.last (w.greater.result ≡ n) (λ l. w.greater.result ≡ max l n)) events w.greater.ensures in
          rw w.last-is (cleared_more members i m c.loop-member.last w.greater.result there (c.has_accepted.ensures.0 w.if-has_accepted.true) greater c.loop-member.invariant)
      | else-has_accepted w ↦
          let refused = w.if-has_accepted.false in
          rw w.last-is (not_cleared_more members i m c.loop-member.last there (λ accepted. let both = c.has_accepted.ensures.1 accepted in absurd cc) c.loop-member.invariant)
    ]

pub returns : goal.returns
returns c = last_or c.args.events c.args.members.now c.loop-member.last c.loop-member.member-index _ (omega arith) c.loop-member.invariant c.unwrap_or.ensures
