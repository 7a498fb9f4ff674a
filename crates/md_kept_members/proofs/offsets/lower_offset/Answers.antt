use Rattle.std.proofs.Common.{◌≡◌, ◌∙◌, ◌&&◌, ◌||◌, ℕ, Bool, true, false, cond, min, nat_lt, ap, refl, sym}
use Rattle.md_assembly.specs.States.{is_recovering}
use Rattle.md_kept_members.specs.View.{MemberView}
use Rattle.md_kept_members.specs.TakingBack.{lowered_member}
use Rattle.md_kept_members.proofs.offsets.lower_offset.Goals as goal

-- a member that is not recovering stays
unchanged : (sector : ℕ) (m : MemberView) → is_recovering m.state ≡ false → m ≡ lowered_member sector m
unchanged sector m out = by (is_recovering m.state) out
  where
    by : (b : Bool) → b ≡ false
        → m ≡ record m {
          superblock = record m.superblock { recovery_offset = cond b (min m.superblock.recovery_offset sector) m.superblock.recovery_offset };
          due = (b && nat_lt sector m.stored_offset) || m.due;
        }
    by true e = absurd cc
    by false e = refl

pub returns-else-is_recovering : goal.returns-else-is_recovering
returns-else-is_recovering c =
    unchanged c.args.sector c.args.member.now (ap (λ (x : MemberView). is_recovering x.state) (sym c.member.view_is) ∙ sym c.is_recovering.ensures ∙ c.if-is_recovering.false)
