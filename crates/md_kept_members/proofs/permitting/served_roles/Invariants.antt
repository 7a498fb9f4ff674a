use Rattle.std.proofs.Common.{◌≡◌, ◌↔◌, ◌<◌, ℕ}
use Rattle.std.specs.Int.{bit_at}
use Rattle.md_kept_members.specs.Permitting.{IsServedIn}
use Rattle.md_kept_members.proofs.permitting.served_roles.Given as goal

abbrev pub invariant-loop-member : goal.invariant-loop-member
invariant-loop-member l = (role : ℕ) → role < 32 → (bit_at l.roles role ≡ 1) ↔ IsServedIn l.members l.member-index l.chunks l.chunk l.mostly role
