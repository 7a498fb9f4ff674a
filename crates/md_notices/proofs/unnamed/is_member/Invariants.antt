use Rattle.std.proofs.Common.{◌≡◌, take, false}
use Rattle.md_notices.specs.Unnamed.{is_member}
use Rattle.md_notices.proofs.unnamed.is_member.Given as goal

abbrev pub invariant-loop-k : goal.invariant-loop-k
invariant-loop-k g l = record { none : is_member (take l.k l.mirror.array.members) l.number ≡ false }
