use Rattle.std.proofs.Common.{◌≡◌, take, true}
use Rattle.std.specs.List.{list_all}
use Rattle.md_notices.specs.Parting.{is_left_by}
use Rattle.md_notices.proofs.parting.left_all.Given as goal

abbrev pub invariant-loop-k : goal.invariant-loop-k
invariant-loop-k g l = record { left : list_all (λ m. is_left_by l.fn.v m.superblock.dev_number m.state) (take l.k l.mirror.array.members) ≡ true }
