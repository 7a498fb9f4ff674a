use Rattle.std.proofs.Common.{refl, ◌∙◌}
use Rattle.md_pass.specs.Joining.{none_joined}
use Rattle.md_pass.proofs.Joins.{nothing_waits}
use Rattle.md_pass.proofs.Sweeps.{on_both}
use Rattle.md_pass.proofs.joined.Joined.write_unless_followed.Goals as goal

pub returns-clause-written : goal.returns-clause-written
returns-clause-written g c =
    on_both c.write.result c.write.ensures.written c.write.ensures.none
    (λ written none honest. rw none (nothing_waits (g.D.Device.content c.write.new.target) none_joined refl ∙ written honest))
