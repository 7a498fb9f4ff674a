use Rattle.std.proofs.Common.{◌≡◌, ◌↔◌, subst}
use Rattle.std.specs.Int.{bit_at}
use Rattle.md_state.specs.View.{MirrorView}
use Rattle.md_state.specs.Members.{IsPermitted}
use Rattle.md_array.proofs.mirror.Mirror.permitted.Goals as goal

pub returns : goal.returns
returns g c role small = subst (λ (m : MirrorView). (bit_at c.permitted.result role ≡ 1) ↔ IsPermitted m.array c.args.chunk role) c.self.view_is (c.permitted.ensures role small)
