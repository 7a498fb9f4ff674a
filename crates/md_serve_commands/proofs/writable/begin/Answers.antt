use Rattle.std.proofs.Common.{refl}
use Rattle.md_refusals.proofs.Wrapped.{own_ok}
use Rattle.md_serve_commands.proofs.writable.begin.Goals as goal

pub make_ready-requires-clause-may : goal.make_ready-requires-clause-may
make_ready-requires-clause-may g c =
    own_ok _ _ _ c.check_may_serve.result _ _ c.check_may_serve.ensures c.in_ok-map_err.ensures.cases c.in_ok-map_err.ensures.variant refl
