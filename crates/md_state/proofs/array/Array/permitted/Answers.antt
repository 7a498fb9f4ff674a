use Rattle.std.proofs.Common.{◌∙◌, ap}
use Rattle.md_state.specs.View.{ArrayView}
use Rattle.md_state.proofs.Members.Permitted.{permitted}
use Rattle.md_state.proofs.array.Array.permitted.Goals as goal

pub returns : goal.returns
returns c role small =
    let members = c.deref.ensures.value ∙ ap (λ (a : ArrayView). a.members) c.self.view_is in
    let chunks = ap (λ (a : ArrayView). a.chunks) c.self.view_is in
    permitted c.args.self.now c.deref.result.now _ c.args.chunk role _ members chunks (c.permitted_roles.ensures role small)
