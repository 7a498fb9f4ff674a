use Rattle.std.proofs.Common.{◌∙◌, List, inl, inr, refl, subst}
use Rattle.std.proofs.lemmas.Result.{err_from_is_err_and}
use Rattle.md_state.specs.View.{Disk}
use Rattle.md_array.specs.Open.Opened.{IsOpenedFrom}
use Rattle.md_cli.proofs.open.in_memory.array_beside.Goals as goal

pub returns-in_err-fronted : goal.returns-in_err-fronted
returns-in_err-fronted g c =
    let p = err_from_is_err_and c.from_residual.result c.from_residual.ensures.1 in
    rw (p.1, p.2) (inl c.in_err-fronted.ensures)

pub returns-in-Ok : goal.returns-in-Ok
returns-in-Ok g c = subst (λ (before : List Disk). IsOpenedFrom before c.in-Ok.mirror) c.in_ok-fronted.ensures c.in-Ok.ensures.gives
