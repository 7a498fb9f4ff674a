use Rattle.std.proofs.Common.{[], ◌∙◌, refl}
use Rattle.std.proofs.lemmas.Result.{err_from_is_err_and}
use Rattle.md_state.proofs.Changes.Cleaned.{cleaned}
use Rattle.md_state.proofs.array.Array.make_clean.Goals as goal

pub rise-requires : goal.rise-requires
rise-requires c = (c.in_ok-check_clean.ensures []).unspent

pub returns-in_err-check_clean : goal.returns-in_err-check_clean
returns-in_err-check_clean c disks =
    let p = err_from_is_err_and c.from_residual.result c.from_residual.ensures.1 in
    rw (p.1, p.2) (c.in_err-check_clean.ensures disks)

pub returns : goal.returns
returns c disks = record { may = c.in_ok-check_clean.ensures disks; disks = refl; array = cleaned _ _ _ (c.self.view_is ∙ c.rise.ensures) }
