use Rattle.std.proofs.Common.{◌∙◌, inl, inr, refl, subst}
use Rattle.std.proofs.lemmas.Result.{err_from_is_err_and}
use Rattle.md_cli.specs.declared.lists.holes.Growth.{Growth}
use Rattle.md_cli.specs.Lacking.{Regards}
use Rattle.md_cli.proofs.lists.holes.open_lacking.Goals as goal

pub returns-in_err-mirror-clause-gives : goal.returns-in_err-mirror-clause-gives
returns-in_err-mirror-clause-gives g c =
    let p = err_from_is_err_and c.from_residual.result c.from_residual.ensures.1 in
    rw (p.1, p.2) (inl c.in_err-mirror.ensures.gives)

pub returns-in-Ok-clause-gives : goal.returns-in-Ok-clause-gives
returns-in-Ok-clause-gives g c = record {
  opened = c.in_ok-mirror.mirror;
  opens = c.in_ok-mirror.ensures.gives;
  regards = subst (λ (how : Growth). Regards how c.args.lacking.now c.in_ok-mirror.mirror c.regard_lacked.new.mirror) c.growth_of.ensures c.in-Ok.ensures.gives;
}

pub returns-in-Err-clause-gives : goal.returns-in-Err-clause-gives
returns-in-Err-clause-gives g c = inr (record {
  opened = c.in_ok-mirror.mirror;
  opens = c.in_ok-mirror.ensures.gives;
  some = c.in-Err.ensures.gives;
  is = refl;
  devices = c.into_devices.ensures ∙ c.regard_lacked.ensures.disks;
})
