use Rattle.std.proofs.Common.{rules, ◌≡◌, refl}
use Rattle.std.specs.Prelude.{Err}
use Rattle.md_refusals.specs.declared.fault.CommandFault.TheVariants.{Write}
use Rattle.md_refusals.proofs.Wrapped.{own_err, own_ok}
use Rattle.md_commands.proofs.writing.write_bytes.Goals as goal

pub returns-in_err-map_err-2-clause-gives : goal.returns-in_err-map_err-2-clause-gives
returns-in_err-map_err-2-clause-gives g c =
    let readied = own_ok _ _ _ c.resync_if_needed.result _ _ c.resync_if_needed.ensures.gives c.in_ok-map_err.ensures.cases c.in_ok-map_err.ensures.variant refl in
    let own = own_err _ _ _ c.write.result _ _ c.write.ensures.gives c.in_err-map_err-2.ensures.cases refl in
    let is : c.from_residual-in_err-map_err-2.result ≡ Err (Write own.0) = let post = own.2 in search rules in
    rw is (record { ready = c.resync_if_needed.new.mirror; readied = readied; refused = own.1 })

pub returns-clause-gives : goal.returns-clause-gives
returns-clause-gives g c = record {
  ready = c.resync_if_needed.new.mirror;
  readied = own_ok _ _ _ c.resync_if_needed.result _ _ c.resync_if_needed.ensures.gives c.in_ok-map_err.ensures.cases c.in_ok-map_err.ensures.variant refl;
  writes = own_ok _ _ _ c.write.result _ _ c.write.ensures.gives c.in_ok-map_err-2.ensures.cases c.in_ok-map_err-2.ensures.variant refl;
}

pub returns-in_err-map_err-2-clause-pending : goal.returns-in_err-map_err-2-clause-pending
returns-in_err-map_err-2-clause-pending g c p before = c.write.ensures.pending p (c.resync_if_needed.ensures.pending p before)
