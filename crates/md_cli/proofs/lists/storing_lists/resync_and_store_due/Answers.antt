use Rattle.std.proofs.Common.{◌≡◌, ◌∙◌, Err, refl, rules}
use Rattle.md_refusals.proofs.Wrapped.{own_err, own_ok}
use Rattle.md_refusals.specs.declared.fault.CommandFault.TheVariants.{Resync}
use Rattle.md_words.specs.Asks.{array_ask}
use Rattle.md_cli.proofs.Stored.{not_resynced_fails, resynced_and_stored}
use Rattle.md_cli.proofs.lists.storing_lists.resync_and_store_due.Goals as goal

pub returns-in_err-map_err-clause-gives : goal.returns-in_err-map_err-clause-gives
returns-in_err-map_err-clause-gives g c =
    let own = own_err _ _ _ c.resync_for.result _ _ c.resync_for.ensures.gives c.in_err-map_err.ensures.cases refl in
    let is : c.from_residual.result ≡ Err (Resync own.0) = let post = own.2 in search rules in
    rw is (not_resynced_fails (array_ask c.args.command) c.args.mirror.now c.resync_for.new.mirror own.0 own.1)

pub returns-in_err-map_err-clause-as_many : goal.returns-in_err-map_err-clause-as_many
returns-in_err-map_err-clause-as_many g c = c.resync_for.ensures.as_many

pub returns-clause-gives : goal.returns-clause-gives
returns-clause-gives g c =
    let own = own_ok _ _ _ c.resync_for.result _ _ c.resync_for.ensures.gives c.in_ok-map_err.ensures.cases c.in_ok-map_err.ensures.variant refl in
    resynced_and_stored (array_ask c.args.command) c.args.mirror.now c.resync_for.new.mirror c.store_due.new.mirror c.store_due.result own c.store_due.ensures.gives

pub returns-clause-as_many : goal.returns-clause-as_many
returns-clause-as_many g c = c.store_due.ensures.as_many ∙ c.resync_for.ensures.as_many
