use Rattle.std.proofs.Common.{refl}
use Rattle.md_read_commands.proofs.ReadReadied.{is_readied, may_read, not_resynced}
use Rattle.md_refusals.proofs.Wrapped.{own_ok}
use Rattle.md_read_commands.proofs.reading.make_ready.Goals as goal

pub returns-then-not-resynced-clause-gives : goal.returns-then-not-resynced-clause-gives
returns-then-not-resynced-clause-gives g c =
    not_resynced c.args.mirror.now c.resync_if_needed.new.mirror (own_ok _ _ _ c.resync_if_needed.result _ _ c.resync_if_needed.ensures.gives c.in_ok-map_err-2.ensures.cases c.in_ok-map_err-2.ensures.variant refl) c.args.sector c.args.count (own_ok _ _ _ c.check_range.result _ _ c.check_range.ensures.may c.in_ok-map_err.ensures.cases c.in_ok-map_err.ensures.variant refl)
    (let told = c.resynced.ensures in let no = c.if-not-resynced.true in cc)

pub returns-clause-gives : goal.returns-clause-gives
returns-clause-gives g c = (
  is_readied c.args.mirror.now c.resync_if_needed.new.mirror (own_ok _ _ _ c.resync_if_needed.result _ _ c.resync_if_needed.ensures.gives c.in_ok-map_err-2.ensures.cases c.in_ok-map_err-2.ensures.variant refl) c.args.sector c.args.count (own_ok _ _ _ c.check_range.result _ _ c.check_range.ensures.may c.in_ok-map_err.ensures.cases c.in_ok-map_err.ensures.variant refl)
      (let told = c.resynced.ensures in let yes = c.if-not-resynced.false in cc),
  refl,
)

pub returns-clause-may : goal.returns-clause-may
returns-clause-may g c =
    may_read c.args.mirror.now c.resync_if_needed.new.mirror (own_ok _ _ _ c.resync_if_needed.result _ _ c.resync_if_needed.ensures.gives c.in_ok-map_err-2.ensures.cases c.in_ok-map_err-2.ensures.variant refl) c.args.sector c.args.count (own_ok _ _ _ c.check_range.result _ _ c.check_range.ensures.may c.in_ok-map_err.ensures.cases c.in_ok-map_err.ensures.variant refl)
    (let told = c.resynced.ensures in let yes = c.if-not-resynced.false in cc)
