use Rattle.std.proofs.Common.{inl, inr, refl}
use Rattle.std.proofs.lemmas.Result.{err_from_is_err_and}
use Rattle.md_cli.specs.Opened.{opened_view}
use Rattle.md_cli.proofs.lists.performing_and_storing.store_and_perform.Goals as goal

-- no lists are stored
pub returns-then-not-stores_early-clause-performs : goal.returns-then-not-stores_early-clause-performs
returns-then-not-stores_early-clause-performs g c = inr (inr (c.stores_early.ensures.late (let no = c.if-not-stores_early.true in cc), c.perform.ensures.performs))

-- a list can't be stored
pub returns-in_err-store_lists-clause-performs : goal.returns-in_err-store_lists-clause-performs
returns-in_err-store_lists-clause-performs g c =
    let p = err_from_is_err_and c.from_residual.result c.from_residual.ensures.1 in
    rw (p.1, p.2) (inr (inl (record {
      early = c.stores_early.ensures.early (let yes = c.if-not-stores_early.false in cc);
      fault = _;
      is = refl;
      fails = record { beside = refl; as_many = c.store_lists.ensures.as_many; fails = c.in_err-store_lists.ensures.gives };
      unused = refl;
    })))

pub perform-requires-2-clause-sound : goal.perform-requires-2-clause-sound
perform-requires-2-clause-sound g c κs within = c.in_ok-store_lists.ensures.sound

-- they are stored, and then the command is done or refused
pub returns-clause-performs : goal.returns-clause-performs
returns-clause-performs g c = inl (record {
  early = c.stores_early.ensures.early (let yes = c.if-not-stores_early.false in cc);
  ready = record (opened_view g.D.Device c.args.opened.now) { mirror = c.store_lists.new.mirror };
  stores = record { beside = refl; as_many = c.store_lists.ensures.as_many; stores = c.in_ok-store_lists.ensures.gives };
  performs = c.perform-2.ensures.performs;
})
