use Rattle.std.proofs.Common.{inl, inr, refl}
use Rattle.std.proofs.lemmas.Result.{err_from_is_err_and}
use Rattle.md_cli.specs.Opened.{opened_view}
use Rattle.md_cli.proofs.lists.performing_and_storing.perform_and_store.Goals as goal

-- the array is not made ready
pub returns-in_err-ready_lists-clause-performs : goal.returns-in_err-ready_lists-clause-performs
returns-in_err-ready_lists-clause-performs g c =
    let p = err_from_is_err_and c.from_residual.result c.from_residual.ensures.1 in
    rw (p.1, p.2) (inr (record {
      beside = refl;
      as_many = c.ready_lists.ensures.as_many;
      to_ready = c.in_err-ready_lists.ensures.gives.0;
      fault = _;
      is = refl;
      fails = c.in_err-ready_lists.ensures.gives.1;
      unused = refl;
    }))

pub store_and_perform-requires-clause-sound : goal.store_and_perform-requires-clause-sound
store_and_perform-requires-clause-sound g c κs within = c.in_ok-ready_lists.ensures.sound

pub returns-clause-performs : goal.returns-clause-performs
returns-clause-performs g c = inl (record {
  ready = record (opened_view g.D.Device c.args.opened.now) { mirror = c.ready_lists.new.mirror };
  beside = refl;
  as_many = c.ready_lists.ensures.as_many;
  readies = c.in_ok-ready_lists.ensures.gives;
  goes = c.store_and_perform.ensures.performs;
})
