use Rattle.std.proofs.Common.{rules, ◌≡◌, refl}
use Rattle.std.specs.Prelude.{Err, codes}
use Rattle.md_refusals.specs.declared.fault.CommandFault.TheVariants.{Rebuild}
use Rattle.md_report.specs.AsJson.WholeArray.MemberObjects.{texts_of}
use Rattle.md_commands.specs.Objects.{summary_line}
use Rattle.md_commands.proofs.Rebuilt.{shown_or_not}
use Rattle.md_refusals.proofs.Wrapped.{own_err, own_ok}
use Rattle.md_commands.proofs.re_adding.rebuild_as_object.Goals as goal

pub returns-in_err-rebuilt-clause-gives : goal.returns-in_err-rebuilt-clause-gives
returns-in_err-rebuilt-clause-gives g c =
    let own = own_err _ _ _ c.rebuild_watched.result _ _ c.rebuild_watched.ensures.gives c.in_err-rebuilt.ensures.cases refl in
    let is : c.from_residual.result ≡ Err (Rebuild own.0) = let post = own.2 in search rules in
    rw is (own.1, refl)

pub returns-clause-gives : goal.returns-clause-gives
returns-clause-gives g c =
    shown_or_not g.S.Sink c.args.k c.args.mirror.now c.rebuild_watched.new.mirror c.stop_as_object.new.mirror c.args.out.now c.stop_as_object.new.out (summary_line (codes "re-add") (texts_of c.args.images.now)) (c.in_ok-rebuilt.rebuilt, own_ok _ _ _ c.rebuild_watched.result _ _ c.rebuild_watched.ensures.gives c.in_ok-rebuilt.ensures.cases c.in_ok-rebuilt.ensures.variant refl) c.stop_as_object.result c.stop_as_object.ensures.gives

pub returns-clause-pending : goal.returns-clause-pending
returns-clause-pending g c p is = c.stop_as_object.ensures.pending p (c.rebuild_watched.ensures.pending p is)
