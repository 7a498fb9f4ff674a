use Rattle.std.proofs.Common.{inl, inr}
use Rattle.md_copy.proofs.Leads.UnfinishedEnrol.{prepares}
use Rattle.md_call_laws.specs.Rebuilds.UnfinishedEnrols.{CrashesUnfinishedEnrol, UnfinishedEnrolsPrepare}
use Rattle.md_call_laws.proofs.rebuilds.laws.unfinished_enrols.Goals as goal

unfinished_prepare : UnfinishedEnrolsPrepare
unfinished_prepare k copied orphans old new c may f at_marks = prepares k copied orphans old new c f may at_marks

stopped : CrashesUnfinishedEnrol
stopped t k copied orphans new c may f at_marks left within =
    inr (inr (inr (inr (inr (inr (inr (inl (record { on = k; next = new; call = prepares k copied orphans t.mirror new c f may at_marks; within = within }))))))))

pub returns : goal.returns
returns c = record { prepares = unfinished_prepare; crashed = stopped }
