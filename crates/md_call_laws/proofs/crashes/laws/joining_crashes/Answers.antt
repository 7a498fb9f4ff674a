use Rattle.md_call_laws.proofs.CrashLemmas.JoiningCrashes.{none_is_opened, crashes_in_add, crashes_in_failed_add, crashes_in_failed_re_add, crashes_in_re_add, crashes_in_refused_add, crashes_in_refused_re_add}
use Rattle.md_call_laws.proofs.crashes.laws.joining_crashes.Goals as goal

pub returns : goal.returns
returns c = record {
  add = crashes_in_add;
  failed_add = crashes_in_failed_add;
  refused_add = crashes_in_refused_add;
  re_add = crashes_in_re_add;
  failed_re_add = crashes_in_failed_re_add;
  refused_re_add = crashes_in_refused_re_add;
  unread = none_is_opened;
}
