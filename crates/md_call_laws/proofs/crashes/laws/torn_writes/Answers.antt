use Rattle.md_call_laws.proofs.CrashLemmas.LoneLog.{content_after_lone_log, starts_after_lone_log}
use Rattle.md_call_laws.proofs.CrashLemmas.LoneMarks.{content_after_lone_marks, starts_after_lone_marks}
use Rattle.md_call_laws.proofs.CrashLemmas.TornCopies.{content_after_copy, starts_after_copy}
use Rattle.md_call_laws.proofs.crashes.laws.torn_writes.Goals as goal

pub returns : goal.returns
returns c = record {
  copy = starts_after_copy;
  copy_content = content_after_copy;
  lone_marks = starts_after_lone_marks;
  lone_content = content_after_lone_marks;
  lone_log = starts_after_lone_log;
  lone_log_content = content_after_lone_log;
}
