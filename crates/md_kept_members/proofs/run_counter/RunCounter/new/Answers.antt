use Rattle.std.proofs.Common.{refl}
use Rattle.md_kept_members.proofs.EntryCounts.{begun}
use Rattle.md_kept_members.proofs.run_counter.RunCounter.new.Goals as goal

pub returns-clause-counts : goal.returns-clause-counts
returns-clause-counts c = λ list. begun list _ refl refl refl
