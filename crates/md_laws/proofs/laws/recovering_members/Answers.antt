use Rattle.md_laws.proofs.Runs.Lists.{lists_where_known, says_no_more_where_known}
use Rattle.md_laws.proofs.Runs.Offsets.{offsets_are_kept, says_no_more_without_list}
use Rattle.md_laws.proofs.Runs.Recovering.{keeps_recovering, says_no_more_when_opened}
use Rattle.md_laws.proofs.Runs.SureRuns.{mirror_keeps_sure}
use Rattle.md_laws.proofs.laws.recovering_members.Goals as goal

pub returns : goal.returns
returns c = record { kept = keeps_recovering; as_opened = says_no_more_when_opened; offsets = offsets_are_kept; known = says_no_more_where_known; unlisted = says_no_more_without_list; sure = mirror_keeps_sure; lists = lists_where_known }
