use Rattle.md_call_laws.proofs.RebuildLemmas.HeldBefore.{rebuilds_resumed}
use Rattle.md_call_laws.proofs.RebuildLemmas.RebuiltHolds.{copies_content, rebuilds_content}
use Rattle.md_call_laws.proofs.rebuilds.laws.rebuilt_in_life.Goals as goal

pub returns : goal.returns
returns c = record { copies = copies_content; content = rebuilds_content; resumed = rebuilds_resumed }
