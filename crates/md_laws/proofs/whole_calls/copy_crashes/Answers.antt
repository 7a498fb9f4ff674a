use Rattle.md_laws.proofs.Crashes.CopyCrashes.{crashes_at_copies}
use Rattle.md_laws.proofs.whole_calls.copy_crashes.Goals as goal

pub returns : goal.returns
returns c = crashes_at_copies
