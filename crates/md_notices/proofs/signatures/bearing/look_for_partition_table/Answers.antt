use Rattle.std.proofs.Common.{ap, ◌∙◌}
use Rattle.md_notices.specs.Signatures.Bearing.{bears_signature}
use Rattle.md_notices.specs.Signatures.Partitions.{is_partition_table}
use Rattle.md_notices.proofs.SignatureLemmas.Devices.{missed, tells_same}
use Rattle.md_notices.proofs.SignatureLemmas.Tables.{no_table}
use Rattle.md_notices.proofs.signatures.bearing.look_for_partition_table.Goals as goal

pub returns-in-Some-clause-tells : goal.returns-in-Some-clause-tells
unfolding bears_signature
returns-in-Some-clause-tells g c = tells_same (λ h. c.is_partition_table.ensures ∙ ap is_partition_table (c.in-Some.ensures.reads.given h))

pub returns-in-None-clause-tells : goal.returns-in-None-clause-tells
unfolding bears_signature
returns-in-None-clause-tells g c = missed 0 c.in-None.ensures.reads (no_table (g.D.Device.content c.args.device.now))
