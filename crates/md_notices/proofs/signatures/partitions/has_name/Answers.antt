use Rattle.std.proofs.Common.{ap, ◌∙◌}
use Rattle.std.specs.List.{list_any}
use Rattle.md_notices.specs.Signatures.Magics.{has_sign, sign_of}
use Rattle.md_notices.specs.Signatures.Partitions.{has_name}
use Rattle.md_notices.proofs.SignatureLemmas.Lists.{list_any_map}
use Rattle.md_notices.proofs.signatures.partitions.has_name.Goals as goal

pub returns : goal.returns
unfolding has_name
returns c =
    c.bears_one.ensures ∙ list_any_map (has_sign c.args.bytes.now) sign_of c.magics.result.now ∙ ap (list_any (has_sign c.args.bytes.now)) c.magics.ensures.table
