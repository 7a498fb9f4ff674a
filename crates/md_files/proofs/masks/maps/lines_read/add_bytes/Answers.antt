use Rattle.std.proofs.Common.{arith}
use Rattle.std.proofs.lemmas.Result.{on_ok_weaker}
use Rattle.md_files.proofs.MaskLemmas.MapLemmas.Lines.{added_bytes}
use Rattle.md_files.proofs.masks.maps.lines_read.add_bytes.Goals as goal

pub returns : goal.returns
returns c =
    on_ok_weaker c.add.result (λ added. added_bytes c.args.start c.args.len c.args.sectors.now c.add.new.self (omega arith) c.requires added) c.add.ensures.ok
