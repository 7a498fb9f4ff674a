use Rattle.std.proofs.Common.{◌∙◌, ◌*◌, sym, arith}
use Rattle.std.proofs.lemmas.List.{length-take-le}
use Rattle.md_commands.proofs.SetAside.{asked_failed, asked_rests}
use Rattle.md_commands.proofs.setting_aside.gives.Goals as goal

pub returns-clause-rests : goal.returns-clause-rests
returns-clause-rests g c = asked_rests c.args.k c.args.sector _ c.read_data.new.buf c.args.mirror.now c.read_data.new.self c.read_data.result c.read_data.ensures.gives

pub returns-clause-asked : goal.returns-clause-asked
returns-clause-asked g c = λ no.
    asked_failed c.args.k c.args.sector _ c.read_data.new.buf c.args.mirror.now c.read_data.new.self c.read_data.result c.args.sectors
    (length-take-le (512 * c.args.sectors) _ (let few = c.requires.few in omega arith)) c.read_data.ensures.gives
    (sym c.is_ok.ensures.value ∙ no)
