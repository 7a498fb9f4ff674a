use Rattle.std.proofs.Common.{refl, subst, sym}
use Rattle.md_words.specs.Asks.{array_ask}
use Rattle.md_words.specs.declared.array_command.ArrayCommand.{ArrayCommand}
use Rattle.md_messages.specs.Telling.{texts}
use Rattle.md_cli.specs.Opened.{opened_view}
use Rattle.md_cli.specs.Performing.{Performs}
use Rattle.md_cli.specs.Streams.{streams_of}
use Rattle.md_cli.proofs.performing.perform.Goals as goal

pub returns-in-Plan-clause-performs : goal.returns-in-Plan-clause-performs
returns-in-Plan-clause-performs g c =
    let opened = opened_view g.D.Device c.args.opened.now in
    let old = streams_of c.args.session.now in
    let new = record old { output = c.plan.new.out } in
    subst (λ (command : ArrayCommand). Performs g.R.Source g.S.Sink (texts c.args.names.now) (array_ask command) opened opened old new c.plan.result) (sym c.in-Plan.is) (refl, refl, c.plan.ensures.shows)
