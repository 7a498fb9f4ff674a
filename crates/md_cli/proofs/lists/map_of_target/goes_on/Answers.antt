use Rattle.std.proofs.Common.{◌∙◌, inr, refl, sym, true≢false}
use Rattle.md_messages.specs.Question.{question}
use Rattle.md_messages.specs.Telling.{texts}
use Rattle.md_words.specs.Asks.{array_ask}
use Rattle.md_cli.proofs.MapsOfTargets.{goes_on_if}
use Rattle.md_cli.proofs.lists.map_of_target.goes_on.Goals as goal

pub returns-then-lacks_in_target : goal.returns-then-lacks_in_target
returns-then-lacks_in_target g c = inr (c.lacks_in_target.ensures.0 c.if-lacks_in_target.true, refl, refl)

pub returns : goal.returns
returns g c =
    goes_on_if (question g.A.Asker (array_ask c.args.command) (texts c.args.names.now)) c.args.notices.now c.args.lacking.now (array_ask c.args.command) c.args.mirror.now.array c.args.asker.now c.ask_first.new.asker c.ask_first.result
    (λ l. true≢false (sym (c.lacks_in_target.ensures.1 l) ∙ c.if-lacks_in_target.false)) c.ask_first.ensures
