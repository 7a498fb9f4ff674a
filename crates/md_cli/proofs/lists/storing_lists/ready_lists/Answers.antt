use Rattle.std.proofs.Common.{inr, refl}
use Rattle.md_words.specs.Asks.{array_ask}
use Rattle.md_cli.proofs.Stored.{readied_gives}
use Rattle.md_cli.proofs.lists.storing_lists.ready_lists.Goals as goal

pub returns-then-not-is_to_ready-clause-gives : goal.returns-then-not-is_to_ready-clause-gives
returns-then-not-is_to_ready-clause-gives g c = inr (c.is_to_ready.ensures.no (let no = c.if-not-is_to_ready.true in cc), refl)

pub returns-clause-gives : goal.returns-clause-gives
returns-clause-gives g c =
    readied_gives (array_ask c.args.command) c.args.lacking.now c.args.mirror.now c.resync_and_store_due.new.mirror c.resync_and_store_due.result
    (c.is_to_ready.ensures.yes (let yes = c.if-not-is_to_ready.false in cc)) c.resync_and_store_due.ensures.gives
