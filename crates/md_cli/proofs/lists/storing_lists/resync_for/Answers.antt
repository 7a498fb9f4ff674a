use Rattle.std.proofs.Common.{◌≡◌, ◌∙◌, Bool, MatchResult, false, subst, sym, true}
use Rattle.md_words.specs.Asks.{array_ask, loss_of}
use Rattle.md_cli.specs.Lacking.{is_sectors}
use Rattle.md_cli.specs.StoringLists.{RefusesResyncFor, ResyncsFor}
use Rattle.md_cli.proofs.Stored.{needed_resync_as_many, salvage_resync_as_many}
use Rattle.md_cli.proofs.lists.storing_lists.resync_for.Goals as goal

pub returns-then-loses_sectors-clause-gives : goal.returns-then-loses_sectors-clause-gives
returns-then-loses_sectors-clause-gives g c =
    let old = c.args.mirror.now in
    let new = c.resync_to_salvage.new.mirror in
    let is : true ≡ is_sectors (loss_of (array_ask c.args.command)) = sym c.if-loses_sectors.true ∙ c.loses_sectors.ensures in
    subst (λ (b : Bool). MatchResult c.resync_to_salvage.result (λ _. ResyncsFor b old new) (RefusesResyncFor b old new)) is c.resync_to_salvage.ensures.gives

pub returns-then-loses_sectors-clause-as_many : goal.returns-then-loses_sectors-clause-as_many
returns-then-loses_sectors-clause-as_many g c =
    salvage_resync_as_many c.args.mirror.now c.resync_to_salvage.new.mirror c.resync_to_salvage.result c.resync_to_salvage.ensures.gives

pub returns-clause-gives : goal.returns-clause-gives
returns-clause-gives g c =
    let old = c.args.mirror.now in
    let new = c.resync_if_needed.new.mirror in
    let is : false ≡ is_sectors (loss_of (array_ask c.args.command)) = sym c.if-loses_sectors.false ∙ c.loses_sectors.ensures in
    subst (λ (b : Bool). MatchResult c.resync_if_needed.result (λ _. ResyncsFor b old new) (RefusesResyncFor b old new)) is c.resync_if_needed.ensures.gives

pub returns-clause-as_many : goal.returns-clause-as_many
returns-clause-as_many g c = needed_resync_as_many c.args.mirror.now c.resync_if_needed.new.mirror c.resync_if_needed.result c.resync_if_needed.ensures.gives
