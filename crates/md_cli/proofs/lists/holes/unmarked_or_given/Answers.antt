use Rattle.md_cli.proofs.GivenSectors.{alone_are, if_ok, unmarked_or_given_are}
use Rattle.md_cli.proofs.lists.holes.unmarked_or_given.Goals as goal

pub returns-then-not-has_two_in_sync : goal.returns-then-not-has_two_in_sync
returns-then-not-has_two_in_sync g c =
    if_ok c.try_clone.result (λ list same. alone_are c.args.lacking.now c.args.mirror.now.array c.args.holes.now list (c.has_two_in_sync.ensures.one (let no = c.if-not-has_two_in_sync.true in cc)) same)
    c.try_clone.ensures.same

pub returns : goal.returns
returns g c =
    unmarked_or_given_are c.args.lacking.now c.args.mirror.now.array c.args.holes.now c.in_ok-sectors.sectors c.in_ok-given.given c.add_sectors.new.list c.in_ok-given.ensures.canonical
    (c.has_two_in_sync.ensures.two (let yes = c.if-not-has_two_in_sync.false in cc))
    c.in_ok-sectors.ensures.unmarked c.in_ok-given.ensures.given c.in_ok-add_sectors.ensures.bad
