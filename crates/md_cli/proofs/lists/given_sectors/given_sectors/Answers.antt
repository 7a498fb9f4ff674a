use Rattle.std.proofs.Common.{arith}
use Rattle.md_cli.proofs.GivenSectors.{given_all, given_more}
use Rattle.md_cli.proofs.lists.given_sectors.given_sectors.Goals as goal

pub add_given-requires-clause-within : goal.add_given-requires-clause-within
add_given-requires-clause-within g c =
    let count = c.members-j-end.ensures in
    let below = c.loop-j-test.true in
    omega arith

pub loop-j-preserved : goal.loop-j-preserved
loop-j-preserved g c = record {
  canonical = c.add_given.ensures.canonical;
  given = given_more c.args.lacking.now c.args.mirror.now.array c.args.sectors.now c.loop-j.j c.loop-j.given c.add_given.new.given c.loop-j.invariant.given c.in_ok-add_given.ensures.given;
}

pub returns-clause-given : goal.returns-clause-given
returns-clause-given g c =
    let count = c.members-j-end.ensures in
    let past = c.loop-j-test.false in
    given_all c.args.lacking.now c.args.mirror.now.array c.args.sectors.now c.loop-j.j c.loop-j.given (omega arith) c.loop-j.invariant.given
