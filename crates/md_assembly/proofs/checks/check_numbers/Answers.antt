use Rattle.std.proofs.Common.{◌<◌, length, below_more, arith}
use Rattle.md_assembly.specs.Faults.{HasSameNumber, RepeatsNumber}
use Rattle.md_assembly.proofs.Order.{numbers_pass}
use Rattle.md_assembly.proofs.Places.{earlier_found, earlier_missed, least_by, pair_within, read_at}
use Rattle.md_assembly.proofs.checks.check_numbers.Goals as goal

pub returns-in-Some : goal.returns-in-Some
returns-in-Some c =
    let members = c.args.members.now in
    let there = read_at members c.loop-j.j c.index-members-j.result (omega arith) c.index-members-j.is in
    let found = earlier_found members c.in-Some.i c.loop-j.j c.index-members-j.result c.position_of.result there c.position_of.ensures c.in-Some.is in
    record {
      stands = (found.0, found.1, least_by (RepeatsNumber members) c.loop-j.j (c.in-Some.i, found.0, found.1) c.loop-j.invariant);
      first = c.requires;
    }

pub loop-j-preserved : goal.loop-j-preserved
loop-j-preserved c =
    let members = c.args.members.now in
    let there = read_at members c.loop-j.j c.index-members-j.result (omega arith) c.index-members-j.is in
    below_more _ _ c.loop-j.invariant (earlier_missed members c.loop-j.j c.index-members-j.result c.position_of.result there c.position_of.ensures c.in_default.is)

pub returns : goal.returns
returns c =
    let members = c.args.members.now in
    numbers_pass members c.requires (λ j r. let within : j < length members = pair_within HasSameNumber members r.0 j r.2 in c.loop-j.invariant j (omega arith) r)
