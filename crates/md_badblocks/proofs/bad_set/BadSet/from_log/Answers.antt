use Rattle.std.proofs.Common.{sym, ◌∙◌}
use Rattle.md_badblocks.proofs.Reading.{read_ended, read_more}
use Rattle.md_badblocks.proofs.bad_set.BadSet.from_log.Goals as goal

pub returns-then-entry-clause-ok : goal.returns-then-entry-clause-ok
returns-then-entry-clause-ok c =
    read_ended c.args.shift c.args.bytes.now c.loop-place.place c.loop-place.set c.loop-place-test.true (sym c.u64_at-entry.ensures ∙ c.if-entry.true) c.loop-place.invariant

pub loop-place-preserved : goal.loop-place-preserved
loop-place-preserved c =
    read_more c.args.shift c.args.bytes.now c.loop-place.place c.u64_at-entry.result c.run_of-run.result c.loop-place.set c.add.new.self c.loop-place-test.true c.u64_at-entry.ensures c.if-entry.false c.run_of-run.ensures c.in_ok-add.ensures.canonical c.in_ok-add.ensures.ok c.loop-place.invariant
