use Rattle.std.proofs.Common.{◌≡◌, Some, None, List, true, false, drop, refl, ap, sym, ◌∙◌, rules}
use Rattle.md_collect.specs.Reports.{ReportView}
use Rattle.md_collect.specs.Workers.Queues.{is_failed}
use Rattle.md_pass.proofs.Joinings.{one_written}
use Rattle.md_pass.proofs.ReportsTaken.{held}
use Rattle.md_collect.proofs.WorkerLemmas.Workers.{none_given}
use Rattle.md_pass.specs.Joining.{as_if_written}
use Rattle.md_pass.proofs.take_report.take_report.Goals as goal

pub take_one-requires-clause-counts : goal.take_one-requires-clause-counts
take_one-requires-clause-counts g c =
    let (rest, waits) = c.in-Some.ensures.some in
    c.requires.allowed.counts c.in-Some.report.now rest waits

pub take_one-requires-clause-chunk : goal.take_one-requires-clause-chunk
take_one-requires-clause-chunk g c =
    let (rest, waits) = c.in-Some.ensures.some in
    c.requires.allowed.within c.in-Some.report.now rest waits

pub take_one-requires-clause-followed : goal.take_one-requires-clause-followed
take_one-requires-clause-followed g c =
    let (rest, waits) = c.in-Some.ensures.some in
    c.requires.followed c.in-Some.report.now rest waits

pub returns-in_err-take_one-clause-writes : goal.returns-in_err-take_one-clause-writes
returns-in_err-take_one-clause-writes g c =
    let (rest, waits) = c.in-Some.ensures.some in
    one_written c.args.collector.now c.take_one.new.collector c.in-Some.report.now.chunk c.args.target.now c.take_one.new.target (c.requires.allowed.planned c.in-Some.report.now rest waits) c.take_one.ensures.kept c.take_one.ensures.within

pub returns-then-failed-clause-writes : goal.returns-then-failed-clause-writes
returns-then-failed-clause-writes g c =
    let (rest, waits) = c.in-Some.ensures.some in
    one_written c.args.collector.now c.take_one.new.collector c.in-Some.report.now.chunk c.args.target.now c.take_one.new.target (c.requires.allowed.planned c.in-Some.report.now rest waits) c.take_one.ensures.kept c.take_one.ensures.within

pub returns-then-failed-clause-grows : goal.returns-then-failed-clause-grows
returns-then-failed-clause-grows g c =
    let (rest, waits) = c.in-Some.ensures.some in
    rw waits c.in_ok-take_one.ensures.taken.grows

-- a report of a read that failed: nothing is written or marked
pub returns-then-failed-clause-reports_taken : goal.returns-then-failed-clause-reports_taken
returns-then-failed-clause-reports_taken g c =
    let (rest, waits) = c.in-Some.ensures.some in
    let failed : is_failed c.in-Some.report.now ≡ true = search rules in
    let none : c.in-Some.report.now.bytes ≡ None = none_given c.in-Some.report.now failed in
    rw waits (
      record {
        counted = c.in_ok-take_one.ensures.counted;
        marked = record { chunks = refl; bits = λ chunk. rw failed refl };
        changes = c.in_ok-take_one.ensures.taken.changes;
        unwritten = λ _. c.in_ok-take_one.ensures.taken.unwritten none;
        holds = λ read e. absurd (let z : None ≡ Some read = sym none ∙ e in cc);
      },
      c.retire.ensures ∙ ap (λ (xs : List ReportView). record c.args.reports.now { waiting = drop 1 xs }) waits,
    )

pub returns-clause-writes : goal.returns-clause-writes
returns-clause-writes g c =
    let (rest, waits) = c.in-Some.ensures.some in
    one_written c.args.collector.now c.take_one.new.collector c.in-Some.report.now.chunk c.args.target.now c.take_one.new.target (c.requires.allowed.planned c.in-Some.report.now rest waits) c.take_one.ensures.kept c.take_one.ensures.within

pub returns-clause-grows : goal.returns-clause-grows
returns-clause-grows g c =
    let (rest, waits) = c.in-Some.ensures.some in
    rw waits c.in_ok-take_one.ensures.taken.grows

pub returns-clause-reports_taken : goal.returns-clause-reports_taken
returns-clause-reports_taken g c =
    let (rest, waits) = c.in-Some.ensures.some in
    let given : is_failed c.in-Some.report.now ≡ false = search rules in
    rw waits (
      record {
        counted = c.in_ok-take_one.ensures.counted;
        marked = record { chunks = c.mark.ensures.chunks; bits = rw (given, ← c.chunk-chunk.ensures) c.mark.ensures.bits };
        changes = c.in_ok-take_one.ensures.taken.changes;
        unwritten = λ failed. absurd (let z : is_failed c.in-Some.report.now ≡ true = failed in cc);
        holds = λ read e h. held c.args.collector.now (as_if_written (g.D.Device.content c.args.target.now) c.args.joined.now) (as_if_written (g.D.Device.content c.take_one.new.target) c.take_one.new.joined) c.in-Some.report.now read e
            (c.in_ok-take_one.ensures.taken.holds h);
      },
      c.retire.ensures ∙ ap (λ (xs : List ReportView). record c.args.reports.now { waiting = drop 1 xs }) waits,
    )
