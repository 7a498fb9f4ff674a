use Rattle.std.proofs.Common.{◌<◌, ◌≤◌, Bool, List, length, get_or, ◌∙◌, arith, subst}
use Rattle.std.specs.List.{All}
use Rattle.md_collect.specs.Collecting.{copying}
use Rattle.md_collect.specs.Workers.Waiting.{WaitingView}
use Rattle.md_pass.specs.Joining.{HaveJoinedReports, none_joined, stage_of}
use Rattle.md_pass.proofs.Besides.{fails_later, writes_then}
use Rattle.md_pass.proofs.Handings.{still_handed}
use Rattle.md_pass.proofs.Joinings.{joined_then, none_yet, settled, writes_waiting}
use Rattle.md_pass.proofs.Sweeps.{none_left, on_err, on_fault, on_ok, on_one}
use Rattle.md_pass.proofs.take_report.take_reports.Goals as goal

pub take_next-requires-clause-queue : goal.take_next-requires-clause-queue
take_next-requires-clause-queue g c =
    let (below, some) = c.in-Some.ensures.some in
    rw (← c.as_slice.ensures.value) below

pub take_next-requires-clause-joining : goal.take_next-requires-clause-joining
take_next-requires-clause-joining g c =
    let inv = c.loop-k.invariant in
    let t = inv.reports_taken in
    let (firsts, queues, first, has, p) = c.requires in
    let started = none_yet c.args.collector.now (g.D.Device.content c.args.target.now) c.args.copied.now p in
    (firsts, queues, first, still_handed queues c.args.waiting.now.items c.loop-k.waiting.items has t.as_many t.fewer, rw inv.writes.target.honest_kept (t.joining firsts queues first has started))

pub loop-k-preserved : goal.loop-k-preserved
loop-k-preserved g c =
    let inv = c.loop-k.invariant in
    let many = inv.reports_taken.as_many in
    let first = c.args.waiting.now.items in
    let olds = c.loop-k.waiting.items in
    let news = c.take_next.new.waiting.items in
    let start = stage_of c.args.collector.now (g.D.Device.content c.args.target.now) none_joined c.args.copied.now in
    let now = stage_of c.loop-k.collector (g.D.Device.content c.loop-k.target) c.loop-k.joined c.loop-k.copied in
    let next = stage_of c.take_next.new.collector (g.D.Device.content c.take_next.new.target) c.take_next.new.joined c.take_next.new.copied in
    record {
      reports_taken = joined_then (g.D.Device.honest c.args.target.now) start now next first olds news inv.reports_taken
          (subst (λ (b : Bool). HaveJoinedReports g.D.Device g.row.L.Denot g.row.M.Denot b now next olds news) inv.writes.target.honest_kept c.in_ok-take_next.ensures.reports_taken);
      writes = writes_then c.args.collector.now c.loop-k.collector c.take_next.new.collector c.args.target.now c.loop-k.target c.take_next.new.target inv.writes c.take_next.ensures.writes;
      none_failed = c.in_ok-take_next.ensures.none_failed ∙ inv.none_failed;
    }

pub returns-in_err-take_next-clause-failed : goal.returns-in_err-take_next-clause-failed
returns-in_err-take_next-clause-failed g c =
    on_err c.from_residual.result c.from_residual.ensures.0 (fails_later (copying c.args.collector.now) c.args.target.now c.loop-k.target c.take_next.new.target c.loop-k.invariant.writes.target c.in_err-take_next.ensures.failed)

pub returns-in_err-take_next-clause-writes : goal.returns-in_err-take_next-clause-writes
returns-in_err-take_next-clause-writes g c = writes_then c.args.collector.now c.loop-k.collector c.take_next.new.collector c.args.target.now c.loop-k.target c.take_next.new.target c.loop-k.invariant.writes c.take_next.ensures.writes

pub write-requires : goal.write-requires
write-requires g c =
    let (firsts, queues, first, has, p) = c.requires in
    record { fits = (c.loop-k.invariant.reports_taken.joining firsts queues first has (none_yet c.args.collector.now (g.D.Device.content c.args.target.now) c.args.copied.now p)).fits }

pub returns-clause-reports_taken : goal.returns-clause-reports_taken
returns-clause-reports_taken g c =
    let inv = c.loop-k.invariant in
    let t = inv.reports_taken in
    on_one c.write.result c.write.ensures.written
    (λ written. record {
      as_many = t.as_many;
      kept = t.kept;
      fewer = t.fewer;
      passing = λ firsts queues first has p.
          settled (g.D.Device.content c.write.new.target) (t.joining firsts queues first has (none_yet c.args.collector.now (g.D.Device.content c.args.target.now) c.args.copied.now p))
          c.write.ensures.within.outside (λ h. written (inv.writes.target.honest_kept ∙ h));
    })

pub returns-clause-failed : goal.returns-clause-failed
returns-clause-failed g c =
    on_fault c.write.result c.write.ensures.failed
    (λ failed. fails_later (copying c.args.collector.now) c.args.target.now c.loop-k.target c.write.new.target c.loop-k.invariant.writes.target failed)

pub returns-clause-none_failed : goal.returns-clause-none_failed
returns-clause-none_failed g c = on_one c.write.result c.write.ensures.none_failed (λ e. e ∙ c.loop-k.invariant.none_failed)

pub returns-clause-writes : goal.returns-clause-writes
returns-clause-writes g c =
    let inv = c.loop-k.invariant in
    let (firsts, queues, first, has, p) = c.requires in
    writes_then c.args.collector.now c.loop-k.collector c.loop-k.collector c.args.target.now c.loop-k.target c.write.new.target inv.writes
    (writes_waiting c.loop-k.collector c.loop-k.joined c.loop-k.copied c.loop-k.target c.write.new.target
    (inv.reports_taken.joining firsts queues first has (none_yet c.args.collector.now (g.D.Device.content c.args.target.now) c.args.copied.now p)) c.write.ensures.within)
