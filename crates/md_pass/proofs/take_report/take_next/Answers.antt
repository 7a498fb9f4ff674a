use Rattle.std.specs.Prelude.{OnOk}
use Rattle.std.proofs.Common.{rules, ◌≡◌, ◌-◌, ◌<◌, ◌≤◌, ℕ, length, get_or, ap, sym, ◌∙◌, refl, arith, subst, length-set}
use Rattle.std.proofs.lemmas.List.{get_or_default}
use Rattle.std.proofs.lemmas.List.Sums.{sum_by-set}
use Rattle.md_collect.specs.Collecting.{copying}
use Rattle.md_collect.specs.Workers.Waiting.{WaitingView}
use Rattle.md_pass.specs.Joining.{FitsOn, GrowsByFirst, IsFollowedFirst, as_if_written, none_waiting}
use Rattle.md_pass.specs.TakingReports.{books, AreReportsTaken}
use Rattle.md_pass.proofs.Besides.{fails_later, writes_then}
use Rattle.md_pass.proofs.Joinings.{one_joined, room_there, still_joining, writes_waiting}
use Rattle.md_pass.proofs.Sweeps.{allowed_at, each_set, on_both, on_fault, on_one, one_fewer}
use Rattle.md_pass.proofs.take_report.take_next.Goals as goal

pub write_unless_followed-requires-clause-room : goal.write_unless_followed-requires-clause-room
write_unless_followed-requires-clause-room g c =
    let (firsts, queues, first, has, p) = c.requires.joining in
    room_there p

pub write_unless_followed-requires-clause-chunk : goal.write_unless_followed-requires-clause-chunk
write_unless_followed-requires-clause-chunk g c =
    let (firsts, queues, first, has, p) = c.requires.joining in
    (allowed_at p.passing has c.args.k c.index.result.now c.requires.queue c.index.ensures).within

pub write_unless_followed-requires-clause-fits : goal.write_unless_followed-requires-clause-fits
write_unless_followed-requires-clause-fits g c =
    let (firsts, queues, first, has, p) = c.requires.joining in
    p.fits

pub returns-in_err-write_unless_followed-clause-writes : goal.returns-in_err-write_unless_followed-clause-writes
returns-in_err-write_unless_followed-clause-writes g c =
    let (firsts, queues, first, has, p) = c.requires.joining in
    writes_waiting c.args.collector.now c.args.joined.now c.args.copied.now c.args.target.now c.write_unless_followed.new.target p c.write_unless_followed.ensures.within

pub take_report-requires-clause-room : goal.take_report-requires-clause-room
take_report-requires-clause-room g c =
    let (firsts, queues, first, has, p) = c.requires.joining in
    let room = room_there p in
    let size = c.write_unless_followed.ensures.within.outside.size in
    omega (arith, room, size)

pub take_report-requires-clause-allowed : goal.take_report-requires-clause-allowed
take_report-requires-clause-allowed g c =
    let (firsts, queues, first, has, p) = c.requires.joining in
    allowed_at p.passing has c.args.k c.index_mut.result.now c.requires.queue c.index_mut.ensures.value

pub take_report-requires-clause-followed : goal.take_report-requires-clause-followed
take_report-requires-clause-followed g c =
    let same : c.index.result.now ≡ c.index_mut.result.now = c.index.ensures ∙ get_or_default c.args.waiting.now.items c.args.k c.index.result.now c.index_mut.result.now c.requires.queue ∙ sym c.index_mut.ensures.value in
    subst (λ (reports : WaitingView). IsFollowedFirst c.args.collector.now c.write_unless_followed.new.self reports.waiting) same c.in_ok-write_unless_followed.ensures.followed

pub returns-clause-reports_taken : goal.returns-clause-reports_taken
returns-clause-reports_taken g c =
    let olds = c.args.waiting.now.items in
    let old = c.index_mut.result.now in
    let is = c.index_mut.ensures.value in
    let new = c.take_report.new.reports in
    let within = c.requires.queue in
    let target = c.write_unless_followed.new.target in
    let joined = c.write_unless_followed.new.self in
    let now = books c.args.collector.now (as_if_written (g.D.Device.content target) joined) c.args.copied.now in
    let next = books c.take_report.new.collector (as_if_written (g.D.Device.content c.take_report.new.target) c.take_report.new.joined) c.take_report.new.copied in
    let w = c.write_unless_followed.ensures.within in
    let before : (d : WaitingView) → get_or olds c.args.k d ≡ old = λ d. get_or_default olds c.args.k d old within ∙ sym is in
    let both : OnOk c.take_report.result (GrowsByFirst c.args.collector.now old.waiting joined c.take_report.new.joined × FitsOn (g.D.Device.content c.take_report.new.target) c.take_report.new.joined)
    = on_both c.take_report.result c.take_report.ensures.grows c.take_report.ensures.fits (λ grows fits. (grows, fits)) in
    on_both c.take_report.result c.take_report.ensures.reports_taken both
    (λ one_taken both.
    let reports_taken : AreReportsTaken (g.D.Device.honest c.args.target.now) now next old new old.waiting = subst (λ b. AreReportsTaken b now next old new old.waiting) w.honest_kept one_taken in
    let one = one_fewer (g.D.Device.honest c.args.target.now) now next old new reports_taken in
    record {
      as_many = length-set olds c.args.k new;
      kept = λ j d below. each_set (λ (a b : WaitingView). b ≡ record a { waiting = b.waiting }) olds olds c.args.k new within refl (λ d'. rw (before d') one.0)
          (λ j' d' e' below' other. rw (get_or_default olds j' d' e' below') refl) j d d below;
      fewer = λ j d below. each_set (λ (a b : WaitingView). length b.waiting ≤ length a.waiting) olds olds c.args.k new within refl (λ d'. rw (before d') (omega (arith, one.1)))
          (λ j' d' e' below' other. rw (get_or_default olds j' d' e' below') (omega arith)) j d d below;
      joining = λ firsts queues start has p.
          one_joined c.args.k old new
          (still_joining c.args.collector.now c.args.joined.now joined c.args.copied.now c.args.target.now target p c.in_ok-write_unless_followed.ensures.joined w
          c.in_ok-write_unless_followed.ensures.written c.in_ok-write_unless_followed.ensures.fits) has within is reports_taken both.0 both.1;
    })

pub returns-clause-taken : goal.returns-clause-taken
returns-clause-taken g c =
    let olds = c.args.waiting.now.items in
    let old = c.index_mut.result.now in
    let new = c.take_report.new.reports in
    let within = c.requires.queue in
    let before : get_or olds c.args.k none_waiting ≡ old = get_or_default olds c.args.k none_waiting old within ∙ sym c.index_mut.ensures.value in
    on_one c.take_report.result c.take_report.ensures.reports_taken
    (λ one_taken.
    let one = (one_fewer _ _ _ old new one_taken).1 in
    let sum = sum_by-set (λ (r : WaitingView). length r.waiting) olds c.args.k new none_waiting within in
    let was : length (get_or olds c.args.k none_waiting).waiting ≡ length old.waiting = ap (λ (r : WaitingView). length r.waiting) before in
    omega (arith, one, sum, was))

pub returns-clause-failed : goal.returns-clause-failed
returns-clause-failed g c =
    let (firsts, queues, first, has, p) = c.requires.joining in
    let target = c.write_unless_followed.new.target in
    let waiting = writes_waiting c.args.collector.now c.args.joined.now c.args.copied.now c.args.target.now target p c.write_unless_followed.ensures.within in
    on_fault c.take_report.result c.take_report.ensures.failed (λ failed. fails_later (copying c.args.collector.now) c.args.target.now target c.take_report.new.target waiting.target failed)

pub returns-clause-none_failed : goal.returns-clause-none_failed
returns-clause-none_failed g c = on_one c.take_report.result c.take_report.ensures.none_failed (λ e. e ∙ c.in_ok-write_unless_followed.ensures.none_failed)

pub returns-clause-writes : goal.returns-clause-writes
returns-clause-writes g c =
    let (firsts, queues, first, has, p) = c.requires.joining in
    let target = c.write_unless_followed.new.target in
    writes_then c.args.collector.now c.args.collector.now c.take_report.new.collector c.args.target.now target c.take_report.new.target
    (writes_waiting c.args.collector.now c.args.joined.now c.args.copied.now c.args.target.now target p c.write_unless_followed.ensures.within) c.take_report.ensures.writes
