use Rattle.std.proofs.Common.{◌≡◌, true, ap, rules}
use Rattle.md_collect.specs.Collecting.{copying}
use Rattle.md_collect.specs.Reports.{with_report}
use Rattle.md_pass.proofs.Joins.{long_taken, short_taken}
use Rattle.md_pass.proofs.take_report.take_one.Goals as goal

pub returns-in_default-clause-taken : goal.returns-in_default-clause-taken
returns-in_default-clause-taken g c =
    let holds : g.D.Device.honest c.args.target.now ≡ true → g.D.Device.content c.take_ref.new.target ≡ with_report (copying c.args.collector.now) (g.D.Device.content c.args.target.now) c.args.report.now = search rules in
    long_taken (g.D.Device.honest c.args.target.now) c.args.collector.now c.args.report.now (g.D.Device.content c.args.target.now) (g.D.Device.content c.take_ref.new.target) c.args.joined.now c.requires.followed c.in_default.ensures.many
    (λ none. ap g.D.Device.content (c.take_ref.ensures.unwritten none)) c.take_ref.ensures.outside holds c.requires.fits

pub returns-clause-taken : goal.returns-clause-taken
returns-clause-taken g c =
    let (given, few) = c.in-Some.ensures.few in
    rw c.join.ensures (
    short_taken (g.D.Device.honest c.args.target.now) c.args.collector.now c.args.report.now c.in-Some.bytes.now (g.D.Device.content c.args.target.now) c.args.joined.now c.sector_of.result (search rules) c.requires.followed given c.requires.counts
    c.requires.chunk c.requires.room c.requires.fits
    )
