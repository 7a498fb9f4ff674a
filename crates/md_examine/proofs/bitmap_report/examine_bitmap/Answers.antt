use Rattle.md_examine.specs.BitmapReport.{bitmap_report}
use Rattle.md_streams.proofs.Puts.{puts_then}
use Rattle.md_examine.proofs.bitmap_report.examine_bitmap.Goals as goal

pub returns : goal.returns
unfolding bitmap_report
returns g c = puts_then g.S.Sink.contents g.S.Sink.failed (puts_then g.S.Sink.contents g.S.Sink.failed c.in_ok-identity.ensures c.in_ok-settings.ensures) c.in_ok-marked_line.ensures
