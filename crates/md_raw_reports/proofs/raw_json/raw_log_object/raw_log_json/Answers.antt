use Rattle.std.proofs.Common.{[], ◌∷◌, codes}
use Rattle.md_raw_reports.specs.RawJson.RawBitmap.{super_fault_fields}
use Rattle.md_raw_reports.specs.RawJson.RawLog.{area_fields, told_fields}
use Rattle.md_raw_reports.specs.RawJson.RawSuper.{unread_fields}
use Rattle.md_streams.proofs.Puts.{puts_then}
use Rattle.md_report.proofs.JsonLemmas.Texts.{puts_report}
use Rattle.md_raw_reports.proofs.raw_json.raw_log_object.raw_log_json.Goals as goal

pub returns : goal.returns
returns g c =
    puts_report g.S.Sink.contents g.S.Sink.failed (codes "examine-badblocks --all") (unread_fields c.args.read ∷ super_fault_fields c.args.read c.args.superblock.now ∷ told_fields c.args.read c.args.superblock.now ∷ area_fields c.args.lost c.args.area.now ∷ [])
    c.in_ok-open.ensures (puts_then g.S.Sink.contents g.S.Sink.failed c.in_ok-unread.ensures (puts_then g.S.Sink.contents g.S.Sink.failed c.in_ok-super_faults.ensures (puts_then g.S.Sink.contents g.S.Sink.failed c.in_ok-superblock_part.ensures (puts_then g.S.Sink.contents g.S.Sink.failed c.in_ok-entries.ensures c.in_ok-close.ensures))))
