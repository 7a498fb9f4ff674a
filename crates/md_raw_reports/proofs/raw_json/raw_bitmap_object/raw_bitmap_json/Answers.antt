use Rattle.std.proofs.Common.{[], ◌∷◌, codes}
use Rattle.md_raw_reports.specs.RawJson.RawBitmap.{part_fields, super_fault_fields}
use Rattle.md_raw_reports.specs.RawJson.RawSuper.{unread_fields}
use Rattle.md_streams.proofs.Puts.{puts_then}
use Rattle.md_report.proofs.JsonLemmas.Texts.{puts_report}
use Rattle.md_raw_reports.proofs.raw_json.raw_bitmap_object.raw_bitmap_json.Goals as goal

pub returns : goal.returns
returns g c =
    puts_report g.S.Sink.contents g.S.Sink.failed (codes "examine-bitmap --all") (unread_fields c.args.read ∷ super_fault_fields c.args.read c.args.superblock.now ∷ part_fields c.args.bitmap.now ∷ [])
    c.in_ok-open.ensures (puts_then g.S.Sink.contents g.S.Sink.failed c.in_ok-unread.ensures (puts_then g.S.Sink.contents g.S.Sink.failed c.in_ok-super_faults.ensures (puts_then g.S.Sink.contents g.S.Sink.failed c.in_ok-part.ensures c.in_ok-close.ensures)))
