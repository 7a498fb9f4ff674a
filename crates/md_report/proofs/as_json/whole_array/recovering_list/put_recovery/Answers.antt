use Rattle.std.proofs.Common.{codes}
use Rattle.md_report.specs.AsJson.Objects.{whole}
use Rattle.md_report.specs.AsJson.WholeArray.RecoveringList.{recovery_fields}
use Rattle.md_streams.proofs.Puts.{puts_then}
use Rattle.md_report.proofs.JsonLemmas.Texts.{puts_object}
use Rattle.md_report.proofs.as_json.whole_array.recovering_list.put_recovery.Goals as goal

pub returns : goal.returns
unfolding recovery_fields
returns g c =
    puts_object g.S.Sink.contents g.S.Sink.failed (codes "index") (whole c.args.recovery.member) (recovery_fields c.args.recovery)
    c.in_ok-open_number.ensures (puts_then g.S.Sink.contents g.S.Sink.failed c.in_ok-next_number.ensures (puts_then g.S.Sink.contents g.S.Sink.failed c.in_ok-next_number-2.ensures (puts_then g.S.Sink.contents g.S.Sink.failed c.in_ok-next_number-3.ensures c.in_ok-put.ensures)))
