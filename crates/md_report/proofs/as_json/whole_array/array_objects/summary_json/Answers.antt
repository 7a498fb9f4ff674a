use Rattle.std.proofs.Common.{[], ◌∷◌}
use Rattle.md_report.specs.AsJson.WholeArray.ArrayObjects.{members_fields, summary_fields}
use Rattle.md_report.specs.AsJson.WholeArray.KernelField.{kernel_fields}
use Rattle.md_report.specs.AsJson.WholeArray.MemberObjects.{texts_of}
use Rattle.md_streams.proofs.Puts.{puts_then}
use Rattle.md_report.proofs.JsonLemmas.Texts.{puts_report}
use Rattle.md_report.proofs.as_json.whole_array.array_objects.summary_json.Goals as goal

pub returns : goal.returns
returns g c =
    puts_report g.S.Sink.contents g.S.Sink.failed c.args.kind.now (summary_fields c.args.mirror.now.array ∷ members_fields c.args.mirror.now.array (texts_of c.args.images.now) ∷ kernel_fields c.args.mirror.now.array ∷ [])
    c.in_ok-open.ensures (puts_then g.S.Sink.contents g.S.Sink.failed c.in_ok-summary.ensures (puts_then g.S.Sink.contents g.S.Sink.failed c.in_ok-members.ensures (puts_then g.S.Sink.contents g.S.Sink.failed c.in_ok-kernel_field.ensures c.in_ok-close.ensures)))
