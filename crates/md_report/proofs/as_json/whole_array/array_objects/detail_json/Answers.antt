use Rattle.std.proofs.Common.{[], ◌∷◌, codes}
use Rattle.md_report.specs.AsJson.WholeArray.ArrayObjects.{condition_fields, members_fields, shared_fields}
use Rattle.md_report.specs.AsJson.WholeArray.KernelField.{kernel_fields}
use Rattle.md_report.specs.AsJson.WholeArray.MemberObjects.{texts_of}
use Rattle.md_report.specs.AsJson.WholeArray.RecoveringList.{recovering_fields}
use Rattle.md_report.specs.AsJson.WholeArray.StandingLists.{standing_fields}
use Rattle.md_streams.proofs.Puts.{puts_then}
use Rattle.md_report.proofs.JsonLemmas.Texts.{puts_report}
use Rattle.md_report.proofs.as_json.whole_array.array_objects.detail_json.Goals as goal

pub returns : goal.returns
returns g c =
    let its = c.in_ok-shared_fields.ensures in
    let its = rw (c.shared.ensures) at its in
    puts_report g.S.Sink.contents g.S.Sink.failed (codes "detail") (shared_fields c.args.mirror.now.array.shared ∷ condition_fields c.args.mirror.now.array ∷ members_fields c.args.mirror.now.array (texts_of c.args.images.now) ∷ standing_fields c.args.mirror.now.array ∷ recovering_fields c.args.mirror.now.array ∷ kernel_fields c.args.mirror.now.array ∷ [])
    c.in_ok-open.ensures (puts_then g.S.Sink.contents g.S.Sink.failed its (puts_then g.S.Sink.contents g.S.Sink.failed c.in_ok-condition.ensures (puts_then g.S.Sink.contents g.S.Sink.failed c.in_ok-members.ensures (puts_then g.S.Sink.contents g.S.Sink.failed c.in_ok-standing_lists.ensures (puts_then g.S.Sink.contents g.S.Sink.failed c.in_ok-recovering.ensures (puts_then g.S.Sink.contents g.S.Sink.failed c.in_ok-kernel_field.ensures c.in_ok-close.ensures))))))
