use Rattle.std.proofs.Common.{codes}
use Rattle.md_report.specs.AsJson.WholeArray.MemberObjects.{image_value, member_fields, texts_of}
use Rattle.md_streams.proofs.Puts.{puts_then}
use Rattle.md_report.proofs.JsonLemmas.Texts.{puts_object}
use Rattle.md_report.proofs.as_json.whole_array.member_objects.member.Goals as goal

pub returns : goal.returns
unfolding member_fields
returns g c =
    puts_object g.S.Sink.contents g.S.Sink.failed (codes "image") (image_value (texts_of c.args.images.now) c.args.index) (member_fields c.args.index c.args.dev_number c.args.state c.args.re_added c.args.mostly)
    c.in_ok-open_member.ensures (puts_then g.S.Sink.contents g.S.Sink.failed c.in_ok-next_number.ensures (puts_then g.S.Sink.contents g.S.Sink.failed c.in_ok-next_number-2.ensures (puts_then g.S.Sink.contents g.S.Sink.failed c.in_ok-role.ensures (puts_then g.S.Sink.contents g.S.Sink.failed c.in_ok-standing_field.ensures (puts_then g.S.Sink.contents g.S.Sink.failed c.in_ok-next_bool.ensures c.in_ok-put.ensures)))))
