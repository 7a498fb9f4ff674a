use Rattle.std.proofs.Common.{[], ◌∷◌, codes}
use Rattle.md_report.specs.AsJson.WholeArray.ArrayObjects.{members_fields}
use Rattle.md_report.specs.AsJson.CheckObject.{chunk_list_fields, compared_fields, count_fields, listed_fields}
use Rattle.md_report.specs.AsJson.WholeArray.MemberObjects.{texts_of}
use Rattle.md_streams.proofs.Puts.{puts_then}
use Rattle.md_report.proofs.JsonLemmas.Texts.{puts_report}
use Rattle.md_report.proofs.as_json.check_object.check_json.Goals as goal

pub returns : goal.returns
returns g c =
    let found = c.args.found.now in
    let a = c.args.mirror.now.array in
    let its = c.in_ok-chunk_list.ensures in
    let its = rw (c.chunks.ensures) at its in
    puts_report g.S.Sink.contents g.S.Sink.failed (codes "check") (count_fields found.chunks ∷ chunk_list_fields a.chunks found ∷ members_fields a (texts_of c.args.images.now) ∷ compared_fields a.members ∷ listed_fields a.members ∷ [])
    c.in_ok-open.ensures (puts_then g.S.Sink.contents g.S.Sink.failed c.in_ok-mismatch_counts.ensures (puts_then g.S.Sink.contents g.S.Sink.failed its (puts_then g.S.Sink.contents g.S.Sink.failed c.in_ok-members.ensures (puts_then g.S.Sink.contents g.S.Sink.failed c.in_ok-compared_members.ensures (puts_then g.S.Sink.contents g.S.Sink.failed c.in_ok-listed_sectors.ensures c.in_ok-close.ensures)))))
