use Rattle.std.proofs.Common.{codes}
use Rattle.md_report.specs.AsJson.Objects.{later_text}
use Rattle.md_report.specs.AsJson.CheckObject.{chunk_list_fields, chunk_object, chunks_to}
use Rattle.md_report.proofs.JsonLemmas.Texts.{puts_last, puts_list}
use Rattle.md_report.proofs.as_json.check_object.chunk_list.Goals as goal

pub returns : goal.returns
unfolding later_text chunk_list_fields
returns g c =
    let found = c.args.found.now in
    puts_last g.S.Sink.contents g.S.Sink.failed
    (puts_list g.S.Sink.contents g.S.Sink.failed (chunk_object c.args.chunks found.pairs.items) (codes "mismatches") (chunks_to found.chunks found.chunks.chunks) c.in_ok-next_key.ensures c.in_ok-put.ensures c.in_ok-chunk_elements.ensures c.in_ok-put-2.ensures)
