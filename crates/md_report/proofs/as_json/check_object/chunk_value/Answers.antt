use Rattle.std.proofs.Common.{codes}
use Rattle.md_streams.proofs.Puts.{puts_then}
use Rattle.md_report.specs.AsJson.CheckObject.{chunk_fields, run_of_chunk}
use Rattle.md_report.specs.AsJson.Objects.{whole}
use Rattle.md_report.proofs.JsonLemmas.Texts.{puts_object}
use Rattle.md_report.proofs.as_json.check_object.chunk_value.Goals as goal

pub returns : goal.returns
unfolding chunk_fields
returns g c =
    let sectors = run_of_chunk c.args.chunks c.args.c in
    let first = c.in_ok-open_number.ensures in
    let first = rw (c.sectors_of-sectors.ensures) at first in
    let second = c.in_ok-next_number.ensures in
    let second = rw (c.sectors_of-sectors.ensures) at second in
    puts_object g.S.Sink.contents g.S.Sink.failed (codes "sector") (whole sectors.start) (chunk_fields sectors c.args.pairs.now c.args.c)
    first (puts_then g.S.Sink.contents g.S.Sink.failed second (puts_then g.S.Sink.contents g.S.Sink.failed c.in_ok-pair_list.ensures c.in_ok-put.ensures))
