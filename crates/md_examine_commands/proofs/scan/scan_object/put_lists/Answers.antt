use Rattle.md_report.specs.AsJson.Objects.{later_text}
use Rattle.md_streams.proofs.Puts.{puts_then}
use Rattle.md_examine_commands.specs.ScanObject.{scan_fields}
use Rattle.md_report.proofs.JsonLemmas.Texts.{puts_last}
use Rattle.md_examine_commands.proofs.scan.scan_object.put_lists.Goals as goal

pub returns : goal.returns
unfolding later_text scan_fields
returns g c = puts_then g.S.Sink.contents g.S.Sink.failed c.in_ok-put_arrays.ensures (puts_last g.S.Sink.contents g.S.Sink.failed c.in_ok-put_refused_list.ensures)
