use Rattle.md_streams.proofs.Puts.{puts_then}
use Rattle.md_report.specs.AsJson.Objects.{next_text}
use Rattle.md_examine_commands.proofs.scan.refused_list.put_fault.Goals as goal

pub returns : goal.returns
unfolding next_text
returns g c = puts_then g.S.Sink.contents g.S.Sink.failed c.in_ok-next_key.ensures c.in_ok-put_quoted_word.ensures
