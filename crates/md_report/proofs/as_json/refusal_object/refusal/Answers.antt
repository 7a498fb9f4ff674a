use Rattle.std.proofs.Common.{codes, option_map}
use Rattle.serde_json.specs.Data.{string}
use Rattle.md_streams.proofs.Puts.{puts_then}
use Rattle.md_report.specs.AsJson.RefusalObject.{line_fields}
use Rattle.md_report.proofs.JsonLemmas.Texts.{puts_object}
use Rattle.md_report.proofs.as_json.refusal_object.refusal.Goals as goal

pub returns : goal.returns
unfolding line_fields
returns g c =
    puts_object g.S.Sink.contents g.S.Sink.failed (codes "fault") (string c.args.fault.now) (line_fields c.args.line.now (option_map (λ s. s.now) c.args.advice))
    c.in_ok-open_fault.ensures (puts_then g.S.Sink.contents g.S.Sink.failed c.in_ok-next_text.ensures (puts_then g.S.Sink.contents g.S.Sink.failed c.in_ok-advice_field.ensures c.in_ok-put.ensures))
