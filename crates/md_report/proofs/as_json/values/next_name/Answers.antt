use Rattle.std.proofs.Common.{ℕ, List, subst}
use Rattle.json.specs.Print.{quoted}
use Rattle.md_streams.specs.Sink.{PutsOrFails}
use Rattle.md_examine.proofs.Texts.{name_is}
use Rattle.md_report.specs.AsJson.Objects.{next_text}
use Rattle.md_report.proofs.as_json.values.next_name.Goals as goal

pub returns : goal.returns
returns g c =
    let P : List ℕ → Type 0 = λ t. PutsOrFails g.S.Sink.contents g.S.Sink.failed c.args.out.now c.next_text.new.out (next_text c.args.name.now (quoted t)) c.next_text.result in
    subst P (name_is c.args.value.now c.shown_bytes-shown.result c.name_len-len.result c.shown_bytes-shown.ensures c.name_len-len.ensures.len) c.next_text.ensures
