use Rattle.std.proofs.Common.{ℕ, List, subst}
use Rattle.md_streams.specs.Sink.{PutsOrFails}
use Rattle.md_examine.proofs.Texts.{name_is}
use Rattle.md_examine_commands.specs.ScanText.{named_array_line}
use Rattle.md_examine_commands.proofs.scan.array_entry.put_array_line.Goals as goal

pub returns : goal.returns
returns g c =
    let P : List ℕ → Type 0 = λ t. PutsOrFails g.S.Sink.contents g.S.Sink.failed c.args.out.now c.put_line_of.new.out (named_array_line c.args.v.now t) c.put_line_of.result in
    subst P (name_is c.args.v.now.set_name c.shown_bytes-shown.result c.name_len.result c.shown_bytes-shown.ensures c.name_len.ensures.len) c.put_line_of.ensures
