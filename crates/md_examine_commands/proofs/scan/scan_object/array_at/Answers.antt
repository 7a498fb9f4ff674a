use Rattle.std.proofs.Common.{List, Option, subst, sym}
use Rattle.std.specs.List.{fold}
use Rattle.serde_json.specs.Written.{compact_text}
use Rattle.md_streams.specs.Sink.{PutsOrFails}
use Rattle.md_examine_commands.specs.declared.scan.seen.Seen.{Seen}
use Rattle.md_examine_commands.specs.ScanObject.{array_value, scan_array_object}
use Rattle.md_examine_commands.specs.ScanText.{decider, fresher}
use Rattle.md_examine_commands.proofs.scan.scan_object.array_at.Goals as goal

pub returns : goal.returns
returns g c =
    let all = c.args.all.now in
    let first = c.image_at.result.now in
    let ShowsAt : Option Seen → Type 0 = λ seen. PutsOrFails g.S.Sink.contents g.S.Sink.failed c.args.out.now c.array_of.new.out (compact_text (array_value all c.args.place seen)) c.array_of.result in
    let ShowsBefore : List Seen → Type 0 = λ rest. PutsOrFails g.S.Sink.contents g.S.Sink.failed c.args.out.now c.array_of.new.out (compact_text (scan_array_object (decider all (fold fresher first.superblock rest)) all)) c.array_of.result in
    subst ShowsAt (sym c.image_at.ensures) (subst ShowsBefore c.images_after.ensures c.array_of.ensures)
