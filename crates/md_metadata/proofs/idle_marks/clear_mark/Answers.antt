use Rattle.std.proofs.Common.{◌≡◌, true}
use Rattle.md_bitmap.specs.Marks.{is_set}
use Rattle.md_metadata.proofs.ClearedMarks.{mark_cleared, unmarked_already}
use Rattle.md_metadata.proofs.idle_marks.clear_mark.Goals as goal

pub returns-then-not-is_marked : goal.returns-then-not-is_marked
returns-then-not-is_marked g c =
    let tells = c.is_marked.ensures in
    let out = c.if-not-is_marked.true in
    let marks = c.marks.ensures in
    unmarked_already c.args.chunk c.args.mirror.now c.requires.sound cc

pub returns : goal.returns
returns g c =
    let e = c.clear_idle-cleared.ensures in
    let tells = c.is_marked.ensures in
    let has = c.if-not-is_marked.false in
    let marks = c.marks.ensures in
    let marked : is_set c.args.mirror.now.array.marks.bytes c.args.chunk ≡ true = cc in
    mark_cleared c.args.chunk c.args.mirror.now c.clear_idle-cleared.new.self c.requires.may marked c.clear_idle-cleared.result e.gives e.event e.sound e.pending
