use Rattle.std.proofs.Common.{◌≡◌, true}
use Rattle.md_metadata.specs.Stopping.{IsStoringIf}
use Rattle.md_metadata.proofs.Going.{stores_nowhere}
use Rattle.md_metadata.proofs.Stopped.{marks_or_stops}
use Rattle.md_metadata.proofs.whole_stop.store_marks_if.Goals as goal

pub returns-then-not-clears : goal.returns-then-not-clears
returns-then-not-clears g c = record {
  stores = stores_nowhere (IsStoringIf c.args.clears) c.args.mirror.now c.requires.sound;
  done = λ i m in_sync is. let out = c.if-not-clears.true in absurd cc;
}

pub returns : goal.returns
returns g c =
    let out = c.if-not-clears.false in
    let clears : c.args.clears ≡ true = cc in
    marks_or_stops c.args.clears c.args.mirror.now c.store_all_marks.new.mirror clears c.store_all_marks.result c.store_all_marks.ensures.gives
