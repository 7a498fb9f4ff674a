use Rattle.std.proofs.Common.{◌+◌, ◌-◌, List, subst, refl, arith}
use Rattle.md_badblocks.specs.declared.run.Run.{Run}
use Rattle.md_badblocks.specs.Edits.{IsParted}
use Rattle.md_badblocks.proofs.Rising.{read_fits}
use Rattle.md_badblocks.proofs.Joins.{joined_between, joined_across}
use Rattle.md_badblocks.proofs.editing.join.Goals as goal

pub returns-then-from-to-clause-ok : goal.returns-then-from-to-clause-ok
returns-then-from-to-clause-ok c =
    let start = c.args.start in
    let end = c.args.end in
    let place = c.places_between-from.result in
    let P : List Run → Type 0 = λ runs. IsParted start (end + 1) runs place.0 place.1 in
    let parted = subst P c.deref.ensures.value c.places_between-from.ensures in
    let run : Run = record { start = start; len = end - start } in
    rw c.in_ok-insert.ensures.items (joined_between start end c.args.runs.now.items place.0 place.1 run c.requires.canonical parted c.if-from-to.true c.requires.ordered c.requires.fits refl (omega arith))

pub returns-clause-ok : goal.returns-clause-ok
returns-clause-ok c =
    let start = c.args.start in
    let end = c.args.end in
    let runs = c.args.runs.now.items in
    let place = c.places_between-from.result in
    let P : List Run → Type 0 = λ xs. IsParted start (end + 1) xs place.0 place.1 in
    let parted = subst P c.deref.ensures.value c.places_between-from.ensures in
    let run : Run = record { start = c.min-low.result; len = c.max-high.result - c.min-low.result } in
    let fits = read_fits runs (place.1 - 1) c.index-2.result.now c.requires.canonical (omega arith) c.index-2.ensures in
    rw c.replace_by_one.ensures (joined_across start end runs place.0 place.1 c.index.result.now c.index-2.result.now run c.requires.canonical parted (omega arith) c.requires.ordered c.requires.fits c.index.ensures c.index-2.ensures c.min-low.ensures (omega arith))
