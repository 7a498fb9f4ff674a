use Rattle.std.proofs.Common.{◌+◌, List, [], ◌∷◌, subst, arith}
use Rattle.md_badblocks.specs.declared.run.Run.{Run}
use Rattle.md_badblocks.specs.Edits.{IsParted}
use Rattle.md_badblocks.proofs.Cuts.{cut_between, cut_by_code, Keeps}
use Rattle.md_badblocks.proofs.editing.cut.Goals as goal

pub returns-then-from-to-clause-ok : goal.returns-then-from-to-clause-ok
returns-then-from-to-clause-ok c =
    let place = c.places_between-from.result in
    let P : List Run → Type 0 = λ runs. IsParted (c.args.start + 1) c.args.end runs place.0 place.1 in
    cut_between c.args.start c.args.end c.args.runs.now.items place.0 place.1 c.requires.canonical (subst P c.deref.ensures.value c.places_between-from.ensures) c.if-from-to.true

pub returns-in-false-false-clause-ok : goal.returns-in-false-false-clause-ok
returns-in-false-false-clause-ok c =
    let place = c.places_between-from.result in
    let P : List Run → Type 0 = λ runs. IsParted (c.args.start + 1) c.args.end runs place.0 place.1 in
    let parted = subst P c.deref.ensures.value c.places_between-from.ensures in
    let left : Run = record { start = c.index-first.result.now.start; len = c.saturating_sub.result } in
    let right : Run = record { start = c.args.end; len = c.saturating_sub-2.result } in
    rw c.take_out.ensures (cut_by_code c.args.start c.args.end c.args.runs.now.items place.0 place.1 c.index-first.result.now c.index.result.now c.saturating_sub.result c.end-last.result c.saturating_sub-2.result ([]) c.requires.canonical parted c.if-from-to.false c.requires.ordered c.requires.fits c.index-first.ensures c.index.ensures c.end-last.ensures c.saturating_sub.ensures c.saturating_sub-2.ensures (Keeps.neither (omega arith) (omega arith)))

pub returns-in-true-false-clause-ok : goal.returns-in-true-false-clause-ok
returns-in-true-false-clause-ok c =
    let place = c.places_between-from.result in
    let P : List Run → Type 0 = λ runs. IsParted (c.args.start + 1) c.args.end runs place.0 place.1 in
    let parted = subst P c.deref.ensures.value c.places_between-from.ensures in
    let left : Run = record { start = c.index-first.result.now.start; len = c.saturating_sub.result } in
    let right : Run = record { start = c.args.end; len = c.saturating_sub-2.result } in
    rw c.replace_by_one.ensures (cut_by_code c.args.start c.args.end c.args.runs.now.items place.0 place.1 c.index-first.result.now c.index.result.now c.saturating_sub.result c.end-last.result c.saturating_sub-2.result (left ∷ []) c.requires.canonical parted c.if-from-to.false c.requires.ordered c.requires.fits c.index-first.ensures c.index.ensures c.end-last.ensures c.saturating_sub.ensures c.saturating_sub-2.ensures (Keeps.lower c.in-true-false.is-0 (omega arith)))

pub returns-in-false-true-clause-ok : goal.returns-in-false-true-clause-ok
returns-in-false-true-clause-ok c =
    let place = c.places_between-from.result in
    let P : List Run → Type 0 = λ runs. IsParted (c.args.start + 1) c.args.end runs place.0 place.1 in
    let parted = subst P c.deref.ensures.value c.places_between-from.ensures in
    let left : Run = record { start = c.index-first.result.now.start; len = c.saturating_sub.result } in
    let right : Run = record { start = c.args.end; len = c.saturating_sub-2.result } in
    rw c.replace_by_one-in-false-true.ensures (cut_by_code c.args.start c.args.end c.args.runs.now.items place.0 place.1 c.index-first.result.now c.index.result.now c.saturating_sub.result c.end-last.result c.saturating_sub-2.result (right ∷ []) c.requires.canonical parted c.if-from-to.false c.requires.ordered c.requires.fits c.index-first.ensures c.index.ensures c.end-last.ensures c.saturating_sub.ensures c.saturating_sub-2.ensures (Keeps.upper (omega arith) c.in-false-true.is-1))

pub returns-in_ok-replace_by_two-in-true-true-clause-ok : goal.returns-in_ok-replace_by_two-in-true-true-clause-ok
returns-in_ok-replace_by_two-in-true-true-clause-ok c =
    let place = c.places_between-from.result in
    let P : List Run → Type 0 = λ runs. IsParted (c.args.start + 1) c.args.end runs place.0 place.1 in
    let parted = subst P c.deref.ensures.value c.places_between-from.ensures in
    let left : Run = record { start = c.index-first.result.now.start; len = c.saturating_sub.result } in
    let right : Run = record { start = c.args.end; len = c.saturating_sub-2.result } in
    rw c.in_ok-replace_by_two-in-true-true.ensures.ok (cut_by_code c.args.start c.args.end c.args.runs.now.items place.0 place.1 c.index-first.result.now c.index.result.now c.saturating_sub.result c.end-last.result c.saturating_sub-2.result (left ∷ right ∷ []) c.requires.canonical parted c.if-from-to.false c.requires.ordered c.requires.fits c.index-first.ensures c.index.ensures c.end-last.ensures c.saturating_sub.ensures c.saturating_sub-2.ensures (Keeps.both c.in-true-true.is-0 c.in-true-true.is-1))
