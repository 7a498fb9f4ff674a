use Rattle.std.proofs.Common.{◌+◌, ◌<◌, ◌≤◌, List, take, drop, subst, arith}
use Rattle.std.specs.List.{AllByRecursion}
use Rattle.std.proofs.lemmas.Bool.{lt-ltb, ltb-true}
use Rattle.md_badblocks.specs.declared.run.Run.{Run}
use Rattle.md_badblocks.proofs.Ranges.{met, starts_before, met_none}
use Rattle.md_badblocks.proofs.bad_set.BadSet.meets.Goals as goal

pub returns-then-place-len : goal.returns-then-place-len
returns-then-place-len c =
    let runs = c.self.inside.runs.items in
    let place = c.first_ending_at-place.result in
    let start = c.args.start in
    let len = c.args.len in
    let low = c.saturating_add.result in
    let end = c.saturating_add-then-place-len.result in
    let run = c.index.result.now in
    let B : List Run → Type 0 = λ xs. AllByRecursion (λ run. run.start + run.len < low) (take place xs) in
    let A : List Run → Type 0 = λ xs. AllByRecursion (λ run. low ≤ run.start + run.len) (drop place xs) in
    let before = subst B c.deref.ensures.value c.first_ending_at-place.ensures.before in
    let after = subst A c.deref.ensures.value c.first_ending_at-place.ensures.after in
    rw (← c.self.view_is) ((λ test. met runs place run start len low end c.self.invariant (omega arith) after c.index.ensures (omega arith) c.saturating_add.ensures c.saturating_add-then-place-len.ensures (ltb-true run.start end test), λ meets. lt-ltb run.start end (starts_before runs place run start len low end c.self.invariant (omega arith) before c.index.ensures c.saturating_add.ensures c.saturating_add-then-place-len.ensures meets)))

pub returns-else-place-len : goal.returns-else-place-len
returns-else-place-len c =
    let runs = c.self.inside.runs.items in
    let place = c.first_ending_at-place.result in
    let low = c.saturating_add.result in
    let B : List Run → Type 0 = λ xs. AllByRecursion (λ run. run.start + run.len < low) (take place xs) in
    let before = subst B c.deref.ensures.value c.first_ending_at-place.ensures.before in
    rw (← c.self.view_is) ((λ test. let lt = ltb-true place c.len.result test in absurd (omega arith), λ meets. absurd (met_none runs place c.args.start c.args.len low (omega arith) before c.saturating_add.ensures meets)))
