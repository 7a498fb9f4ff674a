use Rattle.std.proofs.Common.{◌≡◌, ◌∙◌, ◌+◌, ℕ, List, ◌<◌, ap, get_or, length, take, arith, rules}
use Rattle.std.proofs.lemmas.List.{take_all, take_more}
use Rattle.std.proofs.lemmas.List.Sums.{sum_by_push}
use Rattle.md_badblocks.specs.declared.run.Run.{Run}
use Rattle.md_messages.specs.Missing.{gap_count}
use Rattle.md_messages.proofs.Runs.{sectors_few}
use Rattle.md_messages.proofs.missing.gap_count.Goals as goal

-- with one run more
more : (runs : List Run) (i : ℕ) (d : Run) → i < length runs → gap_count (take (i + 1) runs) ≡ gap_count (take i runs) + (get_or runs i d).len
more runs i d lt = ap gap_count (take_more runs i d lt) ∙ sum_by_push (λ (run : Run). run.len) (take i runs) (get_or runs i d)

pub overflow_add-sectors : goal.overflow_add-sectors
overflow_add-sectors c =
    let few = sectors_few c.args.runs.now (c.loop-run.run-index + 1) c.requires in
    let next = more c.args.runs.now c.loop-run.run-index (record { start = 0; len = 0 }) c.loop-run-test.true in
    omega (arith, few, next, c.loop-run.invariant)

pub loop-run-preserved : goal.loop-run-preserved
loop-run-preserved c =
    let next = more c.args.runs.now c.loop-run.run-index (record { start = 0; len = 0 }) c.loop-run-test.true in
    omega (arith, next, c.loop-run.invariant)

pub returns : goal.returns
returns c = c.loop-run.invariant ∙ ap gap_count (take_all c.loop-run.run-index c.args.runs.now (search (rules, arith)))
