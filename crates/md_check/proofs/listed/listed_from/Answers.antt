use Rattle.std.proofs.Common.{◌∙◌, ◌+◌, ◌-◌, ◌^◌, ◌<◌, List, length, get_or, min, arith, ap}
use Rattle.std.proofs.lemmas.List.{drop_all, get_or_default}
use Rattle.md_badblocks.specs.declared.run.Run.{Run}
use Rattle.md_check.proofs.RunByRun.{split_first, split_last, split_next}
use Rattle.md_check.proofs.listed.listed_from.Goals as goal

pub loop-run-init : goal.loop-run-init
loop-run-init c = rw c.new-listed.ensures (split_first c.args.bad.now c.args.offset)

pub loop-run-preserved : goal.loop-run-preserved
loop-run-preserved c =
    let all = c.args.bad.now in
    let k = c.loop-run.run-index in
    let zero : Run = record { start = 0; len = 0 } in
    let x = get_or all k zero in
    let same = c.runs-run-items.ensures.runs in
    let low : k < length all = (let test = c.loop-run-test.true in let many = ap length same in omega arith) in
    split_next all c.args.offset c.loop-run.listed c.add.new.self k x c.saturating_sub-start.result c.saturating_sub-end.result c.runs-run-items.ensures.canonical low (get_or_default all k x zero low)
    (c.saturating_sub-start.ensures ∙ ap (λ (xs : List Run). (get_or xs k zero).start - c.args.offset) same)
    (c.saturating_sub-end.ensures ∙ ap (λ n. n - c.args.offset) (c.end.ensures ∙ ap (λ (xs : List Run). min ((get_or xs k zero).start + (get_or xs k zero).len) (2 ^ 64 - 1)) same))
    c.in_ok-add.ensures.ok c.loop-run.invariant

pub returns : goal.returns
returns c = split_last c.args.bad.now c.args.offset c.loop-run.listed c.loop-run.run-index (drop_all c.loop-run.run-index c.args.bad.now (let past = c.loop-run-test.false in let same = ap length c.runs-run-items.ensures.runs in omega arith)) c.loop-run.invariant
