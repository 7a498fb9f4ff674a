use Rattle.std.proofs.Common.{◌≡◌, ◌+◌, ◌*◌, ◌^◌, ◌<◌, ◌≤◌, ℕ, List, drop, get_or, subst, sym, arith}
use Rattle.std.proofs.lemmas.List.{drop_all, drop_more}
use Rattle.md_badblocks.specs.declared.run.Run.{Run}
use Rattle.md_badblocks.specs.Runs.{IsBad, IsCanonical}
use Rattle.md_copy.specs.Salvaging.United.{IsUnited}
use Rattle.md_copy.proofs.SalvageLemmas.RunsUnited.{IsUnitedTo, parted_more, united_all, united_more, united_none}
use Rattle.md_copy.proofs.salvaging.room.uniting.unite_runs.Goals as goal
use Rattle.md_copy.proofs.salvaging.room.uniting.unite_runs.Goals.{then-not-unites+in_ok-add, else-not-unites}

pub loop-run-init : goal.loop-run-init
loop-run-init c =
    let runs = c.runs-run-items.result.now in
    united_none c.args.gap c.args.to runs c.args.others.now c.new-all.result (subst IsCanonical (sym c.runs-run-items.ensures.runs) c.runs-run-items.ensures.canonical) c.new-all.ensures

pub loop-run-preserved : goal.loop-run-preserved
loop-run-preserved c =
    let gap = c.args.gap in
    let to = c.args.to in
    let others = c.args.others.now in
    let runs = c.runs-run-items.result.now in
    let i = c.loop-run.run-index in
    let rest = drop (i + 1) runs in
    let first = c.loop-run.first in
    let entry = c.loop-run.entry in
    let end = c.loop-run.end in
    let all = c.loop-run.all in
    let canonical : IsCanonical runs = subst IsCanonical (sym c.runs-run-items.ensures.runs) c.runs-run-items.ensures.canonical in
    let none : Run = record { start = 0; len = 0 } in
    let run : Run = get_or runs i none in
    let before = subst (λ (xs : List Run). IsUnitedTo gap to first entry end runs others xs all) (drop_more runs i none c.loop-run-test.true) c.loop-run.invariant in
    let short : run.start + run.len ≤ 2 ^ 54 = before.rises.2 in
    let last = c.end-end.ensures in
    let stop : c.end-end.result ≡ run.start + run.len = omega (arith, short, last) in
    let new = c.last_entry-entry.result in
    let step = c.last_entry-entry.ensures in
    let k = step.0 in
    let low : new < run.start + run.len = subst (λ (e : ℕ). new < e) stop step.2 in
    let reach : run.start + run.len ≤ new + 512 = subst (λ (e : ℕ). e ≤ new + 512) stop step.3 in
    subst (λ (e : ℕ). IsUnitedTo gap to c.if-not-unites.first new e runs others rest c.if-not-unites.all) (sym stop)
    (elim c.if-not-unites.branch [
      | then-not-unites+in_ok-add w ↦
          let new_is : new ≡ run.start + 512 * k = subst (λ (e : ℕ). new ≡ e + 512 * k) w.entry-is step.1 in
          rw (w.first-is, w.all-is)
          (parted_more gap to first entry end runs others rest all run canonical before (c.unites.ensures.parts w.if-not-unites.true) w.add.new.self w.in_ok-add.ensures.canonical w.in_ok-add.ensures.ok new k new_is low reach)
      | else-not-unites w ↦
          let new_is : new ≡ entry + 512 * k = subst (λ (e : ℕ). new ≡ e + 512 * k) w.entry-is step.1 in
          rw (w.first-is, w.all-is) (united_more gap to first entry end runs others rest all run canonical before (c.unites.ensures.unites w.if-not-unites.false) new k new_is low reach)
    ])

pub returns : goal.returns
returns c =
    let runs = c.runs-run-items.result.now in
    let i = c.loop-run.run-index in
    let canonical : IsCanonical runs = subst IsCanonical (sym c.runs-run-items.ensures.runs) c.runs-run-items.ensures.canonical in
    let before = subst (λ (rest : List Run). IsUnitedTo c.args.gap c.args.to c.loop-run.first c.loop-run.entry c.loop-run.end runs c.args.others.now rest c.loop-run.all) (drop_all i runs c.loop-run-test.false) c.loop-run.invariant in
    subst (λ (xs : List Run). IsUnited c.args.gap c.args.to xs c.args.others.now c.add-2.new.self) c.runs-run-items.ensures.runs
    (united_all c.args.gap c.args.to c.loop-run.first c.loop-run.entry c.loop-run.end runs c.args.others.now c.loop-run.all c.add-2.new.self canonical before
    (λ s bad. c.requires s (subst (λ (xs : List Run). IsBad xs s) c.runs-run-items.ensures.runs bad)) c.in_ok-add-2.ensures.canonical c.in_ok-add-2.ensures.ok)
