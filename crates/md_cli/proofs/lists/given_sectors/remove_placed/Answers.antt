use Rattle.std.proofs.Common.{◌+◌, List, ℕ, drop, subst, sym}
use Rattle.std.proofs.lemmas.List.{drop_all, drop_more}
use Rattle.std.specs.Prelude.{◌↔◌}
use Rattle.md_badblocks.specs.Runs.{IsBad, IsCanonical}
use Rattle.md_badblocks.specs.declared.run.Run.{Run}
use Rattle.md_cli.proofs.GivenSectors.{LeavesTo, leaves_all, leaves_more, leaves_none}
use Rattle.md_cli.proofs.lists.given_sectors.remove_placed.Goals as goal

pub loop-run-init : goal.loop-run-init
loop-run-init c = record { canonical = c.requires; left = leaves_none c.runs-run-items.result.now c.args.offset c.args.set.now }

pub loop-run-preserved : goal.loop-run-preserved
loop-run-preserved c =
    let runs = c.runs-run-items.result.now in
    let i = c.loop-run.run-index in
    record {
      canonical = c.in_ok-remove.ensures.canonical;
      left = leaves_more _ c.args.offset c.saturating_sub-start.result c.end.result c.saturating_sub-end.result c.saturating_sub.result
          c.saturating_sub-start.ensures c.end.ensures c.saturating_sub-end.ensures c.saturating_sub.ensures
          runs (drop (i + 1) runs) c.args.set.now c.loop-run.set c.remove.new.self
          (subst IsCanonical (sym c.runs-run-items.ensures.runs) c.runs-run-items.ensures.canonical)
          (subst (λ (rest : List Run). LeavesTo runs c.args.offset c.args.set.now rest c.loop-run.set) (drop_more runs i _ c.loop-run-test.true) c.loop-run.invariant.left)
          c.in_ok-remove.ensures.ok;
    }

pub returns-clause-left : goal.returns-clause-left
returns-clause-left c =
    let runs = c.runs-run-items.result.now in
    let i = c.loop-run.run-index in
    subst (λ (xs : List Run). (s : ℕ) → IsBad c.loop-run.set s ↔ (IsBad c.args.set.now s × (IsBad xs (c.args.offset + s) → ⊥))) c.runs-run-items.ensures.runs
    (leaves_all runs (drop i runs) c.args.offset c.args.set.now c.loop-run.set (drop_all i runs c.loop-run-test.false) c.loop-run.invariant.left)
