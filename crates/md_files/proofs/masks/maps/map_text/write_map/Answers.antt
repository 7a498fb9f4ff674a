use Rattle.std.proofs.Common.{ℕ, ◌++◌, List, ap, sym, subst, ◌∙◌, arith, refl}
use Rattle.md_badblocks.specs.Runs.{IsCanonical}
use Rattle.md_files.specs.Masks.Maps.Writing.{map_text}
use Rattle.md_files.proofs.MaskLemmas.MapLemmas.Written.{AreTried, AreWithin, write_start, at_run, write_step, write_end, read_back}
use Rattle.md_files.proofs.masks.maps.map_text.write_map.Goals as goal

pub loop-run-init : goal.loop-run-init
loop-run-init c =
    let same = sym c.runs-run-items.ensures.runs in
    write_start c.args.size c.args.first c.runs-run-items.result.now _ _ c.requires.start
    (c.in_ok-push_str.ensures.bytes ∙ ap (λ (xs : List ℕ). xs ++ _) c.new-text.ensures.bytes) c.in_ok-push_untried.ensures
    (subst IsCanonical same c.runs-run-items.ensures.canonical) (subst (AreTried c.args.first) same c.requires.tried) (subst (AreWithin c.args.size) same c.requires.within)

pub overflow_sub-lost : goal.overflow_sub-lost
overflow_sub-lost c =
    let run = at_run c.args.size _ c.runs-run-items.result.now c.loop-run.run-index c.loop-run.from _ c.loop-run.invariant _ (record { start = 0; len = 0 }) c.loop-run-test.true refl in
    omega (arith, run.1, c.min-end.ensures)

pub loop-run-preserved : goal.loop-run-preserved
loop-run-preserved c =
    write_step c.args.size _ c.runs-run-items.result.now c.loop-run.run-index c.loop-run.from _ c.loop-run.invariant _ (record { start = 0; len = 0 }) c.loop-run-test.true refl
    _ _ c.min-end.result c.min-end.ensures c.in_ok-push_rescued.ensures c.in_ok-push_block.ensures

pub returns-clause-read_back : goal.returns-clause-read_back
returns-clause-read_back c =
    read_back c.args.size c.args.first _ c.args.missing.now c.requires.limit c.requires.start c.runs-run-items.ensures.canonical c.requires.tried c.requires.within
    (write_end c.args.size _ c.runs-run-items.result.now c.loop-run.run-index c.loop-run.from _ c.loop-run.invariant _ (omega arith) c.in_ok-push_rescued-2.ensures ∙ ap (map_text c.args.size _) c.runs-run-items.ensures.runs)
