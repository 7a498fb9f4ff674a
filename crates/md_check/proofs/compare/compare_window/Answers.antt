use Rattle.std.proofs.Common.{◌≡◌, ◌+◌, ℕ, sym, subst, arith}
use Rattle.md_collect.specs.declared.found.Comparison.{Comparison}
use Rattle.md_check.specs.Differences.{AddsCompared, DifferIn}
use Rattle.md_check.specs.Readers.{ReaderShows, in_window}
use Rattle.md_check.proofs.Compared.{compared_as_was, compared_then}
use Rattle.md_check.proofs.Differing.{adds_here}
use Rattle.md_check.proofs.WindowCompared.{none_differ_alike}
use Rattle.md_check.proofs.compare.compare_window.Goals as goal
use Rattle.md_check.proofs.compare.compare_window.Goals.{then-differ_in, else-differ_in}

pub returns-then-are_alike : goal.returns-then-are_alike
returns-then-are_alike g c =
    compared_as_was (ReaderShows (in_window c.args.lead.now c.args.from) c.args.readers.now) c.args.chunks c.args.from (c.args.from + c.args.sectors) c.args.found.now
    (λ s up below. none_differ_alike c.args.readers.now c.args.lead.now c.args.from s (c.are_alike.ensures c.if-are_alike.true))

pub loop-at-init : goal.loop-at-init
loop-at-init g c =
    compared_as_was (ReaderShows (in_window c.args.lead.now c.args.from) c.args.readers.now) c.args.chunks c.args.from (c.args.from + 0) c.args.found.now
    (λ s up below. absurd (omega arith))

pub loop-at-preserved : goal.loop-at-preserved
loop-at-preserved g c =
    let P = ReaderShows (in_window c.args.lead.now c.args.from) c.args.readers.now in
    let from = c.args.from in
    let sector : ℕ = from + c.loop-at.at in
    let old = c.args.found.now in
    let now = c.loop-at.found in
    let next : sector + 1 ≡ from + (c.loop-at.at + 1) = omega arith in
    let test = c.loop-at-test.true in
    let inside = c.requires.inside in
    let here : AddsCompared P c.args.chunks sector (sector + 1) now c.if-differ_in.found = elim c.if-differ_in.branch [
      | then-differ_in w ↦
          subst (λ (f : Comparison). AddsCompared P c.args.chunks sector (sector + 1) now f) (sym w.found-is)
          (record {
            some = adds_here (DifferIn P) c.args.chunks sector w.chunk_of.result (omega arith) w.chunk_of.ensures.is now.chunks w.mark.new.self w.mark.ensures.chunks w.mark.ensures.bits (c.differ_in.ensures.0 w.if-differ_in.true);
            pairs = w.mark_pairs.ensures;
          })
      | else-differ_in w ↦
          subst (λ (f : Comparison). AddsCompared P c.args.chunks sector (sector + 1) now f) (sym w.found-is)
          (compared_as_was P c.args.chunks sector (sector + 1) now
          (λ s up below d. let same : s ≡ sector = omega arith in let yes = c.differ_in.ensures.1 (subst (λ n. DifferIn P n) same d) in let no = w.if-differ_in.false in absurd cc))
    ] in
    subst (λ n. AddsCompared P c.args.chunks from n old c.if-differ_in.found) next
    (compared_then P c.args.chunks from sector (sector + 1) old now c.if-differ_in.found (omega arith) (omega arith) c.loop-at.invariant here)

pub returns : goal.returns
returns g c =
    let P = ReaderShows (in_window c.args.lead.now c.args.from) c.args.readers.now in
    let past = c.loop-at-test.false in
    let stop = c.loop-at.auto.at-end in
    let end : c.args.from + c.loop-at.at ≡ c.args.from + c.args.sectors = omega arith in
    subst (λ n. AddsCompared P c.args.chunks c.args.from n c.args.found.now c.loop-at.found) end c.loop-at.invariant
