use Rattle.std.proofs.Common.{◌≡◌, ◌∙◌, ap, sym, arith}
use Rattle.md_cert.specs.Sources.{has, count_below}
use Rattle.md_cert.proofs.Counting.{below_zero, below_next, sources_are}
use Rattle.md_cert.proofs.sources.source_count.Goals as goal
use Rattle.md_cert.proofs.sources.source_count.Goals.{then-has_source, else-has_source}

pub loop-source-init : goal.loop-source-init
loop-source-init c = record { counted = sym (below_zero (has c.args.mask)); few = omega arith }

pub loop-source-preserved : goal.loop-source-preserved
loop-source-preserved c =
    elim c.if-has_source.branch [
      | then-has_source w ↦
          record { counted = below_next (has c.args.mask) c.loop-source.source _ _ (sym c.has_source.ensures ∙ w.if-has_source.true) (omega arith); few = omega arith }
      | else-has_source w ↦
          record { counted = below_next (has c.args.mask) c.loop-source.source _ _ (sym c.has_source.ensures ∙ w.if-has_source.false) (omega arith); few = omega arith }
    ]

pub returns : goal.returns
returns c =
    let all : c.loop-source.source ≡ 32 = omega arith in
    c.loop-source.invariant.counted ∙ ap (count_below (has c.args.mask)) all ∙ sym (sources_are (has c.args.mask))
