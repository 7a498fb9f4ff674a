use Rattle.std.proofs.Common.{◌≢◌, ◌∙◌, ◌||◌, ℕ, Bool, sym, ap, arith, take}
use Rattle.std.proofs.lemmas.List.{get_or_default}
use Rattle.std.proofs.lemmas.List.Elements.{AllWithin-more}
use Rattle.std.proofs.lemmas.List.Folds.{list_any_more}
use Rattle.md_cert.specs.declared.table.Row.{Row}
use Rattle.md_cert.specs.Sources.{has}
use Rattle.md_cert.specs.Tables.{mask_of_chunk}
use Rattle.md_cert.specs.Assignments.{gives_any}
use Rattle.md_cert.proofs.SideBySide.{below_none, below_more, holds_from}
use Rattle.md_cert.proofs.Bits.{has_or, has_zero}
use Rattle.md_cert.proofs.short_set.union_of.Goals as goal

pub loop-chunk-init : goal.loop-chunk-init
loop-chunk-init c = record {
  within = omega arith;
  front = below_none (λ (r : Row). r.chunk) (λ (n : ℕ). n) c.args.rows.now c.args.chunks.now;
  given = λ k d low less. absurd (omega arith);
  sources = λ s. has_zero s;
}

pub loop-chunk-preserved : goal.loop-chunk-preserved
loop-chunk-preserved c =
    let chunks = c.args.chunks.now in
    let rows = c.args.rows.now in
    let i = c.loop-chunk.chunk-index in
    record {
      within = c.seek_row-at.ensures.within;
      front = below_more (λ (r : Row). r.chunk) (λ (n : ℕ). n) rows c.seek_row-at.result chunks i _ c.requires.rising c.seek_row-at.ensures.below
          (λ y. get_or_default chunks i y 0 c.loop-chunk-test.true);
      given = AllWithin-more (λ chunk. mask_of_chunk rows chunk ≢ 0) chunks 0 i c.loop-chunk.invariant.given
          (holds_from (λ chunk. mask_of_chunk rows chunk ≢ 0) chunks i 0 c.loop-chunk-test.true (λ none. c.if-mask-eq0.false (c.mask_at-mask.ensures ∙ none)));
      sources = λ s.
          has_or c.loop-chunk.union c.mask_at-mask.result s
          ∙ ap (λ (b : Bool). b || has c.mask_at-mask.result s) (c.loop-chunk.invariant.sources s)
          ∙ ap (λ n. gives_any rows (take i chunks) s || has n s) c.mask_at-mask.ensures
          ∙ sym (list_any_more (λ chunk. has (mask_of_chunk rows chunk) s) chunks i 0 c.loop-chunk-test.true);
    }
