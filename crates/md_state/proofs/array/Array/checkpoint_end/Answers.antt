use Rattle.std.proofs.Common.{refl, ap, subst, inl, inr, arith}
use Rattle.md_kept_members.proofs.Members.Indices.{cases_more}
use Rattle.md_state.specs.Steps.Checkpoint.{EndsCheckpoint}
use Rattle.md_state.specs.View.{ArrayView}
use Rattle.md_state.proofs.array.Array.checkpoint_end.Goals as goal

pub returns-then-ends_checkpoint : goal.returns-then-ends_checkpoint
returns-then-ends_checkpoint c m at = inl (
  c.loop-chunk.chunk,
  (let chunks = ap (λ (a : ArrayView). a.marks.chunks) c.self.view_is in let end = c.chunks-chunk-end.ensures in let test = c.loop-chunk-test.true in omega arith),
  (c.if-ends_checkpoint.ensures m at).0 refl,
  (λ b before. c.loop-chunk.invariant m at b before),
  (let width = ap (λ (a : ArrayView). a.chunks.sectors) c.self.view_is in let from = c.from.ensures in let then = c.from-then-ends_checkpoint.ensures in cc),
)

pub loop-chunk-preserved : goal.loop-chunk-preserved
loop-chunk-preserved c m at b early ends_checkpoint = elim (cases_more b c.loop-chunk.chunk early) [
  | inl before ↦ c.loop-chunk.invariant m at b before ends_checkpoint
  | inr here ↦
      let told = (c.if-ends_checkpoint.ensures m at).1 (subst (λ i. EndsCheckpoint c.args.self.now m c.args.copied.now i) here ends_checkpoint) in
      absurd cc
]

pub returns : goal.returns
returns c m at = inr (
  (λ b below. c.loop-chunk.invariant m at b (let chunks = ap (λ (a : ArrayView). a.marks.chunks) c.self.view_is in let end = c.chunks-chunk-end.ensures in let test = c.loop-chunk-test.false in omega arith)),
  ap (λ (a : ArrayView). a.chunks.size) c.self.view_is,
)
