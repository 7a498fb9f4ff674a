use Rattle.std.proofs.Common.{◌≡◌, ℕ, ◌+◌, true, inl, inr, sym, ap, ◌∙◌, subst, arith}
use Rattle.std.proofs.lemmas.Bool.{cases_lt}
use Rattle.md_bitmap.specs.Marks.{Bitmap, is_set}
use Rattle.md_resync.proofs.chunks.end_of_marked.Goals as goal

pub loop-next-init : goal.loop-next-init
loop-next-init g c = record {
  from = omega arith;
  marked = λ n from below. let here : c.args.chunk ≡ n = omega arith in subst (λ x. is_set c.args.mirror.now.array.marks.bytes x ≡ true) here c.requires.marked;
}

pub returns-then-len-most-clause-marked : goal.returns-then-len-most-clause-marked
returns-then-len-most-clause-marked g c = c.loop-next.invariant.marked

pub loop-next-preserved : goal.loop-next-preserved
loop-next-preserved g c = record {
  from = let from = c.loop-next.invariant.from in omega arith;
  marked = λ n from below. elim (cases_lt n c.loop-next.next) [
    | inl before ↦ c.loop-next.invariant.marked n from before
    | inr past ↦
        let here : c.loop-next.next ≡ n = omega arith in
        subst (λ x. is_set c.args.mirror.now.array.marks.bytes x ≡ true) here
        (sym (ap (λ (b : Bitmap). is_set b.bytes c.loop-next.next) c.marks.ensures) ∙ sym c.if-not-is_marked.ensures)
  ];
}

pub returns-clause-marked : goal.returns-clause-marked
returns-clause-marked g c n from below =
    let end = c.loop-next-test.false in
    let count = c.count.ensures.count in
    let count_there = c.count-next-end.ensures.count in
    c.loop-next.invariant.marked n from (omega arith)
