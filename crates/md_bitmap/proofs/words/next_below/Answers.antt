use Rattle.std.proofs.Common.{arith}
use Rattle.md_bitmap.proofs.Bits.{next_found, none_found, passed_none, passed_word}
use Rattle.md_bitmap.proofs.words.next_below.Goals as goal

pub loop-at-init : goal.loop-at-init
loop-at-init c = passed_none c.args.bytes.now c.args.from

pub loop-at-preserved : goal.loop-at-preserved
loop-at-preserved c =
    passed_word c.args.bytes.now (λ i. omega (arith, c.type_inv.bytes i)) c.args.from c.loop-at.at c.word_at.result c.word_at.ensures
    c.if-word-ne0.false c.loop-at.invariant

pub returns-then-found-end-clause-some : goal.returns-then-found-end-clause-some
returns-then-found-end-clause-some c =
    next_found c.args.bytes.now (λ i. omega (arith, c.type_inv.bytes i)) c.args.from c.args.end c.loop-at.at c.word_at.result c.word_at.ensures
    (omega arith) c.if-word-ne0.true c.loop-at.invariant c.if-found-end.true

pub returns-else-found-end-clause-none : goal.returns-else-found-end-clause-none
returns-else-found-end-clause-none c =
    none_found c.args.bytes.now (λ i. omega (arith, c.type_inv.bytes i)) c.args.from c.args.end c.loop-at.at c.word_at.result c.word_at.ensures
    (omega arith) c.if-word-ne0.true c.loop-at.invariant c.if-found-end.false
