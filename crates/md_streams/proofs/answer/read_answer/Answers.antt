use Rattle.std.proofs.Common.{rules, ◌≡◌}
use Rattle.md_streams.specs.Answer.{Answers}
use Rattle.md_streams.specs.Heard.{answer_of}
use Rattle.md_streams.proofs.Heard.{line_ends, one_byte_more}
use Rattle.md_streams.proofs.answer.read_answer.Goals as goal

pub returns-then-byte-eq10 : goal.returns-then-byte-eq10
returns-then-byte-eq10 g c =
    let ended : Answers g.R.Source c.args.input.now c.next_byte.new.input (answer_of c.loop-taken.heard) = line_ends g.R.Source c.args.input.now c.loop-taken.input c.next_byte.new.input c.loop-taken.heard c.loop-taken.taken c.in-Ok-Some.byte c.loop-taken.invariant.so_far (search rules) (search rules) in
    rw c.answer_of.ensures ended

pub loop-taken-preserved : goal.loop-taken-preserved
loop-taken-preserved g c = record {
  so_far = rw c.heard_with-heard.ensures (one_byte_more g.R.Source c.args.input.now c.loop-taken.input c.next_byte.new.input c.loop-taken.heard c.loop-taken.taken c.in-Ok-Some.byte c.loop-taken.invariant.so_far (search rules) (search rules));
}
