use Rattle.std.proofs.Common.{inl, inr, refl}
use Rattle.md_streams.proofs.terminal.ask.Goals as goal

pub returns-in-Ok : goal.returns-in-Ok
returns-in-Ok g c = inl (record {
  shown = c.put_question.new.err;
  puts = c.in-Ok.ensures;
  answer = c.read_answer-answer.result;
  takes = c.read_answer-answer.ensures;
  is = c.end_answer.ensures.agreed;
  ends = c.end_answer.ensures.ends;
})

pub returns-in-Err : goal.returns-in-Err
returns-in-Err g c = inr (c.in-Err.ensures, refl, refl)
