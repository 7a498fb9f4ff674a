use Rattle.md_streams.proofs.Puts.{told_or_failed}
use Rattle.md_cli.proofs.running.tell_more.Goals as goal

-- no advice is asked for
pub returns-then-not-has_advice-clause-plain : goal.returns-then-not-has_advice-clause-plain
returns-then-not-has_advice-clause-plain g c = λ _. told_or_failed g.E.Sink c.put_perhaps_listed.result c.put_perhaps_listed.ensures

pub returns-clause-last : goal.returns-clause-last
returns-clause-last g c = λ there. (c.advise.new.err, told_or_failed g.E.Sink c.put_refused.result c.put_refused.ensures)
