use Rattle.md_streams.proofs.Puts.{told_or_failed}
use Rattle.md_cli.proofs.running.tell_refusal.Goals as goal

pub returns : goal.returns
returns g c = record {
  told = c.put_fault_line.new.out;
  next = c.put_gap_lines.new.out;
  line = told_or_failed g.E.Sink c.put_fault_line.result c.put_fault_line.ensures;
  lines = told_or_failed g.E.Sink c.put_gap_lines.result c.put_gap_lines.ensures;
  plain = c.tell_more.ensures.plain;
  last = c.tell_more.ensures.last;
}
