use Rattle.std.proofs.Common.{inl, inr, refl}
use Rattle.md_streams.proofs.Puts.{told_or_failed}
use Rattle.md_cli.proofs.scanning.scan.Goals as goal

pub returns-in-Ok-clause-scans : goal.returns-in-Ok-clause-scans
returns-in-Ok-clause-scans g c = inl (c.in-Ok.looked, c.in-Ok.ensures.looks, c.show_looked.ensures.shows)

pub returns-in-Err-clause-scans : goal.returns-in-Err-clause-scans
returns-in-Err-clause-scans g c = inr (record {
  looked = c.in-Err.ensures.looks;
  unwritten = refl;
  told = told_or_failed g.E.Sink c.put_fault_line.result c.put_fault_line.ensures;
  status_is = refl;
})
