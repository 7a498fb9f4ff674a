use Rattle.std.proofs.Common.{◌∙◌, List, subst, sym}
use Rattle.md_examine_commands.specs.declared.scan.refused.Refused.{Refused}
use Rattle.md_streams.specs.Putting.{PutsTold}
use Rattle.md_cli.specs.Scanning.{unshown_lines}
use Rattle.md_cli.proofs.Scanned.{flushed_if_found}
use Rattle.md_streams.proofs.Puts.{told_or_failed}
use Rattle.md_cli.proofs.scanning.show_looked.Goals as goal

pub returns-clause-shows : goal.returns-clause-shows
returns-clause-shows g c = record {
  answer = c.show_scan-shown.result;
  shows = c.show_scan-shown.ensures.shows;
  mid = c.put_each_refused.new.err;
  told = c.put_outcome.new.err;
  lines = subst (λ (xs : List Refused). PutsTold g.E.Sink c.args.err.now c.put_each_refused.new.err (unshown_lines c.args.how.is_named xs)) c.as_slice.ensures.value (told_or_failed g.E.Sink c.put_each_refused.result c.put_each_refused.ensures);
  outcome = told_or_failed g.E.Sink c.put_outcome.result c.put_outcome.ensures;
  plain = c.advise_on_each.ensures.plain;
  status_is = c.status_of_scan-status.ensures;
}

pub returns-clause-flushed : goal.returns-clause-flushed
returns-clause-flushed g c = λ is. flushed_if_found g.S.Sink _ _ _ c.args.how.is_named c.show_scan-shown.result c.args.looked c.show_scan-shown.ensures.shows (sym c.status_of_scan-status.ensures ∙ is)
