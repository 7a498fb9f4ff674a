use Rattle.std.proofs.Common.{◌≡◌, false, length}
use Rattle.std.specs.List.{filter, range_with_len}
use Rattle.md_streams.specs.Sink.{Puts}
use Rattle.md_report.specs.AsJson.Objects.{elements_text, whole}
use Rattle.md_examine_commands.specs.ScanObject.{is_unseen_role}
use Rattle.md_report.proofs.JsonLemmas.Texts.{is_later}
use Rattle.md_examine_commands.proofs.scan.scan_object.missing_elements.Given as goal

abbrev pub invariant-loop-role : goal.invariant-loop-role
invariant-loop-role g l = record {
  puts : Puts g.S.Sink.contents g.S.Sink.failed l.fn.out l.out (elements_text whole false (filter (is_unseen_role l.v l.all) (range_with_len 0 l.role)));
  later : l.later ≡ is_later false (length (filter (is_unseen_role l.v l.all) (range_with_len 0 l.role)));
}
