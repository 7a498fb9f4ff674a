use Rattle.std.proofs.Common.{false, take}
use Rattle.md_streams.specs.Sink.{Puts}
use Rattle.md_report.specs.AsJson.Objects.{elements_text}
use Rattle.md_report.specs.AsJson.WholeArray.StandingLists.{bad_value}
use Rattle.md_report.proofs.as_json.whole_array.standing_lists.bad_elements.Given as goal

abbrev pub invariant-loop-k : goal.invariant-loop-k
invariant-loop-k g l = Puts g.S.Sink.contents g.S.Sink.failed l.fn.out l.out (elements_text bad_value false (take l.k l.mirror.array.members))
