use Rattle.std.proofs.Common.{take}
use Rattle.md_streams.specs.Sink.{Puts}
use Rattle.md_report.specs.AsJson.WholeArray.MemberObjects.{member_texts, texts_of}
use Rattle.md_report.proofs.as_json.whole_array.member_objects.member_items.Given as goal

abbrev pub invariant-loop-k : goal.invariant-loop-k
invariant-loop-k g l = Puts g.S.Sink.contents g.S.Sink.failed l.fn.out l.out (member_texts l.mirror.array (texts_of l.images) 0 (take l.k l.mirror.array.members))
