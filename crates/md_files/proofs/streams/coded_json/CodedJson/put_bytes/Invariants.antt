use Rattle.std.proofs.Common.{◌≡◌}
use Rattle.md_files.proofs.streams.coded_json.CodedJson.put_bytes.Given as goal

abbrev pub invariant-loop-byte : goal.invariant-loop-byte
invariant-loop-byte g l = record {
  failed : g.S.Sink.failed l.self.out ≡ g.S.Sink.failed l.fn.self.out;
  json : l.self.is_json ≡ l.fn.self.is_json;
}
