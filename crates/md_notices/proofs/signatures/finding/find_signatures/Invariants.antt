use Rattle.std.proofs.Common.{◌≡◌, ◌≤◌, ◌+◌, length, take, false, true, vec_capacity}
use Rattle.std.specs.List.{All, filter}
use Rattle.md_notices.specs.Signatures.Bearing.{bears_signature}
use Rattle.md_notices.specs.Signatures.Reading.{Heeds, IsOnlySearched}
use Rattle.md_notices.specs.Signatures.Finding.{signatures}
use Rattle.md_notices.proofs.signatures.finding.find_signatures.Given as goal

abbrev pub invariant-loop-signature : goal.invariant-loop-signature
invariant-loop-signature g l = record {
  few : length l.found.items ≤ l.signature-index;
  room : length signatures ≤ vec_capacity l.found;
  only_read : IsOnlySearched g.D.Device l.fn.device l.device;
  heeds : Heeds g.D.Device l.fn.device l.device false l.has_failed;
  sound : g.D.Device.honest l.fn.device ≡ true → All (λ s. bears_signature (g.D.Device.content l.fn.device) s ≡ true) l.found.items;
  whole : g.D.Device.honest l.fn.device ≡ true → g.D.Device.failures l.device ≡ g.D.Device.failures l.fn.device → l.found.items ≡ filter (bears_signature (g.D.Device.content l.fn.device)) (take l.signature-index signatures);
  missed : g.D.Device.honest l.fn.device ≡ true → length (filter (bears_signature (g.D.Device.content l.fn.device)) (take l.signature-index signatures)) + g.D.Device.failures l.fn.device ≤ length l.found.items + g.D.Device.failures l.device;
}
