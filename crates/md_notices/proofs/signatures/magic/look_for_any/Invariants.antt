use Rattle.std.proofs.Common.{◌≡◌, take, true, false}
use Rattle.std.specs.List.{list_any}
use Rattle.md_notices.specs.Signatures.Magics.{has_sign, sign_of}
use Rattle.md_notices.specs.Signatures.Reading.{Heeds, IsOnlySearched}
use Rattle.md_notices.proofs.signatures.magic.look_for_any.Given as goal

abbrev pub invariant-loop-magic : goal.invariant-loop-magic
invariant-loop-magic g l = record {
  only_read : IsOnlySearched g.D.Device l.fn.device l.device;
  heeds : Heeds g.D.Device l.fn.device l.device l.fn.has_failed l.has_failed;
  none : g.D.Device.honest l.fn.device ≡ true → g.D.Device.failures l.device ≡ g.D.Device.failures l.fn.device → list_any (λ m. has_sign (g.D.Device.content l.fn.device) (sign_of m)) (take l.magic-index l.magics) ≡ false;
}
