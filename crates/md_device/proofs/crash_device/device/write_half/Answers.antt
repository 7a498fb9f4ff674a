use Rattle.std.proofs.Common.{arith, ℕ, length}
use Rattle.std.proofs.lemmas.List.{length-take}
use Rattle.md_device.proofs.Leaving.{leaves_less, within_outside}
use Rattle.md_device.proofs.Splices.{outside_more}
use Rattle.md_device.proofs.crash_device.device.write_half.Goals as goal

pub returns-clause-within : goal.returns-clause-within
returns-clause-within g c = λ h. leaves_less _ _ _ _ (λ left w. outside_more (within_outside c.write.result _ _ _ left w) (length c.args.bytes.now) (omega (arith, length-take {A = ℕ}))) (c.write.ensures.within h)
