use Rattle.std.proofs.Common.{◌∙◌, sym}
use Rattle.md_cert.proofs.Bits.{has_below}
use Rattle.md_plan.proofs.direct.hand_over.Goals as goal

pub bounds-loads-from : goal.bounds-loads-from
bounds-loads-from c = has_below _ _ (sym c.has_source.ensures ∙ c.if-not-has_source.false)
