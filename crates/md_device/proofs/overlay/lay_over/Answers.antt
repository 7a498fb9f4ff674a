use Rattle.std.proofs.Common.{◌∙◌, inr, arith}
use Rattle.md_device.proofs.LaidOver.{lay_step}
use Rattle.md_device.proofs.overlay.lay_over.Goals as goal

pub loop-i-preserved : goal.loop-i-preserved
loop-i-preserved c = record {
  done = lay_step c.args.blocks.now c.args.sector c.loop-i.i c.args.buf.now c.loop-i.buf c.lay_sector.new.buf c.loop-i.invariant.done c.loop-i.invariant.rest c.lay_sector.ensures.inside c.lay_sector.ensures.outside;
  rest = λ k above. c.lay_sector.ensures.outside k (inr (omega (arith, above))) ∙ c.loop-i.invariant.rest k (omega (arith, above));
}
