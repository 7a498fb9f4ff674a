use Rattle.md_plan.proofs.SourceSums.{has_only_is}
use Rattle.md_plan.proofs.bound.has_only.Goals as goal

pub returns : goal.returns
returns c = has_only_is c.args.mask c.args.sources c.ranges.mask.fits
