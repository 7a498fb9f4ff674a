use Rattle.std.proofs.Common.{inl, refl}
use Rattle.md_laws.proofs.Runs.Rests.{rests_same}
use Rattle.md_read_commands.proofs.serving.serve_array.Goals as goal

pub returns-in-Err-clause-rests : goal.returns-in-Err-clause-rests
returns-in-Err-clause-rests g c = rests_same c.args.mirror.now

pub returns-in-Ok-clause-gives : goal.returns-in-Ok-clause-gives
returns-in-Ok-clause-gives g c = inl (record {
  first = c.in-Ok.reader;
  last = c.serve-served.new.reader;
  is = c.in-Ok.ensures.gives;
  noted = refl;
  served = c.serve-served.ensures.gives;
})
