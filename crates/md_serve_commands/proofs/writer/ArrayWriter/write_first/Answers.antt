use Rattle.md_serve_commands.proofs.writer.ArrayWriter.write_first.Goals as goal

pub returns-clause-gives : goal.returns-clause-gives
returns-clause-gives g c = record {
  fails = record {
    fault = c.in-Err.fault;
    refused = c.in-Err.ensures.gives;
    still = c.in-Err.ensures.still;
  };
  is = c.unwritten.ensures;
}
