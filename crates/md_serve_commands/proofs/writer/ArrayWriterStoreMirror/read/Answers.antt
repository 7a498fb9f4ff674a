use Rattle.std.proofs.Common.{arith, inr}
use Rattle.md_serve_commands.proofs.writer.ArrayWriterStoreMirror.read.Goals as goal

pub returns-clause-gives : goal.returns-clause-gives
returns-clause-gives g c = inr (record {
  mid = c.write_first.new.mirror;
  waited = c.in_ok-write_first.ensures.gives;
  none = c.in_ok-write_first.ensures.none;
  refused = record {
    fault = c.in-Err.fault;
    bytes = c.read.new.buf;
    as_many = omega (arith, c.read.auto.buf, c.requires.whole);
    refused = c.in-Err.ensures.gives;
    pending = c.in-Err.ensures.pending;
  };
})

pub returns-clause-why : goal.returns-clause-why
returns-clause-why g c = inr (
  record {
    mid = c.write_first.new.mirror;
    waited = c.in_ok-write_first.ensures.gives;
    none = c.in_ok-write_first.ensures.none;
    refused = record {
      fault = c.in-Err.fault;
      bytes = c.read.new.buf;
      as_many = omega (arith, c.read.auto.buf, c.requires.whole);
      refused = c.in-Err.ensures.gives;
      pending = c.in-Err.ensures.pending;
    };
  },
  c.unread.ensures,
)
