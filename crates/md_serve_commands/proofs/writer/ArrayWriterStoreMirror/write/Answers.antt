use Rattle.std.proofs.Common.{rules, inr}
use Rattle.md_serve_commands.proofs.Taken.{taken_through}
use Rattle.md_serve_commands.proofs.writer.ArrayWriterStoreMirror.write.Goals as goal

pub returns-in_default-clause-gives : goal.returns-in_default-clause-gives
returns-in_default-clause-gives g c =
    taken_through (c.args.self.now, c.args.lent.now) _ c.args.sector c.args.bytes.now c.args.through (record {
      running = search rules;
      mid = c.write_first.new.mirror;
      waited = c.in_ok-write_first.ensures.gives;
      none = c.in_ok-write_first.ensures.none;
      written = (c.in_default.ensures.gives, c.in_default.ensures.pending);
    })

pub returns-then-through-clause-gives : goal.returns-then-through-clause-gives
returns-then-through-clause-gives g c = inr (inr (inr (record {
  mid = c.write_first.new.mirror;
  waited = c.in_ok-write_first.ensures.gives;
  none = c.in_ok-write_first.ensures.none;
  refused = record { fault = c.in-Err.fault; refused = c.in-Err.ensures.gives; pending = c.in-Err.ensures.pending };
})))

pub returns-then-through-clause-why : goal.returns-then-through-clause-why
returns-then-through-clause-why g c = inr (inr (inr (
  record {
    mid = c.write_first.new.mirror;
    waited = c.in_ok-write_first.ensures.gives;
    none = c.in_ok-write_first.ensures.none;
    refused = record { fault = c.in-Err.fault; refused = c.in-Err.ensures.gives; pending = c.in-Err.ensures.pending };
  },
  c.unwritten.ensures,
)))
