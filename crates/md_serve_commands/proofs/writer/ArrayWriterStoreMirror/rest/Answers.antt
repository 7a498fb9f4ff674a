use Rattle.std.proofs.Common.{rules}
use Rattle.md_serve_commands.proofs.Taken.{flushed_or_not, rested}
use Rattle.md_serve_commands.proofs.writer.ArrayWriterStoreMirror.rest.Goals as goal

pub returns-clause-gives : goal.returns-clause-gives
returns-clause-gives g c =
    flushed_or_not (c.args.self.now, c.args.lent.now) _ c.write_first.new.mirror c.clear_marks.result (search rules) c.in_ok-write_first.ensures.gives c.in_ok-write_first.ensures.none c.clear_marks.ensures.gives

pub returns-clause-rests : goal.returns-clause-rests
returns-clause-rests g c =
    rested (c.args.self.now, c.args.lent.now) _ c.write_first.new.mirror c.clear_marks.result c.in_ok-write_first.ensures.gives c.in_ok-write_first.ensures.none c.clear_marks.ensures.gives
