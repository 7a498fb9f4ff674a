use Rattle.std.proofs.Common.{rules, ◌∙◌, inl, refl}
use Rattle.md_serve_commands.proofs.Taken.{flushed_or_not, why_unflushed}
use Rattle.md_serve_commands.proofs.writer.ArrayWriterStoreMirror.flush.Goals as goal

pub returns-then-keeps_marks-clause-gives : goal.returns-then-keeps_marks-clause-gives
returns-then-keeps_marks-clause-gives g c = record {
  running = search rules;
  mid = c.write_first.new.mirror;
  waited = c.in_ok-write_first.ensures.gives;
  none = c.keeps_marks.ensures.waits.run ∙ c.in_ok-write_first.ensures.none;
  marks = inl refl;
}

pub returns-clause-gives : goal.returns-clause-gives
returns-clause-gives g c =
    flushed_or_not (c.args.self.now, c.args.lent.now) (c.keeps_marks.new.self, c.clear_marks.new.mirror) c.write_first.new.mirror c.clear_marks.result (search rules)
    c.in_ok-write_first.ensures.gives (c.keeps_marks.ensures.waits.run ∙ c.in_ok-write_first.ensures.none) c.clear_marks.ensures.gives

pub returns-clause-why : goal.returns-clause-why
returns-clause-why g c =
    why_unflushed (c.args.self.now, c.args.lent.now) (c.keeps_marks.new.self, c.clear_marks.new.mirror) c.write_first.new.mirror c.clear_marks.result
    c.in_ok-write_first.ensures.gives (c.keeps_marks.ensures.waits.run ∙ c.in_ok-write_first.ensures.none) c.clear_marks.ensures.gives c.clear_marks.ensures.why
