use Rattle.std.proofs.Common.{◌/◌, inl, inr, length, arith}
use Rattle.md_read_commands.proofs.Served.{served_given, why_given}
use Rattle.md_read_commands.proofs.reader.ArrayReaderStoreMirror.read.Goals as goal
use Rattle.md_read_commands.proofs.reader.ArrayReaderStoreMirror.read.Goals.{else-self-via-then-self+else-buf-capacity, else-self-via-else-self}

pub returns-clause-gives : goal.returns-clause-gives
returns-clause-gives g c =
    let same = c.read_given.auto.buf in
    let whole = c.requires.whole in
    served_given c.read_given.result c.args.self.now c.args.lent.now c.read_given.new.mirror c.args.sector c.read_given.new.buf (length c.args.buf.now / 512) (omega arith)
    (elim c.else-self.branch [
      | else-self-via-then-self+else-buf-capacity w ↦ let told = w.capacity.ensures in let out = w.if-buf-capacity.false in inr (omega arith)
      | else-self-via-else-self w ↦ inl w.if-self.false
    ])
    c.read_given.ensures.rests c.read_given.ensures.gives

pub returns-clause-why : goal.returns-clause-why
returns-clause-why g c =
    why_given c.read_given.result (c.args.self.now, c.args.lent.now) (c.args.self.now, c.read_given.new.mirror) c.args.sector (length c.args.buf.now / 512) c.read_given.ensures.why
