use Rattle.std.proofs.Common.{◌+◌, ◌/◌, length, arith}
use Rattle.md_check.proofs.WindowsRead.{led_turned, turned_more}
use Rattle.md_check.proofs.work.work.Goals as goal

pub returns-then-k-window-clause-turned : goal.returns-then-k-window-clause-turned
returns-then-k-window-clause-turned g c =
    led_turned c.args.chunks c.args.window.from c.args.window.ahead c.args.lead.now c.args.reader.now c.fill.new.reader (c.requires.lead c.if-k-window.true) c.fill.ensures.read

pub returns-else-k-window-clause-turned : goal.returns-else-k-window-clause-turned
returns-else-k-window-clause-turned g c =
    let n = length c.args.lead.now / 512 in
    turned_more c.args.chunks c.args.window.from n n (n + c.args.window.ahead) c.args.lead.now c.args.reader.now c.follow.new.reader (omega arith) c.follow.ensures.turned
