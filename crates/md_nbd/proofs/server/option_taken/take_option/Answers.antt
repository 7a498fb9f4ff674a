use Rattle.std.proofs.Common.{arith}
use Rattle.std.proofs.lemmas.List.{length-take-le}
use Rattle.md_nbd.proofs.ServerLemmas.OptionsEnded.{ends_in_body, no_option}
use Rattle.md_nbd.proofs.server.option_taken.take_option.Goals as goal

pub returns-in_default : goal.returns-in_default
returns-in_default g c =
    no_option g.I.Source c.args.input.now c.fill_front.new.input c.fill_front.new.buf c.in_ok-taken.taken (omega arith) (omega (arith, c.fill_front.auto.buf)) c.in_ok-taken.ensures c.in_default.ensures.none

pub returns-then-branch-size : goal.returns-then-branch-size
returns-then-branch-size g c =
    let size = c.in-Some.size in
    ends_in_body g.I.Source c.args.input.now c.fill_front.new.input c.fill_front-2.new.input c.fill_front.new.buf c.fill_front-2.new.buf c.in_ok-taken.taken c.in_ok-fill_front.field-0 c.in-Some.option size
    (omega arith) (omega (arith, c.fill_front.auto.buf)) c.in_ok-taken.ensures c.in-Some.ensures.found c.in_ok-fill_front.ensures
    (omega (arith, c.fill_front-2.auto.buf, length-take-le size c.args.buf.now (omega (arith, c.requires)))) c.if-branch-size.true
