use Rattle.std.proofs.Common.{◌≡◌, Err, arith, rules, subst}
use Rattle.md_nbd.specs.Server.OptionsTaken.{TakesOptionOrNone}
use Rattle.md_nbd.proofs.ServerLemmas.OptionsInTurn.{agreed, closed, no_answer, one_more_option}
use Rattle.md_nbd.proofs.server.agreement.haggle.Goals as goal

pub returns-in_err-put_answer : goal.returns-in_err-put_answer
returns-in_err-put_answer g c =
    let head = c.in-Ok-taken.head in
    let buf = c.take_option.new.buf in
    let fault = c.in_err-put_answer.field-0.0 in
    let is : c.from_residual.result ≡ Err fault = search rules in
    let t = subst (λ x. TakesOptionOrNone g.I.Source c.loop-answered.input c.take_option.new.input buf x) c.in-Ok-taken.is c.in-Ok.ensures in
    rw is (no_answer g.I.Source g.O.Sink c.args.export.now c.args.no_zeroes c.loop-answered.answered c.args.input.now c.loop-answered.input c.take_option.new.input
    c.args.out.now c.loop-answered.out c.put_answer.new.out head.0 head.1 buf fault c.loop-answered.invariant.so_many t c.in_err-put_answer.ensures)

pub returns-in-Transmission : goal.returns-in-Transmission
returns-in-Transmission g c =
    let head = c.in-Ok-taken.head in
    let buf = c.take_option.new.buf in
    let t = subst (λ x. TakesOptionOrNone g.I.Source c.loop-answered.input c.take_option.new.input buf x) c.in-Ok-taken.is c.in-Ok.ensures in
    agreed g.I.Source g.O.Sink c.args.export.now c.args.no_zeroes c.loop-answered.answered c.args.input.now c.loop-answered.input c.take_option.new.input
    c.args.out.now c.loop-answered.out c.put_answer.new.out head.0 head.1 buf c.in_ok-put_answer.field-0 c.loop-answered.invariant.so_many t c.in_ok-put_answer.ensures c.in-Transmission.is

pub returns-in-Closed : goal.returns-in-Closed
returns-in-Closed g c =
    let head = c.in-Ok-taken.head in
    let buf = c.take_option.new.buf in
    let t = subst (λ x. TakesOptionOrNone g.I.Source c.loop-answered.input c.take_option.new.input buf x) c.in-Ok-taken.is c.in-Ok.ensures in
    closed g.I.Source g.O.Sink c.args.export.now c.args.no_zeroes c.loop-answered.answered c.args.input.now c.loop-answered.input c.take_option.new.input
    c.args.out.now c.loop-answered.out c.put_answer.new.out head.0 head.1 buf c.in_ok-put_answer.field-0 c.loop-answered.invariant.so_many t c.in_ok-put_answer.ensures c.in-Closed.is

pub loop-answered-preserved : goal.loop-answered-preserved
loop-answered-preserved g c =
    let head = c.in-Ok-taken.head in
    let buf = c.take_option.new.buf in
    let t = subst (λ x. TakesOptionOrNone g.I.Source c.loop-answered.input c.take_option.new.input buf x) c.in-Ok-taken.is c.in-Ok.ensures in
    record {
      so_many = one_more_option g.I.Source g.O.Sink c.args.export.now c.args.no_zeroes c.loop-answered.answered c.args.input.now c.loop-answered.input c.take_option.new.input
          c.args.out.now c.loop-answered.out c.put_answer.new.out head.0 head.1 buf c.in_ok-put_answer.field-0 c.loop-answered.invariant.so_many t c.in_ok-put_answer.ensures c.in-Haggling.is;
      room = omega (arith, c.take_option.auto.buf, c.loop-answered.invariant.room);
    }
