use Rattle.std.proofs.Common.{arith, rules, take}
use Rattle.md_nbd.proofs.ServerLemmas.RequestsEnded.{ends_in_payload}
use Rattle.md_nbd.proofs.server.request_taken.take_request.Goals as goal

pub returns-then-filled-payload-clause-takes : goal.returns-then-filled-payload-clause-takes
returns-then-filled-payload-clause-takes g c =
    ends_in_payload g.I.Source c.args.input.now c.fill_front.new.input c.take_payload.new.input c.fill_front.new.buf (take c.payload_of-payload.result c.take_payload.new.buf) c.in-Ok.taken c.in-Ok-take_payload.filled c.in-Some.request
    (omega (arith, c.if-taken-lt28.false)) (omega (arith, c.fill_front.auto.buf)) c.in-Ok.ensures c.in-Some.ensures.found c.in-Ok-take_payload.ensures
    (search rules) (omega (arith, c.payload_of-payload.ensures, c.if-filled-payload.true))
