use Rattle.std.proofs.Common.{rules, ◌≡◌, Err, take}
use Rattle.md_nbd.specs.NbdRequests.{payload_of}
use Rattle.md_nbd.proofs.ServerLemmas.ToldReplies.{fails_refused, tells_refused}
use Rattle.md_nbd.proofs.server.transmission.answer.Goals as goal

pub returns-in_err-do_refuse-in-Refuse-clause-answers : goal.returns-in_err-do_refuse-in-Refuse-clause-answers
returns-in_err-do_refuse-in-Refuse-clause-answers g c =
    let passed : c.from_residual-in_err-do_refuse-in-Refuse.result ≡ Err c.in_err-do_refuse-in-Refuse.field-0.0 = search rules in
    rw passed (fails_refused g.S.Store g.O.Sink (g.W.ClientWatch.has_refused c.args.service.now.watch.now) c.args.service.now.export.now c.args.request.now c.in-Refuse.error c.task_fault-fault.result
    (take (payload_of c.args.request.now) c.args.buf.now) (c.args.store.now, c.args.lent.now) c.in-Refuse.ensures.task c.task_fault-fault.ensures c.do_refuse.new.out c.in_err-do_refuse-in-Refuse.ensures.tells)

pub returns-in_ok-do_refuse-in-Refuse-clause-answers : goal.returns-in_ok-do_refuse-in-Refuse-clause-answers
returns-in_ok-do_refuse-in-Refuse-clause-answers g c =
    tells_refused g.S.Store g.O.Sink (g.W.ClientWatch.has_refused c.args.service.now.watch.now) c.args.service.now.export.now c.args.request.now c.in-Refuse.error c.task_fault-fault.result
    (take (payload_of c.args.request.now) c.args.buf.now) (c.args.store.now, c.args.lent.now) c.in-Refuse.ensures.task c.task_fault-fault.ensures c.args.out.now c.do_refuse.new.out c.in_ok-do_refuse-in-Refuse.ensures.tells
