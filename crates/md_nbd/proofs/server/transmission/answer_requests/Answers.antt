use Rattle.std.proofs.Common.{arith, rules, ◌≡◌, ◌-◌, ◌^◌, Err, subst, sym, take, ◌∙◌}
use Rattle.md_nbd.specs.NbdRequests.{payload_of}
use Rattle.md_nbd.specs.Server.RequestsTaken.{TakesRequest, TakesRequestOrNone}
use Rattle.md_nbd.specs.Server.Told.{AnswersOrGoes}
use Rattle.md_nbd.proofs.ServerLemmas.Exchanged.{after_rest, all_answered, goes, none_comes, one_more_answered, sink_failed, taking_failed}
use Rattle.md_nbd.proofs.server.transmission.answer_requests.Goals as goal

pub returns-in-Ok-false-clause-answers : goal.returns-in-Ok-false-clause-answers
returns-in-Ok-false-clause-answers g c =
    let r = c.in-Ok.request in
    let buf = c.deref_mut.result.now in
    let rested = after_rest g.S.Store g.I.Source g.O.Sink c.args.service.now.export.now (g.W.ClientWatch.has_refused c.args.service.now.watch.now) c.loop-answered.answered (c.args.store.now, c.args.lent.now) (c.loop-answered.store, c.loop-answered.lent) (c.rest_if_silent.new.store, c.rest_if_silent.new.lent) c.args.input.now c.loop-answered.input
    c.args.out.now c.loop-answered.out (g.W.ClientWatch.says_rested c.args.service.now.watch.now) c.loop-answered.invariant.so_many c.rest_if_silent.ensures.rests in
    let t = subst (λ b. TakesRequest g.I.Source c.loop-answered.input c.take_request.new.input b r) (sym c.deref_mut.ensures.value)
    (subst (λ x. TakesRequestOrNone g.I.Source c.loop-answered.input c.take_request.new.input c.take_request.new.buf.items x) c.in-Ok.is c.in_ok-request.ensures.takes) in
    let l = subst (λ b. AnswersOrGoes g.S.Store g.O.Sink (g.W.ClientWatch.has_refused c.args.service.now.watch.now) c.args.service.now.export.now r (take (payload_of r) buf) (c.rest_if_silent.new.store, c.rest_if_silent.new.lent) (c.answer.new.store, c.answer.new.lent) c.loop-answered.out c.answer.new.out b) c.in-Ok-false.field-0-test c.in-Ok-false.ensures.answers in
    goes g.S.Store g.I.Source g.O.Sink c.args.service.now.export.now (g.W.ClientWatch.has_refused c.args.service.now.watch.now) c.loop-answered.answered (c.args.store.now, c.args.lent.now) (c.rest_if_silent.new.store, c.rest_if_silent.new.lent) (c.answer.new.store, c.answer.new.lent) c.args.input.now c.loop-answered.input c.take_request.new.input
    c.args.out.now c.loop-answered.out c.answer.new.out r buf rested t l

pub returns-in-Err-answer-clause-answers : goal.returns-in-Err-answer-clause-answers
returns-in-Err-answer-clause-answers g c =
    let r = c.in-Ok.request in
    let buf = c.deref_mut.result.now in
    let rested = after_rest g.S.Store g.I.Source g.O.Sink c.args.service.now.export.now (g.W.ClientWatch.has_refused c.args.service.now.watch.now) c.loop-answered.answered (c.args.store.now, c.args.lent.now) (c.loop-answered.store, c.loop-answered.lent) (c.rest_if_silent.new.store, c.rest_if_silent.new.lent) c.args.input.now c.loop-answered.input
    c.args.out.now c.loop-answered.out (g.W.ClientWatch.says_rested c.args.service.now.watch.now) c.loop-answered.invariant.so_many c.rest_if_silent.ensures.rests in
    let t = subst (λ b. TakesRequest g.I.Source c.loop-answered.input c.take_request.new.input b r) (sym c.deref_mut.ensures.value)
    (subst (λ x. TakesRequestOrNone g.I.Source c.loop-answered.input c.take_request.new.input c.take_request.new.buf.items x) c.in-Ok.is c.in_ok-request.ensures.takes) in
    sink_failed g.S.Store g.I.Source g.O.Sink c.args.service.now.export.now (g.W.ClientWatch.has_refused c.args.service.now.watch.now) c.loop-answered.answered (c.args.store.now, c.args.lent.now) (c.rest_if_silent.new.store, c.rest_if_silent.new.lent) (c.answer.new.store, c.answer.new.lent) c.args.input.now c.loop-answered.input c.take_request.new.input
    c.args.out.now c.loop-answered.out c.answer.new.out r buf rested t c.in-Err-answer.ensures.answers

pub loop-answered-preserved : goal.loop-answered-preserved
loop-answered-preserved g c =
    let r = c.in-Ok.request in
    let buf = c.deref_mut.result.now in
    let rested = after_rest g.S.Store g.I.Source g.O.Sink c.args.service.now.export.now (g.W.ClientWatch.has_refused c.args.service.now.watch.now) c.loop-answered.answered (c.args.store.now, c.args.lent.now) (c.loop-answered.store, c.loop-answered.lent) (c.rest_if_silent.new.store, c.rest_if_silent.new.lent) c.args.input.now c.loop-answered.input
    c.args.out.now c.loop-answered.out (g.W.ClientWatch.says_rested c.args.service.now.watch.now) c.loop-answered.invariant.so_many c.rest_if_silent.ensures.rests in
    let t = subst (λ b. TakesRequest g.I.Source c.loop-answered.input c.take_request.new.input b r) (sym c.deref_mut.ensures.value)
    (subst (λ x. TakesRequestOrNone g.I.Source c.loop-answered.input c.take_request.new.input c.take_request.new.buf.items x) c.in-Ok.is c.in_ok-request.ensures.takes) in
    let l = subst (λ b. AnswersOrGoes g.S.Store g.O.Sink (g.W.ClientWatch.has_refused c.args.service.now.watch.now) c.args.service.now.export.now r (take (payload_of r) buf) (c.rest_if_silent.new.store, c.rest_if_silent.new.lent) (c.answer.new.store, c.answer.new.lent) c.loop-answered.out c.answer.new.out b) c.in-Ok-true.field-0-test c.in-Ok-true.ensures.answers in
    record {
      so_many = one_more_answered g.S.Store g.I.Source g.O.Sink c.args.service.now.export.now (g.W.ClientWatch.has_refused c.args.service.now.watch.now) c.loop-answered.answered (c.args.store.now, c.args.lent.now) (c.rest_if_silent.new.store, c.rest_if_silent.new.lent) (c.answer.new.store, c.answer.new.lent) c.args.input.now c.loop-answered.input c.take_request.new.input
          c.args.out.now c.loop-answered.out c.answer.new.out r buf rested t l;
      size = omega (arith, c.in-Ok-true.ensures.size, c.rest_if_silent.ensures.size, c.loop-answered.invariant.size);
      sound = c.in-Ok-true.ensures.sound;
      sectors = c.in-Ok-true.ensures.size ∙ c.rest_if_silent.ensures.size ∙ c.loop-answered.invariant.sectors;
    }

pub returns-in_err-request-clause-answers : goal.returns-in_err-request-clause-answers
returns-in_err-request-clause-answers g c =
    let why = c.in_err-request.field-0.0 in
    let passed : c.from_residual.result ≡ Err why = search rules in
    rw passed
    (taking_failed g.S.Store g.I.Source g.O.Sink c.args.service.now.export.now (g.W.ClientWatch.has_refused c.args.service.now.watch.now) c.loop-answered.answered (c.args.store.now, c.args.lent.now) (c.loop-answered.store, c.loop-answered.lent) c.args.input.now c.loop-answered.input c.take_request.new.input
    c.args.out.now c.loop-answered.out why c.loop-answered.invariant.so_many c.in_err-request.ensures.takes)

pub returns-in-Err-clause-answers : goal.returns-in-Err-clause-answers
returns-in-Err-clause-answers g c =
    let gives = subst (λ x. TakesRequestOrNone g.I.Source c.loop-answered.input c.take_request.new.input c.take_request.new.buf.items x) c.in-Err.is c.in_ok-request.ensures.takes in
    none_comes g.S.Store g.I.Source g.O.Sink c.args.service.now.export.now (g.W.ClientWatch.has_refused c.args.service.now.watch.now) c.loop-answered.answered (c.args.store.now, c.args.lent.now) (c.loop-answered.store, c.loop-answered.lent) c.args.input.now c.loop-answered.input c.take_request.new.input
    c.args.out.now c.loop-answered.out c.in-Err.gone c.loop-answered.invariant.so_many gives

pub returns-clause-answers : goal.returns-clause-answers
returns-clause-answers g c =
    let full : c.loop-answered.answered ≡ 2 ^ 64 - 1 = search rules in
    all_answered g.S.Store g.I.Source g.O.Sink c.args.service.now.export.now (g.W.ClientWatch.has_refused c.args.service.now.watch.now) c.loop-answered.answered (c.args.store.now, c.args.lent.now) (c.loop-answered.store, c.loop-answered.lent) c.args.input.now c.loop-answered.input
    c.args.out.now c.loop-answered.out full c.loop-answered.invariant.so_many
