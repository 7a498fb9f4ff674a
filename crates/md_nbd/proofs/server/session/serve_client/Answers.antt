use Rattle.std.proofs.Common.{rules, Err, ◌≡◌, inl, inr, refl}
use Rattle.md_nbd.specs.Server.Sessions.{BreaksAtOptions, GetsExport}
use Rattle.md_nbd.proofs.server.session.serve_client.Goals as goal

pub returns-in_err-gone-clause-serves : goal.returns-in_err-gone-clause-serves
returns-in_err-gone-clause-serves g c =
    let agrees : GetsExport g.I.Source g.O.Sink c.args.service.now.export.now c.args.input.now c.haggle.new.input c.args.out.now c.haggle.new.out = search rules in
    let why = c.in_err-gone.field-0.0 in
    let passed : c.from_residual-in_err-gone.result ≡ Err why = search rules in
    rw passed (inr (inr (record {
      ready = c.haggle.new.input;
      answered = c.haggle.new.out;
      agrees = agrees;
      breaks = c.in_err-gone.ensures.answers.0;
    })))

pub returns-in_err-gone-clause-told : goal.returns-in_err-gone-clause-told
returns-in_err-gone-clause-told g c =
    let agrees : GetsExport g.I.Source g.O.Sink c.args.service.now.export.now c.args.input.now c.haggle.new.input c.args.out.now c.haggle.new.out = search rules in
    let why = c.in_err-gone.field-0.0 in
    let passed : c.from_residual-in_err-gone.result ≡ Err why = search rules in
    rw passed (
      inr (inr (record {
        ready = c.haggle.new.input;
        answered = c.haggle.new.out;
        agrees = agrees;
        breaks = c.in_err-gone.ensures.answers.0;
      })),
      (c.in_err-gone.ensures.answers.1, c.in_err-gone.ensures.answers.2),
    )

pub returns-in_err-no_zeroes-clause-told : goal.returns-in_err-no_zeroes-clause-told
returns-in_err-no_zeroes-clause-told g c =
    let fault = c.in_err-no_zeroes.field-0.0 in
    let passed : c.from_residual.result ≡ Err fault = search rules in
    rw passed (inl (record { fails = c.in_err-no_zeroes.ensures; store = refl }), tt)

pub returns-in_err-why-clause-told : goal.returns-in_err-why-clause-told
returns-in_err-why-clause-told g c =
    let why = c.in_err-why.field-0.0 in
    let passed : c.from_residual-in_err-why.result ≡ Err why = search rules in
    let breaks : BreaksAtOptions g.S.Store g.I.Source g.O.Sink c.args.service.now.export.now (c.args.store.now, c.args.lent.now) (c.args.store.now, c.args.lent.now) c.args.input.now c.haggle.new.input c.args.out.now c.haggle.new.out why = search rules in
    rw passed (inr (inl breaks), tt)

pub returns-clause-told : goal.returns-clause-told
returns-clause-told g c =
    let agrees : GetsExport g.I.Source g.O.Sink c.args.service.now.export.now c.args.input.now c.haggle.new.input c.args.out.now c.haggle.new.out = search rules in
    (record { ready = c.haggle.new.input; answered = c.haggle.new.out; agrees = agrees; transmits = c.in_ok-gone.ensures.answers.0 }, c.in_ok-gone.ensures.answers.1)
