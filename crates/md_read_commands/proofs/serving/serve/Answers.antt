use Rattle.std.proofs.Common.{rules, Err, ◌≡◌, ◌∙◌, inl, inr, refl, sym}
use Rattle.md_refusals.specs.declared.fault.CommandFault.TheVariants.{OutputFault, Read}
use Rattle.md_refusals.proofs.Wrapped.{own_err, own_ok}
use Rattle.md_nbd.specs.declared.server.session_fault.SessionFault.TheVariants as session
use Rattle.md_read_commands.proofs.Served.{broken_rests, broken_told, export_by, gave_zeros, served_client, session_rests, session_told}
use Rattle.md_read_commands.proofs.serving.serve.Goals as goal

pub returns-in-Ok-2-clause-gives : goal.returns-in-Ok-2-clause-gives
returns-in-Ok-2-clause-gives g c = inl (record {
  end = c.in-Ok.end;
  otherwise = sym c.is_orderly.ensures ∙ c.if-is_orderly.false;
  session = session_told g.I.Source g.S.Sink c.chunks.result c.args.reader.now c.serve_client.new.store c.args.mirror.now c.serve_client.new.lent c.args.input.now c.serve_client.new.input c.args.out.now c.serve_client.new.out c.chunks.ensures c.in-Ok.end c.in-Ok.ensures.serves;
})

pub returns-in-Ok-2-clause-rests : goal.returns-in-Ok-2-clause-rests
returns-in-Ok-2-clause-rests g c = session_rests g.I.Source g.S.Sink (export_by c.chunks.result) (c.args.reader.now, c.args.mirror.now) (c.serve_client.new.store, c.serve_client.new.lent) c.args.input.now c.serve_client.new.input c.args.out.now c.serve_client.new.out c.in-Ok.end c.in-Ok.ensures.serves

pub returns-in-Err-Source-clause-gives : goal.returns-in-Err-Source-clause-gives
returns-in-Err-Source-clause-gives g c = inr (broken_told g.I.Source g.S.Sink c.chunks.result c.args.reader.now c.serve_client.new.store c.args.mirror.now c.serve_client.new.lent c.args.input.now c.serve_client.new.input c.args.out.now c.serve_client.new.out c.chunks.ensures c.in-Err-Source.field-0 session.Source c.in-Err-Source.field-0-is c.in-Err-Source.ensures.serves)

pub returns-in-Err-Source-clause-rests : goal.returns-in-Err-Source-clause-rests
returns-in-Err-Source-clause-rests g c = broken_rests g.I.Source g.S.Sink (export_by c.chunks.result) (c.args.reader.now, c.args.mirror.now) (c.serve_client.new.store, c.serve_client.new.lent) c.args.input.now c.serve_client.new.input c.args.out.now c.serve_client.new.out c.in-Err-Source.field-0 c.in-Err-Source.ensures.serves

pub returns-in-Err-Sink-clause-gives : goal.returns-in-Err-Sink-clause-gives
returns-in-Err-Sink-clause-gives g c = inl (broken_told g.I.Source g.S.Sink c.chunks.result c.args.reader.now c.serve_client.new.store c.args.mirror.now c.serve_client.new.lent c.args.input.now c.serve_client.new.input c.args.out.now c.serve_client.new.out c.chunks.ensures c.in-Err-Sink.field-0 session.Sink c.in-Err-Sink.field-0-is c.in-Err-Sink.ensures.serves)

pub returns-in-Err-Sink-clause-rests : goal.returns-in-Err-Sink-clause-rests
returns-in-Err-Sink-clause-rests g c = broken_rests g.I.Source g.S.Sink (export_by c.chunks.result) (c.args.reader.now, c.args.mirror.now) (c.serve_client.new.store, c.serve_client.new.lent) c.args.input.now c.serve_client.new.input c.args.out.now c.serve_client.new.out c.in-Err-Sink.field-0 c.in-Err-Sink.ensures.serves

pub returns-in-Err-NoMemory-clause-gives : goal.returns-in-Err-NoMemory-clause-gives
returns-in-Err-NoMemory-clause-gives g c = broken_told g.I.Source g.S.Sink c.chunks.result c.args.reader.now c.serve_client.new.store c.args.mirror.now c.serve_client.new.lent c.args.input.now c.serve_client.new.input c.args.out.now c.serve_client.new.out c.chunks.ensures c.in-Err-NoMemory.field-0 session.NoMemory c.in-Err-NoMemory.field-0-is c.in-Err-NoMemory.ensures.serves

pub returns-in-Err-NoMemory-clause-rests : goal.returns-in-Err-NoMemory-clause-rests
returns-in-Err-NoMemory-clause-rests g c = broken_rests g.I.Source g.S.Sink (export_by c.chunks.result) (c.args.reader.now, c.args.mirror.now) (c.serve_client.new.store, c.serve_client.new.lent) c.args.input.now c.serve_client.new.input c.args.out.now c.serve_client.new.out c.in-Err-NoMemory.field-0 c.in-Err-NoMemory.ensures.serves

pub returns-in_err-flush-clause-gives : goal.returns-in_err-flush-clause-gives
returns-in_err-flush-clause-gives g c =
    let fails : c.from_residual.result ≡ Err OutputFault = search rules in
    rw fails (inr (record {
      end = c.in-Ok.end;
      orderly = sym c.is_orderly.ensures ∙ c.if-is_orderly.true;
      told = c.serve_client.new.out;
      session = session_told g.I.Source g.S.Sink c.chunks.result c.args.reader.now c.serve_client.new.store c.args.mirror.now c.serve_client.new.lent c.args.input.now c.serve_client.new.input c.args.out.now c.serve_client.new.out c.chunks.ensures c.in-Ok.end c.in-Ok.ensures.serves;
      failed = c.in_err-flush.ensures;
    }))

pub returns-in_err-flush-clause-rests : goal.returns-in_err-flush-clause-rests
returns-in_err-flush-clause-rests g c = session_rests g.I.Source g.S.Sink (export_by c.chunks.result) (c.args.reader.now, c.args.mirror.now) (c.serve_client.new.store, c.serve_client.new.lent) c.args.input.now c.serve_client.new.input c.args.out.now c.serve_client.new.out c.in-Ok.end c.in-Ok.ensures.serves

pub returns-in_err-map_err-clause-gives : goal.returns-in_err-map_err-clause-gives
returns-in_err-map_err-clause-gives g c =
    let own = own_err _ _ _ c.first_gap.result _ _ c.first_gap.ensures c.in_err-map_err.ensures.cases refl in
    let passed : c.from_residual-in_err-map_err.result ≡ Err (Read own.0) = let post = own.2 in search rules in
    rw passed
    (gave_zeros g.I.Source g.S.Sink c.args.reader.now c.serve_client.new.store c.args.mirror.now c.serve_client.new.lent c.args.input.now c.serve_client.new.input c.args.out.now c.serve_client.new.out c.flush.new.self
    (served_client g.I.Source g.S.Sink c.args.reader.now c.serve_client.new.store c.args.mirror.now c.serve_client.new.lent c.args.input.now c.serve_client.new.input c.args.out.now c.serve_client.new.out c.flush.new.self c.in-Ok.end (sym c.is_orderly.ensures ∙ c.if-is_orderly.true)
    (session_told g.I.Source g.S.Sink c.chunks.result c.args.reader.now c.serve_client.new.store c.args.mirror.now c.serve_client.new.lent c.args.input.now c.serve_client.new.input c.args.out.now c.serve_client.new.out c.chunks.ensures c.in-Ok.end c.in-Ok.ensures.serves)
    c.in_ok-flush.ensures)
    own.0 own.1)

pub returns-in_err-map_err-clause-rests : goal.returns-in_err-map_err-clause-rests
returns-in_err-map_err-clause-rests g c = session_rests g.I.Source g.S.Sink (export_by c.chunks.result) (c.args.reader.now, c.args.mirror.now) (c.serve_client.new.store, c.serve_client.new.lent) c.args.input.now c.serve_client.new.input c.args.out.now c.serve_client.new.out c.in-Ok.end c.in-Ok.ensures.serves

pub returns-clause-gives : goal.returns-clause-gives
returns-clause-gives g c = (
  served_client g.I.Source g.S.Sink c.args.reader.now c.serve_client.new.store c.args.mirror.now c.serve_client.new.lent c.args.input.now c.serve_client.new.input c.args.out.now c.serve_client.new.out c.flush.new.self c.in-Ok.end (sym c.is_orderly.ensures ∙ c.if-is_orderly.true)
      (session_told g.I.Source g.S.Sink c.chunks.result c.args.reader.now c.serve_client.new.store c.args.mirror.now c.serve_client.new.lent c.args.input.now c.serve_client.new.input c.args.out.now c.serve_client.new.out c.chunks.ensures c.in-Ok.end c.in-Ok.ensures.serves)
      c.in_ok-flush.ensures,
  own_ok _ _ _ c.first_gap.result _ _ c.first_gap.ensures c.in_ok-map_err.ensures.cases c.in_ok-map_err.ensures.variant refl,
)

pub returns-clause-rests : goal.returns-clause-rests
returns-clause-rests g c = session_rests g.I.Source g.S.Sink (export_by c.chunks.result) (c.args.reader.now, c.args.mirror.now) (c.serve_client.new.store, c.serve_client.new.lent) c.args.input.now c.serve_client.new.input c.args.out.now c.serve_client.new.out c.in-Ok.end c.in-Ok.ensures.serves
