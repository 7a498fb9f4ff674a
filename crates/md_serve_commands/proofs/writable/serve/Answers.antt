use Rattle.std.proofs.Common.{rules, Err, ◌≡◌, ◌∙◌, inl, inr, sym}
use Rattle.md_refusals.specs.declared.fault.CommandFault.TheVariants.{OutputFault}
use Rattle.md_nbd.specs.declared.server.session_fault.SessionFault.TheVariants as session
use Rattle.md_serve_commands.proofs.Written.{broken_pending, broken_told, export_by, served_client, session_pending, session_told}
use Rattle.md_serve_commands.proofs.writable.serve.Goals as goal

pub returns-in-Ok-2-clause-gives : goal.returns-in-Ok-2-clause-gives
returns-in-Ok-2-clause-gives g c = inl (record {
  end = c.in-Ok.end;
  otherwise = sym c.is_orderly.ensures ∙ c.if-is_orderly.false;
  session = session_told g.I.Source g.S.Sink c.chunks.result c.args.writer.now c.serve_client.new.store c.args.mirror.now c.serve_client.new.lent c.args.input.now c.serve_client.new.input c.args.out.now c.serve_client.new.out c.chunks.ensures c.in-Ok.end c.in-Ok.ensures.serves;
})

pub returns-in-Ok-2-clause-pending : goal.returns-in-Ok-2-clause-pending
returns-in-Ok-2-clause-pending g c = session_pending g.I.Source g.S.Sink (export_by c.chunks.result) (c.args.writer.now, c.args.mirror.now) (c.serve_client.new.store, c.serve_client.new.lent) c.args.input.now c.serve_client.new.input c.args.out.now c.serve_client.new.out c.in-Ok.end c.in-Ok.ensures.serves

pub returns-in-Err-Source-clause-gives : goal.returns-in-Err-Source-clause-gives
returns-in-Err-Source-clause-gives g c = inr (broken_told g.I.Source g.S.Sink c.chunks.result c.args.writer.now c.serve_client.new.store c.args.mirror.now c.serve_client.new.lent c.args.input.now c.serve_client.new.input c.args.out.now c.serve_client.new.out c.chunks.ensures c.in-Err-Source.field-0 session.Source c.in-Err-Source.field-0-is c.in-Err-Source.ensures.serves)

pub returns-in-Err-Source-clause-pending : goal.returns-in-Err-Source-clause-pending
returns-in-Err-Source-clause-pending g c = broken_pending g.I.Source g.S.Sink (export_by c.chunks.result) (c.args.writer.now, c.args.mirror.now) (c.serve_client.new.store, c.serve_client.new.lent) c.args.input.now c.serve_client.new.input c.args.out.now c.serve_client.new.out c.in-Err-Source.field-0 c.in-Err-Source.ensures.serves

pub returns-in-Err-Sink-clause-gives : goal.returns-in-Err-Sink-clause-gives
returns-in-Err-Sink-clause-gives g c = inl (broken_told g.I.Source g.S.Sink c.chunks.result c.args.writer.now c.serve_client.new.store c.args.mirror.now c.serve_client.new.lent c.args.input.now c.serve_client.new.input c.args.out.now c.serve_client.new.out c.chunks.ensures c.in-Err-Sink.field-0 session.Sink c.in-Err-Sink.field-0-is c.in-Err-Sink.ensures.serves)

pub returns-in-Err-Sink-clause-pending : goal.returns-in-Err-Sink-clause-pending
returns-in-Err-Sink-clause-pending g c = broken_pending g.I.Source g.S.Sink (export_by c.chunks.result) (c.args.writer.now, c.args.mirror.now) (c.serve_client.new.store, c.serve_client.new.lent) c.args.input.now c.serve_client.new.input c.args.out.now c.serve_client.new.out c.in-Err-Sink.field-0 c.in-Err-Sink.ensures.serves

pub returns-in-Err-NoMemory-clause-gives : goal.returns-in-Err-NoMemory-clause-gives
returns-in-Err-NoMemory-clause-gives g c = (broken_told g.I.Source g.S.Sink c.chunks.result c.args.writer.now c.serve_client.new.store c.args.mirror.now c.serve_client.new.lent c.args.input.now c.serve_client.new.input c.args.out.now c.serve_client.new.out c.chunks.ensures c.in-Err-NoMemory.field-0 session.NoMemory c.in-Err-NoMemory.field-0-is c.in-Err-NoMemory.ensures.serves)

pub returns-in-Err-NoMemory-clause-pending : goal.returns-in-Err-NoMemory-clause-pending
returns-in-Err-NoMemory-clause-pending g c = broken_pending g.I.Source g.S.Sink (export_by c.chunks.result) (c.args.writer.now, c.args.mirror.now) (c.serve_client.new.store, c.serve_client.new.lent) c.args.input.now c.serve_client.new.input c.args.out.now c.serve_client.new.out c.in-Err-NoMemory.field-0 c.in-Err-NoMemory.ensures.serves

pub returns-in_err-flush-clause-gives : goal.returns-in_err-flush-clause-gives
returns-in_err-flush-clause-gives g c =
    let fails : c.from_residual.result ≡ Err OutputFault = search rules in
    rw fails (inr (record {
      end = c.in-Ok.end;
      orderly = sym c.is_orderly.ensures ∙ c.if-is_orderly.true;
      told = c.serve_client.new.out;
      session = session_told g.I.Source g.S.Sink c.chunks.result c.args.writer.now c.serve_client.new.store c.args.mirror.now c.serve_client.new.lent c.args.input.now c.serve_client.new.input c.args.out.now c.serve_client.new.out c.chunks.ensures c.in-Ok.end c.in-Ok.ensures.serves;
      failed = c.in_err-flush.ensures;
    }))

pub returns-in_err-flush-clause-pending : goal.returns-in_err-flush-clause-pending
returns-in_err-flush-clause-pending g c = session_pending g.I.Source g.S.Sink (export_by c.chunks.result) (c.args.writer.now, c.args.mirror.now) (c.serve_client.new.store, c.serve_client.new.lent) c.args.input.now c.serve_client.new.input c.args.out.now c.serve_client.new.out c.in-Ok.end c.in-Ok.ensures.serves

pub returns-clause-gives : goal.returns-clause-gives
returns-clause-gives g c =
    served_client g.I.Source g.S.Sink c.args.writer.now c.serve_client.new.store c.args.mirror.now c.serve_client.new.lent c.args.input.now c.serve_client.new.input c.args.out.now c.serve_client.new.out c.flush.new.self c.in-Ok.end (sym c.is_orderly.ensures ∙ c.if-is_orderly.true)
    (session_told g.I.Source g.S.Sink c.chunks.result c.args.writer.now c.serve_client.new.store c.args.mirror.now c.serve_client.new.lent c.args.input.now c.serve_client.new.input c.args.out.now c.serve_client.new.out c.chunks.ensures c.in-Ok.end c.in-Ok.ensures.serves)
    c.in_ok-flush.ensures

pub returns-clause-pending : goal.returns-clause-pending
returns-clause-pending g c = session_pending g.I.Source g.S.Sink (export_by c.chunks.result) (c.args.writer.now, c.args.mirror.now) (c.serve_client.new.store, c.serve_client.new.lent) c.args.input.now c.serve_client.new.input c.args.out.now c.serve_client.new.out c.in-Ok.end c.in-Ok.ensures.serves
