use Rattle.std.proofs.Common.{◌/◌, ◌++◌, [], None, Some, length, ap, refl, inl, inr, arith}
use Rattle.md_nbd.specs.declared.reply.ErrorCode.TheVariants.{Io}
use Rattle.md_nbd.specs.declared.server.refusal.RequestFault.TheVariants.{Store as StoreSays}
use Rattle.md_nbd.specs.declared.task.Task.TheVariants.{Read as ReadTask}
use Rattle.md_nbd.specs.Server.Exchanges.{IsStoreFault}
use Rattle.md_nbd.specs.SimpleReplies.{error_reply, success_reply}
use Rattle.md_nbd.proofs.ServerLemmas.ToldReplies.{tells_as}
use Rattle.md_nbd.proofs.server.tasks_done.do_read.Goals as goal

pub returns-in-Ok-clause-tells : goal.returns-in-Ok-clause-tells
returns-in-Ok-clause-tells g c =
    let bytes = c.read.new.buf in
    let many = length c.args.buf.now / 512 in
    tells_as g.S.Store g.O.Sink (g.W.ClientWatch.has_refused c.args.watch.now) (ReadTask c.args.sector many) c.args.request.now []
    (IsStoreFault (g.S.Store.why_unread (c.args.store.now, c.args.lent.now) (c.read.new.self, c.read.new.lent) c.args.sector many))
    (c.args.store.now, c.args.lent.now) (c.read.new.self, c.read.new.lent) c.args.out.now c.put_with_bytes.new.out (c.success_reply.result ++ bytes) (success_reply c.args.request.now.cookie ++ bytes)
    c.put_with_bytes.result (ap (λ head. head ++ bytes) c.success_reply.ensures)
    (record {
      fault = None;
      does = inl (record { bytes = bytes; whole = omega (arith, c.read.auto.buf, c.requires.whole); read = c.in-Ok.ensures.gives; told = refl });
      answers = (bytes, refl);
      told = tt;
    })
    c.put_with_bytes.ensures

pub returns-in-Err-clause-tells : goal.returns-in-Err-clause-tells
returns-in-Err-clause-tells g c =
    let reply = error_reply Io c.args.request.now.cookie in
    let many = length c.args.buf.now / 512 in
    tells_as g.S.Store g.O.Sink (g.W.ClientWatch.has_refused c.args.watch.now) (ReadTask c.args.sector many) c.args.request.now []
    (IsStoreFault (g.S.Store.why_unread (c.args.store.now, c.args.lent.now) (c.read.new.self, c.read.new.lent) c.args.sector many))
    (c.args.store.now, c.args.lent.now) (c.read.new.self, c.read.new.lent) c.args.out.now c.refuse.new.out reply reply c.refuse.result refl
    (record {
      fault = Some (StoreSays c.in-Err.fault);
      does = inr (c.in-Err.ensures.gives, refl);
      answers = ((c.in-Err.fault, refl, c.in-Err.ensures.why), (Io, refl));
      told = c.refuse.ensures.told;
    })
    c.refuse.ensures.puts
