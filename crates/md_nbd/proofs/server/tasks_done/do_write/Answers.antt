use Rattle.std.proofs.Common.{◌/◌, [], None, Some, length, refl, sym, inl, inr}
use Rattle.std.proofs.lemmas.List.{append-nil}
use Rattle.md_nbd.specs.declared.reply.ErrorCode.TheVariants.{Io}
use Rattle.md_nbd.specs.declared.server.refusal.RequestFault.TheVariants.{Store as StoreSays}
use Rattle.md_nbd.specs.declared.task.Task.TheVariants.{Write as WriteTask}
use Rattle.md_nbd.specs.Server.Exchanges.{IsStoreFault}
use Rattle.md_nbd.specs.SimpleReplies.{error_reply, success_reply}
use Rattle.md_nbd.proofs.ServerLemmas.ToldReplies.{tells_as}
use Rattle.md_nbd.proofs.server.tasks_done.do_write.Goals as goal

pub returns-in-Ok-clause-tells : goal.returns-in-Ok-clause-tells
returns-in-Ok-clause-tells g c =
    let reply = success_reply c.args.request.now.cookie in
    tells_as g.S.Store g.O.Sink (g.W.ClientWatch.has_refused c.args.watch.now) (WriteTask c.args.asked.now.sector (length c.args.asked.now.bytes.now / 512) c.args.asked.now.through) c.args.request.now c.args.asked.now.bytes.now
    (IsStoreFault (g.S.Store.why_unwritten (c.args.store.now, c.args.lent.now) (c.write.new.self, c.write.new.lent) c.args.asked.now.sector c.args.asked.now.bytes.now))
    (c.args.store.now, c.args.lent.now) (c.write.new.self, c.write.new.lent) c.args.out.now c.put.new.out c.success_reply.result reply c.put.result c.success_reply.ensures
    (record { fault = None; does = inl (c.in-Ok.ensures.gives, refl); answers = ([], sym (append-nil reply)); told = tt }) c.put.ensures

pub returns-in-Err-clause-tells : goal.returns-in-Err-clause-tells
returns-in-Err-clause-tells g c =
    let reply = error_reply Io c.args.request.now.cookie in
    tells_as g.S.Store g.O.Sink (g.W.ClientWatch.has_refused c.args.watch.now) (WriteTask c.args.asked.now.sector (length c.args.asked.now.bytes.now / 512) c.args.asked.now.through) c.args.request.now c.args.asked.now.bytes.now
    (IsStoreFault (g.S.Store.why_unwritten (c.args.store.now, c.args.lent.now) (c.write.new.self, c.write.new.lent) c.args.asked.now.sector c.args.asked.now.bytes.now))
    (c.args.store.now, c.args.lent.now) (c.write.new.self, c.write.new.lent) c.args.out.now c.refuse.new.out reply reply c.refuse.result refl
    (record {
      fault = Some (StoreSays c.in-Err.fault);
      does = inr (c.in-Err.ensures.gives, refl);
      answers = ((c.in-Err.fault, refl, c.in-Err.ensures.why), (Io, refl));
      told = c.refuse.ensures.told;
    })
    c.refuse.ensures.puts
