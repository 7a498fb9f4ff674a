use Rattle.std.proofs.Common.{◌≡◌, [], Some, refl}
use Rattle.md_nbd.specs.declared.task.Task.TheVariants.{Refuse as RefuseTask}
use Rattle.md_nbd.specs.SimpleReplies.{error_reply}
use Rattle.md_nbd.proofs.ServerLemmas.ToldReplies.{tells_as}
use Rattle.md_nbd.proofs.server.tasks_done.do_refuse.Goals as goal

pub returns : goal.returns
returns g c =
    let reply = error_reply c.args.error c.args.request.now.cookie in
    record {
      tells = tells_as g.S.Store g.O.Sink (g.W.ClientWatch.has_refused c.args.watch.now) (RefuseTask c.args.error) c.args.request.now [] (λ f. f ≡ c.args.fault)
          (c.args._store.now, c.args._lent.now) (c.args._store.now, c.args._lent.now) c.args.out.now c.refuse.new.out reply reply c.refuse.result refl
          (record { fault = Some c.args.fault; does = (refl, refl); answers = (refl, (c.args.error, refl)); told = c.refuse.ensures.told }) c.refuse.ensures.puts;
    }
