use Rattle.std.proofs.Common.{ℕ, Bool, List, subst, sym}
use Rattle.std.proofs.lemmas.Result.{on_ok_weaker}
use Rattle.md_members.specs.Members.{IsReadMember}
use Rattle.md_read_commands.proofs.stand_in.put.read_back.Goals as goal

pub returns-in-Ok-clause-reads : goal.returns-in-Ok-clause-reads
returns-in-Ok-clause-reads g c =
    on_ok_weaker c.check_made.result
    (λ counted. record {
      info = c.in-Ok.info;
      read = subst (λ (xs : List ℕ). IsReadMember xs (g.D.Device.honest c.read_member.new.device) c.in-Ok.info) (sym c.read_member.ensures.kept)
          (subst (λ (b : Bool). IsReadMember (g.D.Device.content c.args.device.now) b c.in-Ok.info) (sym c.read_member.ensures.honest) c.in-Ok.ensures.reads);
      counted = counted;
    })
    c.check_made.ensures
