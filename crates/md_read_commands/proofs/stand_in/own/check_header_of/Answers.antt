use Rattle.std.proofs.Common.{◌≡◌, true, inr, subst}
use Rattle.md_read_commands.specs.StandIn.{HeaderTells}
use Rattle.md_read_commands.proofs.StandIns.{header_fits}
use Rattle.md_read_commands.proofs.stand_in.own.check_header_of.Goals as goal

pub returns-clause-fits : goal.returns-clause-fits
returns-clause-fits g c = λ honest.
    let was_read : c.read_at.result ≡ true = (let no = c.if-not-read_at.false in cc) in
    header_fits c.args.freshest.now (g.D.Device.content c.args.device.now) c.in-Some.start _ _ c.in-Some.ensures
    (λ inside. inr (subst (HeaderTells c.args.freshest.now) (c.read_at.ensures.read was_read honest) c.in_ok-check_header.ensures))
