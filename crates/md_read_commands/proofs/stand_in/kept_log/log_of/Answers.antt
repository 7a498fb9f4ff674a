use Rattle.std.proofs.Common.{◌≡◌, ◌*◌, ℕ, subst}
use Rattle.std.proofs.lemmas.Result.{IfOk-weaker}
use Rattle.md_device.specs.Device.{held}
use Rattle.md_read_commands.proofs.Stands.{one_log_start}
use Rattle.md_read_commands.proofs.stand_in.kept_log.log_of.Goals as goal

pub returns-clause-log : goal.returns-clause-log
returns-clause-log g c =
    let content = g.D.Device.content c.args.device.now in
    let made = c.args.made.now in
    IfOk-weaker c.read_bytes.result _ _
    (λ bytes read told lists start at.
    subst (λ (n : ℕ). bytes.items ≡ held content n (512 * made.bblog_size)) (one_log_start made c.in-Some.start start c.in-Some.ensures.0 at) (read told))
    c.read_bytes.ensures.read
