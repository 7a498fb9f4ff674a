use Rattle.std.proofs.Common.{◌≡◌, ◌∙◌, ◌↔◌, true, sym, ap, subst}
use Rattle.std.proofs.Math.Bool.{beq}
use Rattle.md_kept_members.specs.OwnFields.{is_write_mostly}
use Rattle.md_kept_members.proofs.Members.Roles.{wanted_flag}
use Rattle.md_state.proofs.Members.At.{told}
use Rattle.md_read.proofs.roles.is_asked.Goals as goal

pub returns : goal.returns
returns g c m at =
    let own = told (λ x. x.superblock) c.args.mirror.now.array c.args.k m c.own.result.now c.own.ensures at in
    let is : c.is_write_mostly.result ≡ is_write_mostly m.superblock = c.is_write_mostly.ensures ∙ sym (ap is_write_mostly own) in
    subst (λ b. (beq b c.args.mostly ≡ true) ↔ (is_write_mostly m.superblock ≡ c.args.mostly)) (sym is) (wanted_flag (is_write_mostly m.superblock) c.args.mostly)
