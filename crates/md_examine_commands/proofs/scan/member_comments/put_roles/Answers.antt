use Rattle.std.proofs.Common.{ℕ, List, subst}
use Rattle.md_streams.specs.Sink.{Puts}
use Rattle.md_examine.proofs.Texts.{flat_map_next}
use Rattle.md_streams.proofs.Puts.{puts_nothing, puts_then}
use Rattle.md_examine_commands.specs.ScanText.{role_comments}
use Rattle.md_examine_commands.proofs.scan.member_comments.put_roles.Goals as goal

pub loop-role-init : goal.loop-role-init
loop-role-init g c = puts_nothing g.S.Sink.contents g.S.Sink.failed c.args.out.now

pub loop-role-preserved : goal.loop-role-preserved
loop-role-preserved g c =
    let P : List ℕ → Type 0 = λ t. Puts g.S.Sink.contents g.S.Sink.failed c.args.out.now c.put_role.new.out t in
    subst P (flat_map_next (role_comments c.args.v.now c.args.all.now) c.loop-role.role)
    (puts_then g.S.Sink.contents g.S.Sink.failed c.loop-role.invariant c.in_ok-put_role.ensures)
