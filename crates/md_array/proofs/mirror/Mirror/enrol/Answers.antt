use Rattle.std.proofs.Common.{subst}
use Rattle.md_kept_members.specs.SectorLists.{in_chunks}
use Rattle.md_state.specs.Steps.Enrol.{ComesWith, MayTakeRole}
use Rattle.md_state.specs.View.{MirrorView}
use Rattle.md_array.proofs.Rebuilding.Enrol.{gives_taken}
use Rattle.md_array.proofs.mirror.Mirror.enrol.Goals as goal

pub returns-clause-gives : goal.returns-clause-gives
returns-clause-gives g c =
    let k = c.args.k in
    let role = c.in_ok-role.role in
    let n = c.in_ok-member.member in
    let old = c.args.self.now in
    let may = subst (λ (v : MirrorView). MayTakeRole k v.array role) c.self.view_is c.in_ok-role.ensures in
    let comes = subst (λ (v : MirrorView). ComesWith k role (in_chunks v.array.chunks c.args.copied.now) (in_chunks v.array.chunks c.args.orphans.now) v.array n) c.self.view_is c.in_ok-member.ensures in
    gives_taken k role (in_chunks old.array.chunks c.args.copied.now) (in_chunks old.array.chunks c.args.orphans.now) old c.take_in.new.self n may comes c.take_in.result (c.take_in.ensures.gives (in_chunks old.array.chunks c.args.copied.now) (in_chunks old.array.chunks c.args.orphans.now) comes)
