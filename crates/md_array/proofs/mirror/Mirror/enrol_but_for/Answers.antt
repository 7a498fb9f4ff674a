use Rattle.std.proofs.Common.{subst}
use Rattle.md_kept_members.specs.SectorLists.{in_chunks_but, in_runs}
use Rattle.md_state.specs.Steps.Enrol.{ComesWith, MayTakeRole}
use Rattle.md_state.specs.View.{MirrorView}
use Rattle.md_array.proofs.Rebuilding.Enrol.{gives_taken_but}
use Rattle.md_array.proofs.mirror.Mirror.enrol_but_for.Goals as goal

pub returns-clause-gives : goal.returns-clause-gives
returns-clause-gives g c =
    let k = c.args.k in
    let role = c.in_ok-role.role in
    let n = c.in_ok-member.member in
    let old = c.args.self.now in
    let may = subst (λ (v : MirrorView). MayTakeRole k v.array role) c.self.view_is c.in_ok-role.ensures in
    let comes = subst (λ (v : MirrorView). ComesWith k role (in_chunks_but v.array.chunks c.args.missing.now c.args.lost.now) (in_runs c.args.lost.now) v.array n) c.self.view_is c.in_ok-member.ensures in
    gives_taken_but k role (in_chunks_but old.array.chunks c.args.missing.now c.args.lost.now) (in_runs c.args.lost.now) old c.take_in.new.self n may comes c.take_in.result (c.take_in.ensures.gives (in_chunks_but old.array.chunks c.args.missing.now c.args.lost.now) (in_runs c.args.lost.now) comes)
