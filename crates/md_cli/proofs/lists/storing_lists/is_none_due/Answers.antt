use Rattle.std.proofs.Common.{◌≡◌, ◌∙◌, ◌<◌, arith, length, true}
use Rattle.md_assembly.proofs.Indices.{got_within}
use Rattle.md_assembly.specs.States.{is_in_sync}
use Rattle.md_state.proofs.Members.At.{told}
use Rattle.md_cli.proofs.lists.storing_lists.is_none_due.Goals as goal

pub returns-then-is_in_sync-clause-some : goal.returns-then-is_in_sync-clause-some
returns-then-is_in_sync-clause-some g c = λ _.
    let a = c.args.mirror.now.array in
    let j = c.loop-j.j in
    let low = c.loop-j-test.true in
    let few = c.requires.within in
    let inside : j < length a.members = omega (arith, low, few) in
    let here = got_within a.members j inside in
    let state = told (λ x. x.state) a j here.0 c.state.result c.state.ensures here.1 in
    let in_sync : is_in_sync here.0.state ≡ true = (let answer = c.is_in_sync.ensures in let yes = c.if-is_in_sync.true in cc) in
    (j, here.0, low, record { member = here.1; in_sync = in_sync }, told (λ x. x.due) a j here.0 c.due.result c.due.ensures here.1 ∙ c.if-due.true)
