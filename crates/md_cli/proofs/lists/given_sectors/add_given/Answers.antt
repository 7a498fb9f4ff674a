use Rattle.std.proofs.Common.{◌≡◌, false, true}
use Rattle.md_assembly.proofs.Indices.{got_within}
use Rattle.md_assembly.specs.States.{is_in_sync}
use Rattle.md_kept_members.proofs.ChunksListed.{on_ok}
use Rattle.md_state.proofs.Members.At.{told}
use Rattle.md_cli.proofs.GivenSectors.{added_of, gives_none}
use Rattle.md_cli.proofs.lists.given_sectors.add_given.Goals as goal

pub returns-then-not-is_in_sync-clause-given : goal.returns-then-not-is_in_sync-clause-given
returns-then-not-is_in_sync-clause-given g c =
    let a = c.args.mirror.now.array in
    let here = got_within a.members c.args.j c.requires.within in
    let state = told (λ x. x.state) a c.args.j here.0 c.state.result c.state.ensures here.1 in
    let out : is_in_sync here.0.state ≡ false = (let answer = c.is_in_sync.ensures in let no = c.if-not-is_in_sync.true in cc) in
    gives_none c.args.lacking.now a c.args.sectors.now c.args.given.now c.args.j here.0 here.1 out

pub returns-clause-given : goal.returns-clause-given
returns-clause-given g c =
    let a = c.args.mirror.now.array in
    let here = got_within a.members c.args.j c.requires.within in
    let state = told (λ x. x.state) a c.args.j here.0 c.state.result c.state.ensures here.1 in
    let in_sync : is_in_sync here.0.state ≡ true = (let answer = c.is_in_sync.ensures in let yes = c.if-not-is_in_sync.false in cc) in
    on_ok c.add_sectors.result (λ added. added_of c.args.lacking.now a c.args.sectors.now c.args.given.now c.add_sectors.new.list c.in_ok-part.part c.args.j here.0 (record { member = here.1; in_sync = in_sync }) c.in_ok-part.ensures.canonical added (c.in_ok-part.ensures.there here.0 here.1))
    c.add_sectors.ensures.bad
