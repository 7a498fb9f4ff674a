use Rattle.std.proofs.Common.{◌≡◌, length, refl, slice_get, Some, true}
use Rattle.std.proofs.lemmas.Option.{slice_get_read}
use Rattle.md_assembly.proofs.Indices.{got_within}
use Rattle.md_assembly.specs.States.{is_in_sync}
use Rattle.md_state.proofs.Members.At.{told}
use Rattle.md_cli.proofs.Lacked.{lacking_if}
use Rattle.md_cli.proofs.lists.holes.is_lacking.Goals as goal

pub returns-then-is_in_sync : goal.returns-then-is_in_sync
returns-then-is_in_sync g c =
    let a = c.args.mirror.now.array in
    let k = c.args.k in
    let here = got_within a.members k c.requires.within in
    let state = told (λ x. x.state) a k here.0 c.state.result c.state.ensures here.1 in
    let in_sync : is_in_sync here.0.state ≡ true = (let answer = c.is_in_sync.ensures in let yes = c.if-is_in_sync.true in cc) in
    let given : slice_get c.args.lacking.now k ≡ Some c.in-Some.missing.now = slice_get_read c.args.lacking.now (length c.args.lacking.now) k c.in-Some.missing.now refl c.in-Some.ensures.lookup.3.0 c.in-Some.ensures.lookup.1 in
    lacking_if c.args.lacking.now a k here.0 c.in-Some.missing.now c.lacks_some.result here.1 in_sync given (c.lacks_some.ensures here.0 here.1)
