use Rattle.std.proofs.Common.{◌≡◌, ◌∙◌, false, length, refl, slice_get, Some, sym, true, true≢false}
use Rattle.std.proofs.lemmas.Option.{slice_get_read}
use Rattle.md_assembly.proofs.Indices.{got_within}
use Rattle.md_assembly.specs.States.{is_recovering}
use Rattle.md_state.proofs.Members.At.{told}
use Rattle.md_cli.proofs.Lacked.{part_if, whole_if}
use Rattle.md_cli.proofs.lists.map_of_target.is_lacking_in_part.Goals as goal

pub returns-then-is_recovering : goal.returns-then-is_recovering
returns-then-is_recovering g c =
    let a = c.args.mirror.now.array in
    let k = c.args.k in
    let here = got_within a.members k c.requires.within in
    let state = told (λ x. x.state) a k here.0 c.state.result c.state.ensures here.1 in
    let recovering : is_recovering here.0.state ≡ true = (let answer = c.is_recovering.ensures in let yes = c.if-is_recovering.true in cc) in
    let given : slice_get c.args.lacking.now k ≡ Some c.in-Some.missing.now = slice_get_read c.args.lacking.now (length c.args.lacking.now) k c.in-Some.missing.now refl c.in-Some.ensures.lookup.3.0 c.in-Some.ensures.lookup.1 in
    part_if c.args.lacking.now a k here.0 c.in-Some.missing.now c.lacks_some.result here.1 recovering given (c.lacks_some.ensures here.0 here.1)

pub returns-else-is_recovering : goal.returns-else-is_recovering
returns-else-is_recovering g c =
    let a = c.args.mirror.now.array in
    let k = c.args.k in
    let here = got_within a.members k c.requires.within in
    let state = told (λ x. x.state) a k here.0 c.state.result c.state.ensures here.1 in
    let other : is_recovering here.0.state ≡ false = (let answer = c.is_recovering.ensures in let no = c.if-is_recovering.false in cc) in
    (λ yes. absurd (true≢false (sym yes ∙ c.if-is_recovering.false)), λ h. absurd (whole_if c.args.lacking.now a k here.0 here.1 other h))
