use Rattle.std.proofs.Common.{◌≡◌, List, Option, Some, [], ap, length, refl, slice_get}
use Rattle.std.proofs.lemmas.Option.{slice_get_read}
use Rattle.std.specs.Prelude.{unwrap_or}
use Rattle.md_badblocks.specs.declared.run.Run.{Run}
use Rattle.md_state.proofs.Members.At.{told}
use Rattle.md_super.specs.declared.superblock.Superblock.{Superblock}
use Rattle.md_cli.proofs.GivenSectors.{there_of}
use Rattle.md_cli.proofs.lists.given_sectors.sectors_there.Goals as goal

pub returns-clause-there : goal.returns-clause-there
returns-clause-there g c = λ m at.
    let a = c.args.mirror.now.array in
    let j = c.args.j in
    let lacking = c.args.lacking.now in
    let given : slice_get lacking j ≡ Some c.in-Some.missing.now = slice_get_read lacking (length lacking) j c.in-Some.missing.now refl c.in-Some.ensures.lookup.3.0 c.in-Some.ensures.lookup.1 in
    there_of _ c.in-Some.missing.now c.args.sectors.now c.in_ok-part.part c.remove_placed.new.set c.remove_placed-2.new.set c.bad.result.now m c.own.result.now.data_offset
    (ap (λ (o : Option (List Run)). unwrap_or o []) given)
    (told (λ x. x.bad) a j m c.bad.result.now c.bad.ensures at)
    (ap (λ (b : Superblock). b.data_offset) (told (λ x. x.superblock) a j m c.own.result.now c.own.ensures at))
    c.in_ok-part.ensures.same
    c.in_ok-remove_placed.ensures.left
    c.in_ok-remove_placed-2.ensures.left
