use Rattle.std.proofs.Common.{◌≡◌, ◌∙◌, Some, length, refl, slice_get, sym}
use Rattle.std.proofs.lemmas.Option.{slice_get_read}
use Rattle.md_state.proofs.Members.At.{told}
use Rattle.md_cli.proofs.GivenSectors.{counted_resynced, counted_unresynced, if_ok}
use Rattle.md_cli.proofs.Lacked.{lacked_at}
use Rattle.md_cli.proofs.lists.holes.counted_sectors.Goals as goal

pub returns-then-resynced : goal.returns-then-resynced
returns-then-resynced g c = λ m at.
    let a = c.args.mirror.now.array in
    let k = c.args.k in
    let lacking = c.args.lacking.now in
    let given : slice_get lacking k ≡ Some c.index-lacking-k.result = slice_get_read lacking (length lacking) k c.index-lacking-k.result refl c.requires.listed c.index-lacking-k.is in
    counted_resynced c.args.which lacking a k m c.in_ok-holes.holes (sym c.resynced.ensures ∙ c.if-resynced.true)
    (lacked_at lacking a k m c.index-lacking-k.result c.in_ok-holes.holes _ _ given (told (λ x. x.superblock) a k m c.own.result.now c.own.ensures at) c.chunks.ensures c.in_ok-holes.ensures)

pub returns : goal.returns
returns g c =
    let a = c.args.mirror.now.array in
    let k = c.args.k in
    let lacking = c.args.lacking.now in
    let given : slice_get lacking k ≡ Some c.index-lacking-k.result = slice_get_read lacking (length lacking) k c.index-lacking-k.result refl c.requires.listed c.index-lacking-k.is in
    if_ok c.counted_before.result (λ list counted m at. (
    counted_unresynced c.args.which lacking a k m c.in_ok-holes.holes list (sym c.resynced.ensures ∙ c.if-resynced.false)
    (lacked_at lacking a k m c.index-lacking-k.result c.in_ok-holes.holes _ _ given (told (λ x. x.superblock) a k m c.own.result.now c.own.ensures at) c.chunks.ensures c.in_ok-holes.ensures)
    counted
    )) c.counted_before.ensures
