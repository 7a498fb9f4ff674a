use Rattle.std.proofs.Common.{◌≡◌, ◌/◌, ◌<◌, length, slice_index, ap, ◌∙◌, arith}
use Rattle.std.proofs.lemmas.Grind.{get_or_default_zero}
use Rattle.md_bitmap.specs.Marks.{Bitmap}
use Rattle.md_bitmap.proofs.Bits.{is_set-after_clear}
use Rattle.md_bitmap.proofs.marks.Marks.unmark.Goals as goal

pub returns-clause-bits : goal.returns-clause-bits
returns-clause-bits c i =
    let xs = c.self.inside.bits.items in
    let there : c.args.chunk / 8 < length xs = omega (arith, c.self.invariant, ap (λ (m : Bitmap). m.chunks) c.self.view_is) in
    let bytes : xs ≡ c.args.self.now.bytes = ap (λ (m : Bitmap). m.bytes) c.self.view_is in
    let byte : c.index_mut.result.now ≡ slice_index xs (c.args.chunk / 8) =
    c.index_mut.ensures.value ∙ get_or_default_zero xs (c.args.chunk / 8) c.index_mut.result.now there in
    rw (byte, ← bytes) (is_set-after_clear xs c.args.chunk i there)
