use Rattle.std.proofs.Common.{◌≡◌, ◌/◌, ◌%◌, ◌<◌, ℕ, List, length, slice_index, ap, ◌∙◌, arith}
use Rattle.std.proofs.lemmas.Grind.{get_or_default_zero}
use Rattle.std.proofs.lemmas.Nat.Bits.{shr_and_one}
use Rattle.md_bitmap.specs.Marks.{Bitmap, is_set}
use Rattle.md_bitmap.proofs.marks.Marks.is_marked.Goals as goal

pub returns : goal.returns
unfolding is_set
returns c =
    let xs : List ℕ = c.self.inside.bits.items in
    let there : c.args.chunk / 8 < length xs = omega (arith, c.self.invariant, ap (λ (m : Bitmap). m.chunks) c.self.view_is) in
    let bytes : xs ≡ c.args.self.now.bytes = ap (λ (m : Bitmap). m.bytes) c.self.view_is in
    let byte : c.index.result.now ≡ slice_index xs (c.args.chunk / 8) =
    c.index.ensures ∙ get_or_default_zero xs (c.args.chunk / 8) c.index.result.now there in
    rw (shr_and_one c.index.result.now (c.args.chunk % 8), byte, bytes)
