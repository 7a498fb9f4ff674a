use Rattle.std.proofs.Common.{◌≡◌, ◌+◌, ◌++◌, List, ℕ, ap, ap₂, ◌∙◌, length, take, arith}
use Rattle.byteorder.specs.Endian.{little_bytes}
use Rattle.md_bitmap.specs.Header.{format_bytes}
use Rattle.md_bitmap.proofs.header.BitmapHeader.put_front.Goals as goal

pub returns : goal.returns
unfolding format_bytes
returns c =
    let long : length c.as_bytes.result.now ≡ 16 = omega arith in
    let end : 8 + length c.as_bytes.result.now ≡ 24 = omega arith in
    let front : take 8 c.put_u32-2.new.out ≡ format_bytes = c.put_u32-2.ensures.front ∙ ap (λ (xs : List ℕ). xs ++ little_bytes 4 4) c.put_u32.ensures.front in
    let all : take 24 c.put_bytes.new.out ≡ take 8 c.put_u32-2.new.out ++ c.as_bytes.result.now = rw end at c.put_bytes.ensures.front in
    all ∙ ap₂ (λ (xs ys : List ℕ). xs ++ ys) front c.as_bytes.ensures
