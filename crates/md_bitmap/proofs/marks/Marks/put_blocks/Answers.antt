use Rattle.std.proofs.Common.{◌≡◌, ◌∙◌, ◌+◌, ◌-◌, ◌*◌, ◌++◌, ℕ, List, drop, length, take, ap, subst, arith}
use Rattle.md_bitmap.specs.Marks.{Bitmap, padded}
use Rattle.md_bitmap.specs.Header.{header_bytes}
use Rattle.md_bitmap.specs.Sectors.{bitmap_bytes}
use Rattle.md_bitmap.proofs.Blocks.{from_later, from_start}
use Rattle.md_bitmap.proofs.Padded.{front_and_zeros}
use Rattle.md_bitmap.proofs.marks.Marks.put_blocks.Goals as goal

pub copy_behind-requires-clause-zeros : goal.copy_behind-requires-clause-zeros
copy_behind-requires-clause-zeros c =
    let n = length c.args.out.now in
    let e = c.encode.new.out in
    let p = c.put_bytes.new.out in
    let size : length p ≡ n = omega arith in
    let whole = subst (λ (xs : List ℕ). p ≡ take 0 xs ++ e ++ drop (0 + length e) xs) c.requires.zeros c.put_bytes.ensures.whole in
    rw size (front_and_zeros 256 n e p (omega arith) whole).1

pub returns-then-first-eq0-clause-bytes : goal.returns-then-first-eq0-clause-bytes
returns-then-first-eq0-clause-bytes c =
    let h = c.args.header.now in
    let m = c.args.self.now in
    let n = length c.args.out.now in
    let e = c.encode.new.out in
    let p = c.put_bytes.new.out in
    let header : length (header_bytes h) ≡ 256 = rw c.encode.ensures.bytes at c.encode.array_long in
    let bytes = c.deref.ensures.value ∙ ap (λ (b : Bitmap). b.bytes) c.self.view_is in
    let size : length p ≡ n = omega arith in
    let whole = subst (λ (xs : List ℕ). p ≡ take 0 xs ++ e ++ drop (0 + length e) xs) c.requires.zeros c.put_bytes.ensures.whole in
    let front : take 256 p ≡ header_bytes h = (front_and_zeros 256 n e p (omega arith) whole).0 ∙ c.encode.ensures.bytes in
    let copied = rw (size, bytes) at c.copy_behind.ensures in
    let start : 512 * 0 ≡ 512 * c.args.first = omega arith in
    copied ∙ ap (λ (xs : List ℕ). xs ++ padded (n - 256) m.bytes) front ∙ from_start h m n header (omega arith)
    ∙ ap (λ (k : ℕ). padded n (drop k (bitmap_bytes h m))) start

pub copy_behind-requires-else-first-eq0-clause-zeros : goal.copy_behind-requires-else-first-eq0-clause-zeros
copy_behind-requires-else-first-eq0-clause-zeros c =
    let all : length c.args.out.now - 0 ≡ length c.args.out.now = omega arith in
    rw all c.requires.zeros

pub returns-else-first-eq0-clause-bytes : goal.returns-else-first-eq0-clause-bytes
returns-else-first-eq0-clause-bytes c =
    let h = c.args.header.now in
    let n = length c.args.out.now in
    let header : length (header_bytes h) ≡ 256 = rw c.encode.ensures.bytes at c.encode.array_long in
    let bytes = c.deref-else-first-eq0.ensures.value ∙ ap (λ (b : Bitmap). b.bytes) c.self.view_is in
    let all : n - 0 ≡ n = omega arith in
    let copied = rw (all, bytes) at c.copy_behind-else-first-eq0.ensures in
    copied ∙ from_later h c.args.self.now c.args.first n header (omega arith)
