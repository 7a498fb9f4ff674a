use Rattle.std.proofs.Common.{ℕ, ◌≡◌, ◌∙◌, ◌+◌, ◌*◌, ◌≤◌, ◌∷◌, [], ap, drop, length, subst, take, arith}
use Rattle.std.proofs.lemmas.List.{length-take-le}
use Rattle.md_device.specs.Splice.{SameOutside}
use Rattle.md_bitmap.specs.Marks.{padded}
use Rattle.md_bitmap.specs.Sectors.{bitmap_bytes}
use Rattle.md_bitmap.proofs.Padded.{length-padded}
use Rattle.md_members.specs.DeviceWrites.Writes.{MakesWrites, Write}
use Rattle.md_members.proofs.DeviceWriteLemmas.Sectors.{sectors_are, zeros_front}
use Rattle.md_members.proofs.device_writes.bitmap.store_sectors.Goals as goal

pub put_blocks-requires-clause-room : goal.put_blocks-requires-clause-room
put_blocks-requires-clause-room g c =
    let fits : 512 * c.args.count ≤ length c.args.zeros.now = c.requires.long in
    omega (arith, c.requires.some, length-take-le (512 * c.args.count) c.args.zeros.now fits)

pub put_blocks-requires-clause-zeros : goal.put_blocks-requires-clause-zeros
put_blocks-requires-clause-zeros g c = zeros_front c.args.zeros.now (512 * c.args.count) c.requires.long c.requires.zeros

pub put-requires-clause-whole : goal.put-requires-clause-whole
put-requires-clause-whole g c =
    let n : length c.put_blocks.new.out ≡ 512 * c.args.count =
    ap length c.put_blocks.ensures.bytes
    ∙ length-padded (length (take (512 * c.args.count) c.args.zeros.now)) (drop (512 * c.args.first) (bitmap_bytes c.args.header.now c.args.marks.now))
    ∙ length-take-le (512 * c.args.count) c.args.zeros.now c.requires.long in
    omega (arith, n)

pub put-requires-clause-within : goal.put-requires-clause-within
put-requires-clause-within g c =
    let n : length c.put_blocks.new.out ≡ 512 * c.args.count =
    ap length c.put_blocks.ensures.bytes
    ∙ length-padded (length (take (512 * c.args.count) c.args.zeros.now)) (drop (512 * c.args.first) (bitmap_bytes c.args.header.now c.args.marks.now))
    ∙ length-take-le (512 * c.args.count) c.args.zeros.now c.requires.long in
    omega (arith, n, c.requires.room, c.from.ensures, c.from-2.ensures)

pub returns-clause-writes : goal.returns-clause-writes
returns-clause-writes g c =
    let s = c.args.start in
    let h = c.args.header.now in
    let m = c.args.marks.now in
    let first = c.args.first in
    let count = c.args.count in
    let sum : c.from.result + c.from-2.result ≡ s + first = cc in
    let bytes = c.put_blocks.ensures.bytes
    ∙ ap (λ (n : ℕ). padded n (drop (512 * first) (bitmap_bytes h m))) (length-take-le (512 * count) c.args.zeros.now c.requires.long) in
    subst (λ (w : Write). MakesWrites g.D.Device (w ∷ []) c.args.device.now c.put.new.device c.put.result)
    (sectors_are s h m first count (c.from.result + c.from-2.result) c.put_blocks.new.out sum bytes) c.put.ensures.writes

pub returns-clause-outside : goal.returns-clause-outside
returns-clause-outside g c =
    let old = g.D.Device.content c.args.device.now in
    let new = g.D.Device.content c.put.new.device in
    let sum : c.from.result + c.from-2.result ≡ c.args.start + c.args.first = cc in
    let n : length c.put_blocks.new.out ≡ 512 * c.args.count =
    ap length c.put_blocks.ensures.bytes
    ∙ length-padded (length (take (512 * c.args.count) c.args.zeros.now)) (drop (512 * c.args.first) (bitmap_bytes c.args.header.now c.args.marks.now))
    ∙ length-take-le (512 * c.args.count) c.args.zeros.now c.requires.long in
    subst (λ (i : ℕ). SameOutside (512 * i) (512 * c.args.count) old new) sum
    (subst (λ (i : ℕ). SameOutside (512 * (c.from.result + c.from-2.result)) i old new) n c.put.ensures.outside)
