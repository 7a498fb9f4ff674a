-- Marks that are counted sector by sector.
use Rattle.std.proofs.Common.{◌≡◌, ℕ, zero, suc, ◌+◌, ◌-◌, ◌*◌, ◌/◌, ◌%◌, ◌<◌, ◌≤◌, Bool, eqb, List, ◌++◌, length, take, drop, min, ap, sym, ◌∙◌, arith, length-append, length-drop, drop-drop}
use Rattle.std.proofs.lemmas.List.{drop-append-le, drop-take, get_or-append-add, get_or_append_left, take-append-drop, take-append-le, take-take, take_all}
use Rattle.std.proofs.lemmas.List.Elements.{All-append}
use Rattle.std.specs.Int.{bit_at}
use Rattle.md_device.specs.Device.{held}
use Rattle.md_device.specs.Splice.{part}
use Rattle.md_bitmap.specs.Marks.{count_set, is_set}
use Rattle.md_bitmap.specs.Sectors.{bitmap_sectors}
use Rattle.md_bitmap.proofs.Bits.{count_set-suc, count_set-zero}
use Rattle.md_members.specs.Reading.{IsRead}
use Rattle.md_raw_reports.specs.RawMembers.Raw.{AreCounted, chunks_in}

-- ---- bits of bytes that follow others
is_set-front : (xs ys : List ℕ) (i : ℕ) → i < 8 * length xs → is_set (xs ++ ys) i ≡ is_set xs i
unfolding is_set
is_set-front xs ys i low = ap (λ (b : ℕ). eqb (bit_at b (i % 8)) 1) (get_or_append_left xs ys 0 (i / 8) (omega arith))

is_set-behind : (xs ys : List ℕ) (i : ℕ) → is_set (xs ++ ys) (8 * length xs + i) ≡ is_set ys i
unfolding is_set
is_set-behind xs ys i =
    let place : (8 * length xs + i) / 8 ≡ length xs + i / 8 = omega arith in
    let bit : (8 * length xs + i) % 8 ≡ i % 8 = omega arith in
    rw (place, bit) (ap (λ (b : ℕ). eqb (bit_at b (i % 8)) 1) (get_or-append-add xs ys (i / 8) 0))

count_set-front : (xs ys : List ℕ) (n : ℕ) → n ≤ 8 * length xs → count_set (xs ++ ys) n ≡ count_set xs n
count_set-front xs ys zero few = count_set-zero (xs ++ ys) ∙ sym (count_set-zero xs)
count_set-front xs ys (suc n) few =
    let rest = count_set-front xs ys n (omega arith) in
    let bit = is_set-front xs ys n (omega arith) in
    let all = rw bit at (count_set-suc (xs ++ ys) n) in
    omega (arith, rest, all, count_set-suc xs n)

count_set-behind : (xs ys : List ℕ) (n : ℕ) → count_set (xs ++ ys) (8 * length xs + n) ≡ count_set xs (8 * length xs) + count_set ys n
count_set-behind xs ys zero =
    let none : 8 * length xs + 0 ≡ 8 * length xs = omega arith in
    rw none (omega (arith, count_set-front xs ys (8 * length xs) (omega arith), count_set-zero ys))
count_set-behind xs ys (suc n) =
    let more : 8 * length xs + suc n ≡ suc (8 * length xs + n) = omega arith in
    let rest = count_set-behind xs ys n in
    let bit = is_set-behind xs ys n in
    let all = rw bit at (count_set-suc (xs ++ ys) (8 * length xs + n)) in
    rw more (omega (arith, rest, all, count_set-suc ys n))

-- ---- bytes that were read one after another
part-more : (xs : List ℕ) (at n m : ℕ) → part xs at (n + m) ≡ part xs at n ++ part xs (at + n) m
unfolding part
part-more xs at n m =
    let l : List ℕ = drop at xs in
    sym (take-append-drop n (take (n + m) l)) ∙ ap (λ (t : List ℕ). t ++ drop n (take (n + m) l)) (take-take n (n + m) l (omega arith))
    ∙ ap (λ (t : List ℕ). take n l ++ t) (drop-take n m l ∙ ap (take m) (drop-drop n at xs))

read_more : (content : List ℕ) (honest : Bool) (start sectors : ℕ) (area block : List ℕ) → IsRead content honest start (512 * sectors) area → IsRead content honest (start + sectors) 512 block → IsRead content honest start (512 * (sectors + 1)) (area ++ block)
read_more content honest start sectors area block front last = record {
  within = let fits = last.within in omega (arith, fits);
  size = let long = front.size in let more = last.size in omega (arith, long, more, length-append area block);
  are_bytes = All-append (λ byte. byte < 256) area block front.are_bytes last.are_bytes;
  from_device = λ h.
      let place : 512 * start + 512 * sectors ≡ 512 * (start + sectors) = omega arith in
      let long : 512 * sectors + 512 ≡ 512 * (sectors + 1) = omega arith in
      let all = part-more content (512 * start) (512 * sectors) 512 in
      ap (λ (a : List ℕ). a ++ block) (front.from_device h)
      ∙ ap (λ (b : List ℕ). held content start (512 * sectors) ++ b) (last.from_device h ∙ ap (λ (n : ℕ). part content n 512) (sym place))
      ∙ sym all ∙ ap (part content (512 * start)) long;
}

-- so many chunks are left in the next sector
pub counted_more : (content : List ℕ) (honest : Bool) (start : ℕ) (sector : List ℕ) (chunks k done marked more : ℕ) (block : List ℕ) →
    1 ≤ k → k < bitmap_sectors chunks → done ≡ chunks_in k chunks → more ≡ min (chunks - done) 4096 →
    AreCounted content honest start sector chunks k marked → IsRead content honest (start + k) 512 block →
    AreCounted content honest start sector chunks (k + 1) (marked + count_set block more)
counted_more content honest start sector chunks k done marked more block some low done_is more_is c last =
    let size = c.read.size in
    let long = length-drop 256 c.area in
    let full : done ≡ 8 * length (drop 256 c.area) = omega (arith, size, long) in
    let next : chunks_in (k + 1) chunks ≡ 8 * length (drop 256 c.area) + more = omega (arith, size, long) in
    let behind = count_set-behind (drop 256 c.area) block more in
    let was : marked ≡ count_set (drop 256 c.area) (8 * length (drop 256 c.area)) = c.marked_is ∙ ap (count_set (drop 256 c.area)) (sym done_is ∙ full) in
    let bytes = drop-append-le 256 c.area block (omega (arith, size)) in
    record {
      area = c.area ++ block;
      front = take-append-le 512 c.area block (omega (arith, size)) ∙ c.front;
      read = read_more content honest start k c.area block c.read last;
      marked_is = ap (λ (n : ℕ). n + count_set block more) was ∙ sym behind ∙ ap (count_set (drop 256 c.area ++ block)) (sym next)
          ∙ ap (λ (b : List ℕ). count_set b (chunks_in (k + 1) chunks)) (sym bytes);
    }

-- the first sector, of which nothing else was read
pub counted_first : (content : List ℕ) (honest : Bool) (start : ℕ) (sector : List ℕ) (chunks marked : ℕ) → IsRead content honest start 512 sector → marked ≡ count_set (drop 256 sector) (min chunks 2048) → AreCounted content honest start sector chunks 1 marked
counted_first content honest start sector chunks marked read is = record {
  area = sector;
  front = take_all 512 sector (let size = read.size in omega (arith, size));
  read = read;
  marked_is = is;
}
