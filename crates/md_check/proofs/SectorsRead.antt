-- Sectors of a buffer of which a part was read.
use Rattle.std.proofs.Common.{◌≡◌, ℕ, ◌+◌, ◌*◌, ◌-◌, ◌/◌, ◌%◌, ◌<◌, ◌≤◌, List, ◌++◌, Bool, true, false, if◌then◌else◌, length, take, drop, refl, inl, inr, sym, ap, ◌∙◌, subst, arith, length-append, length-drop, drop-drop}
use Rattle.std.proofs.lemmas.Bool.{cases_lt}
use Rattle.std.proofs.lemmas.List.{drop-append-le, drop-take, drop_at, length-take-le, take-append-le, take-take}
use Rattle.std.proofs.lemmas.Slice.{take-put_mid_below}
use borrow.Rule.Slice.PartMut.{put_mid}
use Rattle.md_device.proofs.Splices.{part_part}
use Rattle.md_device.specs.Device.{held}
use Rattle.md_device.specs.Splice.{part}
use Rattle.md_badblocks.specs.declared.run.Run.{Run}
use Rattle.md_check.specs.Readings.{HasUnlisted}

part_front : (xs ys : List ℕ) (at n : ℕ) → at + n ≤ length xs → part (xs ++ ys) at n ≡ part xs at n
unfolding part
part_front xs ys at n inside =
    let long = length-drop at xs in
    ap (take n) (drop-append-le at xs ys (omega arith)) ∙ take-append-le n (drop at xs) ys (omega arith)

part_end : (xs ys : List ℕ) (at n : ℕ) → part (xs ++ ys) (length xs + at) n ≡ part ys at n
unfolding part
part_end xs ys at n = ap (take n) (sym (drop-drop at (length xs) (xs ++ ys)) ∙ ap (drop at) (drop_at xs ys (length xs) refl))

held_front : (xs ys : List ℕ) (i : ℕ) → i < length xs / 512 → held (xs ++ ys) i 512 ≡ held xs i 512
held_front xs ys i low = part_front xs ys (512 * i) 512 (omega arith)

-- where n elements from a place on were replaced
module _ (done n : ℕ) (xs ys : List ℕ) (inside : done ≤ length xs) where
  pub length-replaced : done + n ≤ length xs → length ys ≡ n → length (put_mid done n xs ys) ≡ length xs
  length-replaced within as_long =
      let front = length-take-le done xs inside in
      let past = length-drop done xs in
      let rest = length-drop n (drop done xs) in
      length-append (take done xs) (ys ++ drop n (drop done xs)) ∙ ap (λ (m : ℕ). length (take done xs) + m) (length-append ys (drop n (drop done xs))) ∙ (omega arith)

  pub held_before : (i : ℕ) → i < done / 512 → held (put_mid done n xs ys) i 512 ≡ held xs i 512
  unfolding part
  held_before i low =
      sym (drop-take (512 * i) 512 (put_mid done n xs ys)) ∙ ap (drop (512 * i)) (take-put_mid_below done n xs ys (512 * i + 512) (omega arith) inside)
      ∙ drop-take (512 * i) 512 xs

  pub held_after : (i : ℕ) → done % 512 ≡ 0 → i < length ys / 512 → held (put_mid done n xs ys) (done / 512 + i) 512 ≡ held ys i 512
  held_after i whole low =
      let front : length (take done xs) ≡ done = length-take-le done xs inside in
      let place : 512 * (done / 512 + i) ≡ length (take done xs) + 512 * i = omega arith in
      ap (λ (at : ℕ). part (put_mid done n xs ys) at 512) place
      ∙ part_end (take done xs) (ys ++ drop n (drop done xs)) (512 * i) 512
      ∙ held_front ys (drop n (drop done xs)) i low

-- a sector of what was read at once
pub held_held : (content : List ℕ) (start n i : ℕ) → i < n → held (held content start (512 * n)) i 512 ≡ held content (start + i) 512
held_held content start n i low =
    part_part content (512 * start) (512 * n) (512 * i) 512 (omega arith) ∙ ap (λ (at : ℕ). part content at 512) (let e : 512 * start + 512 * i ≡ 512 * (start + i) = omega arith in e)

-- the first sectors were read in one call
pub front_read : (content : List ℕ) (offset : ℕ) (listed : List Run) (sector run : ℕ) (xs ys : List ℕ) → ys ≡ held content (offset + sector) (512 * run) → length ys ≡ 512 * run
    → HasUnlisted content offset listed sector run (put_mid 0 (512 * run) xs ys)
front_read content offset listed sector run xs ys is as_long i low unlisted =
    ap (λ (k : ℕ). held (put_mid 0 (512 * run) xs ys) k 512) (let e : i ≡ 0 / 512 + i = omega arith in e)
    ∙ held_after 0 (512 * run) xs ys (omega arith) i (omega arith) (omega arith)
    ∙ ap (λ (bytes : List ℕ). held bytes i 512) is ∙ held_held content (offset + sector) run i low
    ∙ ap (λ (s : ℕ). held content s 512) (let e : offset + sector + i ≡ offset + (sector + i) = omega arith in e)

-- so many sectors are read, and more behind them
pub more_read : (content : List ℕ) (offset : ℕ) (listed : List Run) (from done all more : ℕ) (xs ys : List ℕ) → 512 * all ≤ length xs → done ≤ all → length ys ≡ 512 * all - 512 * done → more ≤ length ys / 512
    → HasUnlisted content offset listed from done xs → HasUnlisted content offset listed (from + done) more ys
    → HasUnlisted content offset listed from (done + more) (put_mid (512 * done) (512 * all - 512 * done) xs ys)
more_read content offset listed from done all more xs ys inside up as_long few before after i low unlisted =
    let rest : ℕ = 512 * all - 512 * done in
    elim (cases_lt i done) [
      | inl early ↦ held_before (512 * done) rest xs ys (omega arith) i (omega arith) ∙ before i early unlisted
      | inr late ↦
          let j : ℕ = i - done in
          let there : (512 * done) / 512 + j ≡ i = omega arith in
          let sector : from + done + j ≡ from + i = omega arith in
          ap (λ (k : ℕ). held (put_mid (512 * done) rest xs ys) k 512) (sym there)
          ∙ held_after (512 * done) rest xs ys (omega arith) j (omega arith) (omega arith)
          ∙ after j (omega arith) (λ bad. unlisted (rw (← sector) bad))
          ∙ ap (λ (s : ℕ). held content (offset + s) 512) sector
    ]

-- sectors of the front of a buffer
pub held_take : (xs : List ℕ) (len i : ℕ) → i < len / 512 → held (take len xs) i 512 ≡ held xs i 512
unfolding part
held_take xs len i low =
    sym (drop-take (512 * i) 512 (take len xs)) ∙ ap (drop (512 * i)) (take-take (512 * i + 512) len xs (omega arith)) ∙ drop-take (512 * i) 512 xs

pub taken_is_read : (content : List ℕ) (offset : ℕ) (listed : List Run) (from len : ℕ) (xs : List ℕ) → HasUnlisted content offset listed from (len / 512) xs → HasUnlisted content offset listed from (len / 512) (take len xs)
taken_is_read content offset listed from len xs has i low unlisted = held_take xs len i low ∙ has i low unlisted

-- a block more was read of which the bytes are these
block_read_part : (content : List ℕ) (offset : ℕ) (listed : List Run) (from done len : ℕ) (xs : List ℕ) → done % 512 ≡ 0 → len % 512 ≡ 0 → done + len ≤ length xs
    → HasUnlisted content offset listed from (done / 512) xs → HasUnlisted content offset listed (from + done / 512) (len / 512) (part xs done len)
    → HasUnlisted content offset listed from ((done + len) / 512) xs
block_read_part content offset listed from done len xs whole block inside before after i low unlisted =
    elim (cases_lt i (done / 512)) [
      | inl early ↦ before i early unlisted
      | inr late ↦
          let j : ℕ = i - done / 512 in
          let there : done / 512 + j ≡ i = omega arith in
          let sector : from + done / 512 + j ≡ from + i = omega arith in
          let place : done + 512 * j ≡ 512 * i = omega arith in
          ap (λ (at : ℕ). part xs at 512) (sym place)
          ∙ sym (part_part xs done len (512 * j) 512 (omega arith))
          ∙ after j (omega arith) (λ bad. unlisted (rw (← sector) bad))
          ∙ ap (λ (s : ℕ). held content (offset + s) 512) sector
    ]

pub block_read : (content : List ℕ) (offset : ℕ) (listed : List Run) (from done len : ℕ) (xs : List ℕ) → done % 512 ≡ 0 → len % 512 ≡ 0 → done + len ≤ length xs
    → HasUnlisted content offset listed from (done / 512) xs
    → HasUnlisted content offset listed (from + done / 512) (length (take (done + len - done) (drop done xs)) / 512) (take (done + len - done) (drop done xs))
    → HasUnlisted content offset listed from ((done + len) / 512) xs
unfolding part
block_read content offset listed from done len xs whole block inside before after =
    let n : done + len - done ≡ len = omega arith in
    let rest = length-drop done xs in
    let long : length (take len (drop done xs)) ≡ len = length-take-le len (drop done xs) (omega arith) in
    block_read_part content offset listed from done len xs whole block inside before
    (subst (λ m. HasUnlisted content offset listed (from + done / 512) (m / 512) (take len (drop done xs))) long
    (subst (λ m. HasUnlisted content offset listed (from + done / 512) (length (take m (drop done xs)) / 512) (take m (drop done xs))) n after))

-- the bytes that were compared, or those that were read
pub alike_or_read : (content : List ℕ) (offset : ℕ) (listed : List Run) (from : ℕ) (block bytes : List ℕ) (alike : Bool) → (alike ≡ true → take (length block) bytes ≡ block)
    → HasUnlisted content offset listed from (length block / 512) bytes → HasUnlisted content offset listed from (length block / 512) (if alike then block else bytes)
alike_or_read content offset listed from block bytes true same has =
    subst (λ (b : List ℕ). HasUnlisted content offset listed from (length block / 512) b) (same refl) (taken_is_read content offset listed from (length block) bytes has)
alike_or_read content offset listed from block bytes false same has = has
