-- A run of sectors that was given is so in each of them.
use Rattle.std.proofs.Common.{◌≡◌, ℕ, ◌+◌, ◌*◌, ◌/◌, ◌%◌, ◌<◌, ◌≤◌, List, ◌++◌, length, take, drop, refl, sym, ap, ◌∙◌, arith, length-append, length-drop, drop-drop}
use Rattle.std.proofs.Math.Seq.{take-append-add}
use Rattle.std.proofs.lemmas.List.{drop-append-le, drop_at, length-take-le, take-append-le}
use borrow.Rule.Slice.PartMut.{put_mid}
use Rattle.md_device.proofs.Splices.{length-part, part_part}
use Rattle.md_device.specs.Device.{held}
use Rattle.md_device.specs.Splice.{part}
use Rattle.md_state.specs.Steps.ReadData.{HoldsData}
use Rattle.md_state.specs.View.{MirrorView}
use Rattle.md_read.specs.Reading.{GivesIn}

-- ---- parts of lists
part_front : (xs ys : List ℕ) (at n : ℕ) → at + n ≤ length xs → part (xs ++ ys) at n ≡ part xs at n
unfolding part
part_front xs ys at n inside =
    let long = length-drop at xs in
    ap (take n) (drop-append-le at xs ys (omega arith)) ∙ take-append-le n (drop at xs) ys (omega arith)

part_end : (xs ys : List ℕ) (at n : ℕ) → part (xs ++ ys) (length xs + at) n ≡ part ys at n
unfolding part
part_end xs ys at n = ap (take n) (sym (drop-drop at (length xs) (xs ++ ys)) ∙ ap (drop at) (drop_at xs ys (length xs) refl))

pub held_front : (xs ys : List ℕ) (i : ℕ) → i < length xs / 512 → held (xs ++ ys) i 512 ≡ held xs i 512
held_front xs ys i low = part_front xs ys (512 * i) 512 (omega arith)

pub held_end : (xs ys : List ℕ) (i : ℕ) → length xs % 512 ≡ 0 → held (xs ++ ys) (length xs / 512 + i) 512 ≡ held ys i 512
held_end xs ys i whole =
    let place : 512 * (length xs / 512 + i) ≡ length xs + 512 * i = omega arith in
    ap (λ (at : ℕ). part (xs ++ ys) at 512) place ∙ part_end xs ys (512 * i) 512

-- where a part of the list was replaced
module _ (done n : ℕ) (xs ys : List ℕ) (inside : done ≤ length xs) where
  pub length-replaced : done + n ≤ length xs → length ys ≡ n → length (put_mid done n xs ys) ≡ length xs
  length-replaced within as_long =
      let front = length-take-le done xs inside in
      let past = length-drop done xs in
      let none = length-drop n (drop done xs) in
      length-append (take done xs) (ys ++ drop n (drop done xs)) ∙ ap (λ (m : ℕ). length (take done xs) + m) (length-append ys (drop n (drop done xs))) ∙ (omega arith)

  -- the sectors before it, and the first of it
  pub take-replaced : (m : ℕ) → m ≤ length ys → take (done + m) (put_mid done n xs ys) ≡ take done xs ++ take m ys
  take-replaced m few =
      let front : length (take done xs) ≡ done = length-take-le done xs inside in
      ap (λ (k : ℕ). take (k + m) (put_mid done n xs ys)) (sym front)
      ∙ take-append-add (take done xs) (ys ++ drop n (drop done xs)) m
      ∙ ap (λ (l : List ℕ). take done xs ++ l) (take-append-le m ys (drop n (drop done xs)) few)

-- ---- each sector
pub run_holds : (role sector : ℕ) (run : List ℕ) (old new : MirrorView) (gives : GivesIn role sector run old new) (i : ℕ) → i < length run / 512 → HoldsData old gives.from (sector + i) (held run i 512)
run_holds role sector run old new gives i low d m at there honest =
    let long : length (held run i 512) ≡ 512 = length-part run (512 * i) 512 (omega arith) in
    let start : ℕ = m.superblock.data_offset + sector in
    let moved : 512 * (m.superblock.data_offset + (sector + i)) ≡ 512 * start + 512 * i = omega arith in
    ap (λ (n : ℕ). held d.content (m.superblock.data_offset + (sector + i)) n) long
    ∙ ap (λ (n : ℕ). part d.content n 512) moved
    ∙ sym (part_part d.content (512 * start) (length run) (512 * i) 512 (omega arith))
    ∙ ap (λ (xs : List ℕ). part xs (512 * i) 512) (gives.holds d m at there honest)
