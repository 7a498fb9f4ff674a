-- Lemmas on what a disk holds, by its copy and the mask.
use Rattle.std.proofs.Common.{◌≡◌, ℕ, ◌+◌, ◌-◌, ◌*◌, ◌/◌, ◌%◌, ◌<◌, ◌≤◌, ◌⊎◌, ◌↔◌, ◌&&◌, ◌||◌, Bool, true, false, not, inl, inr, ⊎_elim, List, [], ◌∷◌, ◌++◌, length, take, drop, get_or, refl, subst, ap, sym, ◌∙◌, arith, length-drop, true≢false, if◌then◌else◌}
use Rattle.std.specs.Prelude.{nat_lt}
use Rattle.std.proofs.lemmas.List.{length-take, get_or-take, get_or-drop, get_or_append_left, get_or-append_right}
use Rattle.std.proofs.lemmas.Bool.{cases_lt, or_left, or_right, or_cases, ltb-true, ltb-false, lt-ltb, le-ltb}
use Rattle.std.proofs.lemmas.List.FromFn.{length-map-range_with_len, get_or-map-range_with_len}
use Rattle.std.proofs.lemmas.Grind.{same_number_lists}
use Rattle.md_badblocks.specs.declared.run.Run.{Run}
use Rattle.md_badblocks.specs.Runs.{IsBad, LiesIn}
use Rattle.md_device.specs.Splice.{spliced, part, SameOutside}
use Rattle.md_device.specs.Device.{held, written}
use Rattle.md_device.proofs.Splices.{length-spliced, length-part, slice_index-part}
use Rattle.md_files.specs.Masks.Device.Masked.{Touches, IsUnmasked, byte_of, disk_content, is_masked}

-- ---- whether a sector is masked

abbrev lies : Run → ℕ → Bool
lies run s = not (nat_lt s run.start) && nat_lt s (run.start + run.len)

in_run : (run : Run) (s : ℕ) → lies run s ≡ true → LiesIn s run
in_run run s e = by (nat_lt s run.start) (nat_lt s (run.start + run.len)) refl refl e
  where
    by : (a b : Bool) → nat_lt s run.start ≡ a → nat_lt s (run.start + run.len) ≡ b → (not a && b) ≡ true → LiesIn s run
    by true b x y e = absurd (true≢false (sym e))
    by false false x y e = absurd (true≢false (sym e))
    by false true x y e = (ltb-false s run.start x, ltb-true s (run.start + run.len) y)

run_in : (run : Run) (s : ℕ) → LiesIn s run → lies run s ≡ true
run_in run s here =
    ap (λ (a : Bool). not a && nat_lt s (run.start + run.len)) (le-ltb s run.start here.0) ∙ lt-ltb s (run.start + run.len) here.1

masked_bad : (runs : List Run) (s : ℕ) → is_masked runs s ≡ true → IsBad runs s
masked_bad [] s e = true≢false (sym e)
masked_bad (run ∷ runs) s e = elim (or_cases (lies run s) (is_masked runs s) e) [
  | inl here ↦ inl (in_run run s here)
  | inr later ↦ inr (masked_bad runs s later)
]

bad_masked : (runs : List Run) (s : ℕ) → IsBad runs s → is_masked runs s ≡ true
bad_masked [] s x = elim x [ ]
bad_masked (run ∷ runs) s (inl here) = or_left (lies run s) (is_masked runs s) (run_in run s here)
bad_masked (run ∷ runs) s (inr later) = or_right (lies run s) (is_masked runs s) (bad_masked runs s later)

not_bad : (runs : List Run) (s : ℕ) → ¬ IsBad runs s → is_masked runs s ≡ false
not_bad runs s isnt = by (is_masked runs s) refl
  where
    by : (b : Bool) → is_masked runs s ≡ b → b ≡ false
    by true e = absurd (isnt (masked_bad runs s e))
    by false e = refl

-- two masks that have the same of a sector
same_masked : (old new : List Run) (s : ℕ) → (IsBad new s → IsBad old s) → (IsBad old s → IsBad new s) → is_masked new s ≡ is_masked old s
same_masked old new s to from = by (is_masked old s) refl
  where
    by : (b : Bool) → is_masked old s ≡ b → is_masked new s ≡ b
    by true e = bad_masked new s (from (masked_bad old s e))
    by false e = not_bad new s (λ h. true≢false (sym (bad_masked old s (to h)) ∙ e))

-- ---- a list with a part of it replaced, by the index

-- before the part, within it and after it
spliced_before : (xs : List ℕ) (at : ℕ) (ys : List ℕ) (k : ℕ) → at ≤ length xs → k < at → get_or (spliced xs at ys) k 0 ≡ get_or xs k 0
unfolding spliced
spliced_before xs at ys k fits before =
    let size : length (take at xs) ≡ at = simp (length-take) (omega arith) in
    get_or_append_left (take at xs) (ys ++ drop (at + length ys) xs) 0 k (omega (arith, size)) ∙ get_or-take at xs k 0 before

spliced_within : (xs : List ℕ) (at : ℕ) (ys : List ℕ) (j : ℕ) → at ≤ length xs → j < length ys → get_or (spliced xs at ys) (at + j) 0 ≡ get_or ys j 0
unfolding spliced
spliced_within xs at ys j fits within =
    let size : length (take at xs) ≡ at = simp (length-take) (omega arith) in
    let here : at + j - at ≡ j = omega arith in
    get_or-append_right (take at xs) (ys ++ drop (at + length ys) xs) at (at + j) 0 size (omega arith) ∙ ap (λ i. get_or (ys ++ drop (at + length ys) xs) i 0) here ∙ get_or_append_left ys (drop (at + length ys) xs) 0 j within

spliced_after : (xs : List ℕ) (at : ℕ) (ys : List ℕ) (k : ℕ) → at ≤ length xs → at + length ys ≤ k → get_or (spliced xs at ys) k 0 ≡ get_or xs k 0
unfolding spliced
spliced_after xs at ys k fits after =
    let size : length (take at xs) ≡ at = simp (length-take) (omega arith) in
    let here : at + length ys + (k - at - length ys) ≡ k = omega arith in
    get_or-append_right (take at xs) (ys ++ drop (at + length ys) xs) at k 0 size (omega arith) ∙ get_or-append_right ys (drop (at + length ys) xs) (length ys) (k - at) 0 refl (omega arith)
    ∙ get_or-drop (at + length ys) xs (k - at - length ys) 0 ∙ ap (λ i. get_or xs i 0) here

-- bytes outside the part stand as they were
outside_byte : (xs ys : List ℕ) (at n k : ℕ) → SameOutside at n xs ys → (k < at) ⊎ (at + n ≤ k) → get_or ys k 0 ≡ get_or xs k 0
outside_byte xs ys at n k same (inl before) =
    sym (get_or-take at ys k 0 before) ∙ ap (λ zs. get_or zs k 0) same.before ∙ get_or-take at xs k 0 before
outside_byte xs ys at n k same (inr after) =
    let back : at + n + (k - (at + n)) ≡ k = omega (arith, after) in
    let cut : (zs : List ℕ) → get_or (drop (at + n) zs) (k - (at + n)) 0 ≡ get_or zs k 0 = λ zs. get_or-drop (at + n) zs (k - (at + n)) 0 ∙ ap (λ i. get_or zs i 0) back in
    sym (cut ys) ∙ ap (λ zs. get_or zs (k - (at + n)) 0) same.after ∙ cut xs

-- and where they do, lists of one length differ at most in the part
bytes_outside : (xs ys : List ℕ) (at n : ℕ) → length ys ≡ length xs → at + n ≤ length xs → ((k : ℕ) → k < length xs → (k < at) ⊎ (at + n ≤ k) → get_or ys k 0 ≡ get_or xs k 0) → SameOutside at n xs ys
bytes_outside xs ys at n size fits each = record {
  size = size;
  before = same_number_lists (take at ys) (take at xs)
      (simp (length-take, size) refl)
      (λ k inside.
      let below : k < at = let h : length (take at ys) ≡ at = simp (length-take) (omega (arith, fits, size)) in omega (arith, h, inside) in
      get_or-take at ys k 0 below ∙ each k (omega (arith, below, fits)) (inl below) ∙ sym (get_or-take at xs k 0 below));
  after = same_number_lists (drop (at + n) ys) (drop (at + n) xs)
      (simp (length-drop, size) refl)
      (λ k inside.
      let below : k + (at + n) < length xs = let h : length (drop (at + n) ys) ≡ length ys - (at + n) = simp (length-drop) refl in omega (arith, h, inside, size) in
      get_or-drop (at + n) ys k 0 ∙ each (at + n + k) (omega (arith, below)) (inr (omega arith)) ∙ sym (get_or-drop (at + n) xs k 0));
}

-- ---- what the disk holds

pub length-disk : (mask : List Run) (disk below : List ℕ) → length (disk_content mask disk below) ≡ length below
unfolding disk_content
length-disk mask disk below = length-map-range_with_len (λ k. byte_of mask disk k (get_or below k 0)) 0 (length below)

disk_byte : (mask : List Run) (disk below : List ℕ) (k : ℕ) → k < length below → get_or (disk_content mask disk below) k 0 ≡ byte_of mask disk k (get_or below k 0)
unfolding disk_content
disk_byte mask disk below k fits = get_or-map-range_with_len (λ i. byte_of mask disk i (get_or below i 0)) 0 (length below) k k 0 fits (omega arith)

open_byte : (mask : List Run) (disk : List ℕ) (k b : ℕ) → is_masked mask (k / 512) ≡ false → byte_of mask disk k b ≡ b
open_byte mask disk k b e = ap (λ (m : Bool). if m then get_or disk k 0 else b) e

same_byte : (old new : List Run) (disk : List ℕ) (k a b : ℕ) → is_masked new (k / 512) ≡ is_masked old (k / 512) → b ≡ a → byte_of new disk k b ≡ byte_of old disk k a
same_byte old new disk k a b e same = ap (λ (m : Bool). if m then get_or disk k 0 else b) e ∙ ap (λ (c : ℕ). byte_of old disk k c) same

-- what is read where no sector is masked
pub held_disk : (mask : List Run) (disk below : List ℕ) (sector n : ℕ) → ¬ Touches mask sector n → n % 512 ≡ 0 → 512 * sector + n ≤ length (disk_content mask disk below) → held (disk_content mask disk below) sector n ≡ held below sector n
held_disk mask disk below sector n apart whole within =
    let size : length (disk_content mask disk below) ≡ length below = length-disk mask disk below in
    let fits : 512 * sector + n ≤ length below = omega (arith, within, size) in
    let left : length (held (disk_content mask disk below) sector n) ≡ n = length-part (disk_content mask disk below) (512 * sector) n within in
    let right : length (held below sector n) ≡ n = length-part below (512 * sector) n fits in
    same_number_lists (held (disk_content mask disk below) sector n) (held below sector n) (left ∙ sym right)
    (λ k inside.
    let at : k < n = omega (arith, inside, left) in
    let open_here : is_masked mask ((512 * sector + k) / 512) ≡ false = not_bad mask ((512 * sector + k) / 512) (λ bad. apart ((512 * sector + k) / 512, bad, omega arith, omega (arith, at, whole))) in
    slice_index-part (disk_content mask disk below) (512 * sector) n k at
    ∙ disk_byte mask disk below (512 * sector + k) (omega (arith, at, fits))
    ∙ open_byte mask disk (512 * sector + k) (get_or below (512 * sector + k) 0) open_here
    ∙ sym (slice_index-part below (512 * sector) n k at))

-- the sectors of a byte outside whole sectors
sector_outside : (sector n k : ℕ) → n % 512 ≡ 0 → (k < 512 * sector) ⊎ (512 * sector + n ≤ k) → (k / 512 < sector) ⊎ (sector + n / 512 ≤ k / 512)
sector_outside sector n k whole (inl before) = inl (omega (arith, before))
sector_outside sector n k whole (inr after) = inr (omega (arith, after, whole))

-- a write over the copy, where the masks have the same of all other sectors
pub disk_outside : (old new : List Run) (disk below now : List ℕ) (sector n : ℕ) → SameOutside (512 * sector) n below now → n % 512 ≡ 0 → 512 * sector + n ≤ length (disk_content old disk below)
    → ((s : ℕ) → (s < sector) ⊎ (sector + n / 512 ≤ s) → is_masked new s ≡ is_masked old s) → SameOutside (512 * sector) n (disk_content old disk below) (disk_content new disk now)
disk_outside old new disk below now sector n same whole within apart =
    let size : length (disk_content old disk below) ≡ length below = length-disk old disk below in
    let size_now : length (disk_content new disk now) ≡ length now = length-disk new disk now in
    bytes_outside (disk_content old disk below) (disk_content new disk now) (512 * sector) n
    (size_now ∙ same.size ∙ sym size) within
    (λ k fits out.
    disk_byte new disk now k (omega (arith, fits, size, same.size))
    ∙ same_byte old new disk k (get_or below k 0) (get_or now k 0) (apart (k / 512) (sector_outside sector n k whole out)) (outside_byte below now (512 * sector) n k same out)
    ∙ sym (disk_byte old disk below k (omega (arith, fits, size))))

-- the same mask
pub disk_kept : (mask now : List Run) (disk below bytes : List ℕ) (sector n : ℕ) → now ≡ mask → SameOutside (512 * sector) n below bytes → n % 512 ≡ 0 → 512 * sector + n ≤ length (disk_content mask disk below)
    → SameOutside (512 * sector) n (disk_content mask disk below) (disk_content now disk bytes)
disk_kept mask now disk below bytes sector n is same whole within =
    disk_outside mask now disk below bytes sector n same whole within (λ s out. ap (λ (m : List Run). is_masked m s) is)

-- the mask without what was written
unmasked_apart : (old new : List Run) (sector n s : ℕ) → IsUnmasked sector n old new → (s < sector) ⊎ (sector + n / 512 ≤ s) → is_masked new s ≡ is_masked old s
unmasked_apart old new sector n s un out = same_masked old new s (λ bad. ((un s).0 bad).0) (λ bad. (un s).1 (bad, out))

pub disk_unmasked : (old new : List Run) (disk below now : List ℕ) (sector n : ℕ) → IsUnmasked sector n old new → SameOutside (512 * sector) n below now → n % 512 ≡ 0 → 512 * sector + n ≤ length (disk_content old disk below)
    → SameOutside (512 * sector) n (disk_content old disk below) (disk_content new disk now)
disk_unmasked old new disk below now sector n un same whole within =
    disk_outside old new disk below now sector n same whole within (λ s out. unmasked_apart old new sector n s un out)

within_open : (old new : List Run) (sector n s : ℕ) → IsUnmasked sector n old new → sector ≤ s → s < sector + n / 512 → is_masked new s ≡ false
within_open old new sector n s un from to = not_bad new s (λ bad. elim (((un s).0 bad).1) [
  | inl before ↦ omega (arith, before, from)
  | inr after ↦ omega (arith, after, to)
])

-- what was written is the disk's own
pub disk_written : (old new : List Run) (disk below now : List ℕ) (sector : ℕ) (bytes : List ℕ) → IsUnmasked sector (length bytes) old new → now ≡ written below sector bytes → length bytes % 512 ≡ 0
    → 512 * sector + length bytes ≤ length (disk_content old disk below) → disk_content new disk now ≡ written (disk_content old disk below) sector bytes
disk_written old new disk below now sector bytes un is whole within =
    let size : length (disk_content old disk below) ≡ length below = length-disk old disk below in
    let size_now : length (disk_content new disk now) ≡ length now = length-disk new disk now in
    let fits : 512 * sector + length bytes ≤ length below = omega (arith, within, size) in
    let as_long : length now ≡ length below = ap length is ∙ length-spliced below (512 * sector) bytes fits in
    let long : length (written (disk_content old disk below) sector bytes) ≡ length (disk_content old disk below) = length-spliced (disk_content old disk below) (512 * sector) bytes within in
    let room : 512 * sector ≤ length (disk_content old disk below) = omega (arith, within) in
    let room_below : 512 * sector ≤ length below = omega (arith, fits) in
    let apart : (k : ℕ) → k < length below → get_or now k 0 ≡ get_or below k 0 → (k < 512 * sector) ⊎ (512 * sector + length bytes ≤ k) → get_or (disk_content new disk now) k 0 ≡ get_or (disk_content old disk below) k 0 =
    λ k lt same out.
    disk_byte new disk now k (omega (arith, lt, as_long))
    ∙ same_byte old new disk k (get_or below k 0) (get_or now k 0) (unmasked_apart old new sector (length bytes) (k / 512) un (sector_outside sector (length bytes) k whole out)) same
    ∙ sym (disk_byte old disk below k lt) in
    same_number_lists (disk_content new disk now) (written (disk_content old disk below) sector bytes) (size_now ∙ as_long ∙ sym size ∙ sym long)
    (λ k inside.
    let lt : k < length below = omega (arith, inside, size_now, as_long) in
    ⊎_elim
    (λ before.
    apart k lt (ap (λ (xs : List ℕ). get_or xs k 0) is ∙ spliced_before below (512 * sector) bytes k room_below before) (inl before)
    ∙ sym (spliced_before (disk_content old disk below) (512 * sector) bytes k room before))
    (λ rest. ⊎_elim
    (λ in_it.
    let here : 512 * sector + (k - 512 * sector) ≡ k = omega (arith, rest) in
    let j : k - 512 * sector < length bytes = omega (arith, rest, in_it) in
    disk_byte new disk now k (omega (arith, lt, as_long))
    ∙ open_byte new disk k (get_or now k 0) (within_open old new sector (length bytes) (k / 512) un (omega (arith, rest)) (omega (arith, in_it, whole)))
    ∙ ap (λ (xs : List ℕ). get_or xs k 0) is
    ∙ ap (λ (i : ℕ). get_or (written below sector bytes) i 0) (sym here)
    ∙ spliced_within below (512 * sector) bytes (k - 512 * sector) room_below j
    ∙ sym (ap (λ (i : ℕ). get_or (written (disk_content old disk below) sector bytes) i 0) (sym here) ∙ spliced_within (disk_content old disk below) (512 * sector) bytes (k - 512 * sector) room j))
    (λ after.
    apart k lt (ap (λ (xs : List ℕ). get_or xs k 0) is ∙ spliced_after below (512 * sector) bytes k room_below after) (inr after)
    ∙ sym (spliced_after (disk_content old disk below) (512 * sector) bytes k room after))
    (cases_lt k (512 * sector + length bytes)))
    (cases_lt k (512 * sector)))

-- the lemmas for the device, to pass to `using`
pub ruleset disks = (length-disk, held_disk, disk_kept, disk_unmasked, disk_written)
