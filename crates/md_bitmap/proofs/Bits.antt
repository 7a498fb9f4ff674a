-- The bits of a list of bytes, one by one and in words of 64.
use Rattle.std.proofs.Common.{◌≡◌, ℕ, zero, suc, ◌+◌, ◌-◌, ◌*◌, ◌/◌, ◌%◌, ◌^◌, ◌<◌, ◌≤◌, Bool, true, false, cond, eqb, ltb, not, ◌&&◌, ◌||◌, bit_and, bit_or, set, List, ◌++◌, length, drop, replicate, slice_index, count_by, refl, sym, ap, ◌∙◌, inl, inr, arith}
use Rattle.std.proofs.Math.Nat.{mod-lt}
use Rattle.std.proofs.lemmas.Nat.{mod-pow-add, ones-le, one_shl, ones_cat, pow_pos, shr-shr, shr_le}
use Rattle.std.proofs.lemmas.Nat.Bits.{bit_at-lt, bit_at_cat_low, bit_at-trailing_zeros, bit_at-zero, bit_at_above, bit_at_ones, bit_at_ones_above, bit_at_cat_high, bit_at_clear_other, bit_at_clear_same, bit_at_set_other, bit_at_set_same}
use Rattle.std.proofs.lemmas.Bool.{cases_eq, cases_lt, eq-eqb, le-ltb, lt-ltb, ne_eqb}
use Rattle.std.proofs.lemmas.List.{get_or-append_right, get_or-drop, get_or-replicate, get_or-set_other, get_or-set_same, get_or_past, length-replicate}
use Rattle.std.proofs.lemmas.List.Sums.{sum_by_push}
use Rattle.std.specs.Int.{bit_at, div_ceil, trailing_zeros, w8, w64}
use Rattle.std.specs.Int.Count.{ones, ones_step}
use Rattle.std.specs.List.{range_with_len}
use Rattle.byteorder.specs.Endian.{little_from}
use Rattle.md_format.specs.Fields.{number_at}
use Rattle.md_bitmap.proofs.Padded.{slice_index-padded, zero_at}
use Rattle.md_bitmap.proofs.Numbers.{range_push}
use Rattle.md_bitmap.specs.Marks.{IsNextSet, NoneSet, is_set, count_set, padded}

-- ---- words
-- a bit of the number in n bytes is a bit of one of them
bit_at-little_from : (n i j : ℕ) (xs : List ℕ) → ((k : ℕ) → slice_index xs k < 256) → j < 8 * n → bit_at (little_from i n xs) j ≡ bit_at (slice_index xs (i + j / 8)) (j % 8)
bit_at-little_from zero i j xs fits h = absurd (omega arith)
bit_at-little_from (suc n) i j xs fits h =
    let byte = slice_index xs i in
    let rest = little_from (suc i) n xs in
    let split : byte + 256 * rest ≡ rest * 2 ^ 8 + byte = omega arith in
    elim (cases_lt j 8) [
      | inl low ↦
          let place : i + j / 8 ≡ i = omega arith in
          let bit : j % 8 ≡ j = omega arith in
          rw (split, place, bit) (bit_at_cat_low rest 8 byte j low)
      | inr high ↦
          let place : i + j / 8 ≡ suc i + (j - 8) / 8 = omega arith in
          let bit : j % 8 ≡ (j - 8) % 8 = omega arith in
          rw (split, place, bit) (bit_at_cat_high rest 8 byte j (fits i) high ∙ bit_at-little_from n (suc i) (j - 8) xs fits (omega arith))
    ]

-- the bits of the word from byte 8 * k on are those from 64 * k on
pub is_set-word : (xs : List ℕ) → ((k : ℕ) → slice_index xs k < 256) → (k j : ℕ) → j < 64 → is_set xs (64 * k + j) ≡ eqb (bit_at (number_at 8 (8 * k) xs) j) 1
unfolding is_set number_at
is_set-word xs fits k j h =
    let place : (64 * k + j) / 8 ≡ 8 * k + j / 8 = omega arith in
    let bit : (64 * k + j) % 8 ≡ j % 8 = omega arith in
    rw (place, bit) (sym (ap (λ (b : ℕ). eqb b 1) (bit_at-little_from 8 (8 * k) j xs fits h)))

-- ---- counting

pub count_set-suc : (xs : List ℕ) (n : ℕ) → count_set xs (suc n) ≡ count_set xs n + cond (is_set xs n) 1 0
unfolding count_set
count_set-suc xs n =
    let e : 0 + n ≡ n = omega arith in
    ap (count_by (is_set xs)) (rw e at (range_push 0 n))
    ∙ sum_by_push (λ (i : ℕ). cond (is_set xs i) 1 0) (range_with_len 0 n) n

pub count_set-zero : (xs : List ℕ) → count_set xs 0 ≡ 0
unfolding count_set
count_set-zero xs = refl

one_at_most : (b : Bool) → cond b 1 0 ≤ 1
one_at_most true = omega arith
one_at_most false = omega arith

pub count_set-le : (xs : List ℕ) (n : ℕ) → count_set xs n ≤ n
count_set-le xs zero = omega (arith, count_set-zero xs)
count_set-le xs (suc n) = omega (arith, count_set-le xs n, count_set-suc xs n, one_at_most (is_set xs n))

ones-bit : (b : ℕ) → b < 2 → ones b ≡ cond (eqb b 1) 1 0
ones-bit zero h = omega (arith, ones-le 0 0 (omega arith))
ones-bit (suc zero) h = omega (arith, ones_step 1, ones-le 0 0 (omega arith))
ones-bit (suc (suc b)) h = absurd (omega arith)

-- the ones of the low bits, and one bit more
ones-mod-suc : (w r : ℕ) → ones (w % 2 ^ suc r) ≡ ones (w % 2 ^ r) + cond (eqb (bit_at w r) 1) 1 0
ones-mod-suc w r =
    let more : 1 + r ≡ suc r = omega arith in
    let split : w % 2 ^ suc r ≡ bit_at w r * 2 ^ r + w % 2 ^ r = rw more at (mod-pow-add w 1 r) in
    let low : w % 2 ^ r < 2 ^ r = mod-lt w (pow_pos r) in
    let cat = ones_cat r (bit_at w r) (w % 2 ^ r) low in
    let bit = ones-bit (bit_at w r) (bit_at-lt w r) in
    rw split (omega (arith, cat, bit))

-- r bits of the word from byte 8 * k on
pub count_set-word : (xs : List ℕ) → ((i : ℕ) → slice_index xs i < 256) → (k r : ℕ) → r ≤ 64 → count_set xs (64 * k + r) ≡ count_set xs (64 * k) + ones (number_at 8 (8 * k) xs % 2 ^ r)
count_set-word xs fits k zero h =
    let none : number_at 8 (8 * k) xs % 2 ^ 0 ≡ 0 = omega arith in
    let e : 64 * k + 0 ≡ 64 * k = omega arith in
    rw (none, e) (omega (arith, ones-le 0 0 (omega arith)))
count_set-word xs fits k (suc r) h =
    let e : 64 * k + suc r ≡ suc (64 * k + r) = omega arith in
    let rest = count_set-word xs fits k r (omega arith) in
    let bit = is_set-word xs fits k r (omega arith) in
    let step = rw bit at (count_set-suc xs (64 * k + r)) in
    let more = ones-mod-suc (number_at 8 (8 * k) xs) r in
    rw e (omega (arith, rest, step, more))

-- ---- one bit changed
-- a bit of the bytes after byte k was written
pub is_set-set_other : (xs : List ℕ) (k v i : ℕ) → (i / 8 ≡ k → ⊥) → is_set (set xs k v) i ≡ is_set xs i
unfolding is_set
is_set-set_other xs k v i other = rw (get_or-set_other xs k (i / 8) v 0 other) refl

pub is_set-set_same : (xs : List ℕ) (k v i : ℕ) → i / 8 ≡ k → k < length xs → is_set (set xs k v) i ≡ eqb (bit_at v (i % 8)) 1
unfolding is_set
is_set-set_same xs k v i same h = rw (same, get_or-set_same xs k v 0 h) refl

pub is_set-bit : (xs : List ℕ) (k i : ℕ) → i / 8 ≡ k → is_set xs i ≡ eqb (bit_at (slice_index xs k) (i % 8)) 1
unfolding is_set
is_set-bit xs k i same = rw same refl

other_byte : (i c : ℕ) → (i / 8 ≡ c / 8 → ⊥) → eqb i c ≡ false
other_byte i c other = ne_eqb i c (λ e. other (ap (λ (n : ℕ). n / 8) e))

pub is_set-after_set : (xs : List ℕ) (c i : ℕ) → c / 8 < length xs →
    is_set (set xs (c / 8) (bit_or (slice_index xs (c / 8)) (1 * 2 ^ (c % 8) % 256))) i ≡ (eqb i c || is_set xs i)
is_set-after_set xs c i h =
    let b = slice_index xs (c / 8) in
    let v = bit_or b (1 * 2 ^ (c % 8) % 256) in
    let k : c % 8 < 8 = omega arith in
    elim (cases_eq (i / 8) (c / 8)) [
      | inl same ↦ elim (cases_eq (i % 8) (c % 8)) [
        | inl here ↦
            let e : i ≡ c = omega arith in
            rw (is_set-set_same xs (c / 8) v i same h, here, bit_at_set_same w8 b (c % 8) k, eq-eqb i c e) refl
        | inr apart ↦
            let e = ne_eqb i c (λ e. apart (ap (λ (n : ℕ). n % 8) e)) in
            rw (is_set-set_same xs (c / 8) v i same h, bit_at_set_other w8 b (c % 8) k (i % 8) apart, e, is_set-bit xs (c / 8) i same) refl
      ]
      | inr other ↦ rw (is_set-set_other xs (c / 8) v i other, other_byte i c other) refl
    ]

pub is_set-after_clear : (xs : List ℕ) (c i : ℕ) → c / 8 < length xs →
    is_set (set xs (c / 8) (bit_and (slice_index xs (c / 8)) (255 - 1 * 2 ^ (c % 8) % 256))) i ≡ (not (eqb i c) && is_set xs i)
is_set-after_clear xs c i h =
    let b = slice_index xs (c / 8) in
    let v = bit_and b (255 - 1 * 2 ^ (c % 8) % 256) in
    let k : c % 8 < 8 = omega arith in
    let j : i % 8 < 8 = omega arith in
    elim (cases_eq (i / 8) (c / 8)) [
      | inl same ↦ elim (cases_eq (i % 8) (c % 8)) [
        | inl here ↦
            let e : i ≡ c = omega arith in
            rw (is_set-set_same xs (c / 8) v i same h, here, bit_at_clear_same w8 b (c % 8) k, eq-eqb i c e) refl
        | inr apart ↦
            let e = ne_eqb i c (λ e. apart (ap (λ (n : ℕ). n % 8) e)) in
            rw (is_set-set_same xs (c / 8) v i same h, bit_at_clear_other w8 b (c % 8) k (i % 8) j apart, e, is_set-bit xs (c / 8) i same) refl
      ]
      | inr other ↦ rw (is_set-set_other xs (c / 8) v i other, other_byte i c other) refl
    ]

-- ---- the next bit
-- what the search of a word from bit `at` on says: s is the word without the bits below
shifted : (w s j : ℕ) → bit_at (w / 2 ^ s) j ≡ bit_at w (s + j)
shifted w s j = ap (λ (n : ℕ). n % 2) (shr-shr w s j)

pub is_set-shifted : (xs : List ℕ) → ((k : ℕ) → slice_index xs k < 256) → (at j : ℕ) → at % 64 + j < 64 →
    is_set xs (at + j) ≡ eqb (bit_at (number_at 8 (8 * (at / 64)) xs / 2 ^ (at % 64)) j) 1
is_set-shifted xs fits at j h =
    let e : at + j ≡ 64 * (at / 64) + (at % 64 + j) = omega arith in
    let w = number_at 8 (8 * (at / 64)) xs in
    rw (e, shifted w (at % 64) j) (is_set-word xs fits (at / 64) (at % 64 + j) h)

-- no bit from `at` on is set in the word
pub none_in_word : (xs : List ℕ) → ((k : ℕ) → slice_index xs k < 256) → (at d : ℕ) → number_at 8 (8 * (at / 64)) xs / 2 ^ (at % 64) ≡ 0 → at ≤ d → d < (at / 64 + 1) * 64 → is_set xs d ≡ false
none_in_word xs fits at d none from below =
    let j : at % 64 + (d - at) < 64 = omega arith in
    let e : at + (d - at) ≡ d = omega arith in
    let zero_bit : bit_at 0 (d - at) ≡ 0 = bit_at-zero (d - at) in
    rw (none, zero_bit, e) at (is_set-shifted xs fits at (d - at) j)

-- the first bit from `at` on in the word
pub record IsFirstInWord (xs : List ℕ) (at t : ℕ) : Type 0 where
  pub within : at % 64 + t < 64
  pub set_there : is_set xs (at + t) ≡ true
  pub none_before : NoneSet xs at (at + t)

pub first_in_word : (xs : List ℕ) → ((k : ℕ) → slice_index xs k < 256) → (at : ℕ) →
    number_at 8 (8 * (at / 64)) xs < 2 ^ 64 → 0 < number_at 8 (8 * (at / 64)) xs / 2 ^ (at % 64) →
    IsFirstInWord xs at (trailing_zeros w64 (number_at 8 (8 * (at / 64)) xs / 2 ^ (at % 64)))
first_in_word xs fits at small some =
    let w = number_at 8 (8 * (at / 64)) xs in
    let s = w / 2 ^ (at % 64) in
    let s_small : s < 2 ^ 64 = omega (arith, shr_le w (at % 64)) in
    let lowest = bit_at-trailing_zeros w64 s some s_small in
    let t = trailing_zeros w64 s in
    let within : at % 64 + t < 64 =
    elim (cases_lt (at % 64 + t) 64) [
      | inl h ↦ h
      | inr past ↦ absurd (omega (arith, lowest.1, shifted w (at % 64) t, bit_at_above w 64 (at % 64 + t) small past))
    ] in
    record {
      within = within;
      set_there = rw lowest.1 at (is_set-shifted xs fits at t within);
      none_before = λ d from below.
          let j : d - at < t = omega arith in
          let e : at + (d - at) ≡ d = omega arith in
          rw (lowest.2 (d - at) j, e) at (is_set-shifted xs fits at (d - at) (omega arith));
    }

pub is_set-zeros : (n i : ℕ) → is_set (replicate n 0) i ≡ false
unfolding is_set
is_set-zeros n i = rw (zero_at n (i / 8), bit_at-zero (i % 8)) refl

-- a search that began at `from` has come to `at`
pub record IsPassed (xs : List ℕ) (from at : ℕ) : Type 0 where
  pub not_below : from ≤ at
  pub none_before : NoneSet xs from at

pub passed_none : (xs : List ℕ) (from : ℕ) → IsPassed xs from from
passed_none xs from = record { not_below = omega arith; none_before = λ i l h. absurd (omega arith) }

pub passed_word : (xs : List ℕ) → ((k : ℕ) → slice_index xs k < 256) → (from at w : ℕ) → w ≡ number_at 8 (8 * (at / 64)) xs → w / 2 ^ (at % 64) ≡ 0 → IsPassed xs from at → IsPassed xs from ((at / 64 + 1) * 64)
passed_word xs fits from at w e none p = record {
  not_below = omega (arith, p.not_below);
  none_before = λ i l h.
      elim (cases_lt i at) [
        | inl before ↦ p.none_before i l before
        | inr here ↦ none_in_word xs fits at i (rw e at none) here h
      ];
}

passed_first : (xs : List ℕ) (from at t : ℕ) → IsFirstInWord xs at t → IsPassed xs from at → NoneSet xs from (at + t)
passed_first xs from at t first p i l h =
    elim (cases_lt i at) [
      | inl before ↦ p.none_before i l before
      | inr here ↦ first.none_before i here h
    ]

first_of_word : (xs : List ℕ) → ((k : ℕ) → slice_index xs k < 256) → (at w : ℕ) → w ≡ number_at 8 (8 * (at / 64)) xs → w < 2 ^ 64 → (w / 2 ^ (at % 64) ≡ 0 → ⊥) → IsFirstInWord xs at (trailing_zeros w64 (w / 2 ^ (at % 64)))
first_of_word xs fits at w e small some =
    let positive : 0 < w / 2 ^ (at % 64) = omega arith in
    rw e (first_in_word xs fits at (rw e at small) (rw e at positive))

pub next_found : (xs : List ℕ) → ((k : ℕ) → slice_index xs k < 256) → (from end at w : ℕ) → w ≡ number_at 8 (8 * (at / 64)) xs → w < 2 ^ 64 → (w / 2 ^ (at % 64) ≡ 0 → ⊥) → IsPassed xs from at →
    at + trailing_zeros w64 (w / 2 ^ (at % 64)) < end → IsNextSet xs from end (at + trailing_zeros w64 (w / 2 ^ (at % 64)))
next_found xs fits from end at w e small some p below =
    let first = first_of_word xs fits at w e small some in
    record {
      not_below = omega (arith, p.not_below);
      below = below;
      set_there = first.set_there;
      none_before = passed_first xs from at (trailing_zeros w64 (w / 2 ^ (at % 64))) first p;
    }

pub none_found : (xs : List ℕ) → ((k : ℕ) → slice_index xs k < 256) → (from end at w : ℕ) → w ≡ number_at 8 (8 * (at / 64)) xs → w < 2 ^ 64 → (w / 2 ^ (at % 64) ≡ 0 → ⊥) → IsPassed xs from at →
    end ≤ at + trailing_zeros w64 (w / 2 ^ (at % 64)) → NoneSet xs from end
none_found xs fits from end at w e small some p past i l h =
    passed_first xs from at (trailing_zeros w64 (w / 2 ^ (at % 64))) (first_of_word xs fits at w e small some) p i l (omega arith)

pub none_left : (xs : List ℕ) (from end at : ℕ) → IsPassed xs from at → end ≤ at → NoneSet xs from end
none_left xs from end at p past i l h = p.none_before i l (omega arith)

-- ---- all of the first bits set
-- the byte that has the last of n bits
abbrev pub last_byte : ℕ → ℕ
last_byte n = 1 * 2 ^ (n % 8) % 256 - 1

last_byte_is : (n : ℕ) → last_byte n ≡ 2 ^ (n % 8) - 1
last_byte_is n = let e = one_shl (n % 8) 8 (omega arith) in ap (λ (x : ℕ). x - 1) e

whole_byte : (m i : ℕ) → i / 8 < m → is_set (replicate m 255) i ≡ true
unfolding is_set
whole_byte m i h =
    let byte : slice_index (replicate m 255) (i / 8) ≡ 255 = get_or-replicate m (i / 8) 255 0 h in
    let bit : bit_at 255 (i % 8) ≡ 1 = bit_at_ones 8 (i % 8) (omega arith) in
    rw (byte, bit) refl

past_bytes : (m i : ℕ) → m ≤ i / 8 → is_set (replicate m 255) i ≡ false
unfolding is_set
past_bytes m i h =
    let byte : slice_index (replicate m 255) (i / 8) ≡ 0 = get_or_past (replicate m 255) (i / 8) 0 (omega (arith, length-replicate {A = ℕ} m 255)) in
    rw (byte, bit_at-zero (i % 8)) refl

pub is_set-all : (n m i : ℕ) → m ≡ div_ceil n 8 → n % 8 ≤ 0 → is_set (replicate m 255) i ≡ ltb i n
is_set-all n m i e whole =
    elim (cases_lt (i / 8) m) [
      | inl inside ↦ whole_byte m i inside ∙ sym (lt-ltb i n (omega arith))
      | inr past ↦ past_bytes m i past ∙ sym (le-ltb i n (omega arith))
    ]

pub is_set-all_but_rest : (n m i : ℕ) → m ≡ div_ceil n 8 → 0 < n % 8 → is_set (set (replicate m 255) (n / 8) (last_byte n)) i ≡ ltb i n
is_set-all_but_rest n m i e some =
    let xs : List ℕ = replicate m 255 in
    let long : n / 8 < length xs = omega (arith, length-replicate {A = ℕ} m 255) in
    elim (cases_eq (i / 8) (n / 8)) [
      | inl same ↦
          let byte = is_set-set_same xs (n / 8) (last_byte n) i same long in
          elim (cases_lt (i % 8) (n % 8)) [
            | inl low ↦
                let bit : bit_at (last_byte n) (i % 8) ≡ 1 = rw (last_byte_is n) (bit_at_ones (n % 8) (i % 8) low) in
                rw (byte, bit, lt-ltb i n (omega arith)) refl
            | inr high ↦
                let bit : bit_at (last_byte n) (i % 8) ≡ 0 = rw (last_byte_is n) (bit_at_ones_above (n % 8) (i % 8) high) in
                rw (byte, bit, le-ltb i n (omega arith)) refl
          ]
      | inr other ↦
          let byte = is_set-set_other xs (n / 8) (last_byte n) i other in
          elim (cases_lt (i / 8) m) [
            | inl inside ↦
                let below : i / 8 < n / 8 = omega arith in
                byte ∙ whole_byte m i inside ∙ sym (lt-ltb i n (omega arith))
            | inr past ↦ byte ∙ past_bytes m i past ∙ sym (le-ltb i n (omega arith))
          ]
    ]

-- ---- the bits of a sector
same_bit : (xs ys : List ℕ) (i j : ℕ) → slice_index xs (i / 8) ≡ slice_index ys (j / 8) → i % 8 ≡ j % 8 → is_set xs i ≡ is_set ys j
unfolding is_set
same_bit xs ys i j byte bit = rw (byte, bit) refl

pub is_set-later_sector : (bytes : List ℕ) (i j : ℕ) → 0 < i → j < 4096 → is_set (padded 512 (drop (512 * i - 256) bytes)) j ≡ is_set bytes (4096 * i + j - 2048)
is_set-later_sector bytes i j later h =
    let place : 512 * i - 256 + j / 8 ≡ (4096 * i + j - 2048) / 8 = omega arith in
    let byte = slice_index-padded 512 (drop (512 * i - 256) bytes) (j / 8) (omega arith) ∙ get_or-drop (512 * i - 256) bytes (j / 8) 0 in
    same_bit (padded 512 (drop (512 * i - 256) bytes)) bytes j (4096 * i + j - 2048) (rw place at byte) (omega arith)

pub is_set-first_sector : (front bytes : List ℕ) (j : ℕ) → length front ≡ 256 → 2048 ≤ j → j < 4096 → is_set (front ++ padded 256 bytes) j ≡ is_set bytes (j - 2048)
is_set-first_sector front bytes j long from h =
    let place : j / 8 - 256 ≡ (j - 2048) / 8 = omega arith in
    let byte = get_or-append_right front (padded 256 bytes) 256 (j / 8) 0 long (omega arith) ∙ slice_index-padded 256 bytes (j / 8 - 256) (omega arith) in
    same_bit (front ++ padded 256 bytes) bytes j (j - 2048) (rw place at byte) (omega arith)
