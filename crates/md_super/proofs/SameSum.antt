-- The checksum does not depend on what stands in its place.
use Rattle.std.proofs.Common.{◌≡◌, ℕ, ◌+◌, ◌-◌, ◌*◌, ◌≤◌, ◌%◌, ◌==◌, List, ◌++◌, length, map, sum, cond, sym, ap, ap₂, ◌∙◌, inl, inr, arith}
use Rattle.std.specs.List.{range_with_len}
use Rattle.std.proofs.Math.Path.{fun_ext}
use Rattle.std.proofs.lemmas.Bool.{cases_lt}
use Rattle.std.proofs.lemmas.List.{length-append}
use Rattle.md_format.specs.Fields.{number_at}
use Rattle.md_format.proofs.Written.{number_at-behind, number_at-within}
use Rattle.md_super.specs.Checksum.{word_at, word_sum, word_count, folded, checksum_of}
use Rattle.md_super.proofs.Sums.{word_at-other, word_at-own}

module _ (front back a b : List ℕ) (front_long : length front ≡ 216) (a_long : length a ≡ 4) (b_long : length b ≡ 4) where
  same_before : (n i : ℕ) → i + n ≤ 216 → number_at n i (front ++ a ++ back) ≡ number_at n i (front ++ b ++ back)
  same_before n i h =
      let within : (c : List ℕ) → length c ≡ 4 → number_at n i (front ++ c ++ back) ≡ number_at n i front = λ c long.
      number_at-within n i (front ++ c) back (omega (arith, length-append front c, front_long, h)) ∙ number_at-within n i front c (omega (arith, front_long, h)) in
      within a a_long ∙ sym (within b b_long)

  same_behind : (n j : ℕ) → number_at n (220 + j) (front ++ a ++ back) ≡ number_at n (220 + j) (front ++ b ++ back)
  same_behind n j =
      let behind : (c : List ℕ) → length c ≡ 4 → number_at n (220 + j) (front ++ c ++ back) ≡ number_at n j back = λ c long.
      number_at-behind n (220 + j) j (front ++ c) back (omega (arith, length-append front c, front_long, long)) in
      behind a a_long ∙ sym (behind b b_long)

  same_past : (n i : ℕ) → 220 ≤ i → number_at n i (front ++ a ++ back) ≡ number_at n i (front ++ b ++ back)
  same_past n i h =
      let e : i ≡ 220 + (i - 220) = omega (arith, h) in
      rw e (same_behind n (i - 220))

  same_word : (k : ℕ) → word_at (front ++ a ++ back) k ≡ word_at (front ++ b ++ back) k
  same_word k =
      let other : (k ≡ 54 → ⊥) → number_at 4 (4 * k) (front ++ a ++ back) ≡ number_at 4 (4 * k) (front ++ b ++ back) → word_at (front ++ a ++ back) k ≡ word_at (front ++ b ++ back) k = λ h e.
      word_at-other (front ++ a ++ back) k h ∙ e ∙ sym (word_at-other (front ++ b ++ back) k h) in
      elim (cases_lt k 54) [
        | inl less ↦ other (λ e. omega (arith, less, e)) (same_before 4 (4 * k) (omega (arith, less)))
        | inr least ↦ elim (cases_lt 54 k) [
          | inl more ↦ other (λ e. omega (arith, more, e)) (same_past 4 (4 * k) (omega (arith, more)))
          | inr most ↦
              let own : k ≡ 54 = omega (arith, least, most) in
              word_at-own (front ++ a ++ back) k own ∙ sym (word_at-own (front ++ b ++ back) k own)
        ]
      ]

  pub same_checksum : (max_dev : ℕ) → checksum_of (front ++ a ++ back) max_dev ≡ checksum_of (front ++ b ++ back) max_dev
  unfolding checksum_of word_sum
  same_checksum max_dev =
      let words = ap (λ (f : ℕ → ℕ). sum (map f (range_with_len 0 (word_count max_dev)))) (fun_ext same_word) in
      let half = same_past 2 (256 + 2 * (max_dev - 1)) (omega arith) in
      ap₂ (λ (x y : ℕ). folded (x + y)) words (ap (λ (x : ℕ). cond (max_dev % 2 == 1) x 0) half)
