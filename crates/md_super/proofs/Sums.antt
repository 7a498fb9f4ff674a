-- The sum of the words, one word at a time.
use Rattle.std.proofs.Common.{◌≡◌, ℕ, ◌+◌, ◌*◌, ◌^◌, ◌<◌, ◌≤◌, List, sum, map, refl, ap, ◌∙◌, arith}
use Rattle.std.specs.List.{range_with_len}
use Rattle.std.proofs.lemmas.List.Sums.{sum_by_push}
use Rattle.std.proofs.lemmas.List.FromFn.{map-range_with_len_more}
use Rattle.std.proofs.lemmas.Bool.{ne_eqb, eq-eqb}
use Rattle.md_format.specs.Fields.{number_at}
use Rattle.md_super.specs.Checksum.{word_at, word_sum, word_count, half_word, folded, checksum_of}

pub word_sum-more : (bytes : List ℕ) (k : ℕ) → word_sum bytes (k + 1) ≡ word_sum bytes k + word_at bytes k
unfolding word_sum
word_sum-more bytes k =
    ap sum (map-range_with_len_more (word_at bytes) 0 k k (omega arith)) ∙ sum_by_push (λ x. x) (map (word_at bytes) (range_with_len 0 k)) (word_at bytes k)

pub word_sum-none : (bytes : List ℕ) → word_sum bytes 0 ≡ 0
unfolding word_sum
word_sum-none bytes = refl

-- the first k words are added up
pub record SummedTo (bytes : List ℕ) (k total : ℕ) : Type 0 where
  pub total_is : total ≡ word_sum bytes k
  pub small : total ≤ k * 0xffffffff

pub word_at-other : (bytes : List ℕ) (k : ℕ) → (k ≡ 54 → ⊥) → word_at bytes k ≡ number_at 4 (4 * k) bytes
word_at-other bytes k h = rw (ne_eqb k 54 h) refl

pub word_at-own : (bytes : List ℕ) (k : ℕ) → k ≡ 54 → word_at bytes k ≡ 0
word_at-own bytes k h = rw (eq-eqb k 54 h) refl

pub SummedTo-other : (bytes : List ℕ) (k total word : ℕ) → SummedTo bytes k total → (k ≡ 54 → ⊥) → word ≡ number_at 4 (4 * k) bytes → word < 2 ^ 32 → SummedTo bytes (k + 1) (total + word)
SummedTo-other bytes k total word s other e fits = record {
  total_is = rw (word_sum-more bytes k, word_at-other bytes k other, ← s.total_is, ← e) refl;
  small = omega (arith, s.small);
}

pub SummedTo-own : (bytes : List ℕ) (k total : ℕ) → SummedTo bytes k total → k ≡ 54 → SummedTo bytes (k + 1) total
SummedTo-own bytes k total s own = record {
  total_is = rw (word_sum-more bytes k, word_at-own bytes k own, ← s.total_is) (omega arith);
  small = omega (arith, s.small);
}

pub folded_total : (bytes : List ℕ) (max_dev total : ℕ) → total ≡ word_sum bytes (word_count max_dev) + half_word bytes max_dev → folded total ≡ checksum_of bytes max_dev
unfolding checksum_of
folded_total bytes max_dev total e = ap folded e
