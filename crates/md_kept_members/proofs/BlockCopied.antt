-- The marks of a bitmap's sector are copied one by one.
use Rattle.std.proofs.Common.{◌≡◌, ◌∙◌, ℕ, ◌+◌, ◌-◌, ◌*◌, ◌≤◌, ◌==◌, Bool, false, ◌&&◌, cond, eqb, max, min, nat_le, nat_lt, ap, sym, refl, arith, inl, inr}
use Rattle.std.proofs.lemmas.Bool.Decides.{eqb_tells, nat_tests}
use Rattle.md_model.specs.Sectors.{block_of}
use Rattle.md_bitmap.specs.Marks.{Bitmap, is_set}
use Rattle.md_kept_members.specs.StoredMarks.{HasStored}

-- those from first on and below n were copied
pub record IsCopiedTo (marks old : Bitmap) (first n : ℕ) (now : Bitmap) : Type 0 where
  pub chunks : now.chunks ≡ old.chunks
  pub bits : (c : ℕ) → is_set now.bytes c ≡ cond (nat_le first c && nat_lt c n) (is_set marks.bytes c) (is_set old.bytes c)

none_between : (first c : ℕ) → (nat_le first c && nat_lt c first) ≡ false
none_between first c = grind (arith, nat_tests)

pub copied_none : (marks old : Bitmap) (first : ℕ) → IsCopiedTo marks old first first old
copied_none marks old first = record { chunks = refl; bits = λ c. sym (ap (λ b. cond b (is_set marks.bytes c) (is_set old.bytes c)) (none_between first c)) }

one_more : (first n c : ℕ) → first ≤ n → (x y : Bool) → cond (c == n) x (cond (nat_le first c && nat_lt c n) x y) ≡ cond (nat_le first c && nat_lt c (n + 1)) x y
one_more first n c from x y = grind (arith, nat_tests)

at_test : (f : ℕ → Bool) (c n : ℕ) (y : Bool) → cond (c == n) (f n) y ≡ cond (c == n) (f c) y
at_test f c n y = elim (eqb_tells c n) [
  | inl same ↦ ap (λ k. cond (c == n) (f k) y) (sym same.1)
  | inr other ↦ ap (λ b. cond b (f n) y) other.0 ∙ sym (ap (λ b. cond b (f c) y) other.0)
]

pub copied_more : (marks old now new : Bitmap) (first n : ℕ) → first ≤ n → IsCopiedTo marks old first n now → new.chunks ≡ now.chunks
    → ((c : ℕ) → is_set new.bytes c ≡ cond (c == n) (is_set marks.bytes n) (is_set now.bytes c)) → IsCopiedTo marks old first (n + 1) new
copied_more marks old now new first n from to chunks bits = record {
  chunks = chunks ∙ to.chunks;
  bits = λ c. bits c ∙ at_test (is_set marks.bytes) c n (is_set now.bytes c) ∙ ap (cond (c == n) (is_set marks.bytes c)) (to.bits c) ∙ one_more first n c from (is_set marks.bytes c) (is_set old.bytes c);
}

in_block : (block chunks first n c : ℕ) → first ≡ 4096 * block - 2048 → n ≤ max first (min (4096 * block + 2048) chunks) → min (4096 * block + 2048) chunks ≤ n
    → (nat_le first c && nat_lt c n) ≡ (eqb (block_of c) block && nat_lt c chunks)
in_block block chunks first n c is last end = grind (arith, nat_tests)

pub copied_all : (marks old now : Bitmap) (block first n : ℕ) → first ≡ 4096 * block - 2048 → n ≤ max first (min (4096 * block + 2048) old.chunks) → min (4096 * block + 2048) old.chunks ≤ n
    → IsCopiedTo marks old first n now → HasStored marks old block now
copied_all marks old now block first n is last end to = record {
  chunks = to.chunks;
  bits = λ c. to.bits c ∙ ap (λ b. cond b (is_set marks.bytes c) (is_set old.bytes c)) (in_block block old.chunks first n c is last end);
}
