-- A list that changed in a range was changed in the range's first part, and then in the rest: so was one that was written.
use Rattle.std.proofs.Common.{◌≡◌, ℕ, ◌+◌, ◌≤◌, List, ◌++◌, length, take, drop, refl, sym, ap, ◌∙◌, arith, drop-drop}
use Rattle.std.proofs.lemmas.List.{drop_at, length-append, length-drop, length-take-le, take-take, take_all, take_at}
use Rattle.md_device.specs.Splice.{SameOutside, part, spliced}
use Rattle.md_device.proofs.Splices.{part_before}
use Rattle.md_device.proofs.Leaving.{three_same}
use Rattle.md_array.proofs.StepLemmas.WriteMember.{part-spliced_within}

module _ (at a b : ℕ) (old new : List ℕ) (same : SameOutside at (a + b) old new) (low : at + a ≤ length old) where
  -- the first part is new, and the rest is old
  abbrev pub half : List ℕ
  half = take (at + a) new ++ drop (at + a) old

  long_new : length (take (at + a) new) ≡ at + a
  long_new = length-take-le (at + a) new (let size = same.size in omega arith)

  half_after : drop (at + a) half ≡ drop (at + a) old
  half_after = drop_at (take (at + a) new) (drop (at + a) old) (at + a) long_new

  half_before : take (at + a) half ≡ take (at + a) new
  half_before = take_at (take (at + a) new) (drop (at + a) old) (at + a) long_new

  long_half : length half ≡ length old
  long_half = length-append (take (at + a) new) (drop (at + a) old) ∙ (let l = long_new in let r = length-drop (at + a) old in omega arith)

  pub first_half : SameOutside at a old half
  first_half = record {
    size = long_half;
    before = sym (take-take at (at + a) half (omega arith)) ∙ ap (take at) half_before ∙ take-take at (at + a) new (omega arith) ∙ same.before;
    after = half_after;
  }

  together : (at + a) + b ≡ at + (a + b)
  together = omega arith

  pub second_half : SameOutside (at + a) b half new
  second_half = record {
    size = same.size ∙ sym long_half;
    before = sym half_before;
    after = ap (λ (n : ℕ). drop n new) together ∙ same.after ∙ ap (λ (n : ℕ). drop n old) (sym together)
        ∙ sym (drop-drop b (at + a) old) ∙ ap (drop b) (sym half_after) ∙ drop-drop b (at + a) half;
  }

  -- where bytes were written in the range
  module _ (bytes : List ℕ) (long : length bytes ≡ a + b) (room : at + (a + b) ≤ length old) (done : new ≡ spliced old at bytes) where
    new_part : (i n : ℕ) → i + n ≤ a + b → part new (at + i) n ≡ part bytes i n
    new_part i n inside = ap (λ (xs : List ℕ). part xs (at + i) n) done ∙ part-spliced_within old at bytes i n (omega arith) (omega arith)

    long_first : length (take a bytes) ≡ a
    long_first = length-take-le a bytes (omega arith)

    long_second : length (drop a bytes) ≡ b
    long_second = let l = length-drop a bytes in omega arith

    pub first_written : half ≡ spliced old at (take a bytes)
    unfolding spliced part
    first_written =
        let given : part half at a ≡ take a bytes = sym (part_before second_half at a (omega arith)) ∙ ap (λ (n : ℕ). part new n a) (sym no_more) ∙ new_part 0 a (omega arith) ∙ from_start in
        three_same at a old half first_half (take a bytes) given ∙ ap (λ (n : ℕ). take at old ++ (take a bytes ++ drop (at + n) old)) (sym long_first)
      where
        no_more : at + 0 ≡ at
        no_more = omega arith

        from_start : part bytes 0 a ≡ take a bytes
        from_start = refl

    pub second_written : new ≡ spliced half (at + a) (drop a bytes)
    unfolding spliced part
    second_written =
        three_same (at + a) b half new second_half (drop a bytes) (new_part a b (omega arith) ∙ to_end)
        ∙ ap (λ (n : ℕ). take (at + a) half ++ (drop a bytes ++ drop ((at + a) + n) half)) (sym long_second)
      where
        to_end : part bytes a b ≡ drop a bytes
        to_end = take_all b (drop a bytes) (let l = long_second in omega arith)
