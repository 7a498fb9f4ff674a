-- Sets of runs that are built run by run.
use Rattle.std.proofs.Common.{◌≡◌, ℕ, zero, suc, ◌+◌, ◌-◌, ◌^◌, ◌<◌, ◌≤◌, ◌⊎◌, ◌↔◌, ◌∷◌, [], List, length, get_or, drop, min, inl, inr, sym, subst, arith}
use Rattle.std.proofs.lemmas.List.{drop_more}
use Rattle.md_badblocks.specs.declared.run.Run.{Run}
use Rattle.md_badblocks.specs.Runs.{IsBad, IsCanonical, LiesIn, RisesFrom}

ends_below : (low : ℕ) (runs : List Run) → RisesFrom low runs → (k : ℕ) (d : Run) → k < length runs → (get_or runs k d).start + (get_or runs k d).len ≤ 2 ^ 54
ends_below low [] rising k d below = absurd (omega arith)
ends_below low (x ∷ xs) rising zero d below = rising.2
ends_below low (x ∷ xs) rising (suc k) d below = ends_below (x.start + x.len + 1) xs rising.3 k d (omega arith)

-- what is in the whole set is in the set that is built, or in the runs that are still to come
abbrev pub IsSplit : List Run → ℕ → List Run → ℕ → Type 0
IsSplit all offset listed k = (s : ℕ) → IsBad all (offset + s) ↔ (IsBad listed s ⊎ IsBad (drop k all) (offset + s))

pub split_first : (all : List Run) (offset : ℕ) → IsSplit all offset [] 0
split_first all offset s = (λ b. inr b, λ either. elim either [ inl none ↦ absurd none | inr b ↦ b ])

pub split_last : (all : List Run) (offset : ℕ) (listed : List Run) (k : ℕ) → drop k all ≡ [] → IsSplit all offset listed k → (s : ℕ) → IsBad listed s ↔ IsBad all (offset + s)
split_last all offset listed k past split s = (
  λ b. (split s).1 (inl b),
  λ b. elim ((split s).0 b) [ inl there ↦ there | inr rest ↦ absurd (subst (λ xs. IsBad xs (offset + s)) past rest) ],
)

-- the run from this start to this end, seen from the offset on
module _ (x : Run) (offset start end : ℕ) (ends : x.start + x.len ≤ 2 ^ 54) (starts : start ≡ x.start - offset) (stops : end ≡ min (x.start + x.len) (2 ^ 64 - 1) - offset) (s : ℕ) where
  pub moved : LiesIn (offset + s) x → (start ≤ s) × (s < start + (end - start)) × (s < 2 ^ 54)
  moved lies = let a = lies.0 in let b = lies.1 in (omega arith, omega arith, omega arith)

  pub moved_back : start ≤ s → s < start + (end - start) → LiesIn (offset + s) x
  moved_back a b = (omega arith, omega arith)

pub split_next : (all : List Run) (offset : ℕ) (old new : List Run) (k : ℕ) (x : Run) (start end : ℕ) → IsCanonical all → k < length all → get_or all k x ≡ x
    → start ≡ x.start - offset → end ≡ min (x.start + x.len) (2 ^ 64 - 1) - offset
    → ((s : ℕ) → IsBad new s ↔ (IsBad old s ⊎ ((start ≤ s) × (s < start + (end - start)) × (s < 2 ^ 54)))) → IsSplit all offset old k → IsSplit all offset new (k + 1)
split_next all offset old new k x start end canonical below is starts stops adds split s =
    let rest : drop k all ≡ x ∷ drop (k + 1) all = subst (λ y. drop k all ≡ y ∷ drop (k + 1) all) is (drop_more all k x below) in
    let bound : x.start + x.len ≤ 2 ^ 54 = subst (λ (y : Run). y.start + y.len ≤ 2 ^ 54) is (ends_below 0 all canonical k x below) in (
      λ b. elim ((split s).0 b) [
        | inl there ↦ inl ((adds s).1 (inl there))
        | inr later ↦ elim (subst (λ xs. IsBad xs (offset + s)) rest later) [
          | inl here ↦ inl ((adds s).1 (inr (moved x offset start end bound starts stops s here)))
          | inr more ↦ inr more
        ]
      ],
      λ either. elim either [
        | inl there ↦ elim ((adds s).0 there) [
          | inl was ↦ (split s).1 (inl was)
          | inr here ↦ (split s).1 (inr (subst (λ xs. IsBad xs (offset + s)) (sym rest) (inl (moved_back x offset start end bound starts stops s here.0 here.1))))
        ]
        | inr more ↦ (split s).1 (inr (subst (λ xs. IsBad xs (offset + s)) (sym rest) (inr more)))
      ],
    )
