-- A log read entry by entry.
use Rattle.std.proofs.Common.{◌≡◌, ◌≢◌, ℕ, suc, ◌+◌, ◌-◌, ◌*◌, ◌/◌, ◌^◌, ◌<◌, ◌≤◌, ◌⊎◌, ◌↔◌, inl, inr, cond, eqb, true, false, List, [], ◌∷◌, length, map, sym, subst, ap, ◌∙◌, arith}
use Rattle.std.specs.List.{range_with_len, before_first}
use Rattle.std.proofs.lemmas.Bool.{eq-eqb, ne_eqb}
use Rattle.md_format.specs.Fields.{number_at}
use Rattle.md_badblocks.specs.declared.run.Run.{Run}
use Rattle.md_badblocks.specs.Runs.{IsBad, IsCanonical}
use Rattle.md_badblocks.specs.Log.{all_ones, run_of, named_runs, IsReadAs}
use Rattle.md_badblocks.proofs.Written.{before_first-cons}

-- what the n entries from place i on name
abbrev pub named_from : ℕ → List ℕ → ℕ → ℕ → List Run
named_from shift bytes i n =
    map (run_of shift) (before_first (λ e. eqb e all_ones) (map (λ k. number_at 8 (8 * k) bytes) (range_with_len i n)))

-- the sectors read so far and those that are still named are all that are named
pub record IsReadTo (shift : ℕ) (bytes : List ℕ) (place : ℕ) (runs : List Run) : Type 0 where
  pub canonical : IsCanonical runs
  pub named : (s : ℕ) → (IsBad runs s ⊎ (IsBad (named_from shift bytes place (length bytes / 8 - place)) s × (s < 2 ^ 54))) ↔ (IsBad (named_runs shift bytes) s × (s < 2 ^ 54))

pub read_none : (shift : ℕ) (bytes : List ℕ) → IsReadTo shift bytes 0 []
read_none shift bytes =
    let all : length bytes / 8 - 0 ≡ length bytes / 8 = omega arith in
    record {
      canonical = tt;
      named = λ s. rw all (λ bad. elim bad [ inl none ↦ absurd none | inr named ↦ named ], λ named. inr named);
    }

named_from-next : (shift : ℕ) (bytes : List ℕ) (i n : ℕ) → i < n → named_from shift bytes i (n - i) ≡ map (run_of shift) (cond (eqb (number_at 8 (8 * i) bytes) all_ones) [] (number_at 8 (8 * i) bytes ∷ before_first (λ e. eqb e all_ones) (map (λ k. number_at 8 (8 * k) bytes) (range_with_len (i + 1) (n - (i + 1))))))
named_from-next shift bytes i n lt =
    let more : n - i ≡ suc (n - (i + 1)) = omega arith in
    ap (λ m. named_from shift bytes i m) more
    ∙ ap (λ es. map (run_of shift) es) (before_first-cons (λ e. eqb e all_ones) (number_at 8 (8 * i) bytes) (map (λ k. number_at 8 (8 * k) bytes) (range_with_len (i + 1) (n - (i + 1)))))

-- nothing is named after an entry of all ones, nor after the last
done : (shift : ℕ) (bytes : List ℕ) (place : ℕ) (runs : List Run) → named_from shift bytes place (length bytes / 8 - place) ≡ [] → IsReadTo shift bytes place runs → IsReadAs shift bytes runs
done shift bytes place runs none read =
    record {
      canonical = read.canonical;
      named = λ s. (
        λ bad. (read.named s).0 (inl bad),
        λ named. elim ((read.named s).1 named) [
          | inl bad ↦ bad
          | inr later ↦ let B : List Run → Type 0 = λ xs. IsBad xs s in absurd (subst B none later.0)
        ],
      );
    }

pub read_ended : (shift : ℕ) (bytes : List ℕ) (place : ℕ) (runs : List Run) → place < length bytes / 8 → number_at 8 (8 * place) bytes ≡ all_ones → IsReadTo shift bytes place runs → IsReadAs shift bytes runs
read_ended shift bytes place runs lt ones read =
    let test : eqb (number_at 8 (8 * place) bytes) all_ones ≡ true = eq-eqb (number_at 8 (8 * place) bytes) all_ones ones in
    done shift bytes place runs (named_from-next shift bytes place (length bytes / 8) lt ∙ ap (λ b. map (run_of shift) (cond b [] (number_at 8 (8 * place) bytes ∷ before_first (λ e. eqb e all_ones) (map (λ k. number_at 8 (8 * k) bytes) (range_with_len (place + 1) (length bytes / 8 - (place + 1))))))) test) read

pub read_all : (shift : ℕ) (bytes : List ℕ) (place : ℕ) (runs : List Run) → length bytes / 8 ≤ place → IsReadTo shift bytes place runs → IsReadAs shift bytes runs
read_all shift bytes place runs le read =
    let none : length bytes / 8 - place ≡ 0 = omega arith in
    done shift bytes place runs (ap (λ n. named_from shift bytes place n) none) read

pub read_more : (shift : ℕ) (bytes : List ℕ) (place : ℕ) (entry : ℕ) (run : Run) (old new : List Run) → place < length bytes / 8 → entry ≡ number_at 8 (8 * place) bytes → entry ≢ all_ones → run ≡ run_of shift entry → IsCanonical new → ((s : ℕ) → IsBad new s ↔ (IsBad old s ⊎ ((run.start ≤ s) × (s < run.start + run.len) × (s < 2 ^ 54)))) → IsReadTo shift bytes place old → IsReadTo shift bytes (place + 1) new
read_more shift bytes place entry run old new lt is_entry other is_run canonical joined read =
    let test : eqb (number_at 8 (8 * place) bytes) all_ones ≡ false = ne_eqb (number_at 8 (8 * place) bytes) all_ones (λ ones. other (is_entry ∙ ones)) in
    let next : named_from shift bytes place (length bytes / 8 - place) ≡ run ∷ named_from shift bytes (place + 1) (length bytes / 8 - (place + 1)) = named_from-next shift bytes place (length bytes / 8) lt
    ∙ ap (λ b. map (run_of shift) (cond b [] (number_at 8 (8 * place) bytes ∷ before_first (λ e. eqb e all_ones) (map (λ k. number_at 8 (8 * k) bytes) (range_with_len (place + 1) (length bytes / 8 - (place + 1))))))) test
    ∙ ap (λ r. r ∷ named_from shift bytes (place + 1) (length bytes / 8 - (place + 1))) (sym (is_run ∙ ap (λ e. run_of shift e) is_entry)) in
    record {
      canonical = canonical;
      named = λ s. let B : List Run → Type 0 = λ xs. IsBad xs s in (
        λ bad. (read.named s).0 (elim bad [
          | inl now ↦
              elim ((joined s).0 now) [ inl was ↦ inl was | inr range ↦ inr (subst B (sym next) (inl (range.0, range.1)), range.2) ]
          | inr later ↦ inr (subst B (sym next) (inr later.0), later.1)
        ]),
        λ named. elim ((read.named s).1 named) [
          | inl was ↦ inl ((joined s).1 (inl was))
          | inr later ↦
              elim (subst B next later.0) [
                | inl here ↦ inl ((joined s).1 (inr (here.0, here.1, later.1)))
                | inr behind ↦ inr (behind, later.1)
              ]
        ],
      );
    }
