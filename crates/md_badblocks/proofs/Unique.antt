-- A set has one rising list of maximal runs.
use Rattle.std.proofs.Common.{◌≡◌, ℕ, ◌+◌, ◌≤◌, inl, inr, List, [], ◌∷◌, refl, ap, ◌∙◌, arith}
use Rattle.std.proofs.lemmas.Bool.{cases_lt}
use Rattle.md_badblocks.specs.declared.run.Run.{Run}
use Rattle.md_badblocks.specs.Runs.{LiesIn, IsBad, RisesFrom}
use Rattle.md_badblocks.specs.Log.{IsReadAs}
use Rattle.md_badblocks.proofs.Rising.{bad_from}

first_in : (low : ℕ) (r : Run) (rs : List Run) → RisesFrom low (r ∷ rs) → IsBad (r ∷ rs) r.start
first_in low r rs h = inl (omega arith, omega arith)

first_from : (low : ℕ) (r : Run) (rs : List Run) (s : ℕ) → RisesFrom low (r ∷ rs) → IsBad (r ∷ rs) s → r.start ≤ s
first_from low r rs s h bad = bad_from r.start (r ∷ rs) s (omega arith, h.1, h.2, h.3) bad

-- the sector after the first run is in none
end_out : (low : ℕ) (r : Run) (rs : List Run) → RisesFrom low (r ∷ rs) → IsBad (r ∷ rs) (r.start + r.len) → ⊥
end_out low r rs h bad =
    elim bad [
      | inl here ↦ absurd (omega arith)
      | inr later ↦ let from = bad_from (r.start + r.len + 1) rs (r.start + r.len) h.3 later in absurd (omega arith)
    ]

end_within : (la lb : ℕ) (r q : Run) (a b : List Run) → RisesFrom la (r ∷ a) → RisesFrom lb (q ∷ b) → r.start ≡ q.start → ((s : ℕ) → IsBad (q ∷ b) s → IsBad (r ∷ a) s) → q.start + q.len ≤ r.start + r.len
end_within la lb r q a b ha hb same to =
    elim (cases_lt (r.start + r.len) (q.start + q.len)) [
      | inl past ↦
          let lies : LiesIn (r.start + r.len) q = (omega arith, past) in
          absurd (end_out la r a ha (to (r.start + r.len) (inl lies)))
      | inr within ↦ within
    ]

-- the sectors after the first run are those of the other runs
later_only : (la lb : ℕ) (r q : Run) (a b : List Run) → RisesFrom la (r ∷ a) → RisesFrom lb (q ∷ b) → r.start + r.len ≡ q.start + q.len → ((s : ℕ) → IsBad (r ∷ a) s → IsBad (q ∷ b) s) → (s : ℕ) → IsBad a s → IsBad b s
later_only la lb r q a b ha hb same to s bad =
    let from = bad_from (r.start + r.len + 1) a s ha.3 bad in
    elim (to s (inr bad)) [ inl here ↦ absurd (omega arith) | inr later ↦ later ]

run_same : (r q : Run) → r.start ≡ q.start → r.len ≡ q.len → r ≡ q
run_same r q start len =
    let first : r ≡ record { start = q.start; len = r.len } = ap (λ x. record { start = x; len = r.len }) start in
    let then : record { start = q.start; len = r.len } ≡ q = ap (λ x. record { start = q.start; len = x }) len in
    first ∙ then

pub same_runs : (la lb : ℕ) (a b : List Run) → RisesFrom la a → RisesFrom lb b → ((s : ℕ) → IsBad a s → IsBad b s) → ((s : ℕ) → IsBad b s → IsBad a s) → a ≡ b
same_runs la lb [] [] ha hb to back = refl
same_runs la lb [] (q ∷ b) ha hb to back = absurd (back q.start (first_in lb q b hb))
same_runs la lb (r ∷ a) [] ha hb to back = absurd (to r.start (first_in la r a ha))
same_runs la lb (r ∷ a) (q ∷ b) ha hb to back =
    let below = first_from lb q b r.start hb (to r.start (first_in la r a ha)) in
    let above = first_from la r a q.start ha (back q.start (first_in lb q b hb)) in
    let start : r.start ≡ q.start = omega arith in
    let start' : q.start ≡ r.start = omega arith in
    let e0 = end_within la lb r q a b ha hb start back in
    let e1 = end_within lb la q r b a hb ha start' to in
    let end : r.start + r.len ≡ q.start + q.len = omega arith in
    let end' : q.start + q.len ≡ r.start + r.len = omega arith in
    let tail = same_runs (r.start + r.len + 1) (q.start + q.len + 1) a b ha.3 hb.3 (later_only la lb r q a b ha hb end to) (later_only lb la q r b a hb ha end' back) in
    ap (λ x. x ∷ a) (run_same r q start (omega arith)) ∙ ap (λ xs. q ∷ xs) tail

-- a log is read as one set
pub read_alone : (shift : ℕ) (bytes : List ℕ) (a b : List Run) → IsReadAs shift bytes a → IsReadAs shift bytes b → a ≡ b
read_alone shift bytes a b ra rb =
    same_runs 0 0 a b ra.canonical rb.canonical (λ s bad. (rb.named s).1 ((ra.named s).0 bad)) (λ s bad. (ra.named s).1 ((rb.named s).0 bad))
