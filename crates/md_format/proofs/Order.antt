-- A chain of tests finds the fault that comes first.
use Rattle.std.proofs.Common.{◌≡◌, ◌≢◌, ℕ, ◌+◌, ◌<◌, Bool, true, false, cond, eqb, List, [], ◌∷◌, length, Option, Some, None, refl, sym, subst, ◌∙◌, inl, inr, arith}
use Rattle.std.proofs.lemmas.Bool.{cases_lt, eqb-true, eqb-false}
use Rattle.md_format.specs.FirstFault.{NoneBefore, IsFirst, Check, first_fault}

-- a test decides whether the fault at the n-th place stands
pub record Decides {F : Type 0} (Stands : F → Type 0) (place : F → ℕ) (n : ℕ) (c : Check F) : Type 0 where
  pub placed : place c.fault ≡ n
  pub sound : c.passes ≡ false → Stands c.fault
  pub complete : (f : F) → place f ≡ n → c.passes ≡ true → Stands f → ⊥

-- so does each of a list, from the n-th place on
pub AllDecide : {F : Type 0} → (F → Type 0) → (F → ℕ) → ℕ → List (Check F) → Type 0
AllDecide Stands place n [] = Unit {0}
AllDecide Stands place n (c ∷ rest) = Decides Stands place n c × AllDecide Stands place (n + 1) rest

pub decide_none : {F : Type 0} (Stands : F → Type 0) (place : F → ℕ) (n : ℕ) → AllDecide Stands place n []
unfolding AllDecide
decide_none Stands place n = tt

pub decide_more : {F : Type 0} (Stands : F → Type 0) (place : F → ℕ) (n : ℕ) (c : Check F) (rest : List (Check F)) → Decides Stands place n c → AllDecide Stands place (n + 1) rest → AllDecide Stands place n (c ∷ rest)
unfolding AllDecide
decide_more Stands place n c rest first others = (first, others)

-- what the answer of a chain from the n-th place on says
pub Says : {F : Type 0} → (F → Type 0) → (F → ℕ) → ℕ → Option F → Type 0
Says Stands place n None = NoneBefore Stands place n
Says Stands place n (Some f) = IsFirst Stands place f

step : {F : Type 0} (Stands : F → Type 0) (place : F → ℕ) (n : ℕ) (c : Check F) → Decides Stands place n c → NoneBefore Stands place n → c.passes ≡ true → NoneBefore Stands place (n + 1)
step Stands place n c decides before passes f lt s =
    elim (cases_lt (place f) n) [
      | inl less ↦ before f less s
      | inr more ↦ let at : place f ≡ n = omega arith in decides.complete f at passes s
    ]

chain : {F : Type 0} (Stands : F → Type 0) (place : F → ℕ) (n : ℕ) (checks : List (Check F)) → AllDecide Stands place n checks → NoneBefore Stands place n → Says Stands place (n + length checks) (first_fault checks)
unfolding Says AllDecide
chain Stands place n [] decide before = let same : n + 0 ≡ n = omega arith in rw same before
chain Stands place n (c ∷ rest) decide before =
    let more : n + 1 + length rest ≡ n + length (c ∷ rest) = omega arith in
    let P : Bool → Type 0 = λ b. c.passes ≡ b → Says Stands place (n + length (c ∷ rest)) (cond b (first_fault rest) (Some c.fault)) in
    let both : (b : Bool) → P b = λ b. elim b as P [
      | true ↦ λ passes. rw (← more) (chain Stands place (n + 1) rest decide.1 (step Stands place n c decide.0 before passes))
      | false ↦ λ fails. record {
        stands = decide.0.sound fails;
        first = rw decide.0.placed before;
      }
    ] in
    both c.passes refl

-- the chain from the first place on, where places count from 1
pub fault_found : {F : Type 0} (Stands : F → Type 0) (place : F → ℕ) (checks : List (Check F)) (o : Option F) (f : F) → ((g : F) → 0 < place g) → AllDecide Stands place 1 checks → o ≡ first_fault checks → o ≡ Some f → IsFirst Stands place f
unfolding Says
fault_found Stands place checks o f positive decide e some =
    let P : Option _ → Type 0 = λ x. Says Stands place (1 + length checks) x in
    subst P (sym e ∙ some) (chain Stands place 1 checks decide (λ g lt s. let h = positive g in absurd (omega arith)))

pub none_found : {F : Type 0} (Stands : F → Type 0) (place : F → ℕ) (checks : List (Check F)) (o : Option F) → ((g : F) → 0 < place g) → AllDecide Stands place 1 checks → o ≡ first_fault checks → o ≡ None → NoneBefore Stands place (1 + length checks)
unfolding Says
none_found Stands place checks o positive decide e none =
    let P : Option _ → Type 0 = λ x. Says Stands place (1 + length checks) x in
    subst P (sym e ∙ none) (chain Stands place 1 checks decide (λ g lt s. let h = positive g in absurd (omega arith)))

-- two numbers that do not differ are equal
pub same_unless_other : (a b : ℕ) → (a ≢ b → ⊥) → a ≡ b
same_unless_other a b h =
    let P : Bool → Type 0 = λ t. eqb a b ≡ t → a ≡ b in
    let both : (t : Bool) → P t = λ t. elim t as P [
      | true ↦ λ e. eqb-true a b e
      | false ↦ λ e. absurd (h (eqb-false a b e))
    ] in
    both (eqb a b) refl
