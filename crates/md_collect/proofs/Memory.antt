-- The memory of reports.
use Rattle.std.proofs.Common.{◌≡◌, ℕ, suc, ◌<◌, ◌≤◌, ◌∷◌, List, length, Option, Some, None, IfSome, IfNone, IsSome, get_or, remove, refl, arith, subst, sym, vec_capacity}
use Rattle.std.specs.List.{All}
use Rattle.std.specs.Option.{unwrap_or}
use Rattle.std_alloc.specs.declared.vec.Vec.{Vec}
use Rattle.md_collect.proofs.WorkerLemmas.FirstOut.{head_is}

-- the first element of a list that is lent
pub first_lent : {B X : Type 0} (now : B → X) (xs : List X) (o : Option B) → IfSome o (λ x. now x ≡ get_or xs 0 (now x)) → (IsSome o → 0 < length xs) → IfSome o (λ x. (rest : List X) × (xs ≡ now x ∷ rest))
first_lent now xs None at some = tt
first_lent now xs (Some x) at some = (remove xs 0, head_is xs (now x) (some refl) at)

-- what holds of each but the first
pub all_but_first : {X : Type 0} (P : X → Type 0) (x : X) (all rest : List X) → all ≡ x ∷ rest → All P all → All P rest
all_but_first P x all rest is each i d below = subst (λ xs. P (get_or xs (suc i) d)) is (each (suc i) d (subst (λ xs. suc i < length xs) (sym is) (omega (arith, below))))

-- the memory of a report, and another list where it has none
pub memory_enough : {X Z : Type 0} (o : Option (Vec X Z)) (other : Vec X Z) (room longest : ℕ) → IfSome o (λ memory. vec_capacity memory ≡ room) → IfNone o (room ≡ 0) → longest ≤ room → longest ≤ vec_capacity (unwrap_or o other)
memory_enough (Some memory) other room longest is none enough = omega (arith, is, enough)
memory_enough None other room longest is none enough = omega (arith, none, enough)
