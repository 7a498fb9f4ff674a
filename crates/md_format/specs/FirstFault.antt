-- Refusals in a stated order. `Stands f` says that a fault is there, and `place f` where in the order it is looked for.
use Rattle.std.specs.Prelude.{ℕ, ◌<◌, Bool, List, [], ◌∷◌, Option, Some, None, if◌then◌else◌}

-- no fault before the n-th place stands
abbrev pub NoneBefore : {F : Type 0} → (F → Type 0) → (F → ℕ) → ℕ → Type 0
NoneBefore Stands place n = (f : _) → place f < n → Stands f → ⊥

-- the fault stands, and none that is looked for before it
pub record IsFirst {F : Type 0} (Stands : F → Type 0) (place : F → ℕ) (f : F) : Type 0 where
  pub stands : Stands f
  pub first : NoneBefore Stands place (place f)

-- a test, and the fault that is found where it does not pass
pub record Check (F : Type 0) : Type 0 where
  pub passes : Bool
  pub fault : F

abbrev pub check : {F : Type 0} → Bool → F → Check F
check passes fault = record { passes = passes; fault = fault }

-- the fault of the first test that does not pass
abbrev pub first_fault : {F : Type 0} → List (Check F) → Option F
first_fault [] = None
first_fault (c ∷ rest) = if c.passes then first_fault rest else Some c.fault
