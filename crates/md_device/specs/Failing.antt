-- The calls of a device that failed.
use Rattle.std.specs.Prelude.{ℕ, ◌+◌, ◌*◌, ◌<◌, ◌≤◌, ◌≡◌, Bool, true, false, List, ◌++◌, ◌∷◌, [], Result, MatchResult, refl}
use Rattle.std.specs.List.{All}
use Rattle.std.specs.Coded.{Coded, code_by, coded×, coded_ℕ, coded_bool}
use Rattle.md_device.specs.declared.fault_list.Fault.{Fault}

-- a read of so many bytes from a sector on, and a write
abbrev pub failed_read : ℕ → ℕ → Fault
failed_read sector size = record { writes = false; sector = sector; size = size }

abbrev pub failed_write : ℕ → ℕ → Fault
failed_write sector size = record { writes = true; sector = sector; size = size }

-- A call that failed is stored as the tuple of its fields.
abbrev pub fault_code : Coded Fault
fault_code = code_by (Bool × (ℕ × ℕ)) (coded× coded_bool (coded× coded_ℕ coded_ℕ)) (λ f. (f.writes, (f.sector, f.size))) (λ p. record { writes = p.0; sector = p.1.0; size = p.1.1 }) (λ _. refl)

-- Of the calls that failed, these alone are new, and each has P.
pub record EachNewFault (past now : List Fault) (P : Fault → Type 0) : Type 0 where
  pub more : List Fault
  pub all : now ≡ past ++ more
  pub each : All P more

-- Among the calls that failed since is one that has P.
pub record SomeNewFault (past now : List Fault) (P : Fault → Type 0) : Type 0 where
  pub earlier : List Fault
  pub fault : Fault
  pub later : List Fault
  pub all : now ≡ past ++ (earlier ++ fault ∷ later)
  pub is : P fault

-- What a call adds: nothing where it answers `Ok`, and itself where it answers `Err`.
abbrev pub AddsItself : {T E : Type 0} → Result T E → Fault → List Fault → List Fault → Type 0
AddsItself result call past now = MatchResult result (λ _. now ≡ past) (λ _. now ≡ past ++ call ∷ [])

-- of the calls that failed, reads alone are new, or writes alone
abbrev pub OnlyReadsFailed : List Fault → List Fault → Type 0
OnlyReadsFailed past now = EachNewFault past now (λ f. f.writes ≡ false)

abbrev pub OnlyWritesFailed : List Fault → List Fault → Type 0
OnlyWritesFailed past now = EachNewFault past now (λ f. f.writes ≡ true)

-- a read of nothing but some of the n bytes from a sector on
pub record IsReadWithin (sector n : ℕ) (f : Fault) : Type 0 where
  pub reads : f.writes ≡ false
  pub some : 0 < f.size
  pub from : sector ≤ f.sector
  pub to : 512 * f.sector + f.size ≤ 512 * sector + n
