-- Reads that failed, and their places.
use Rattle.std.proofs.Common.{◌≡◌, ◌∙◌, ◌≤◌, ◌+◌, ◌++◌, ◌∷◌, [], ℕ, List, length, ap, arith, false, refl}
use Rattle.std.proofs.lemmas.List.{length-append}
use Rattle.md_device.specs.declared.device.Device.{Ghosts}
use Rattle.md_device.specs.declared.fault_list.Fault.{Fault}
use Rattle.md_device.specs.Failing.{EachNewFault, OnlyReadsFailed, failed_read}
use Rattle.md_device.proofs.Failing.{fails_just, fails_since, fails_weaker}
use Rattle.md_members.specs.Reading.{CallFails, IsReadOf}

-- a fault more
longer : (past now : List Fault) (call : Fault) → now ≡ past ++ call ∷ [] → length now ≡ length past + 1
longer past now call all = ap length all ∙ length-append past (call ∷ [])

module _ {D : Type 0} (g : Ghosts D) (counts : (d : D) → g.failures d ≡ length (g.faults d)) where
  -- a read failed, and nothing else was done
  pub read_fails : (sector n : ℕ) (old new : D) → g.faults new ≡ g.faults old ++ failed_read sector n ∷ [] → CallFails g old new (IsReadOf sector n)
  read_fails sector n old new all = (
    omega (arith, counts old, counts new, longer (g.faults old) (g.faults new) (failed_read sector n) all),
    fails_just (g.faults old) (g.faults new) (failed_read sector n) (IsReadOf sector n) all refl,
  )

module _ {D : Type 0} (g : Ghosts D) where
  -- other reads were before
  pub fails_later : (old mid new : D) (P Q : Fault → Type 0) → g.failures old ≤ g.failures mid → EachNewFault (g.faults old) (g.faults mid) Q → CallFails g mid new P → CallFails g old new P
  fails_later old mid new P Q counted before fails = (
    omega (arith, counted, fails.0),
    fails_since (g.faults old) (g.faults mid) (g.faults new) P Q before fails.1,
  )

-- such reads alone are reads alone
pub reads_alone : (past now : List Fault) (sector n : ℕ) → EachNewFault past now (IsReadOf sector n) → OnlyReadsFailed past now
reads_alone past now sector n = fails_weaker past now (IsReadOf sector n) (λ f. f.writes ≡ false) (λ f is. ap (λ (x : Fault). x.writes) is)
