-- Devices that stay as honest as they were, over several calls.
use Rattle.std.proofs.Common.{◌≡◌, ◌≤◌, ◌++◌, ◌∷◌, [], List, true, false, Result, Ok, Err, OnErr, refl, ◌∙◌, arith}
use Rattle.std.specs.Prelude.{⊤}
use Rattle.md_device.specs.declared.device.Device.{Ghosts}
use Rattle.md_device.specs.declared.fault_list.Fault.{Fault}
use Rattle.md_device.specs.Failing.{AddsItself, EachNewFault, OnlyReadsFailed}
use Rattle.md_device.proofs.Failing.{fails_call, fails_none, fails_then, fails_weaker}
use Rattle.md_members.specs.DeviceWrites.Writes.{IsKeptByWrites}
use Rattle.md_state.specs.DeviceChanges.{StaysHonest}
use Rattle.md_state.specs.View.{Disk, disk_of}

abbrev Any : Fault → Type 0
Any f = ⊤

pub stays_same : (d : Disk) → StaysHonest d d
stays_same d = record { honest = refl; counted = omega arith; grown = fails_none d.faults (λ _. ⊤) }

pub stays_then : (a b c : Disk) → StaysHonest a b → StaysHonest b c → StaysHonest a c
stays_then a b c first second = record {
  honest = second.honest ∙ first.honest;
  counted = (let m = first.counted in let n = second.counted in omega arith);
  grown = fails_then a.faults b.faults c.faults (λ _. ⊤) first.grown second.grown;
}

-- whatever is known of the calls that failed
pub stays_grown : (was new : Disk) (P : Fault → Type 0) → new.honest ≡ was.honest → was.failures ≤ new.failures → EachNewFault was.faults new.faults P → StaysHonest was new
stays_grown was new P honest counted grown = record { honest = honest; counted = counted; grown = fails_weaker was.faults new.faults P Any (λ f is. tt) grown }

module _ {D : Type 0} (g : Ghosts D) (was new : D) where
  -- a device that was only read
  pub stays_read : g.honest new ≡ g.honest was → g.failures was ≤ g.failures new → OnlyReadsFailed (g.faults was) (g.faults new) → StaysHonest (disk_of g was) (disk_of g new)
  stays_read honest counted grown = record { honest = honest; counted = counted; grown = fails_weaker (g.faults was) (g.faults new) (λ f. f.writes ≡ false) Any (λ f is. tt) grown }

  -- one that was only written
  pub stays_written : IsKeptByWrites g was new → StaysHonest (disk_of g was) (disk_of g new)
  stays_written kept = record { honest = kept.honest_kept; counted = kept.counted; grown = fails_weaker (g.faults was) (g.faults new) (λ f. f.writes ≡ true) Any (λ f is. tt) kept.grown }

  -- one of which one call was made
  pub stays_called : {T E : Type 0} (result : Result T E) (call : Fault) → g.honest new ≡ g.honest was → g.failures was ≤ g.failures new → AddsItself result call (g.faults was) (g.faults new) → StaysHonest (disk_of g was) (disk_of g new)
  stays_called result call honest counted adds = record { honest = honest; counted = counted; grown = fails_call result call (g.faults was) (g.faults new) Any adds tt }

-- what is said of a call that failed, and that it was added
pub told_there : {T E : Type 0} (r : Result T E) (A : Type 0) (call : Fault) (past now : List Fault) → OnErr r A → AddsItself r call past now → OnErr r (A × (now ≡ past ++ call ∷ []))
told_there (Ok x) A call past now h adds = h
told_there (Err e) A call past now h adds = (h, adds)
