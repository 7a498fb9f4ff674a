-- Devices before and after a call.
use Rattle.std.specs.Prelude.{◌≡◌, ⊤, ℕ, ◌≤◌, true, List, length, slice_get, Some}
use Rattle.md_device.specs.Crashes.{LeavesMore}
use Rattle.md_device.specs.Failing.{EachNewFault}
use Rattle.md_state.specs.View.{Disk}

-- A device is what it was.
abbrev pub IsUnchanged : Disk → Disk → Type 0
IsUnchanged old new = new.content ≡ old.content

-- Between two moments of a device a crash leaves what has P.
abbrev pub LeavesOn : (List ℕ → Type 0) → Disk → Disk → Type 0
LeavesOn P d e = LeavesMore d.crashes e.crashes P

-- Between two moments of an honest device a crash leaves what the device was at the first.
abbrev pub LeavesAsWas : Disk → Disk → Type 0
LeavesAsWas d e = d.honest ≡ true → LeavesOn (λ left. left ≡ d.content) d e

-- nothing was written on it, and a crash leaves it as it was
abbrev pub IsLeftAlone : Disk → Disk → Type 0
IsLeftAlone d e = IsUnchanged d e × LeavesAsWas d e

-- A device stays honest or not, and its failures are counted: none is forgotten.
pub record StaysHonest (old new : Disk) : Type 0 where
  pub honest : new.honest ≡ old.honest
  pub counted : old.failures ≤ new.failures
  pub grown : EachNewFault old.faults new.faults (λ _. ⊤)

-- of each device before and after
abbrev pub EachPair : (ℕ → Disk → Disk → Type 0) → List Disk → List Disk → Type 0
EachPair Related before after = (k : ℕ) (d e : Disk) → slice_get before k ≡ Some d → slice_get after k ≡ Some e → Related k d e

-- as many devices, each as honest as it was
pub record AreSame (before after : List Disk) : Type 0 where
  pub as_many : length after ≡ length before
  pub honest : EachPair (λ _. StaysHonest) before after

-- nothing was written, and a crash leaves each as it was
pub record IsUntouched (before after : List Disk) : Type 0 where
  pub same : AreSame before after
  pub content : EachPair (λ _. IsUnchanged) before after
  pub within : EachPair (λ _. LeavesAsWas) before after
