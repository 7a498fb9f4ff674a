-- One write to one of a mirror's devices.
use Rattle.std.specs.Prelude.{◌≡◌, ◌≢◌, ℕ, ◌*◌, ◌<◌, true, List, [], ◌∷◌, ◌++◌, length, slice_get, Some}
use Rattle.md_device.specs.Splice.{SameOutside}
use Rattle.md_device.specs.Device.{written}
use Rattle.md_device.specs.Failing.{failed_write}
use Rattle.md_members.specs.DeviceWrites.Writes.{IsAnyIn, IsCutShort, Write}
use Rattle.md_state.specs.View.{Disk}
use Rattle.md_state.specs.DeviceChanges.{LeavesOn, StaysHonest}

-- of device k before and after
abbrev pub AtDevice : ℕ → List Disk → List Disk → (Disk → Disk → Type 0) → Type 0
AtDevice k before after Related = (d e : Disk) → slice_get before k ≡ Some d → slice_get after k ≡ Some e → Related d e

-- No device but k was used, and at most the write's range was changed there.
pub record IsTried (k : ℕ) (w : Write) (before after : List Disk) : Type 0 where
  pub as_many : length after ≡ length before
  pub others : (j : ℕ) → j ≢ k → slice_get after j ≡ slice_get before j
  pub stays : AtDevice k before after StaysHonest
  pub outside : AtDevice k before after (λ d e. SameOutside (512 * w.sector) (length w.bytes) d.content e.content)

-- The write was done. Within it a crash leaves device k before it, after it, or with some of its sectors written.
pub record IsWritten (k : ℕ) (w : Write) (before after : List Disk) : Type 0 where
  pub tried : IsTried k w before after
  pub done : AtDevice k before after (λ d e. d.honest ≡ true → e.content ≡ written d.content w.sector w.bytes)
  pub within : AtDevice k before after (λ d e. d.honest ≡ true → LeavesOn (IsCutShort d.content (w ∷ [])) d e)

-- Of the device's calls this write has failed, and no other: so no read of it that failed is called a failed write.
abbrev pub HasThisFailed : Write → Disk → Disk → Type 0
HasThisFailed w d e = e.faults ≡ d.faults ++ failed_write w.sector (length w.bytes) ∷ []

-- The write failed: any bytes may stand in its range, and a crash within it leaves so.
pub record IsFailed (k : ℕ) (w : Write) (before after : List Disk) : Type 0 where
  pub tried : IsTried k w before after
  pub failed : AtDevice k before after (λ d e. d.honest ≡ true → d.failures < e.failures)
  pub there : AtDevice k before after (HasThisFailed w)
  pub within : AtDevice k before after (λ d e. d.honest ≡ true → LeavesOn (IsAnyIn w d.content) d e)
