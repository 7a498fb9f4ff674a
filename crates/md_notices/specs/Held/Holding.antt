-- What a device holds, as far as it is told: of bytes that are usual signs of it, and of which this project's own is a superblock
-- that it takes.
use Rattle.std.specs.Prelude.{◌≡◌, ◌≢◌, ◌⊎◌, ℕ, ◌+◌, ◌<◌, ◌≤◌, Bool, true, false, List, [], ◌∷◌, length, Some, slice_get}
use Rattle.std.specs.List.{filter}
use Rattle.md_members.specs.declared.fault.MemberFault.{MemberFault}
use Rattle.md_members.specs.declared.fault.MemberFault.TheVariants.{NoMemory, ReadFault}
use Rattle.md_super.specs.declared.fault.SuperFault.TheVariants as super_fault
use Rattle.md_members.specs.Reading.{CallFails, ReadsSuper, ReadsSuperFault, RefusesSuper}
use Rattle.md_notices.specs.declared.signatures.signature.Signature.{Signature}
use Rattle.md_notices.specs.Signatures.Bearing.{bears_signature}
use Rattle.md_notices.specs.Signatures.Finding.{signatures}
use Rattle.md_notices.specs.Signatures.Reading.{IsOnlySearched}
use Rattle.md_state.specs.View.{Disk, of_disks}
use Rattle.md_notices.specs.declared.held.held.Held.{Held}
use Rattle.md_notices.specs.declared.held.held.Held.TheVariants.{Nothing, Unseen, Unread, Member, Signed}

-- What a device holds is told before the device is overwritten. Of one that was not looked at nobody knows
-- what it is, and that is told too: so what can't be told of it is no way to overwrite it untold.
abbrev pub needs_telling : Held → Bool
needs_telling Nothing = false
needs_telling Unseen = true
needs_telling Unread = true
needs_telling (Member v) = true
needs_telling (Signed s) = true

-- nobody looked at it, or it could not be read
abbrev pub is_unseen : Held → Bool
is_unseen Nothing = false
is_unseen Unseen = true
is_unseen Unread = true
is_unseen (Member v) = false
is_unseen (Signed s) = false

-- no superblock was read on the device, and not because there was no memory: where a read failed, that of sectors 8 to 15 did
pub record HasNoSuper (d e : Disk) : Type 0 where
  pub fault : MemberFault
  pub no_memory : fault ≢ NoMemory
  pub refused : RefusesSuper d.content d.honest (CallFails of_disks d e) fault

-- the signatures that the device bears, in their order
abbrev pub borne : Disk → List Signature
borne d = filter (bears_signature d.content) signatures

-- The device bears the signature and, where no call failed, none before that.
pub record BearsFirst (d e : Disk) (s : Signature) : Type 0 where
  pub bears_it : d.honest ≡ true → bears_signature d.content s ≡ true
  pub first : d.honest ≡ true → e.failures ≡ d.failures → (rest : List Signature) × (borne d ≡ s ∷ rest)

-- No signature is found: each that the device bears is missed, and costs a failed call of its own.
abbrev pub MissesEach : Disk → Disk → Type 0
MissesEach d e = d.honest ≡ true → length (borne d) + d.failures ≤ e.failures

-- no superblock is taken on the device, and it was read
pub record LacksSuper (d e : Disk) : Type 0 where
  pub fault : MemberFault
  pub no_memory : fault ≢ NoMemory
  pub read : fault ≢ ReadFault
  pub refused : RefusesSuper d.content d.honest (CallFails of_disks d e) fault

-- What is told of the signatures of a device is so, where it is honest: it is the first, or there is none. Where a read of it failed,
-- also one before, it is not told that there is none.
abbrev pub HoldsSigned : Bool → Disk → Disk → Held → Type 0
HoldsSigned failed d e Nothing = (failed ≡ false) × (d.honest ≡ true → borne d ≡ [])
HoldsSigned failed d e Unseen = ⊥
HoldsSigned failed d e Unread =
    ((failed ≡ true) ⊎ (d.honest ≡ true → d.failures < e.failures)) × MissesEach d e
HoldsSigned failed d e (Member v) = ⊥
HoldsSigned failed d e (Signed s) = BearsFirst d e s

-- What is told of a device, before a look at it and after that: its superblock, or where none can be read,
-- its first signature. That it holds nothing which is known is told only where each read of it was done; that
-- it could not be read, only where no signature is found. That there was no memory to look is told only where
-- the device was not used, or where no fault stands in its superblock but that there was no memory for that. Of a
-- device that is not honest it is told of some bytes that were read.
abbrev pub IsToldOfDevice : Disk → Disk → Held → Type 0
IsToldOfDevice d e Nothing = LacksSuper d e × (d.honest ≡ true → borne d ≡ [])
IsToldOfDevice d e Unseen = (e ≡ d) ⊎ ReadsSuperFault d.content d.honest super_fault.NoMemory
IsToldOfDevice d e Unread = HasNoSuper d e × (d.honest ≡ true → d.failures < e.failures) × MissesEach d e
IsToldOfDevice d e (Member v) = ReadsSuper d.content d.honest v
IsToldOfDevice d e (Signed s) = HasNoSuper d e × BearsFirst d e s

-- a device was looked at: it was only read, and this is what it holds
pub record LooksAtOne (d e : Disk) (held : Held) : Type 0 where
  pub only_read : IsOnlySearched of_disks d e
  pub holds : IsToldOfDevice d e held

-- the device in this place was looked at
abbrev pub LooksAtPlace : List Disk → List Disk → List Held → ℕ → Type 0
LooksAtPlace before after held k =
    (d e : Disk) (h : Held) → slice_get before k ≡ Some d → slice_get after k ≡ Some e
    → slice_get held k ≡ Some h → LooksAtOne d e h

-- each of the devices was
pub record LooksAtEach (before after : List Disk) (held : List Held) : Type 0 where
  pub as_many : length after ≡ length before
  pub all : length held ≡ length before
  pub each : (k : ℕ) → k < length before → LooksAtPlace before after held k
