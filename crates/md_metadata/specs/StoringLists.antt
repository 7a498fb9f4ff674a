-- The list of a member in sync is stored: its log, the first sector of its bitmap, and its superblock, which tells of the list.
use Rattle.std.specs.Prelude.{◌≡◌, ℕ, Bool, false, List, [], ◌∷◌, set}
use Rattle.md_bitmap.specs.Marks.{Bitmap, is_set}
use Rattle.md_kept_members.specs.Enrolling.{logged_superblock}
use Rattle.md_kept_members.specs.View.{MemberView}
use Rattle.md_model.specs.Events.{Event, MemberPart}
use Rattle.md_state.specs.Members.{IsInSync}
use Rattle.md_state.specs.View.{ArrayView, MirrorView}
use Rattle.md_array.specs.Events.{listed_on}
use Rattle.md_array.specs.Steps.StoreLog.{StoresLog}
use Rattle.md_metadata.specs.declared.fault.PartFault.{PartFault}
use Rattle.md_metadata.specs.declared.fault.PartFault.TheVariants.{Halted, MemberFailed}
use Rattle.md_metadata.specs.Going.{GoesOn, StepsBy, only_others}
use Rattle.md_metadata.specs.Storing.{HaltsAtWrite, LosesStoring}

-- ---- which events
-- member k's log is stored, the first sector of its bitmap, or its superblock; done or failed
abbrev pub IsListing : ℕ → Event → Type 0
IsListing k (Event.StoreLog j listed) = j ≡ k
IsListing k (Event.WriteFails j MemberPart.Log) = j ≡ k
IsListing k (Event.StoreMarks j b) = (j ≡ k) × (b ≡ 0)
IsListing k (Event.WriteFails j (MemberPart.BitmapSector b)) = (j ≡ k) × (b ≡ 0)
IsListing k (Event.Record j) = j ≡ k
IsListing k (Event.WriteFails j MemberPart.Superblock) = j ≡ k
IsListing k e = ⊥

-- The log, the first sector of the bitmap and the superblock are stored, in this order.
abbrev pub list_events : ℕ → (ℕ → Bool) → List Event
list_events k listed = Event.StoreLog k listed ∷ Event.StoreMarks k 0 ∷ Event.Record k ∷ []

-- ---- what is kept of the member
-- A member's superblock tells of its list and is not due. What was stored of its marks as they are in memory
-- is so still.
pub record HasStoredList (marks : Bitmap) (m n : MemberView) : Type 0 where
  pub same : n ≡ record m { superblock = logged_superblock m.bad m.superblock; stored = n.stored; due = false; stored_offset = m.superblock.recovery_offset }
  pub marked : (c : ℕ) → is_set m.stored.bytes c ≡ is_set marks.bytes c → is_set n.stored.bytes c ≡ is_set marks.bytes c

-- Member k, which is in sync, has its list stored, and nothing else changes.
pub record StoresListOf (k : ℕ) (old new : ArrayView) : Type 0 where
  pub before : MemberView
  pub in_sync : IsInSync old k before
  pub after : MemberView
  pub has : HasStoredList old.marks before after
  pub array : new ≡ record old { members = set old.members k after }

-- ---- all of it
pub record StoresList (k : ℕ) (old new : MirrorView) : Type 0 where
  pub goes : GoesOn only_others only_others (IsListing k) old new
  pub listed : ℕ → Bool
  pub list : goes.events ≡ list_events k listed
  pub array : StoresListOf k old.array new.array

-- A write by which the list was to be stored failed: the member is faulty, or the mirror is halted.
abbrev pub ListFails : ℕ → MirrorView → MirrorView → PartFault → Type 0
ListFails k old new Halted = HaltsAtWrite (IsListing k) k old new
ListFails k old new (MemberFailed j) = (j ≡ k) × LosesStoring (IsListing k) k old new

-- ---- the log alone
pub record LogsOn (k : ℕ) (old new : MirrorView) : Type 0 where
  pub step : StepsBy only_others only_others (IsListing k) (Event.StoreLog k (listed_on new k)) old new
  pub gives : StoresLog k old new
