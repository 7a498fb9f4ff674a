-- A request begins: it is entered, and its chunks are marked in memory.
use Rattle.std.specs.Prelude.{◌≡◌, ◌≢◌, ℕ, ◌+◌, ◌-◌, ◌*◌, ◌/◌, ◌<◌, ◌≤◌, ◌^◌, Bool, true, false, not, cond, ◌==◌, ◌&&◌, ◌||◌, nat_le, List, [], ◌∷◌, ◌++◌, length, map, Some, None}
use Rattle.md_inflight.specs.Inflight.{lookup}
use Rattle.md_bitmap.specs.Marks.{Bitmap, is_set}
use Rattle.md_inflight.specs.Requests.Pending.{PendingView}
use Rattle.md_faults.specs.declared.step_fault.BeginFault.{BeginFault}
use Rattle.md_faults.specs.declared.step_fault.BeginFault.TheVariants.{Halted, OutOfRange, Overlaps, NotResynced, EventsFull, NumbersSpent, NoMemory}
use Rattle.md_kept_members.specs.TakingBack.{lowered_member}
use Rattle.md_state.specs.View.{ArrayView, MirrorView}
use Rattle.md_state.specs.Members.{is_degraded, clean_offset}
use Rattle.md_kept_members.specs.Membership.Numbers.{has_absent_role}
use Rattle.md_state.specs.Steps.Rise.{risen, HasSpentEvents}
use Rattle.md_state.specs.Trying.{Refuses, RefusesHalted}
use Rattle.md_state.specs.Steps.ClearIdle.{first_in_flight}

-- The count rises at a request: the array is clean, or a role below raid_disks is that of an absent device.
abbrev pub has_to_rise : ArrayView → Bool
has_to_rise a = a.shared.resync_offset == clean_offset || has_absent_role a.shared a.members

-- the request has a sector, and lies within the array
pub record IsInRange (a : ArrayView) (sector sectors : ℕ) : Type 0 where
  pub some : 0 < sectors
  pub inside : sector + sectors ≤ a.chunks.size

-- chunk c has one of the sectors
abbrev pub has_sector_of : ArrayView → ℕ → ℕ → ℕ → Bool
has_sector_of a sector sectors c = nat_le (sector / a.chunks.sectors) c && nat_le c (((sector + sectors) - 1) / a.chunks.sectors)

-- when a request of these sectors may begin
pub record MayBeginAt (a : ArrayView) (sector sectors : ℕ) : Type 0 where
  pub running : a.halted ≡ false
  pub range : IsInRange a sector sectors
  pub apart : first_in_flight a sector sectors ≡ None
  pub resynced : a.resynced ≡ true
  pub rises : has_to_rise a ≡ true → HasSpentEvents a → ⊥

-- the marks with those of the request
pub record HasMarked (a : ArrayView) (sector sectors : ℕ) (new : Bitmap) : Type 0 where
  pub chunks : new.chunks ≡ a.marks.chunks
  pub bits : (c : ℕ) → is_set new.bytes c ≡ (is_set a.marks.bytes c || has_sector_of a sector sectors c)

-- the array after the rise, where there is one
abbrev pub array_after_rise : ArrayView → ArrayView
array_after_rise a = cond (has_to_rise a) (risen a (not (is_degraded a))) a

-- where the request's first chunk begins
abbrev pub first_sector : ArrayView → ℕ → ℕ
first_sector a sector = (sector / a.chunks.sectors) * a.chunks.sectors

-- Data are about to change from this sector on: no recovering member's superblock is to say any more that it has them.
abbrev pub with_offsets_lowered : ℕ → ArrayView → ArrayView
with_offsets_lowered sector a = record a { members = map (lowered_member sector) a.members }

-- The array is clean no more.
abbrev pub active_offset : ℕ → ℕ
active_offset offset = cond (offset == clean_offset) 0 offset

abbrev pub with_request : ArrayView → ℕ → ℕ → Bitmap → ArrayView
with_request a sector sectors marks =
    record a {
      shared = record a.shared { resync_offset = active_offset a.shared.resync_offset };
      marks = marks;
      requests = record a.requests { entries = a.requests.entries ++ (a.requests.next, record { start = sector; sectors = sectors }) ∷ []; next = a.requests.next + 1 };
    }

pub record Begins (sector : ℕ) (bytes : List ℕ) (old new : MirrorView) (p : PendingView) : Type 0 where
  pub may : MayBeginAt old.array sector (length bytes / 512)
  pub fresh : lookup old.array.requests.entries old.array.requests.next ≡ None
  pub disks : new.disks ≡ old.disks
  pub marked : HasMarked old.array sector (length bytes / 512) new.array.marks
  pub array : new.array ≡ with_request (with_offsets_lowered (first_sector old.array sector) (array_after_rise old.array)) sector (length bytes / 512) new.array.marks
  pub pending : p ≡ record { ticket = record { name = old.array.requests.name; number = old.array.requests.next }; sector = sector; bytes = bytes; written = [] }

-- A request has no sector, or some past the end.
pub record IsOutOfRange (a : ArrayView) (sector sectors : ℕ) : Type 0 where
  pub running : a.halted ≡ false
  pub out : IsInRange a sector sectors → ⊥

-- request `number` has one of its sectors, and is the first that has
pub record IsOverlapping (a : ArrayView) (sector sectors number : ℕ) : Type 0 where
  pub running : a.halted ≡ false
  pub range : IsInRange a sector sectors
  pub overlaps : first_in_flight a sector sectors ≡ Some number

-- members in sync may differ
pub record NeedsResync (a : ArrayView) (sector sectors : ℕ) : Type 0 where
  pub running : a.halted ≡ false
  pub range : IsInRange a sector sectors
  pub apart : first_in_flight a sector sectors ≡ None
  pub not_yet : a.resynced ≡ false

-- the count has to rise, and can't
pub record IsFullOfEvents (a : ArrayView) (sector sectors : ℕ) : Type 0 where
  pub running : a.halted ≡ false
  pub range : IsInRange a sector sectors
  pub apart : first_in_flight a sector sectors ≡ None
  pub resynced : a.resynced ≡ true
  pub rises : has_to_rise a ≡ true
  pub spent : HasSpentEvents a

-- no number is left
pub record HasSpentNumbers (a : ArrayView) (sector sectors : ℕ) : Type 0 where
  pub may : MayBeginAt a sector sectors
  pub spent : a.requests.next ≡ 2 ^ 64

-- Nothing else refuses it. That memory was short is not said.
pub record LacksMemory (a : ArrayView) (sector sectors : ℕ) : Type 0 where
  pub may : MayBeginAt a sector sectors
  pub unspent : a.requests.next ≢ 2 ^ 64

abbrev pub RefusesBegin : ℕ → ℕ → MirrorView → MirrorView → BeginFault → Type 0
RefusesBegin sector sectors old new Halted = RefusesHalted old new
RefusesBegin sector sectors old new OutOfRange = Refuses old new (IsOutOfRange old.array sector sectors)
RefusesBegin sector sectors old new (Overlaps number) = Refuses old new (IsOverlapping old.array sector sectors number)
RefusesBegin sector sectors old new NotResynced = Refuses old new (NeedsResync old.array sector sectors)
RefusesBegin sector sectors old new EventsFull = Refuses old new (IsFullOfEvents old.array sector sectors)
RefusesBegin sector sectors old new NumbersSpent = Refuses old new (HasSpentNumbers old.array sector sectors)
RefusesBegin sector sectors old new NoMemory = Refuses old new (LacksMemory old.array sector sectors)
