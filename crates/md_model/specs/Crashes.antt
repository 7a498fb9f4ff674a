-- A crash, and what the next opening may find (this project's own).
use Rattle.std.specs.Prelude.{◌≡◌, ◌≢◌, ℕ, ◌+◌, ◌<◌, ◌≤◌, ◌⊎◌, Bool, true, false, Some, None}
use Rattle.md_model.specs.Sectors.{Geometry, chunk_of}
use Rattle.md_model.specs.States.{is_in_sync, is_recovering}
use Rattle.md_model.specs.Devices.{Super, Stored, is_marked, Covered}
use Rattle.md_model.specs.Worlds.{Request, touches, World, IsInSync}
use Rattle.md_model.specs.Assembly.{state_by, IsFound}
use Rattle.md_model.specs.Steps.{MayWrite}
use Rattle.md_model.specs.Runs.{History}

-- a write of data that the crash broke off: its sectors may hold anything
pub record IsTorn (g : Geometry) (w : World) (cut : ℕ → Stored) : Type 0 where
  pub number : ℕ
  pub request : Request
  pub on : ℕ
  pub let_through : MayWrite g w number request on
  pub others : (j : ℕ) → j ≢ on → cut j ≡ w.stored j
  pub rest : cut on ≡ record (w.stored on) { content = (cut on).content }
  pub outside : (s : ℕ) → touches request s ≡ false → (cut on).content s ≡ (w.stored on).content s

-- What a crash leaves. A write of data to a member that is being rebuilt, or of its bitmap or log, leaves what some `Fill` or `Prepare`
-- does, however far it came: the crash is after such an event. Every other write is on its device or is not, so that the crash is before
-- or after its event.
abbrev pub MayStandAtCrash : Geometry → World → (ℕ → Stored) → Type 0
MayStandAtCrash g w cut = (cut ≡ w.stored) ⊎ IsTorn g w cut

-- Openings within which a crash came may have stored all marks on it, or some sectors of them under a bitmap that is not accepted.
pub record IsHalfOpened (g : Geometry) (cut left : Stored) : Type 0 where
  pub super : left.super ≡ cut.super
  pub content : left.content ≡ cut.content
  pub listed : left.listed ≡ cut.listed
  pub marks : (s : ℕ) → s < g.size → is_marked left (chunk_of g s) ≡ false → is_marked cut (chunk_of g s) ≡ false

-- The devices of which the next opening is made. Any of them may be missing; and one whose superblock was spoiled, and not stored since,
-- has to be: an opening would go by what the mirror does not keep (`NeededGuards`, `OpensSpoiled`).
abbrev pub IsLeftByCrash : Geometry → History → (ℕ → Stored) → Type 0
IsLeftByCrash g h left =
    (cut : ℕ → Stored) × MayStandAtCrash g h.now cut × ((k : ℕ) → IsHalfOpened g (cut k) (left k) ⊎ ((left k).super ≡ None))
    × ((k : ℕ) → h.spoiled k ≡ true → (left k).super ≡ None)

-- The superblock that it goes by is fit: it has recorded the last failure, and is newer than the one of the opening before, or
-- as new with the same roles.
pub record IsFit (opened first : Super) (failed_at : ℕ) : Type 0 where
  pub recorded : failed_at ≤ first.events
  pub newer : (opened.events < first.events) ⊎ ((first.events ≡ opened.events) × ((d : ℕ) → first.role d ≡ opened.role d))

-- a device that the opening left out, whose events were not above the array's there, and whose number no member had since
pub record IsAbsent (opened : Super) (stays_away : ℕ → Bool) (own : Super) : Type 0 where
  pub no_newer : own.events ≤ opened.events
  pub away : stays_away own.number ≡ true

-- The freshest superblock of these devices, and perhaps of others that the opening before left out: it is of one of these, or is
-- no newer than that opening.
pub record IsFreshestWithAbsent (opened : Super) (left : ℕ → Stored) (first : Super) : Type 0 where
  pub whose : ((k : ℕ) × ((left k).super ≡ Some first)) ⊎ (first.events ≤ opened.events)
  pub greatest : (k : ℕ) (own : Super) → (left k).super ≡ Some own → own.events ≤ first.events

-- A fit opening finds no member in sync that was not, and the marks cover those that it finds. Where all
-- members in sync that are there have the count or one less, it finds all of these.
pub record IsSafe (g : Geometry) (h : History) (left : ℕ → Stored) (first : Super) : Type 0 where
  pub among : (k : ℕ) → IsFound g left first k → IsInSync h.now k
  pub covered : Covered g left (IsFound g left first)
  pub all : ((k : ℕ) (own : Super) → IsInSync h.now k → (left k).super ≡ Some own → h.now.events ≤ own.events + 1)
      → (k : ℕ) (own : Super) → IsInSync h.now k → (left k).super ≡ Some own → IsFound g left first k

abbrev pub IsSafeAtCrash : Geometry → Super → History → Type 0
IsSafeAtCrash g opened h =
    (left : ℕ → Stored) (first : Super) → IsLeftByCrash g h left → IsFreshestWithAbsent opened left first → IsFit opened first h.failed_at
    → IsSafe g h left first

-- data was written to a member, or a write of it may be on its way
abbrev pub WasTried : Geometry → History → Type 0
WasTried g h = (h.tried ≡ true) ⊎ ((n : ℕ) × (p : Request) × (k : ℕ) × MayWrite g h.now n p k)

-- Once data was tried, a device that was absent is not found in sync beside a member that was so.
abbrev pub KeepsOut : Geometry → Super → History → Type 0
KeepsOut g opened h =
    WasTried g h → (left : ℕ → Stored) → IsLeftByCrash g h left
    → (k : ℕ) (own : Super) → IsInSync h.now k → (left k).super ≡ Some own
    → (absent : Super) → IsAbsent opened h.away absent
    → (first : Super) → IsFreshestWithAbsent opened left first → IsFit opened first h.failed_at
    → is_in_sync (state_by g first absent) ≡ false

-- Once data was tried, a device that was absent is not found recovering beside a member that was in sync: so what its superblock says need
-- not be so any more, and no opening goes by that.
abbrev pub KeepsRecoveringOut : Geometry → Super → History → Type 0
KeepsRecoveringOut g opened h =
    WasTried g h → (left : ℕ → Stored) → IsLeftByCrash g h left
    → (k : ℕ) (own : Super) → IsInSync h.now k → (left k).super ≡ Some own
    → (absent : Super) → IsAbsent opened h.away absent
    → (first : Super) → IsFreshestWithAbsent opened left first → IsFit opened first h.failed_at
    → is_recovering (state_by g first absent) ≡ false

-- A device that the superblock of an opening calls out of sync stays so, with data tried since or not.
abbrev pub StaysOut : Geometry → Super → History → Type 0
StaysOut g opened h =
    (absent : Super) → IsAbsent opened h.away absent → is_in_sync (state_by g opened absent) ≡ false
    → (left : ℕ → Stored) → IsLeftByCrash g h left
    → (first : Super) → IsFreshestWithAbsent opened left first → IsFit opened first h.failed_at
    → is_in_sync (state_by g first absent) ≡ false
