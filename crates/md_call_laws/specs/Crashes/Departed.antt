-- Devices that left by `remove`, at an opening after a later crash.
use Rattle.std.specs.Prelude.{◌≡◌, ◌≢◌, ◌⊎◌, ℕ, zero, suc, ◌+◌, ◌<◌, ◌≤◌, true, false, ◌||◌, eqb, List, slice_get, Option, Some, None}
use Rattle.md_assembly.specs.States.{is_in_sync}
use Rattle.md_assembly.specs.declared.state.MemberState.{MemberState}
use Rattle.md_assembly.specs.declared.state.MemberState.TheVariants.{Faulty, Spare, Stale}
use Rattle.md_kept_members.specs.View.{MemberView}
use Rattle.md_model.specs.Devices.{Super}
use Rattle.md_model.specs.Events.{Event}
use Rattle.md_model.specs.Crashes.{IsFit}
use Rattle.md_model.specs.Worlds.{Request}
use Rattle.md_state.specs.Members.{IsInSync, IsMember}
use Rattle.md_state.specs.View.{Disk, MirrorView}
use Rattle.md_array.specs.InTurn.{AllOf}
use Rattle.md_array.specs.Open.Opened.{IsOpenedFrom}
use Rattle.md_array.specs.Worlds.{block_on, super_in, super_of}
use Rattle.md_laws.specs.Lives.{AreFoundAgain, IsCalledOut, IsShutOut, MirrorLife}
use Rattle.md_laws.specs.Runs.{IsStart, MirrorRun, Moment, RestsThenDoes, then_as}

-- The member failed, or is a spare: no role is its own.
abbrev pub HasNoRole : MemberState → Type 0
HasNoRole Faulty = Unit {0}
HasNoRole Spare = Unit {0}
HasNoRole s = ⊥

abbrev pub IsStale : MemberState → Type 0
IsStale (Stale role) = Unit {0}
IsStale s = ⊥

-- Member k, which has no role, leaves at this moment.
pub record MemberLeavesAt (t : Moment) (k : ℕ) : Type 0 where
  pub member : MemberView
  pub is_member : IsMember t.mirror.array k member
  pub out : HasNoRole member.state
  pub mirror : MirrorView
  pub requests : ℕ → Option Request
  pub does : RestsThenDoes t.mirror t.requests (Event.Remove k) mirror requests

-- From the moment at which a member leaves, its number is one that no member has, until it is given out
-- again.
abbrev pub after_leaving : (t : Moment) (k : ℕ) → MemberLeavesAt t k → Moment
after_leaving t k l =
    record (then_as t (Event.Remove k) l.mirror l.requests) { away = λ d. (then_as t (Event.Remove k) l.mirror l.requests).away d || eqb d l.member.superblock.dev_number }

-- A mirror that was opened as m has come to this moment: by a life of which `opened` is the last mirror that
-- was opened; or, after so many members left since, by a run from right after the last of these, when the
-- mirror was `opened`. So what is said of devices that an opening left out is said of those that left, too.
-- (A stale member that leaves is an event of such a run: its superblock says enough.)
abbrev pub StandsSince : MirrorView → ℕ → MirrorView → Moment → Type 0
StandsSince m zero opened last = (es : List Event) × (rest : List (List Event)) × MirrorLife m es rest opened last
StandsSince m (suc n) opened last =
    (before : MirrorView) × (t : Moment) × StandsSince m n before t
    × (k : ℕ) × (l : MemberLeavesAt t k) × (more : List Event) × MirrorRun (after_leaving t k l) more last × (opened ≡ l.mirror)

abbrev pub OfDepartures : ((opened : MirrorView) (last : Moment) → Type 0) → Type 0
OfDepartures Holds = (before : List Disk) (m : MirrorView) → IsStart before m → (n : ℕ) (opened : MirrorView) (last : Moment) → StandsSince m n opened last → Holds opened last

-- ---- what keeps a device out
-- A device is two events or more behind the array as that was opened, by its superblock.
abbrev pub IsTwoEventsBehind : MirrorView → MemberView → Type 0
IsTwoEventsBehind opened n = n.superblock.events + 1 < opened.array.shared.events

-- The superblock gives the number another role than the array did as it was opened.
abbrev pub BearsOtherRole : MirrorView → ℕ → Super → Type 0
BearsOtherRole opened number own = own.role number ≢ (super_of opened.array.shared).role number

-- No member has had the device's number, and the superblock that was kept calls it out of sync; or it is
-- behind.
abbrev pub IsOutSince : MirrorView → Moment → MemberView → Type 0
IsOutSince opened t n = ((t.away n.superblock.dev_number ≡ true) × IsCalledOut opened n) ⊎ IsTwoEventsBehind opened n

-- The device of a member that leaves without a role is out right after that.
abbrev pub LeavesOut : Type 0
LeavesOut =
    OfDepartures (λ opened t.
    ((k : ℕ) (l : MemberLeavesAt t k) (n : MemberView) → n.superblock.dev_number ≡ l.member.superblock.dev_number → IsOutSince l.mirror (after_leaving t k l) n))

-- The device of a stale member is behind, whenever that leaves, as long as its superblock is no newer than
-- the one that the device has then; or that one gives its number another role than the array did as it was opened, and by
-- that alone no opening finds it in sync whose superblock gives the number that role still, or none.
abbrev pub StaleIsOut : Type 0
StaleIsOut =
    OfDepartures (λ opened t.
    ((k : ℕ) (m : MemberView) → IsMember t.mirror.array k m → IsStale m.state → t.spoiled k ≡ false
    → (d : Disk) → slice_get t.mirror.disks k ≡ Some d → (own : Super) → super_in (block_on d.content) ≡ Some own
    → (n : MemberView) → n.superblock.events ≤ own.events → IsTwoEventsBehind opened n ⊎ BearsOtherRole opened m.superblock.dev_number own))

-- A device that is out stays so after another one left. One whose number is away is out then, too, where data
-- was let through since.
abbrev pub StaysOutSince : Type 0
StaysOutSince =
    OfDepartures (λ opened t.
    ((k : ℕ) (l : MemberLeavesAt t k) (n : MemberView) → IsOutSince opened t n ⊎ ((t.away n.superblock.dev_number ≡ true) × (t.tried ≡ true))
    → IsOutSince l.mirror (after_leaving t k l) n))

-- A number stays away until an event gives it out.
abbrev pub GivesOut : ℕ → Event → Type 0
GivesOut d (Event.Add number left) = number ≡ d
GivesOut d (Event.ReAdd own offset device left) = own.number ≡ d
GivesOut d e = ⊥

abbrev pub StaysAway : Type 0
StaysAway = (d : ℕ) (es : List Event) (t last : Moment) → MirrorRun t es last → AllOf (λ e. (GivesOut d e → ⊥)) es → t.away d ≡ true → last.away d ≡ true

-- ---- at an opening
-- devices beside those that were left: no superblock of theirs is newer than the array as it was opened
abbrev pub NoneIsNewer : (opened : MirrorView) (t : Moment) (found : List Disk) → AreFoundAgain t found → MirrorView → Type 0
NoneIsNewer opened t found devices next =
    (j : ℕ) (n : MemberView) → IsMember next.array j n → devices.from j ≡ None → n.superblock.events ≤ opened.array.shared.events

-- Why a device beside those that were left is not found in sync: it is behind, or its number was away and it
-- is shut out. It is shut out where data was let through and a member that was in sync is there, or where it
-- is called out of sync, as of a device that an opening left out.
abbrev pub IsShutOutSince : (opened : MirrorView) (t : Moment) (found : List Disk) → AreFoundAgain t found → MemberView → Type 0
IsShutOutSince opened t found devices n = ((t.away n.superblock.dev_number ≡ true) × IsShutOut opened t found devices n) ⊎ IsTwoEventsBehind opened n

-- An opening after a crash, by a superblock that is as new as the array was, and that has recorded the last
-- failure, finds no device in sync that is shut out.
abbrev pub FindsOutSince : Type 0
FindsOutSince =
    OfDepartures (λ opened last.
    ((found : List Disk) (next : MirrorView) (devices : AreFoundAgain last found) → NoneIsNewer opened last found devices next → IsOpenedFrom found next
    → IsFit (super_of opened.array.shared) (super_of next.array.shared) last.failed_at
    → (j : ℕ) (n : MemberView) → IsMember next.array j n → devices.from j ≡ None → IsShutOutSince opened last found devices n → is_in_sync n.state ≡ false))

-- The superblock that an opening keeps of the array says of a device which was out that it is out, or the
-- device is still behind: so it is out at the openings after it.
abbrev pub StaysOutNext : Type 0
StaysOutNext =
    OfDepartures (λ opened last.
    ((found : List Disk) (next : MirrorView) (devices : AreFoundAgain last found) → NoneIsNewer opened last found devices next → IsOpenedFrom found next
    → IsFit (super_of opened.array.shared) (super_of next.array.shared) last.failed_at
    → (n : MemberView) → n.superblock.events ≤ opened.array.shared.events → IsOutSince opened last n → IsCalledOut next n ⊎ IsTwoEventsBehind next n))

-- An opening after a crash, of which no device beside those that were left is found in sync.
pub record IsOpenedSince (opened : MirrorView) (last : Moment) (next : MirrorView) : Type 0 where
  pub found : List Disk
  pub devices : AreFoundAgain last found
  pub others : NoneIsNewer opened last found devices next
  pub opens : IsOpenedFrom found next
  pub fit : IsFit (super_of opened.array.shared) (super_of next.array.shared) last.failed_at
  pub out : (j : ℕ) (n : MemberView) → IsMember next.array j n → devices.from j ≡ None → is_in_sync n.state ≡ false

-- An opening after a crash begins another life: the stored marks cover what the members in sync differ in.
-- Each of these was in sync at the crash, on the same device.
pub record BeginsSince (opened : MirrorView) (last : Moment) (next : MirrorView) (again : IsOpenedSince opened last next) : Type 0 where
  pub start : IsStart again.found next
  pub among : (k : ℕ) (n : MemberView) → IsInSync next.array k n → (i : ℕ) × (again.devices.from k ≡ Some i) × (o : MemberView) × IsInSync last.mirror.array i o

abbrev pub StartsSince : Type 0
StartsSince = OfDepartures (λ opened last. ((next : MirrorView) (again : IsOpenedSince opened last next) → BeginsSince opened last next again))
