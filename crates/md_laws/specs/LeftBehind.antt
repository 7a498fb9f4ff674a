-- What a member that failed still has of the array's content: by this it is enough to copy the marked chunks to one that is taken
-- back.
use Rattle.std.specs.Prelude.{◌≡◌, ℕ, ◌*◌, ◌<◌, true, false, List, [], ◌∷◌, Option, slice_get, Some}
use Rattle.md_device.specs.Splice.{SameOutside}
use Rattle.md_members.specs.Areas.{bitmap_sectors}
use Rattle.md_super.specs.declared.superblock.Superblock.{Superblock}
use Rattle.md_model.specs.Behind.{IsBehind, Leaves}
use Rattle.md_model.specs.Content.{Content, Becomes, BecomesAtOpening, Holds}
use Rattle.md_model.specs.Devices.{Stored}
use Rattle.md_model.specs.Events.{Event, MemberPart}
use Rattle.md_model.specs.Recovering.{JoinsBehind}
use Rattle.md_model.specs.Sectors.{Geometry}
use Rattle.md_model.specs.Worlds.{Request}
use Rattle.md_kept_members.specs.View.{MemberView}
use Rattle.md_kept_members.specs.OnDevices.Storing.{sector_from_super}
use Rattle.md_state.specs.Members.{IsInSync, IsMember, is_degraded}
use Rattle.md_state.specs.View.{Disk, MirrorView, geometry_of}
use Rattle.md_array.specs.Steps.ReAdd.{ReAdds, re_add_event}
use Rattle.md_array.specs.ReadAsKept.{IsSuperOn}
use Rattle.md_array.specs.Worlds.{none_in_flight, stored_of, world_of}
use Rattle.md_laws.specs.Lives.{IsReopened, MirrorLifeWith}
use Rattle.md_laws.specs.Runs.{HasRested, IsStart, Moment, RestsThenDoes, opened_as, then_as}

-- A run before each event of which some role has no member in sync, with the content before it and after it.
abbrev pub DegradedRunWith : Moment → Content → List Event → Moment → Content → Type 0
DegradedRunWith t a [] last b = HasRested t last × (b ≡ a)
DegradedRunWith t a (e ∷ es) last b =
    (m : MirrorView) × (requests : ℕ → Option Request) × (c : Content) × (is_degraded t.mirror.array ≡ true) × RestsThenDoes t.mirror t.requests e m requests
    × Becomes (geometry_of t.mirror.array) e (world_of t.mirror t.requests) a c × DegradedRunWith (then_as t e m requests) c es last b

-- A life from any moment on, in which some role has no member in sync before each event and at each crash. It
-- has events, a crash and an opening, events again, and so on. The opening before gave the mirror opened, and
-- the last one the mirror final.
abbrev pub DegradedLifeWith : MirrorView → Moment → Content → List Event → List (List Event) → MirrorView → Moment → Content → Type 0
DegradedLifeWith opened t a es [] final last b = (final ≡ opened) × DegradedRunWith t a es last b
DegradedLifeWith opened t a es (more ∷ rest) final last b =
    (mid : Moment) × (next : MirrorView) × (c d : Content) × DegradedRunWith t a es mid c × (is_degraded mid.mirror.array ≡ true) × IsReopened opened mid next
    × BecomesAtOpening (geometry_of next.array) (world_of next none_in_flight) c d × DegradedLifeWith next (opened_as next) d more rest final last b

-- member k, which is in sync, fails, by a call or by a write to it
pub record MemberFails (t : Moment) (k : ℕ) : Type 0 where
  pub member : MemberView
  pub in_sync : IsInSync t.mirror.array k member
  pub event : Event
  pub it : Leaves event k
  pub mirror : MirrorView
  pub requests : ℕ → Option Request
  pub does : RestsThenDoes t.mirror t.requests event mirror requests

abbrev pub failed_then : (t : Moment) (k : ℕ) → MemberFails t k → Moment
failed_then t k f = then_as t f.event f.mirror f.requests

-- A member that was in sync fails at any moment of a mirror's life. As long as some role stays empty after
-- that, its device, as the failure left it, differs from the content only in chunks that are marked, in
-- memory and on each member in sync. That is said of sectors that its log does not list. Meanwhile other
-- members may fail, leave and come, it may leave itself, and the mirror may crash and be opened again, from
-- some of its devices.
abbrev pub LiesBehind : Type 0
LiesBehind =
    (before : List Disk) (m : MirrorView) (a : Content) → IsStart before m → Holds (geometry_of m.array) a (world_of m none_in_flight)
    → (es : List Event) (rest : List (List Event)) (final : MirrorView) (t : Moment) (b : Content) → MirrorLifeWith m a es rest final t b
    → (k : ℕ) (f : MemberFails t k)
    → (more : List Event) (others : List (List Event)) (newest : MirrorView) (last : Moment) (c : Content)
    → DegradedLifeWith final (failed_then t k f) b more others newest last c
    → IsBehind (geometry_of m.array) c ((world_of f.mirror f.requests).stored k) (world_of last.mirror last.requests)

-- member k, which is in sync, fails because its log could not be stored
pub record MemberFailsWithLog (t : Moment) (k : ℕ) : Type 0 where
  pub member : MemberView
  pub in_sync : IsInSync t.mirror.array k member
  pub mirror : MirrorView
  pub requests : ℕ → Option Request
  pub does : RestsThenDoes t.mirror t.requests (Event.WriteFails k MemberPart.Log) mirror requests

abbrev pub log_failed_then : (t : Moment) (k : ℕ) → MemberFailsWithLog t k → Moment
log_failed_then t k f = then_as t (Event.WriteFails k MemberPart.Log) f.mirror f.requests

-- A member that failed because its log could not be stored may have any log. Its device lies behind the
-- content by what is marked, too, in sectors that neither the log of before nor the one that counts lists.
-- This is said of a device that has the data of the member's device, and lists no less than that had.
abbrev pub LogLiesBehind : Type 0
LogLiesBehind =
    (before : List Disk) (m : MirrorView) (a : Content) → IsStart before m → Holds (geometry_of m.array) a (world_of m none_in_flight)
    → (es : List Event) (rest : List (List Event)) (final : MirrorView) (t : Moment) (b : Content) → MirrorLifeWith m a es rest final t b
    → (k : ℕ) (f : MemberFailsWithLog t k) (device : Stored)
    → ((s : ℕ) → s < m.array.chunks.size → device.content s ≡ ((world_of f.mirror f.requests).stored k).content s)
    → ((s : ℕ) → s < m.array.chunks.size → device.listed s ≡ false → ((world_of t.mirror t.requests).stored k).listed s ≡ false)
    → (more : List Event) (others : List (List Event)) (newest : MirrorView) (last : Moment) (c : Content)
    → DegradedLifeWith final (log_failed_then t k f) b more others newest last c
    → IsBehind (geometry_of m.array) c device (world_of last.mirror last.requests)

-- Member k, in sync at t, as a crash left it on this device, which has a superblock. The next opening, which gave the mirror next, may have
-- left it out (a pulled cable), or have found it out of sync.
pub record IsLeftOut (opened : MirrorView) (t : Moment) (k : ℕ) (next : MirrorView) : Type 0 where
  pub member : MemberView
  pub in_sync : IsInSync t.mirror.array k member
  pub again : IsReopened opened t next
  pub device : Disk
  pub at : slice_get again.devices.left k ≡ Some device
  pub superblock : Superblock
  pub has : IsSuperOn device.content superblock

-- A member that was in sync at a crash lies behind the content by what is marked, as the crash left it: from
-- the next opening on, as long as some role has no member in sync. The crash may come within a call or between
-- two, at any moment of a mirror's life.
abbrev pub MissingLiesBehind : Type 0
MissingLiesBehind =
    (before : List Disk) (m : MirrorView) (a : Content) → IsStart before m → Holds (geometry_of m.array) a (world_of m none_in_flight)
    → (es : List Event) (rest : List (List Event)) (final : MirrorView) (t : Moment) (b : Content) → MirrorLifeWith m a es rest final t b
    → (k : ℕ) (next : MirrorView) (r : IsLeftOut final t k next) (c : Content) → BecomesAtOpening (geometry_of next.array) (world_of next none_in_flight) b c
    → (more : List Event) (others : List (List Event)) (newest : MirrorView) (last : Moment) (d : Content)
    → DegradedLifeWith next (opened_as next) c more others newest last d
    → IsBehind (geometry_of m.array) d (stored_of t.mirror.array r.member r.device.content) (world_of last.mirror last.requests)

-- ---- it is taken back
-- A device is still as it was left, but for its bitmap, which openings within which a crash came may have written.
abbrev pub IsStill : MemberView → List ℕ → List ℕ → Type 0
IsStill m left now = SameOutside (512 * sector_from_super m.superblock.bitmap_offset) (512 * bitmap_sectors m.stored.chunks) left now

-- Where a device that is still as it was left is taken back, the event is told (`JoinsBehind`): the device
-- lies behind the content by what is marked, or its offset is 0, so that it lacks every chunk. The chunks
-- that `missing` names suffice then.
abbrev pub JoinsAsLeft : Geometry → MemberView → List ℕ → Moment → Content → Type 0
JoinsAsLeft g m left t a =
    (j : ℕ) (device : Disk) (new : MirrorView) (r : ReAdds j device t.mirror new) → device.honest ≡ true → IsStill m left device.content
    → JoinsBehind g (re_add_event j device t.mirror new r) (world_of t.mirror t.requests) a

-- A member that failed, as the failure left it, joins as one that lies behind by what is marked. Its own fields are read of its device: so
-- it must not be one that an opening may misread, here and below.
abbrev pub FailedJoins : Type 0
FailedJoins =
    (before : List Disk) (m : MirrorView) (a : Content) → IsStart before m → Holds (geometry_of m.array) a (world_of m none_in_flight)
    → (es : List Event) (rest : List (List Event)) (final : MirrorView) (t : Moment) (b : Content) → MirrorLifeWith m a es rest final t b
    → (k : ℕ) → t.misread k ≡ false → (f : MemberFails t k) (o : MemberView) (d : Disk) → IsMember f.mirror.array k o → slice_get f.mirror.disks k ≡ Some d
    → (more : List Event) (others : List (List Event)) (newest : MirrorView) (last : Moment) (c : Content)
    → DegradedLifeWith final (failed_then t k f) b more others newest last c
    → JoinsAsLeft (geometry_of m.array) o d.content last c

-- A member that was in sync at a crash, as the crash left it, joins as one that lies behind by what is marked.
abbrev pub MissingJoins : Type 0
MissingJoins =
    (before : List Disk) (m : MirrorView) (a : Content) → IsStart before m → Holds (geometry_of m.array) a (world_of m none_in_flight)
    → (es : List Event) (rest : List (List Event)) (final : MirrorView) (t : Moment) (b : Content) → MirrorLifeWith m a es rest final t b
    → (k : ℕ) → t.misread k ≡ false → (next : MirrorView) (r : IsLeftOut final t k next) (c : Content) → BecomesAtOpening (geometry_of next.array) (world_of next none_in_flight) b c
    → (more : List Event) (others : List (List Event)) (newest : MirrorView) (last : Moment) (d : Content)
    → DegradedLifeWith next (opened_as next) c more others newest last d
    → JoinsAsLeft (geometry_of m.array) r.member r.device.content last d

-- A member whose log could not be stored joins as one that lies behind by what is marked, if the log that is
-- read of it then has no less than it had before. That is asked, as a failed write may have left any log.
abbrev pub LogJoins : Type 0
LogJoins =
    (before : List Disk) (m : MirrorView) (a : Content) → IsStart before m → Holds (geometry_of m.array) a (world_of m none_in_flight)
    → (es : List Event) (rest : List (List Event)) (final : MirrorView) (t : Moment) (b : Content) → MirrorLifeWith m a es rest final t b
    → (k : ℕ) → t.misread k ≡ false → (f : MemberFailsWithLog t k) (o : MemberView) (d : Disk) → IsMember f.mirror.array k o → slice_get f.mirror.disks k ≡ Some d
    → (more : List Event) (others : List (List Event)) (newest : MirrorView) (last : Moment) (c : Content)
    → DegradedLifeWith final (log_failed_then t k f) b more others newest last c
    → (j : ℕ) (device : Disk) (new : MirrorView) (r : ReAdds j device last.mirror new) → device.honest ≡ true → IsStill o d.content device.content
    → ((s : ℕ) → s < m.array.chunks.size → (stored_of new.array r.recorded.takes.member device.content).listed s ≡ false
    → ((world_of t.mirror t.requests).stored k).listed s ≡ false)
    → JoinsBehind (geometry_of m.array) (re_add_event j device last.mirror new r) (world_of last.mirror last.requests) c
