-- What the recovering members of a mirror hold of the array's content, over its life: by this a member that was taken back, or a rebuild that
-- was interrupted, is rebuilt in the chunks that it lacks alone.
use Rattle.std.specs.Prelude.{◌≡◌, ◌⊎◌, ℕ, ◌<◌, ◌≤◌, true, false, List, [], ◌∷◌, slice_get, Some}
use Rattle.md_model.specs.Behind.{IsBehind}
use Rattle.md_model.specs.Content.{Content, Becomes, BecomesAtOpening, Holds}
use Rattle.md_model.specs.Devices.{Stored, Super}
use Rattle.md_model.specs.Events.{Event}
use Rattle.md_model.specs.Rebuilding.{MayFill, is_target}
use Rattle.md_model.specs.Sectors.{Geometry}
use Rattle.md_model.specs.Recovering.{IsAsPrepared, IsAsStored, JoinsBehind, RecoveringHolds, recovered}
use Rattle.md_model.specs.States.{is_recovering}
use Rattle.md_model.specs.Steps.{says_of}
use Rattle.md_model.specs.SureOffsets.{IsHeldAt, KnowsStored, ListsSaid, SureHolds}
use Rattle.md_model.specs.Worlds.{World, IsInSync}
use Rattle.md_state.specs.View.{Disk, MirrorView, geometry_of}
use Rattle.md_array.specs.Worlds.{none_in_flight, stored_on, world_of}
use Rattle.md_laws.specs.Left.{IsLeftByCrash, IsStoringOwn}
use Rattle.md_laws.specs.Lives.{IsReopened, MirrorLife, MirrorLifeWith}
use Rattle.md_laws.specs.Runs.{IsStart, MirrorRun, MirrorRunWith, Moment, history_of, opened_as, then_as}

-- Each `re_add` of a run is told: its device lies behind the content by what is marked, or its offset is 0 (`laws::leaving_members`, clauses
-- `failed_joins` and `missing_joins`).
abbrev pub MirrorRunJoins : (t : Moment) (a : Content) (es : List Event) (last : Moment) (b : Content) → MirrorRunWith t a es last b → Type 0
MirrorRunJoins t a [] last b run = Unit {0}
MirrorRunJoins t a (e ∷ es) last b run =
    JoinsBehind (geometry_of t.mirror.array) e (world_of t.mirror t.requests) a × MirrorRunJoins (then_as t e run.0 run.1) run.2 es last b run.5

-- ---- an opening that finds members recovering
-- What a crash left of the device of member k says no more than the mirror kept of it. Its offset is no greater, and it lists what the list in
-- memory has; or, within an enrolment, its log may lack sectors of missing chunks. (It may say more where a write of its log or of its
-- superblock failed, or where its offset was taken as 0 at the opening; until it was stored since.)
abbrev pub IsStoredOrPrepared : Geometry → World → ℕ → Stored → Type 0
IsStoredOrPrepared g w k device = IsAsStored w k device ⊎ ((is_recovering (w.state k) ≡ true) × MayFill w k × IsAsPrepared g w k device)

abbrev pub SaysNoMore : Moment → List Disk → ℕ → Type 0
SaysNoMore t left k =
    IsStoredOrPrepared (geometry_of t.mirror.array) (world_of t.mirror t.requests) k (stored_on t.mirror.array (slice_get t.mirror.array.members k) (slice_get left k))

-- Right after an opening that did not lessen the offset of a member, its device says no more than the mirror keeps of it.
abbrev pub SaysNoMoreWhenOpened : Type 0
SaysNoMoreWhenOpened = (before : List Disk) (m : MirrorView) → IsStart before m → (k : ℕ) → (opened_as m).offset_unknown k ≡ false → SaysNoMore (opened_as m) m.disks k

-- The offset that is told by what any crash leaves until the next opening is no greater than the one in memory, of each member whose
-- offset is known (`Moment`): the opening did not take it as less, and the member is not spoiled, or its superblock was stored since.
abbrev pub OffsetsAreKept : Type 0
OffsetsAreKept =
    (before : List Disk) (m : MirrorView) → IsStart before m
    → (es : List Event) (t : Moment) → MirrorRun (opened_as m) es t → (left : List Disk) → IsLeftByCrash t left
    → (k : ℕ) → t.offset_unknown k ≡ false
    → (own : Super) → (stored_on t.mirror.array (slice_get t.mirror.array.members k) (slice_get left k)).super ≡ Some own
    → own.offset ≤ (world_of t.mirror t.requests).offset k

-- A member that is rebuilt, and whose offset is known, says no more at a crash than the mirror kept of it, if the superblock can be read
-- that the crash left. Its log has to be known too (`Moment`), and the crash not to have come while the log was being stored.
abbrev pub SaysNoMoreWhereKnown : Type 0
SaysNoMoreWhereKnown =
    (before : List Disk) (m : MirrorView) → IsStart before m
    → (es : List Event) (t : Moment) → MirrorRun (opened_as m) es t → (left : List Disk) (is : IsLeftByCrash t left)
    → (k : ℕ) → is_target ((world_of t.mirror t.requests).state k) ≡ true → t.offset_unknown k ≡ false → t.log_unknown k ≡ false → (IsStoringOwn t left is k → ⊥)
    → (own : Super) → (stored_on t.mirror.array (slice_get t.mirror.array.members k) (slice_get left k)).super ≡ Some own → SaysNoMore t left k

-- A member whose offset is known and whose list in memory is empty says no more at a crash, whatever its log.
abbrev pub SaysNoMoreWithoutList : Type 0
SaysNoMoreWithoutList =
    (before : List Disk) (m : MirrorView) → IsStart before m
    → (es : List Event) (t : Moment) → MirrorRun (opened_as m) es t → (left : List Disk) → IsLeftByCrash t left
    → (k : ℕ) → t.offset_unknown k ≡ false → ((s : ℕ) → (world_of t.mirror t.requests).bad k s ≡ false) → SaysNoMore t left k

-- What a crash left of the device of a member that is rebuilt is known to say no more: the member's offset and its log are known, and
-- the crash did not come while the log was being stored.
pub record IsOffsetKnown (t : Moment) (left : List Disk) (is : IsLeftByCrash t left) (k : ℕ) : Type 0 where
  pub offset : t.offset_unknown k ≡ false
  pub rebuilt : is_target ((world_of t.mirror t.requests).state k) ≡ true
  pub log : t.log_unknown k ≡ false
  pub beside : IsStoringOwn t left is k → ⊥

-- A recovering member of the next mirror has a device that was left, and it is known or told that this says
-- no more than the mirror kept of it. Or it is told what the device has, as of one that was left out before.
abbrev pub MirrorOpensBehind : (opened : MirrorView) (t : Moment) (next : MirrorView) → IsReopened opened t next → Content → Type 0
MirrorOpensBehind opened t next again b =
    (j : ℕ) → is_recovering ((world_of next none_in_flight).state j) ≡ true
    → ((k : ℕ) × (again.devices.from j ≡ Some k) × (IsOffsetKnown t again.devices.left again.devices.is_left k ⊎ SaysNoMore t again.devices.left k))
    ⊎ IsBehind (geometry_of next.array) b (recovered (geometry_of next.array) (world_of next none_in_flight) j) (world_of next none_in_flight)

-- ---- lives
-- At each `re_add` of a life it is told what the device has, and at each opening what the members have that
-- recover then.
abbrev pub MirrorLifeJoins : (m : MirrorView) (a : Content) (es : List Event) (rest : List (List Event)) (final : MirrorView) (last : Moment) (b : Content)
    → MirrorLifeWith m a es rest final last b → Type 0
MirrorLifeJoins m a es [] final last b life = MirrorRunJoins (opened_as m) a es last b life.1
MirrorLifeJoins m a es (more ∷ rest) final last b life =
    MirrorRunJoins (opened_as m) a es life.0 life.2 life.4 × MirrorOpensBehind m life.0 life.1 life.5 life.3
    × MirrorLifeJoins life.1 life.3 more rest final last b life.7

-- At each moment of a life that is told what its recovering members have, a recovering member differs from
-- the content, on sectors that it does not list, only in chunks that are marked, or that its offset has not
-- passed.
abbrev pub KeepsRecovering : Type 0
KeepsRecovering =
    (before : List Disk) (m : MirrorView) (a : Content) → IsStart before m → Holds (geometry_of m.array) a (world_of m none_in_flight)
    → RecoveringHolds (geometry_of m.array) a (world_of m none_in_flight)
    → (es : List Event) (rest : List (List Event)) (final : MirrorView) (last : Moment) (b : Content) (life : MirrorLifeWith m a es rest final last b)
    → MirrorLifeJoins m a es rest final last b life
    → RecoveringHolds (geometry_of m.array) b (world_of last.mirror last.requests)

-- At each `re_add` of a run of which no content is known yet it is told what the device has, whatever the
-- content has become by then.
abbrev pub MirrorRunTells : (t : Moment) (a : Content) (es : List Event) (last : Moment) → MirrorRun t es last → Type 0
MirrorRunTells t a [] last run = Unit {0}
MirrorRunTells t a (e ∷ es) last run =
    JoinsBehind (geometry_of t.mirror.array) e (world_of t.mirror t.requests) a
    × ((b : Content) → Becomes (geometry_of t.mirror.array) e (world_of t.mirror t.requests) a b → MirrorRunTells (then_as t e run.0 run.1) b es last run.3)

abbrev pub MirrorLifeTells : (m : MirrorView) (a : Content) (es : List Event) (rest : List (List Event)) (final : MirrorView) (last : Moment)
    → MirrorLife m es rest final last → Type 0
MirrorLifeTells m a es [] final last life = MirrorRunTells (opened_as m) a es last life.1
MirrorLifeTells m a es (more ∷ rest) final last life =
    MirrorRunTells (opened_as m) a es life.0 life.2
    × ((b c : Content) → MirrorRunWith (opened_as m) a es life.0 b → BecomesAtOpening (geometry_of life.1.array) (world_of life.1 none_in_flight) b c
    → MirrorOpensBehind m life.0 life.1 life.3 c × MirrorLifeTells life.1 c more rest final last life.4)

-- A content that the members in sync hold at the first opening, and those that recover where they lack
-- nothing, goes along every life that is told what its recovering members have. At enrolments nothing is
-- asked.
abbrev pub ContentGoesAlong : Type 0
ContentGoesAlong =
    (before : List Disk) (m : MirrorView) (a : Content) → IsStart before m → Holds (geometry_of m.array) a (world_of m none_in_flight)
    → RecoveringHolds (geometry_of m.array) a (world_of m none_in_flight)
    → (es : List Event) (rest : List (List Event)) (final : MirrorView) (last : Moment) (life : MirrorLife m es rest final last)
    → MirrorLifeTells m a es rest final last life → (b : Content) × MirrorLifeWith m a es rest final last b

-- ---- what superblocks say
-- Of the sectors that its superblock says that it has, what a crash left of the device of member k lists what the list in memory has.
abbrev pub ListsWhatIsSaid : Moment → List Disk → ℕ → Type 0
ListsWhatIsSaid t left k =
    ListsSaid (geometry_of t.mirror.array) (world_of t.mirror t.requests) k (stored_on t.mirror.array (slice_get t.mirror.array.members k) (slice_get left k))

-- What a crash left of a device lists what is said where its log is known, and the crash did not come while that was being stored.
abbrev pub ListsWhereKnown : Type 0
ListsWhereKnown =
    (before : List Disk) (m : MirrorView) → IsStart before m → (es : List Event) (t : Moment) → MirrorRun (opened_as m) es t → (left : List Disk) (is : IsLeftByCrash t left)
    → (k : ℕ) → is_target ((world_of t.mirror t.requests).state k) ≡ true → t.log_unknown k ≡ false → (IsStoringOwn t left is k → ⊥) → ListsWhatIsSaid t left k

-- A recovering member of the next mirror has a device that was left, and that lists what it did. Or it is told what it has, as of one that
-- was left out before.
abbrev pub MirrorOpensSure : (opened : MirrorView) (t : Moment) (next : MirrorView) → IsReopened opened t next → Content → Type 0
MirrorOpensSure opened t next again b =
    (j : ℕ) → is_recovering ((world_of next none_in_flight).state j) ≡ true
    → ((k : ℕ) × (again.devices.from j ≡ Some k) × ListsWhatIsSaid t again.devices.left k)
    ⊎ ((s : ℕ) → s < next.array.chunks.size → says_of (world_of next none_in_flight) s j ≡ true → (world_of next none_in_flight).bad j s ≡ false
    → IsHeldAt (world_of next none_in_flight).stored (IsInSync (world_of next none_in_flight)) b j s)

abbrev pub MirrorLifeOpensSure : (m : MirrorView) (a : Content) (es : List Event) (rest : List (List Event)) (final : MirrorView) (last : Moment) (b : Content)
    → MirrorLifeWith m a es rest final last b → Type 0
MirrorLifeOpensSure m a es [] final last b life = Unit {0}
MirrorLifeOpensSure m a es (more ∷ rest) final last b life =
    MirrorOpensSure m life.0 life.1 life.5 life.3 × MirrorLifeOpensSure life.1 life.3 more rest final last b life.7

-- At each moment of a life that is told what its recovering members have, each of these holds the content in every sector that its
-- superblock says that it has, marked or not, and that its list in memory does not have; and so do the members in sync that do not list it.
-- No superblock of theirs says more than the mirror knows of, unless it is spoiled. Right after an opening, its superblock is what the crash
-- before left: so the law is of that, too.
abbrev pub MirrorKeepsSure : Type 0
MirrorKeepsSure =
    (before : List Disk) (m : MirrorView) (a : Content) → IsStart before m → Holds (geometry_of m.array) a (world_of m none_in_flight)
    → RecoveringHolds (geometry_of m.array) a (world_of m none_in_flight) → SureHolds (geometry_of m.array) a (world_of m none_in_flight)
    → (es : List Event) (rest : List (List Event)) (final : MirrorView) (last : Moment) (b : Content) (life : MirrorLifeWith m a es rest final last b)
    → MirrorLifeJoins m a es rest final last b life → MirrorLifeOpensSure m a es rest final last b life
    → SureHolds (geometry_of m.array) b (world_of last.mirror last.requests) × KnowsStored (history_of last)
