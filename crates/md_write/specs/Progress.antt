-- What the parts of a write have in common: they go on by events of the request, and come to their end or lose a member.
use Rattle.std.specs.Prelude.{◌≡◌, ◌⊎◌, ℕ, ◌+◌, ◌-◌, ◌/◌, ◌<◌, ◌≤◌, true, List, [], ◌∷◌, ◌++◌}
use Rattle.md_model.specs.Sectors.{block_of}
use Rattle.md_model.specs.Events.{Event, MemberPart}
use Rattle.md_bitmap.specs.Marks.{is_set}
use Rattle.md_bitmap.specs.declared.chunks.Chunks.{Chunks}
use Rattle.md_inflight.specs.Requests.Pending.{PendingView, has_written, request_sectors}
use Rattle.md_assembly.specs.States.{is_recovering}
use Rattle.md_kept_members.specs.TakingBack.{member_says_of}
use Rattle.md_kept_members.specs.View.{MemberView}
use Rattle.md_state.specs.View.{ArrayView, MirrorView}
use Rattle.md_state.specs.Requests.{IsPending, among}
use Rattle.md_state.specs.Members.{IsInSync, IsMember}
use Rattle.md_state.specs.Steps.Begin.{first_sector}
use Rattle.md_state.specs.Steps.Finish.{HasBytesOf, MayFinish}
use Rattle.md_state.specs.Steps.WriteMember.{IsUnsaid}
use Rattle.md_metadata.specs.declared.fault.PartFault.{PartFault}
use Rattle.md_metadata.specs.declared.fault.PartFault.TheVariants.{Halted, MemberFailed}
use Rattle.md_metadata.specs.Going.{GoesOn, HaltsAfter, recorded_count}
use Rattle.md_metadata.specs.Storing.{AllRecorded}

-- ---- kinds of events, done or failed
-- this sector of the bitmap has bits of these chunks
abbrev pub HasBitsOf : ℕ → ℕ → ℕ → Type 0
HasBitsOf first end block = (block_of first ≤ block) × (block ≤ block_of (end - 1))

-- marks of these chunks are stored
abbrev pub IsMarkingOf : ℕ → ℕ → Event → Type 0
IsMarkingOf first end (Event.StoreMarks k b) = HasBitsOf first end b
IsMarkingOf first end (Event.WriteFails k (MemberPart.BitmapSector b)) = HasBitsOf first end b
IsMarkingOf first end e = ⊥

-- Of the request of this number, with these chunks, between its begin and its end: of a bitmap only those sectors are stored that have
-- their bits, and the first, which goes with the superblock.
abbrev pub IsEventOf : ℕ → ℕ → ℕ → Event → Type 0
IsEventOf n first end (Event.LowerOffset k s) = Unit {0}
IsEventOf n first end (Event.Record k) = Unit {0}
IsEventOf n first end (Event.StoreMarks k b) = (b ≡ 0) ⊎ HasBitsOf first end b
IsEventOf n first end (Event.WriteMember m k) = m ≡ n
IsEventOf n first end (Event.WriteFails k MemberPart.Superblock) = Unit {0}
IsEventOf n first end (Event.WriteFails k (MemberPart.BitmapSector b)) = (b ≡ 0) ⊎ HasBitsOf first end b
IsEventOf n first end (Event.WriteFails k (MemberPart.RequestData m)) = m ≡ n
IsEventOf n first end e = ⊥

-- the chunk that has the request's first sector, and the one past that of its last
abbrev pub first_chunk : Chunks → PendingView → ℕ
first_chunk chunks p = p.sector / chunks.sectors

abbrev pub end_chunk : Chunks → PendingView → ℕ
end_chunk chunks p = ((p.sector + request_sectors p) - 1) / chunks.sectors + 1

abbrev pub IsOfRequest : Chunks → PendingView → Event → Type 0
IsOfRequest chunks p = IsEventOf p.ticket.number (first_chunk chunks p) (end_chunk chunks p)

-- ---- rounds
-- the parts of a round
pub data Part : Type 0 where
  Marks : Part
  Records : Part
  Bytes : Part

-- no bytes are written in this round yet
abbrev pub IsBeforeBytes : Part → Type 0
IsBeforeBytes Part.Bytes = ⊥
IsBeforeBytes part = Unit {0}

-- The list goes on in rounds, from this part of one: sure offsets are lowered in memory and marks are stored, then superblocks, with the
-- first sectors of bitmaps, then bytes. After a failure another round may follow.
abbrev pub InRounds : Part → List Event → Type 0
InRounds part [] = Unit {0}
InRounds part (Event.LowerOffset k s ∷ es) = (part ≡ Part.Marks) × InRounds Part.Marks es
InRounds part (Event.StoreMarks k b ∷ es) = ((part ≡ Part.Marks) × InRounds Part.Marks es) ⊎ ((b ≡ 0) × IsBeforeBytes part × InRounds Part.Records es)
InRounds part (Event.Record k ∷ es) = IsBeforeBytes part × InRounds Part.Records es
InRounds part (Event.WriteMember n k ∷ es) = InRounds Part.Bytes es
InRounds part (Event.WriteFails k (MemberPart.BitmapSector b) ∷ es) = ((part ≡ Part.Marks) ⊎ ((b ≡ 0) × IsBeforeBytes part)) × InRounds Part.Marks es
InRounds part (Event.WriteFails k MemberPart.Superblock ∷ es) = IsBeforeBytes part × InRounds Part.Marks es
InRounds part (Event.WriteFails k (MemberPart.RequestData n) ∷ es) = InRounds Part.Marks es
InRounds part (e ∷ es) = ⊥

-- these events, and then any that are in rounds from that part on, are in rounds from this one on
abbrev pub LeavesRoundsAt : Part → Part → List Event → Type 0
LeavesRoundsAt from to events = (after : List Event) → InRounds to after → InRounds from (events ++ after)

-- ---- marks
-- these chunks are marked in memory
pub record AreMarkedInMemory (a : ArrayView) (first end : ℕ) : Type 0 where
  pub some : first < end
  pub within : end ≤ a.marks.chunks
  pub marked : (c : ℕ) → first ≤ c → c < end → is_set a.marks.bytes c ≡ true

-- the member has stored the marks of those whose bits are in this sector of the bitmap
abbrev pub HasMarksIn : ℕ → ℕ → ℕ → MemberView → Type 0
HasMarksIn block first end m = (c : ℕ) → first ≤ c → c < end → block_of c ≡ block → is_set m.stored.bytes c ≡ true

-- ---- a request
-- A request has these chunks, and they are marked in memory.
pub record AreChunksOf (a : ArrayView) (p : PendingView) (first end : ℕ) : Type 0 where
  pub are : AreMarkedInMemory a first end
  pub first_is : first ≡ first_chunk a.chunks p
  pub end_is : end ≡ end_chunk a.chunks p

-- a request that has begun is still under way, and more members may have its bytes
pub record IsLater (p q : PendingView) : Type 0 where
  pub request : q ≡ record p { written = q.written }
  pub more : (d : ℕ) → has_written p d ≡ true → has_written q d ≡ true

-- No recovering member's superblock says that it has the request's chunks.
abbrev pub AllUnsaid : ArrayView → PendingView → Type 0
AllUnsaid a p = (i : ℕ) (m : MemberView) → IsMember a i m → IsUnsaid a p m

-- None surely has them, and where a superblock says so it has to be stored.
pub record IsLowered (a : ArrayView) (p : PendingView) (m : MemberView) : Type 0 where
  pub sure : is_recovering m.state ≡ true → m.superblock.recovery_offset ≤ first_sector a p.sector
  pub due : member_says_of (first_sector a p.sector) m ≡ true → m.due ≡ true

abbrev pub AllLowered : ArrayView → PendingView → Type 0
AllLowered a p = (i : ℕ) (m : MemberView) → IsMember a i m → IsLowered a p m

-- A request goes on by its events, from one part of a round to another.
pub record AdvancesRequest (from to : Part) (p q : PendingView) (old new : MirrorView) : Type 0 where
  pub goes : GoesOn (among p) (among q) (IsOfRequest old.array.chunks p) old new
  pub rounds : LeavesRoundsAt from to goes.events
  pub later : IsLater p q

-- A request's bytes are written, and what is kept in memory of the array is as before.
pub record WritesOn (p q : PendingView) (old new : MirrorView) : Type 0 where
  pub advances : AdvancesRequest Part.Bytes Part.Bytes p q old new
  pub still : IsPending new.array q
  pub array : new.array ≡ old.array

pub record WritesAt (k : ℕ) (p q : PendingView) (old new : MirrorView) : Type 0 where
  pub writes : WritesOn p q old new
  pub done : (m : MemberView) → IsInSync new.array k m → HasBytesOf q m

pub record WritesBelow (k : ℕ) (p q : PendingView) (old new : MirrorView) : Type 0 where
  pub writes : WritesOn p q old new
  pub done : (i : ℕ) (m : MemberView) → i < k → IsInSync new.array i m → HasBytesOf q m

pub record WritesToAll (p q : PendingView) (old new : MirrorView) : Type 0 where
  pub writes : WritesOn p q old new
  pub done : (i : ℕ) (m : MemberView) → IsInSync new.array i m → HasBytesOf q m

-- a member failed on the way, and another round may follow
pub record LosesOn (from : Part) (p q : PendingView) (old new : MirrorView) : Type 0 where
  pub advances : AdvancesRequest from Part.Marks p q old new
  pub lost : recorded_count new.array < recorded_count old.array
  pub halted : new.array.halted ≡ old.array.halted
  pub still : IsPending new.array q

pub record HaltsOn (from : Part) (p q : PendingView) (old new : MirrorView) : Type 0 where
  pub halts : HaltsAfter (among p) (among q) (IsOfRequest old.array.chunks p) old new
  pub rounds : InRounds from (halts.goes.events ++ halts.failing ∷ [])
  pub later : IsLater p q

abbrev pub WritingFails : Part → PendingView → PendingView → MirrorView → MirrorView → PartFault → Type 0
WritingFails from p q old new Halted = HaltsOn from p q old new
WritingFails from p q old new (MemberFailed k) = LosesOn from p q old new

-- all is done: it may be finished
pub record IsReadyToFinish (p q : PendingView) (old new : MirrorView) : Type 0 where
  pub advances : AdvancesRequest Part.Marks Part.Bytes p q old new
  pub still : IsPending new.array q
  pub may : MayFinish new.array q
  pub recorded : AllRecorded new.array
