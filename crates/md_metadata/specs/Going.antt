-- Parts of a whole call: each goes on by events of the chain, comes to its end, or loses a member.
use Rattle.std.specs.Prelude.{◌≡◌, ℕ, ◌<◌, ◌≤◌, List, length, count_by, Option}
use Rattle.md_model.specs.Events.{Event}
use Rattle.md_assembly.specs.declared.state.MemberState.TheVariants.{Faulty}
use Rattle.md_inflight.specs.Requests.Pending.{PendingView}
use Rattle.md_kept_members.specs.View.{MemberView}
use Rattle.md_assembly.specs.States.{is_recorded}
use Rattle.md_state.specs.Members.{IsMember}
use Rattle.md_state.specs.View.{ArrayView, MirrorView}
use Rattle.md_state.specs.Requests.{AreInFlight, IsPending}
use Rattle.md_array.specs.Consistency.{IsConsistent}
use Rattle.md_array.specs.Events.{Does}
use Rattle.md_array.specs.InTurn.{AllOf, Did, HaltsAt, LeftWhole, Leads, Requests}
use Rattle.md_array.specs.Worlds.{AreHonest}

-- how many members are kept up to date: each failure takes one
abbrev pub recorded_count : ArrayView → ℕ
recorded_count a = count_by (λ m. is_recorded m.state) a.members

-- what the mirror keeps of the array, but for its members and its superblock
pub record IsSameArray (old new : ArrayView) : Type 0 where
  pub chunks : new.chunks ≡ old.chunks
  pub marks : new.marks ≡ old.marks
  pub as_many : length new.members ≡ length old.members
  pub requests : new.requests ≡ old.requests
  pub resynced : new.resynced ≡ old.resynced
  pub fewer : recorded_count new ≤ recorded_count old

-- requests in flight, by those beside the call's own: the same where it has none
abbrev pub only_others : Requests → Requests
only_others others = others

-- One event, whatever came before it.
pub record StepsBy (F G : Requests → Requests) (IsOf : Event → Type 0) (e : Event) (old new : MirrorView) : Type 0 where
  pub of : IsOf e
  pub did : (others : Requests) → Did old (F others) e new (G others)
  pub happens : AreHonest old.disks → LeftWhole old e new → (others : Requests) → AreInFlight old.array others → Does old (F others) e new (G others)
  pub array : IsSameArray old.array new.array
  pub sound : IsConsistent new
  pub pending : (o : PendingView) → IsPending old.array o → IsPending new.array o

-- Events of a kind, one after another.
pub record GoesOn (F G : Requests → Requests) (IsOf : Event → Type 0) (old new : MirrorView) : Type 0 where
  pub events : List Event
  pub steps : AllOf IsOf events
  pub leads : (previous : Option Event) (others : Requests) → AreInFlight old.array others → Leads previous old (F others) events new (G others)
  pub array : IsSameArray old.array new.array
  pub sound : IsConsistent new
  pub pending : (o : PendingView) → IsPending old.array o → IsPending new.array o

-- Events of a kind, one after another, whatever becomes of the marks and of the array's fields.
pub record LeadsBy (IsOf : Event → Type 0) (old new : MirrorView) : Type 0 where
  pub events : List Event
  pub steps : AllOf IsOf events
  pub leads : (previous : Option Event) (others : Requests) → AreInFlight old.array others → Leads previous old others events new others
  pub requests : new.array.requests ≡ old.array.requests
  pub sound : IsConsistent new
  pub pending : (o : PendingView) → IsPending old.array o → IsPending new.array o

-- a member failed
pub record LosesSomeMember (F G : Requests → Requests) (IsOf : Event → Type 0) (old new : MirrorView) : Type 0 where
  pub goes : GoesOn F G IsOf old new
  pub lost : recorded_count new.array < recorded_count old.array
  pub halted : new.array.halted ≡ old.array.halted

-- After some events a write failed on a member that can't be made faulty, and the mirror is halted.
pub record HaltsAfter (F G : Requests → Requests) (IsOf : Event → Type 0) (old new : MirrorView) : Type 0 where
  pub mid : MirrorView
  pub goes : GoesOn F G IsOf old mid
  pub failing : Event
  pub of : IsOf failing
  pub halts : (others : Requests) → HaltsAt mid (G others) failing new
  pub sound : IsConsistent new
  pub pending : (o : PendingView) → IsPending old.array o → IsPending new.array o

-- member k is faulty
pub record IsFaulty (k : ℕ) (a : ArrayView) : Type 0 where
  pub member : MemberView
  pub at : IsMember a k member
  pub faulty : member.state ≡ Faulty
