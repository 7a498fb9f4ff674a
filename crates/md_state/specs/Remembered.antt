-- What is kept in memory of the array that the members make.
use Rattle.std.specs.Prelude.{◌≡◌, ◌⊎◌, ◌↔◌, ℕ, ◌/◌, ◌≤◌, true, false, List, [], length, map, slice_get, Some}
use Rattle.md_bitmap.specs.Marks as marks
use Rattle.md_bitmap.specs.Marks.{is_set}
use Rattle.md_members.specs.declared.info.MemberInfo.{MemberInfo}
use Rattle.md_members.specs.Members as members
use Rattle.md_assembly.specs.declared.state.MemberState.{MemberState}
use Rattle.md_kept_members.specs.View.{MemberView}
use Rattle.md_kept_members.specs.Kept.{IsKept}
use Rattle.md_assembly.specs.declared.assembling.Assembly.{Assembly}
use Rattle.md_state.specs.View.{ArrayView}
use Rattle.md_state.specs.Members.{IsMember, IsInSync, IsAlone}

-- the accepted bitmap of a member in sync says that marks were cleared at these events
pub record ClearedAt (a : ArrayView) (events : ℕ) : Type 0 where
  pub at : ℕ
  pub member : MemberView
  pub in_sync : IsInSync a at member
  pub accepted : members.IsAccepted member.superblock member.header
  pub is : events ≡ member.header.events_cleared

-- the greatest of them; where there is none, the events of the array
abbrev pub IsLastCleared : ArrayView → ℕ → Type 0
IsLastCleared a events =
    (ClearedAt a events × ((other : ℕ) → ClearedAt a other → other ≤ events))
    ⊎ (((other : ℕ) → ClearedAt a other → ⊥) × (events ≡ a.shared.events))

-- the array as it is kept, by the members that were read and what they make
pub record IsRemembered (infos : List MemberInfo) (assembly : Assembly) (a : ArrayView) : Type 0 where
  pub shared : slice_get (map (λ info. info.superblock) infos) assembly.freshest ≡ Some a.shared
  pub as_many : length a.members ≡ length infos
  pub each : (k : ℕ) (info : MemberInfo) (state : MemberState) (m : MemberView) → slice_get infos k ≡ Some info
      → slice_get assembly.states.items k ≡ Some state → IsMember a k m → IsKept a.shared.events a.events_cleared info state m
  pub size : a.chunks.size ≡ a.shared.size
  pub width : (k : ℕ) (m : MemberView) → IsMember a k m → a.chunks.sectors ≡ m.header.chunksize / 512
  pub events_cleared : IsLastCleared a a.events_cleared
  pub marks : (c : ℕ) → (is_set a.marks.bytes c ≡ true) ↔ ((k : ℕ) × (m : MemberView) × IsInSync a k m × marks.IsMarked m.stored c)
  pub mark_count : (k : ℕ) (m : MemberView) → IsMember a k m → a.marks.chunks ≡ m.stored.chunks
  pub resynced : (a.resynced ≡ true) ↔ (((c : ℕ) → is_set a.marks.bytes c ≡ false) ⊎ IsAlone a)
  pub running : a.halted ≡ false
  pub idle : a.requests ≡ record a.requests { entries = []; next = 0 }
