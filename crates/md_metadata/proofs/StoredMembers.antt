-- What is stored on the members, one after another.
use Rattle.std.proofs.Common.{◌≡◌, ℕ, ◌+◌, ◌≤◌, length, subst, arith}
use Rattle.std.proofs.lemmas.Option.{slice_get_within}
use Rattle.md_model.specs.Events.{Event}
use Rattle.md_model.proofs.Puts.{by_same}
use Rattle.md_bitmap.specs.Marks.{Bitmap}
use Rattle.md_kept_members.specs.View.{MemberView}
use Rattle.md_state.specs.View.{ArrayView, MirrorView}
use Rattle.md_state.specs.Members.{IsInSync}
use Rattle.md_state.specs.Steps.WriteMember.{IsNotDue}
use Rattle.md_array.specs.Consistency.{IsConsistent}
use Rattle.md_metadata.specs.Storing.{StaysReady, Stores, StoresAll, StoresAt, StoresBelow}
use Rattle.md_metadata.proofs.Going.{stores_nowhere, stores_on, was_in_sync}

-- what a member that stays ready keeps, where these marks are in memory
pub record IsLasting (marks : Bitmap) (Done : MemberView → Type 0) : Type 0 where
  pub lasts : (a b : ArrayView) (k : ℕ) (n : MemberView) → a.marks ≡ marks → (s : StaysReady a b k n) → Done s.before → Done n

pub records_last : (marks : Bitmap) → IsLasting marks IsNotDue
records_last marks = record { lasts = λ a b k n same s done. s.recorded done }

module _ (Of : Event → Type 0) (Done : MemberView → Type 0) where
  -- one that has it already, or is not in sync
  pub nothing_at : (k : ℕ) (m : MirrorView) → IsConsistent m → ((n : MemberView) → IsInSync m.array k n → Done n) → StoresAt Of k Done m m
  nothing_at k m sound done = record { stores = stores_nowhere Of m sound; done = done }

  pub below_none : (m : MirrorView) → IsConsistent m → StoresBelow Of 0 Done m m
  below_none m sound = record { stores = stores_nowhere Of m sound; done = λ i n low in_sync. absurd (omega arith) }

  pub below_more : (k : ℕ) (old mid new : MirrorView) → IsLasting old.array.marks Done → StoresBelow Of k Done old mid → StoresAt Of k Done mid new → StoresBelow Of (k + 1) Done old new
  below_more k old mid new lasting g h = record {
    stores = stores_on Of old mid new g.stores h.stores;
    done = λ i n low in_sync.
        by_same i k
        (λ same. h.done n (subst (λ (j : ℕ). IsInSync new.array j n) same in_sync))
        (λ apart.
        let s : StaysReady mid.array new.array i n = h.stores.ready.each i n in_sync.member in
        lasting.lasts mid.array new.array i n g.stores.goes.array.marks s (g.done i s.before (omega arith) (was_in_sync mid.array new.array i n s in_sync)));
  }

  pub below_all : (k : ℕ) (old new : MirrorView) → length new.array.members ≤ k → StoresBelow Of k Done old new → StoresAll Of Done old new
  below_all k old new last g = record {
    stores = g.stores;
    done = λ i n in_sync. g.done i n (let low = slice_get_within new.array.members i n in_sync.member in omega arith) in_sync;
  }

  -- a member in sync has it still
  pub last_on : (old mid new : MirrorView) → IsLasting old.array.marks Done → mid.array.marks ≡ old.array.marks → ((k : ℕ) (m : MemberView) → IsInSync mid.array k m → Done m) → Stores Of mid new
      → (k : ℕ) (m : MemberView) → IsInSync new.array k m → Done m
  last_on old mid new lasting same all h k m in_sync =
      let s : StaysReady mid.array new.array k m = h.ready.each k m in_sync.member in
      lasting.lasts mid.array new.array k m same s (all k s.before (was_in_sync mid.array new.array k m s in_sync))
