-- Marks of some chunks are stored sector by sector.
use Rattle.std.proofs.Common.{◌≡◌, ℕ, ◌+◌, ◌-◌, ◌<◌, ◌≤◌, Bool, true, false, cond, eqb, nat_lt, ◌&&◌, ◌↔◌, refl, sym, ap, ◌∙◌, subst, arith, eq-eqb, inl}
use Rattle.std.specs.Prelude.{Result, Ok, Err, MatchResult}
use Rattle.md_model.specs.Events.{Event, MemberPart}
use Rattle.md_model.specs.Sectors.{block_of}
use Rattle.md_model.proofs.Cases.{below-nat_lt}
use Rattle.md_model.proofs.Puts.{by_same}
use Rattle.md_bitmap.specs.Marks.{Bitmap, is_set}
use Rattle.md_kept_members.specs.View.{MemberView}
use Rattle.md_state.specs.View.{ArrayView, MirrorView}
use Rattle.md_state.specs.Members.{IsInSync, IsMember}
use Rattle.md_state.specs.Steps.WriteMember.{HasMarksFrom}
use Rattle.md_array.specs.Consistency.{IsConsistent}
use Rattle.md_array.specs.InTurn.{IsSectorDue}
use Rattle.md_metadata.specs.declared.fault.PartFault.{PartFault}
use Rattle.md_metadata.specs.Going.{IsSameArray, only_others}
use Rattle.md_metadata.specs.Storing.{IsSector, SectorFails, StaysReady, Stores, StoresAt, StoresOn, StoringFails}
use Rattle.md_metadata.proofs.Going.{sector_stops, step_as, stops_as, stores_nowhere, stores_on, stores_step, was_in_sync}
use Rattle.md_metadata.proofs.Steps.{now_at}
use Rattle.md_metadata.proofs.StoredMembers.{IsLasting}
use Rattle.md_write.specs.Progress.{AreMarkedInMemory, HasBitsOf, HasMarksIn, IsMarkingOf}

pub marks_last : (a : ArrayView) (first end : ℕ) → AreMarkedInMemory a first end → IsLasting a.marks (HasMarksFrom first end)
marks_last a first end are = record {
  lasts = λ b c k n same s has x low high.
      let set = ap (λ (m : Bitmap). is_set m.bytes x) same ∙ are.marked x low high in
      s.marked x (has x low high ∙ sym set) ∙ set;
}

pub marked_still : (a b : ArrayView) (first end : ℕ) → IsSameArray a b → AreMarkedInMemory a first end → AreMarkedInMemory b first end
marked_still a b first end same are = record {
  some = are.some;
  within = subst (λ (m : Bitmap). end ≤ m.chunks) (sym same.marks) are.within;
  marked = subst (λ (m : Bitmap). (c : ℕ) → first ≤ c → c < end → is_set m.bytes c ≡ true) (sym same.marks) are.marked;
}

-- the marks whose bits are in the sectors before this one are stored
pub record StoresUpTo (k first end block : ℕ) (old new : MirrorView) : Type 0 where
  pub stores : Stores (IsMarkingOf first end) old new
  pub done : (m : MemberView) → IsInSync new.array k m → (c : ℕ) → first ≤ c → c < end → block_of c < block → is_set m.stored.bytes c ≡ true

block_mono : (a b : ℕ) → a ≤ b → block_of a ≤ block_of b
block_mono a b l = omega arith

module _ (k first end : ℕ) where
  pub up_none : (m : MirrorView) → IsConsistent m → StoresUpTo k first end (block_of first) m m
  up_none m sound = record { stores = stores_nowhere (IsMarkingOf first end) m sound; done = λ n in_sync c low high before. absurd (let l = block_mono first c low in omega arith) }

  pub up_more : (block : ℕ) (old mid new : MirrorView) → AreMarkedInMemory old.array first end → StoresUpTo k first end block old mid → StoresAt (IsMarkingOf first end) k (HasMarksIn block first end) mid new
      → StoresUpTo k first end (block + 1) old new
  up_more block old mid new are g h = record {
    stores = stores_on (IsMarkingOf first end) old mid new g.stores h.stores;
    done = λ m in_sync c low high before.
        by_same (block_of c) block
        (λ here. h.done m in_sync c low high here)
        (λ apart.
        let s : StaysReady mid.array new.array k m = h.stores.ready.each k m in_sync.member in
        let set = ap (λ (x : Bitmap). is_set x.bytes c) g.stores.goes.array.marks ∙ are.marked c low high in
        s.marked c (g.done s.before (was_in_sync mid.array new.array k m s in_sync) c low high (omega arith) ∙ sym set) ∙ set);
  }

  pub up_all : (block : ℕ) (old new : MirrorView) → block_of (end - 1) < block → StoresUpTo k first end block old new → StoresAt (IsMarkingOf first end) k (HasMarksFrom first end) old new
  up_all block old new past g = record {
    stores = g.stores;
    done = λ m in_sync c low high. g.done m in_sync c low high (let l = block_mono c (end - 1) (omega arith) in omega arith);
  }

-- ---- one sector of one member
sector_marks : (k first end block : ℕ) → HasBitsOf first end block → (e : Event) → IsSector k block e → IsMarkingOf first end e
sector_marks k first end block bits (Event.StoreMarks j b) is = subst (HasBitsOf first end) (sym is.1) bits
sector_marks k first end block bits (Event.WriteFails j (MemberPart.BitmapSector b)) is = subst (HasBitsOf first end) (sym is.1) bits
sector_marks k first end block bits e is = absurd is

hit : (b x y : Bool) → b ≡ true → x ≡ true → cond b x y ≡ true
hit true x y e is = is
hit false x y e is = absurd cc

module _ (k block first end : ℕ) (old new : MirrorView) (are : AreMarkedInMemory old.array first end) (bits : HasBitsOf first end block) where
  pub stored_in : IsConsistent old → IsSectorDue old.array k block → StoresOn k block old new → StoresAt (IsMarkingOf first end) k (HasMarksIn block first end) old new
  stored_in sound due s =
      let r = s.gives in
      record {
        stores = stores_step (IsMarkingOf first end) (Event.StoreMarks k block) old new tt
            (step_as (IsSector k block) (IsMarkingOf first end) (sector_marks k first end block bits) only_others only_others (Event.StoreMarks k block) old new s.step) (λ previous. due) s.ready;
        done = λ m in_sync c low high here.
            let it = now_at old.array new.array k r.member (record r.member { stored = r.stored }) r.may.in_sync.member refl r.array m in_sync.member in
            let within = are.within in
            let chunks = sound.chunks.member_count k r.member r.may.in_sync.member in
            let inside : c < r.member.stored.chunks = omega arith in
            ap (λ (x : MemberView). is_set x.stored.bytes c) it ∙ r.has_stored.bits c
            ∙ hit (eqb (block_of c) block && nat_lt c r.member.stored.chunks) _ _
            (ap (λ (b : Bool). b && nat_lt c r.member.stored.chunks) (eq-eqb _ _ here) ∙ below-nat_lt c r.member.stored.chunks inside)
            (are.marked c low high);
      }

  pub stored_or_stops : IsConsistent old → IsSectorDue old.array k block → {T : Type 0} (result : Result T PartFault) → MatchResult result (λ _. StoresOn k block old new) (SectorFails k block old new)
      → MatchResult result (λ _. StoresAt (IsMarkingOf first end) k (HasMarksIn block first end) old new) (StoringFails (IsMarkingOf first end) old new)
  stored_or_stops sound due (Ok t) s = stored_in sound due s
  stored_or_stops sound due (Err fault) s = stops_as (IsSector k block) (IsMarkingOf first end) (sector_marks k first end block bits) old new fault (sector_stops k block old new fault s)

-- some of these marks are not stored
pub sector_lacks : (a : ArrayView) (k block first end from to : ℕ) (answer : Bool) → AreMarkedInMemory a first end
    → ((c : ℕ) → ((from ≤ c) × (c < to)) ↔ ((first ≤ c) × (c < end) × (block_of c ≡ block)))
    → answer ≡ false → ((m : MemberView) → IsMember a k m → (answer ≡ true) ↔ HasMarksFrom from to m) → IsSectorDue a k block
sector_lacks a k block first end from to answer are these lacks tells m in_sync =
    inl (λ alike.
    let yes = (tells m in_sync.member).1 (λ c low high.
    let x = (these c).0 (low, high) in
    let within = are.within in
    let below = x.1 in
    alike c x.2 (omega arith) ∙ are.marked c x.0 x.1) in
    cc)
