-- All marks are stored, sector by sector and member by member.
use Rattle.std.proofs.Common.{◌≡◌, ℕ, ◌+◌, ◌<◌, ◌≤◌, ◌↔◌, Bool, true, false, cond, eqb, nat_lt, ◌&&◌, refl, sym, ap, ◌∙◌, subst, arith, eq-eqb, inl}
use Rattle.std.proofs.lemmas.Bool.{lt-ltb}
use Rattle.std.specs.Prelude.{Result, Ok, Err, IfErr, MatchResult}
use Rattle.md_model.specs.Events.{Event}
use Rattle.md_model.specs.Sectors.{block_of}
use Rattle.md_model.proofs.Puts.{by_same}
use Rattle.md_bitmap.specs.Marks.{Bitmap, is_set}
use Rattle.md_bitmap.specs.Sectors.{bitmap_sectors}
use Rattle.md_assembly.specs.States.{is_in_sync}
use Rattle.md_kept_members.specs.View.{MemberView}
use Rattle.md_state.specs.View.{ArrayView, MirrorView}
use Rattle.md_state.specs.Members.{IsInSync, IsMember}
use Rattle.md_array.specs.Consistency.{IsConsistent}
use Rattle.md_array.specs.InTurn.{HasSector, IsSectorDue}
use Rattle.md_metadata.specs.declared.fault.PartFault.{PartFault}
use Rattle.md_metadata.specs.Going.{StepsBy, only_others}
use Rattle.md_metadata.specs.Storing.{FailsInSync, HasAllMarks, IsMarking, IsSector, SectorFails, StaysReady, Stores, StoresAt, StoresOn, StoringFails}
use Rattle.md_metadata.proofs.Going.{sector_in_sync, sector_marks, sector_stops, step_as, stops_as, stores_nowhere, stores_on, stores_step, was_in_sync}
use Rattle.md_metadata.proofs.Steps.{now_at}
use Rattle.md_metadata.proofs.StoredMembers.{IsLasting}

pub all_marks_last : (marks : Bitmap) → IsLasting marks (HasAllMarks marks)
all_marks_last marks = record {
  lasts = λ a b k n same s has c low.
      let bit = ap (λ (m : Bitmap). is_set m.bytes c) same in
      s.marked c (has c low ∙ sym bit) ∙ bit;
}

-- where the bits differ, the sector is due
pub unlike_due : (a : ArrayView) (k block : ℕ) (answer : Bool) → answer ≡ false → ((m : MemberView) → IsMember a k m → (answer ≡ true) ↔ HasSector a block m) → IsSectorDue a k block
unlike_due a k block answer unlike tells m in_sync = inl (λ has. let yes = (tells m in_sync.member).1 has in cc)

-- ---- one sector of one member
hit : (b x y : Bool) → b ≡ true → cond b x y ≡ x
hit true x y e = refl
hit false x y e = absurd cc

module _ (k block : ℕ) (old new : MirrorView) where
  abbrev as_marking : StepsBy only_others only_others (IsSector k block) (Event.StoreMarks k block) old new → StepsBy only_others only_others IsMarking (Event.StoreMarks k block) old new
  as_marking = step_as (IsSector k block) IsMarking (sector_marks k block) only_others only_others (Event.StoreMarks k block) old new

  sector_in : IsConsistent old → IsSectorDue old.array k block → StoresOn k block old new → StoresAt IsMarking k (HasSector old.array block) old new
  sector_in sound due s =
      let r = s.gives in
      record {
        stores = stores_step IsMarking (Event.StoreMarks k block) old new tt (as_marking s.step) (λ previous. due) s.ready;
        done = λ m in_sync c here low.
            let it = now_at old.array new.array k r.member (record r.member { stored = r.stored }) r.may.in_sync.member refl r.array m in_sync.member in
            let chunks = sound.chunks.member_count k r.member r.may.in_sync.member in
            let inside : c < r.member.stored.chunks = omega arith in
            ap (λ (x : MemberView). is_set x.stored.bytes c) it ∙ r.has_stored.bits c
            ∙ hit (eqb (block_of c) block && nat_lt c r.member.stored.chunks) _ _
            (ap (λ (b : Bool). b && nat_lt c r.member.stored.chunks) (eq-eqb _ _ here) ∙ lt-ltb c r.member.stored.chunks inside);
      }

  pub sector_or_stops : IsConsistent old → IsSectorDue old.array k block → {T : Type 0} (result : Result T PartFault) → MatchResult result (λ _. StoresOn k block old new) (SectorFails k block old new)
      → MatchResult result (λ _. StoresAt IsMarking k (HasSector old.array block) old new) (StoringFails IsMarking old new)
  sector_or_stops sound due (Ok t) s = sector_in sound due s
  sector_or_stops sound due (Err fault) s = stops_as (IsSector k block) IsMarking (sector_marks k block) old new fault (sector_stops k block old new fault s)

-- who fails is in sync
pub unlike_in_sync : (k block : ℕ) (old new : MirrorView) → ((m : MemberView) → IsMember old.array k m → is_in_sync m.state ≡ true)
    → {T : Type 0} (result : Result T PartFault) → MatchResult result (λ _. StoresOn k block old new) (SectorFails k block old new) → IfErr result (FailsInSync old.array)
unlike_in_sync k block old new is (Ok t) s = tt
unlike_in_sync k block old new is (Err fault) s = sector_in_sync k block old new fault is s

-- ---- the sectors of one member
-- those before this one are stored
pub record StoresUpTo (k block : ℕ) (old new : MirrorView) : Type 0 where
  pub stores : Stores IsMarking old new
  pub done : (m : MemberView) → IsInSync new.array k m → (c : ℕ) → c < old.array.marks.chunks → block_of c < block → is_set m.stored.bytes c ≡ is_set old.array.marks.bytes c

-- each chunk's bit is in one of them
block_within : (c chunks : ℕ) → c < chunks → block_of c < bitmap_sectors chunks
block_within c chunks low = omega arith

module _ (k : ℕ) where
  pub up_none : (m : MirrorView) → IsConsistent m → StoresUpTo k 0 m m
  up_none m sound = record { stores = stores_nowhere IsMarking m sound; done = λ n in_sync c low before. absurd (omega arith) }

  pub up_more : (block : ℕ) (old mid new : MirrorView) → StoresUpTo k block old mid → StoresAt IsMarking k (HasSector mid.array block) mid new → StoresUpTo k (block + 1) old new
  up_more block old mid new g h = record {
    stores = stores_on IsMarking old mid new g.stores h.stores;
    done = λ m in_sync c low before.
        let same : mid.array.marks ≡ old.array.marks = g.stores.goes.array.marks in
        let bit = ap (λ (x : Bitmap). is_set x.bytes c) same in
        let there : c < mid.array.marks.chunks = subst (λ (x : Bitmap). c < x.chunks) (sym same) low in
        by_same (block_of c) block
        (λ here. h.done m in_sync c here there ∙ bit)
        (λ apart.
        let s : StaysReady mid.array new.array k m = h.stores.ready.each k m in_sync.member in
        s.marked c (g.done s.before (was_in_sync mid.array new.array k m s in_sync) c low (omega arith) ∙ sym bit) ∙ bit);
  }

  pub up_all : (block : ℕ) (old new : MirrorView) → bitmap_sectors old.array.marks.chunks ≤ block → StoresUpTo k block old new → StoresAt IsMarking k (HasAllMarks old.array.marks) old new
  up_all block old new past g = record {
    stores = g.stores;
    done = λ m in_sync c low. g.done m in_sync c low (let within = block_within c old.array.marks.chunks low in omega arith);
  }
