-- A resync of an array whose recovering members are told of is one of the array before.
use Rattle.std.proofs.Common.{◌≡◌, ◌⊎◌, ℕ, ◌*◌, ◌≤◌, true, false, length, None, sym, ap, ◌∙◌, subst, arith, inl, inr}
use Rattle.std.specs.Prelude.{Result, Ok, Err, MatchResult}
use Rattle.std.proofs.lemmas.Option.{slice_get_within}
use Rattle.md_assembly.specs.States.{is_recovering}
use Rattle.md_assembly.proofs.Indices.{got_within}
use Rattle.md_bitmap.specs.Marks.{IsMarked}
use Rattle.md_inflight.specs.Inflight.{InflightList}
use Rattle.md_inflight.specs.declared.requests.extent.Extent.{Extent}
use Rattle.md_kept_members.specs.View.{MemberView}
use Rattle.md_state.specs.Members.{IsMember}
use Rattle.md_state.specs.Steps.MakeClean.{IsIdle, first_number}
use Rattle.md_state.specs.View.{ArrayView, MirrorView}
use Rattle.md_metadata.specs.Storing.{LosesStoring}
use Rattle.md_resync.specs.declared.fault.ResyncFault.{ResyncFault}
use Rattle.md_resync.specs.declared.fault.ResyncFault.TheVariants.{Halted, InFlight, MemberFailed, NoMemory, ReadFault}
use Rattle.md_resync.specs.Resyncing.{GivesUp, HaltsResync, IdleFails, RefusesResync, Resyncs, ResyncsTold, StoresAllMarks, ToldFails, Unresyncs}
use Rattle.md_resync.specs.Telling.{AfterTelling, AllSayNoneMarked, HaltsTelling, IsTelling, TellingFails, Tells}
use Rattle.md_resync.proofs.Advancing.{goes_none, goes_unresynced, loses_member, stops_reading}

-- ---- nothing is in flight
pub told_idle : (old told : MirrorView) → IsIdle old.array → Tells old told → IsIdle told.array
told_idle old told idle t = subst IsIdle (sym t.array) (record { running = idle.running; none = idle.none })

lost_idle : (k : ℕ) (old lost : MirrorView) → IsIdle old.array → LosesStoring IsTelling k old lost → IsIdle lost.array
lost_idle k old lost idle s = record {
  running = s.loses.halted ∙ idle.running;
  none = subst (λ (x : InflightList Extent). first_number (record old.array { requests = x }) ≡ None) (sym s.loses.goes.array.requests) idle.none;
}

-- marks that are stored change nothing of what recovering members say
pub still_told : (old new : MirrorView) → StoresAllMarks old new → AllSayNoneMarked old.array → AllSayNoneMarked new.array
still_told old new s told k n is on c marked =
    let low = slice_get_within new.array.members k n is in
    let many = s.members.as_many in
    let m = got_within old.array.members k (omega arith) in
    let same : n ≡ record m.0 { stored = n.stored } = s.members.each k m.0 n m.1 is in
    subst (λ (a : ArrayView). n.stored_offset ≤ c * a.chunks.sectors) (sym s.array)
    (subst (λ (o : ℕ). o ≤ c * old.array.chunks.sectors) (sym (ap (λ (x : MemberView). x.stored_offset) same))
    (told k m.0 m.1 (sym (ap (λ (x : MemberView). is_recovering x.state) same) ∙ on) c (subst (λ (a : ArrayView). IsMarked a.marks c) s.array marked)))

-- where it runs still, nothing is in flight
told_still : (old mid : MirrorView) (fault : ResyncFault) → ToldFails old mid fault → mid.array.halted ≡ false → IsIdle mid.array
told_still old mid Halted h running = let halted = h.halted in absurd cc
told_still old mid (InFlight n) h running = absurd h
told_still old mid NoMemory h running = absurd h
told_still old mid (ReadFault k chunk) h running = h.advances.idle
told_still old mid (MemberFailed k) h running = h.idle

untold_still : (old mid : MirrorView) (fault : ResyncFault) → IsIdle old.array → TellingFails old mid fault → mid.array.halted ≡ false → IsIdle mid.array
untold_still old mid Halted idle h running = let halted = h.halted in absurd cc
untold_still old mid (InFlight n) idle h running = absurd h
untold_still old mid NoMemory idle h running = absurd h
untold_still old mid (ReadFault k chunk) idle h running = absurd h
untold_still old mid (MemberFailed k) idle h running = lost_idle k old mid idle h

either_still : (old mid : MirrorView) (fault : ResyncFault) → IsIdle old.array → TellingFails old mid fault ⊎ AfterTelling (λ told v. ToldFails told v fault) old mid
    → mid.array.halted ≡ false → IsIdle mid.array
either_still old mid fault idle (inl h) running = untold_still old mid fault idle h running
either_still old mid fault idle (inr h) running = told_still h.told mid fault h.then running

pub idle_still : (old mid : MirrorView) (fault : ResyncFault) → IsIdle old.array → IdleFails old mid fault → mid.array.halted ≡ false → IsIdle mid.array
idle_still old mid Halted idle h running = either_still old mid Halted idle h running
idle_still old mid (InFlight n) idle h running = either_still old mid (InFlight n) idle h running
idle_still old mid NoMemory idle h running = subst (λ (m : MirrorView). IsIdle m.array) (sym h) idle
idle_still old mid (ReadFault k chunk) idle h running = either_still old mid (ReadFault k chunk) idle h running
idle_still old mid (MemberFailed k) idle h running = either_still old mid (MemberFailed k) idle h running

-- ---- what it answers while nothing is in flight
pub told_stops : (old mid : MirrorView) (fault : ResyncFault) → TellingFails old mid fault → IdleFails old mid fault
told_stops old mid Halted h = inl h
told_stops old mid (InFlight n) h = absurd h
told_stops old mid NoMemory h = absurd h
told_stops old mid (ReadFault k chunk) h = absurd h
told_stops old mid (MemberFailed k) h = inl h

after : (old told new : MirrorView) (fault : ResyncFault) → Tells old told → ToldFails told new fault → IdleFails old new fault
after old told new Halted t h = inr (record { told = told; tells = t; then = h })
after old told new (InFlight n) t h = absurd h
after old told new NoMemory t h = absurd h
after old told new (ReadFault k chunk) t h = inr (record { told = told; tells = t; then = h })
after old told new (MemberFailed k) t h = inr (record { told = told; tells = t; then = h })

pub then_resyncs : (old told new : MirrorView) → Tells old told → {T : Type 0} (result : Result T ResyncFault) → MatchResult result (λ _. ResyncsTold told new) (ToldFails told new)
    → MatchResult result (λ _. Resyncs old new) (IdleFails old new)
then_resyncs old told new t (Ok x) r = record { told = told; tells = t; then = r }
then_resyncs old told new t (Err fault) h = after old told new fault t h

-- ---- it is kept that the array is not resynced
module _ (old mid new : MirrorView) (idle : IsIdle old.array) (g : GivesUp mid new) where
  loses : (k : ℕ) → LosesStoring IsTelling k old mid → RefusesResync old new (MemberFailed k)
  loses k s =
      let u = g.running (lost_idle k old mid idle s).running in
      inl (record { idle = idle; lost = mid; loses = s; unresyncs = u; running = ap (λ (a : ArrayView). a.halted) u.marks.array ∙ (lost_idle k old mid idle s).running })

  pub refuses : (fault : ResyncFault) → IdleFails old mid fault → RefusesResync old new fault
  refuses Halted (inl h) = inr (inl (record { idle = idle; halts = subst (HaltsTelling old) (sym (g.halted h.halted)) h }))
  refuses Halted (inr h) = inr (inr (record { told = h.told; tells = h.tells; then = subst (HaltsResync h.told) (sym (g.halted h.then.halted)) h.then.halts }))
  refuses (InFlight n) (inl h) = absurd h
  refuses (InFlight n) (inr h) = absurd h.then
  refuses NoMemory h =
      let u = subst (λ (m : MirrorView). Unresyncs m new) h (g.running (ap (λ (m : MirrorView). m.array.halted) h ∙ idle.running)) in
      record { goes = goes_unresynced old old new idle (goes_none old) u; marks = u.marks }
  refuses (ReadFault k chunk) (inl h) = absurd h
  refuses (ReadFault k chunk) (inr h) =
      (record { told = h.told; tells = h.tells; then = stops_reading h.told mid new (told_idle old h.told idle h.tells) (g.running h.then.advances.idle.running) k chunk h.then })
  refuses (MemberFailed k) (inl h) = loses k h
  refuses (MemberFailed k) (inr h) =
      inr (record { told = h.told; tells = h.tells; then = loses_member h.told mid new (told_idle old h.told idle h.tells) (g.running h.then.idle.running) k h.then })

-- ---- what is kept of the array after all of it
module _ (old new : MirrorView) (r : Resyncs old new) where
  pub resynced_array : new.array ≡ record old.array { members = new.array.members; marks = new.array.marks; resynced = true }
  resynced_array = r.then.array.array ∙ ap (λ (a : ArrayView). record a { members = new.array.members; marks = new.array.marks; resynced = true }) r.tells.array

  pub resynced_many : length new.array.members ≡ length old.array.members
  resynced_many = r.then.array.members.as_many ∙ r.tells.members.as_many

  pub resynced_member : (k : ℕ) (m n : MemberView) → IsMember old.array k m → IsMember new.array k n
      → n ≡ record m { superblock = record m.superblock { recovery_offset = n.superblock.recovery_offset }; stored = n.stored; due = n.due; stored_offset = n.stored_offset }
  resynced_member k m n was is =
      let low = slice_get_within old.array.members k m was in
      let many = r.tells.members.as_many in
      let x = got_within r.told.array.members k (omega arith) in
      let last : n ≡ record x.0 { stored = n.stored } = r.then.array.members.each k x.0 n x.1 is in
      let first = (r.tells.members.each k m x.0 was x.1).same in
      last ∙ ap (λ (y : MemberView). record y { stored = n.stored }) first
      ∙ ap (λ (y : MemberView). record m { superblock = record m.superblock { recovery_offset = y.superblock.recovery_offset }; stored = n.stored; due = y.due; stored_offset = y.stored_offset })
      (sym last)
