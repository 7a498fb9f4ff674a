-- A request's bytes go to a member.
use Rattle.std.proofs.Common.{◌≡◌, ℕ, ◌+◌, ◌*◌, ◌<◌, ◌≤◌, true, not, List, [], ◌∷◌, ◌++◌, length, Option, Some, None, arith, refl, sym, ap, subst, inr}
use Rattle.std.specs.Prelude.{option_map, slice_get}
use Rattle.std.proofs.lemmas.Bool.{and_from}
use Rattle.std.proofs.lemmas.Option.{same_Some}
use Rattle.md_super.specs.declared.superblock.Superblock.{Superblock}
use Rattle.md_inflight.specs.Requests.Pending.{PendingView}
use Rattle.md_kept_members.specs.View.{MemberView}
use Rattle.md_kept_members.proofs.Members.Counting.{some_counted}
use Rattle.md_faults.specs.declared.step_fault.WriteMemberFault.{WriteMemberFault}
use Rattle.md_faults.specs.declared.step_fault.WriteMemberFault.TheVariants.{AlreadyWritten, Halted, MemberFailed, NotActive, NotMarked, NotRecorded}
use Rattle.md_state.specs.View.{ArrayView, Disk, MirrorView}
use Rattle.md_state.specs.Members.{IsMember}
use Rattle.md_state.specs.DiskWrites.{IsFailed, IsWritten}
use Rattle.md_state.specs.Steps.Fail.{AnswersWrite}
use Rattle.md_state.specs.Requests.{IsPending, lacks}
use Rattle.md_state.specs.Steps.WriteMember.{MayWrite, RefusesWriteMember, WritesTo}
use Rattle.md_array.specs.Consistency.{IsConsistent}

-- the superblock is that of member k
abbrev pub IsOwn : ArrayView → ℕ → Superblock → Type 0
IsOwn a k own = option_map (λ (m : MemberView). m.superblock) (slice_get a.members k) ≡ Some own

record Owned (a : ArrayView) (k : ℕ) (own : Superblock) : Type 0 where
  member : MemberView
  at : IsMember a k member
  is : member.superblock ≡ own

owned : (a : ArrayView) (k : ℕ) (own : Superblock) → IsOwn a k own → Owned a k own
owned a k own is = by (slice_get a.members k) refl is
  where
    by : (o : Option MemberView) → o ≡ slice_get a.members k → option_map (λ (m : MemberView). m.superblock) o ≡ Some own → Owned a k own
    by None found named = absurd cc
    by (Some m) found named = record { member = m; at = sym found; is = same_Some _ _ named }

-- there is room for the number of a member that lacks the bytes
pub has_room : (a : ArrayView) (k : ℕ) (p : PendingView) (own : Superblock) → IsOwn a k own → ((m : MemberView) → IsMember a k m → MayWrite k a p m) → IsPending a p → length p.written < 64
has_room a k p own is may pending =
    let there = owned a k own is in
    let m = there.member in
    let write = may m there.at in
    let lacking : lacks p m ≡ true = and_from _ _ write.intent.in_sync.in_sync (ap not write.unwritten) in
    let some = some_counted (lacks p) a.members k m there.at lacking in
    let room = pending.room in
    omega arith

-- the write lies on the device
pub on_device : (v : MirrorView) (k : ℕ) (p : PendingView) (own : Superblock) → IsOwn v.array k own → IsConsistent v → IsPending v.array p → (d : Disk) → slice_get v.disks k ≡ Some d
    → 512 * (own.data_offset + p.sector) + length p.bytes ≤ length d.content
on_device v k p own is sound pending d at =
    let there = owned v.array k own is in
    let fits = sound.fits.each k d there.member at there.at in
    let inside = (sound.inside p.ticket.number _ pending.extent).1 in
    let size = sound.chunks.member_size k there.member there.at in
    let holds = fits.placed.data_holds in
    let within = fits.placed.data_within in
    let array_size = sound.chunks.size in
    let whole = pending.whole in
    let offset : own.data_offset ≡ there.member.superblock.data_offset = ap (λ (s : Superblock). s.data_offset) (sym there.is) in
    omega arith

-- it was done
writes_there : (v : MirrorView) (disks : List Disk) (k : ℕ) (p : PendingView) (own : Superblock) (written : List ℕ) → IsOwn v.array k own → ((m : MemberView) → IsMember v.array k m → MayWrite k v.array p m)
    → IsWritten k (record { sector = own.data_offset + p.sector; bytes = p.bytes }) v.disks disks → written ≡ p.written ++ own.dev_number ∷ []
    → WritesTo k v (record { disks = disks; array = v.array }) p (record p { written = written })
writes_there v disks k p own written is may done more =
    let there = owned v.array k own is in
    record {
      member = there.member;
      may = may there.member there.at;
      disks = rw there.is done;
      array = refl;
      pending = rw there.is (ap (λ (ns : List ℕ). record p { written = ns }) more);
    }

-- it failed
fails_there : (v : MirrorView) (disks : List Disk) (b : ArrayView) (k : ℕ) (p : PendingView) (own : Superblock) (fault : WriteMemberFault) → IsOwn v.array k own
    → ((m : MemberView) → IsMember v.array k m → MayWrite k v.array p m) → IsFailed k (record { sector = own.data_offset + p.sector; bytes = p.bytes }) v.disks disks → AnswersWrite k v.array b fault
    → RefusesWriteMember k v (record { disks = disks; array = b }) p p fault
fails_there v disks b k p own fault is may failed answers = by fault answers
  where
    by : (f : WriteMemberFault) → AnswersWrite k v.array b f → RefusesWriteMember k v (record { disks = disks; array = b }) p p f
    by Halted halts =
        let there = owned v.array k own is in
        inr (record { member = there.member; may = may there.member there.at; halts = record { disks = rw there.is failed; array = halts }; pending = refl })
    by (MemberFailed j) fails =
        let there = owned v.array k own is in
        (fails.0, record { member = there.member; may = may there.member there.at; fails = record { disks = rw there.is failed; array = fails.1 }; pending = refl })
    by NotActive never = absurd never
    by (NotMarked j) never = absurd never
    by (NotRecorded j) never = absurd never
    by AlreadyWritten never = absurd never

-- The same, where the mirror and the request are known by what they were read as.
module _ (x v : MirrorView) (q p : PendingView) (same : x ≡ v) (like : q ≡ p) (k : ℕ) (own : Superblock) (is : IsOwn v.array k own) (may : (m : MemberView) → IsMember x.array k m → MayWrite k x.array p m) where
  own_there : IsOwn x.array k own
  own_there = subst (λ (y : MirrorView). IsOwn y.array k own) (sym same) is

  may_there : (m : MemberView) → IsMember x.array k m → MayWrite k x.array q m
  may_there = subst (λ (r : PendingView). (m : MemberView) → IsMember x.array k m → MayWrite k x.array r m) (sym like) may

  pub room_left : IsPending v.array p → length q.written < 64
  room_left pending =
      let at_v = subst (λ (y : MirrorView). (m : MemberView) → IsMember y.array k m → MayWrite k y.array p m) same may in
      subst (λ (r : PendingView). length r.written < 64) (sym like) (has_room v.array k p own is at_v pending)

  module _ (disks : List Disk) where
    pub writes_to : (written : List ℕ) → IsWritten k (record { sector = own.data_offset + q.sector; bytes = q.bytes }) x.disks disks → written ≡ q.written ++ own.dev_number ∷ []
        → WritesTo k v (record { disks = disks; array = x.array }) p (record q { written = written })
    writes_to written done more =
        subst (λ (r : PendingView). WritesTo k v (record { disks = disks; array = x.array }) r (record q { written = written })) like
        (subst (λ (y : MirrorView). WritesTo k y (record { disks = disks; array = x.array }) q (record q { written = written })) same
        (writes_there x disks k q own written own_there may_there done more))

    pub fails_to_write : (b : ArrayView) (fault : WriteMemberFault) → IsFailed k (record { sector = own.data_offset + q.sector; bytes = q.bytes }) x.disks disks → AnswersWrite k x.array b fault
        → RefusesWriteMember k v (record { disks = disks; array = b }) p p fault
    fails_to_write b fault failed answers =
        subst (λ (r : PendingView). RefusesWriteMember k v (record { disks = disks; array = b }) r r fault) like
        (subst (λ (y : MirrorView). RefusesWriteMember k y (record { disks = disks; array = b }) q q fault) same
        (fails_there x disks b k q own fault own_there may_there failed answers))
