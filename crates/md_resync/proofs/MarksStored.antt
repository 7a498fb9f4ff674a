-- A sector of a bitmap is stored: the data is as it was, so that members agree as before.
use Rattle.std.proofs.Common.{◌≡◌, ℕ, ◌+◌, ◌*◌, ◌<◌, inl, inr, cond, List, [], ◌∷◌, length, length-set, Option, Some, None, drop, set, slice_get, refl, sym, ap, ◌∙◌, subst, arith}
use Rattle.std.proofs.lemmas.Bool.{cases_lt}
use Rattle.std.proofs.lemmas.Option.{none-some, slice_get_within}
use Rattle.md_bitmap.proofs.Padded.{length-padded}
use Rattle.md_bitmap.specs.Marks.{Bitmap}
use Rattle.md_device.specs.Splice.{SameOutside}
use Rattle.md_members.specs.Areas.{bitmap_sectors}
use Rattle.md_model.proofs.Cases.{below-nat_lt}
use Rattle.md_model.proofs.Puts.{by_same}
use Rattle.md_model.specs.Devices.{Stored}
use Rattle.md_model.specs.Events.{Event, MemberPart}
use Rattle.md_members.specs.DeviceWrites.Writes.{Write}
use Rattle.md_inflight.specs.declared.requests.extent.Extent.{Extent}
use Rattle.md_kept_members.specs.View.{MemberView}
use Rattle.md_kept_members.specs.OnDevices.Storing.{sector_from_super}
use Rattle.md_state.specs.Steps.CopyData.{Lists}
use Rattle.md_state.specs.DeviceChanges.{AreSame}
use Rattle.md_state.specs.Members.{IsInSync}
use Rattle.md_state.specs.Steps.StoreMarks.{StoresMarkSector}
use Rattle.md_state.specs.View.{ArrayView, Disk, MirrorView}
use Rattle.md_state.specs.Steps.MakeClean.{IsIdle, first_number}
use Rattle.md_state.specs.Requests.{AreInFlight}
use Rattle.md_array.specs.Consistency.{IsConsistent}
use Rattle.md_array.specs.InTurn.{AllOf, IsSectorDue, Leads, Requests}
use Rattle.md_array.specs.Steps.NoteResynced.{AllAgreeAt, IsHonestMember, sector_of}
use Rattle.md_array.specs.Worlds.{none_in_flight}
use Rattle.md_array.proofs.StepLemmas.Turns.{all_such}
use Rattle.md_array.proofs.General.Indices.{at_set_same, got_other}
use Rattle.md_array.proofs.StepLemmas.FailedParts.{halted_then}
use Rattle.md_array.proofs.StepLemmas.StoreMarks.{marks_stored_is_consistent}
use Rattle.md_array.proofs.Worlds.Outside.{starts_at}
use Rattle.md_array.proofs.Worlds.PartsApart.{marks_alone, parts_of}
use Rattle.md_array.proofs.Openings.Opened.{same_through}
use Rattle.md_laws.proofs.Runs.ReadTurns.{unread}
use Rattle.md_metadata.specs.Going as metadata
use Rattle.md_metadata.specs.Going.{only_others}
use Rattle.md_metadata.specs.Storing.{HasAllMarks, IsMarking, IsNoFailure, LosesStoring, StoresAll}
use Rattle.md_inflight.specs.Inflight.{InflightList}
use Rattle.md_resync.specs.Resyncing.{FailsAtWrite, ResyncGoesOn, HaltsIdle, HasSameMembers, IsOfResync, StoresAllMarks}
use Rattle.md_resync.proofs.Agreeing.{IsCalm, calm_content}
use Rattle.md_resync.proofs.Cleared.{same_disks, same_members}
use Rattle.md_resync.proofs.CopiedRuns.{tried_same}
use Rattle.md_resync.specs.Steps.{GoesBySteps, IsNoCopy}
use Rattle.md_resync.proofs.Resynced.{members_on}
use Rattle.md_resync.proofs.StepsOn.{by_singles}
use Rattle.md_assembly.proofs.Indices.{got_within, got_same}

module _ (k block : ℕ) (old new : MirrorView) (c : IsConsistent old) (low : block < bitmap_sectors old.array.marks.chunks) (r : StoresMarkSector k block old new) where
  abbrev m : MemberView
  m = r.member

  abbrev n : MemberView
  n = record r.member { stored = r.stored }

  abbrev start : ℕ
  start = sector_from_super m.superblock.bitmap_offset

  members_are : new.array.members ≡ set old.array.members k n
  members_are = ap (λ (a : ArrayView). a.members) r.array

  sector_is : r.write.sector ≡ start + block
  sector_is = ap (λ (w : Write). w.sector) r.may.write.is ∙ ap (λ (x : ℕ). x + block) (sym (starts_at m.superblock r.may.write.start r.may.write.starts))

  length_is : length r.write.bytes ≡ 512
  length_is = ap (λ (w : Write). length w.bytes) r.may.write.is ∙ length-padded 512 (drop (512 * block) _)

  data_stays : (s : ℕ) → s < old.array.chunks.size → (d e : Disk) → slice_get old.disks k ≡ Some d → slice_get new.disks k ≡ Some e → sector_of m e s ≡ sector_of m d s
  data_stays s below d e was is =
      let outside = subst (λ (x : ℕ). SameOutside (512 * x) 512 d.content e.content) sector_is
      (subst (λ (x : ℕ). SameOutside (512 * r.write.sector) x d.content e.content) length_is (r.disks.tried.outside d e was is)) in
      let count = c.chunks.member_count k m r.may.in_sync.member in
      let low_of_member = subst (λ (x : ℕ). block < bitmap_sectors x) (sym count) low in
      let only_others = marks_alone old.array m d.content e.content (parts_of old c k d m was r.may.in_sync.member) block low_of_member outside in
      let within = below-nat_lt s old.array.chunks.size below in
      sym (ap (λ b. cond b (sector_of m e s) []) within) ∙ ap (λ (x : Stored). x.content s) only_others ∙ ap (λ b. cond b (sector_of m d s) []) within

  -- a member in sync, and what it was
  record WasServed (s j : ℕ) (x : MemberView) (e : Disk) : Type 0 where
    member : MemberView
    disk : Disk
    served : IsHonestMember old j member disk
    listed : Lists member s → Lists x s
    sector : sector_of x e s ≡ sector_of member disk s

  was_served : (s : ℕ) → s < old.array.chunks.size → (j : ℕ) (x : MemberView) (e : Disk) → IsHonestMember new j x e → WasServed s j x e
  was_served s below j x e is = by_same j k
      (λ here.
      let inside = slice_get_within old.array.members k m r.may.in_sync.member in
      let at : slice_get new.disks k ≡ Some e = sym (ap (slice_get new.disks) here) ∙ is.disk in
      let x_is : x ≡ n = got_same new.array.members k x n (sym (ap (slice_get new.array.members) here) ∙ is.in_sync.member) (ap (λ (xs : List MemberView). slice_get xs k) members_are ∙ at_set_same old.array.members k n inside) in
      let many = r.disks.tried.as_many in
      let there = slice_get_within new.disks k e at in
      let d = got_within old.disks k (omega arith) in
      let stays = r.disks.tried.stays d.0 e d.1 at in
      record {
        member = m;
        disk = d.0;
        served = record {
          in_sync = record { member = ap (slice_get old.array.members) here ∙ r.may.in_sync.member; in_sync = r.may.in_sync.in_sync };
          disk = ap (slice_get old.disks) here ∙ d.1;
          honest = sym stays.honest ∙ is.honest;
        };
        listed = λ lists. subst (λ (y : MemberView). Lists y s) (sym x_is) lists;
        sector = ap (λ (y : MemberView). sector_of y e s) x_is ∙ data_stays s below d.0 e d.1 at;
      })
      (λ apart. record {
        member = x;
        disk = e;
        served = record {
          in_sync = record { member = sym (got_other old.array.members k j n apart) ∙ sym (ap (λ (xs : List MemberView). slice_get xs j) members_are) ∙ is.in_sync.member; in_sync = is.in_sync.in_sync };
          disk = sym (r.disks.tried.others j apart) ∙ is.disk;
          honest = is.honest;
        };
        listed = λ lists. lists;
        sector = refl;
      })

  pub mark_agrees : (s : ℕ) → s < old.array.chunks.size → AllAgreeAt old s → AllAgreeAt new s
  mark_agrees s below agree i j x y d e one other free free_too =
      let a = was_served s below i x d one in
      let b = was_served s below j y e other in
      a.sector ∙ agree i j a.member b.member a.disk b.disk a.served b.served (λ lists. free (a.listed lists)) (λ lists. free_too (b.listed lists)) ∙ sym b.sector

  mark_members : HasSameMembers old.array new.array
  mark_members = record {
    as_many = ap length members_are ∙ length-set old.array.members k n;
    each = λ j x y was is.
        let at : slice_get (set old.array.members k n) j ≡ Some y = ap (λ (xs : List MemberView). slice_get xs j) (sym members_are) ∙ is in
        by_same j k
        (λ here.
        let inside = slice_get_within old.array.members k m r.may.in_sync.member in
        let x_is : x ≡ m = got_same old.array.members k x m (sym (ap (slice_get old.array.members) here) ∙ was) r.may.in_sync.member in
        let y_is : y ≡ n = got_same (set old.array.members k n) k y n (sym (ap (slice_get (set old.array.members k n)) here) ∙ at) (at_set_same old.array.members k n inside) in
        y_is ∙ ap (λ (z : MemberView). record z { stored = r.stored }) (sym x_is) ∙ ap (λ (b : Bitmap). record x { stored = b }) (sym (ap (λ (z : MemberView). z.stored) y_is)))
        (λ apart.
        let same : y ≡ x = got_same old.array.members j y x (sym (got_other old.array.members k j n apart) ∙ at) was in
        same ∙ ap (λ (z : MemberView). record x { stored = z.stored }) (sym same));
  }

-- ---- sector by sector, where nothing fails
abbrev IsMarkStored : Event → Type 0
IsMarkStored (Event.StoreMarks k b) = Unit {0}
IsMarkStored e = ⊥

-- a sector that is due is one of the bitmap
due_within : (a : ArrayView) (k block : ℕ) (m : MemberView) → IsInSync a k m → IsSectorDue a k block → block < bitmap_sectors a.marks.chunks
due_within a k block m is due = elim (cases_lt block (bitmap_sectors a.marks.chunks)) [
  | inl low ↦ low
  | inr high ↦ elim (due m is) [
    | inl lacks ↦ absurd (lacks (λ c here below. absurd (omega arith)))
    | inr first ↦ let zero = first.0 in omega arith
  ]
]

record LeavesData (old new : MirrorView) : Type 0 where
  pub same : AreSame old.disks new.disks
  pub members : HasSameMembers old.array new.array
  pub size : new.array.chunks.size ≡ old.array.chunks.size
  pub agree : (s : ℕ) → s < old.array.chunks.size → AllAgreeAt old s → AllAgreeAt new s

leaves_step : (k block : ℕ) (old mid new : MirrorView) (c : IsConsistent old) (low : block < bitmap_sectors old.array.marks.chunks) (r : StoresMarkSector k block old mid) → LeavesData mid new → LeavesData old new
leaves_step k block old mid new c low r rest =
    let size : mid.array.chunks.size ≡ old.array.chunks.size = ap (λ (a : ArrayView). a.chunks.size) r.array in
    record {
      same = same_through old.disks mid.disks new.disks (tried_same k r.write old.disks mid.disks r.disks.tried) rest.same;
      members = members_on old.array mid.array new.array (mark_members k block old mid c low r) rest.members;
      size = rest.size ∙ size;
      agree = λ s below agree. rest.agree s (subst (λ (x : ℕ). s < x) (sym size) below) (mark_agrees k block old mid c low r s below agree);
    }

leaves_along : (es : List Event) (previous : Option Event) (old : MirrorView) (before : Requests) (new : MirrorView) (after : Requests) → AllOf IsMarkStored es → IsConsistent old
    → Leads previous old before es new after → LeavesData old new
leaves_along [] previous old before new after all sound t = subst (LeavesData old) t.0 (record { same = same_disks old.disks old.disks refl; members = same_members old.array; size = refl; agree = λ s below agree. agree })
leaves_along (Event.StoreMarks k b ∷ es) previous old before new after all sound t =
    let r = t.3.1 in
    let low = due_within old.array k b r.member r.may.in_sync t.2 in
    leaves_step k b old t.0 new sound low r (leaves_along es (Some (Event.StoreMarks k b)) t.0 t.1 new after all.1 (marks_stored_is_consistent k b old t.0 sound low r) t.5)
leaves_along (e ∷ es) previous old before new after all sound t = absurd all.0

mark_is_calm : (e : Event) → IsMarkStored e → IsCalm e
mark_is_calm (Event.StoreMarks k b) is = record { of = tt; leaves = record { becomes = λ g w a. refl; whole = λ old new. tt } }
mark_is_calm e is = absurd is

mark_is_stored : (e : Event) → IsMarking e → IsNoFailure e → IsMarkStored e
mark_is_stored (Event.StoreMarks k b) is done = tt
mark_is_stored (Event.WriteFails k part) is done = absurd done
mark_is_stored e is done = absurd is

all_stored : (es : List Event) → AllOf IsMarking es → AllOf IsNoFailure es → AllOf IsMarkStored es
all_stored [] marking unfailing = tt
all_stored (e ∷ es) marking unfailing = (mark_is_stored e marking.0 unfailing.0, all_stored es marking.1 unfailing.1)

marking_no_copy : (e : Event) → IsMarking e → IsNoCopy e
marking_no_copy (Event.StoreMarks k b) is = tt
marking_no_copy (Event.WriteFails k (MemberPart.BitmapSector b)) is = tt
marking_no_copy e is = absurd is

marking_by_steps : (es : List Event) (old new : MirrorView) → AllOf IsMarking es
    → ((previous : Option Event) (requests : Requests) → AreInFlight old.array requests → Leads previous old requests es new requests) → GoesBySteps es old new
marking_by_steps es old new all = by_singles es old new (all_such IsMarking IsNoCopy marking_no_copy es all)

-- all of it
pub stores_marks : (old new : MirrorView) → IsIdle old.array → IsConsistent old → StoresAll IsMarking (HasAllMarks old.array.marks) old new → StoresAllMarks old new
stores_marks old new idle sound s =
    let g = s.stores.goes in
    let steps = all_stored g.events g.steps s.stores.unfailing in
    let ready = s.stores.ready in
    let leaves = leaves_along g.events None old none_in_flight new none_in_flight steps sound (g.leads None none_in_flight (λ number p e. absurd (none-some p e))) in
    let leads = λ (previous : Option Event) (requests : Requests) (in_flight : AreInFlight old.array requests).
    unread g.events previous old requests (λ v x. (v ≡ new) × (x ≡ requests)) (g.leads previous requests in_flight) in
    record {
      advances = record {
        goes = record { events = g.events; steps = all_such IsMarkStored IsOfResync (λ e is. (mark_is_calm e is).of) g.events steps; leads = leads; by_steps = marking_by_steps g.events old new g.steps g.leads; unread = λ only_others. g.leads };
        unfailing = s.stores.unfailing;
        same = leaves.same;
        idle = subst IsIdle (sym ready.others) (record { running = idle.running; none = idle.none });
        sound = g.sound;
      };
      only = g.steps;
      members = leaves.members;
      array = ready.others;
      stored = λ k m is. subst (λ (x : Bitmap). HasAllMarks x m) (sym (ap (λ (a : ArrayView). a.marks) ready.others)) (s.done k m is);
      agree = leaves.agree;
      content = calm_content g.events old new (all_such IsMarkStored IsCalm mark_is_calm g.events steps) leads;
    }

-- ---- where a write fails
marking_of : (e : Event) → IsMarking e → IsOfResync e
marking_of (Event.StoreMarks k b) is = tt
marking_of (Event.WriteFails k (MemberPart.BitmapSector b)) is = tt
marking_of e is = absurd is

marking_goes : (old new : MirrorView) → metadata.GoesOn only_others only_others IsMarking old new → ResyncGoesOn old new
marking_goes old new g = record {
  events = g.events;
  steps = all_such IsMarking IsOfResync marking_of g.events g.steps;
  leads = λ previous requests in_flight. unread g.events previous old requests (λ v x. (v ≡ new) × (x ≡ requests)) (g.leads previous requests in_flight);
  by_steps = marking_by_steps g.events old new g.steps g.leads;
  unread = λ only_others. g.leads;
}

pub loses_marks : (k : ℕ) (old new : MirrorView) → IsIdle old.array → LosesStoring IsMarking k old new → FailsAtWrite k old new
unfolding marking_goes
loses_marks k old new idle s =
    let l = s.loses in
    record {
      goes = marking_goes old new l.goes;
      last = s.last;
      marks = inl l.goes.array.marks;
      idle = record { running = l.halted ∙ idle.running; none = subst (λ (x : InflightList Extent). first_number (record old.array { requests = x }) ≡ None) (sym l.goes.array.requests) idle.none };
      was = s.was;
      faulty = s.faulty;
    }

pub halts_marks : (old new : MirrorView) → IsIdle old.array → metadata.HaltsAfter only_others only_others IsMarking old new → HaltsIdle old new
halts_marks old new idle h = record {
  halts = record { idle = idle; mid = h.mid; goes = marking_goes old h.mid h.goes; failing = h.failing; of = marking_of h.failing h.of; halts = h.halts };
  halted = halted_then h.mid new none_in_flight h.failing (h.halts none_in_flight);
}
