-- A run of sectors goes to the members in sync: what each holds after that, and where members agree.
use Rattle.std.proofs.Common.{◌≡◌, ◌≢◌, ℕ, zero, suc, ◌+◌, ◌-◌, ◌*◌, ◌/◌, ◌≤◌, inl, inr, true, List, [], ◌∷◌, ◌++◌, length, slice_get, Option, Some, refl, sym, ap, ◌∙◌, subst, arith, append-nil}
use Rattle.std.proofs.lemmas.Option.{slice_get_within}
use Rattle.md_assembly.specs.States.{is_in_sync}
use Rattle.md_assembly.proofs.Indices.{got_within, got_same}
use Rattle.md_device.specs.Device.{held}
use Rattle.md_device.specs.Splice.{part}
use Rattle.md_device.proofs.Splices.{part_after, part_before, part-spliced, part_part}
use Rattle.md_model.specs.Events.{Event, MemberPart}
use Rattle.md_model.proofs.Puts.{by_same}
use Rattle.md_members.specs.DeviceWrites.Writes.{Write}
use Rattle.md_kept_members.specs.View.{MemberView}
use Rattle.md_state.specs.View.{ArrayView, Disk, MirrorView}
use Rattle.md_state.specs.Steps.CopyData.{CopiesTo, IsCopy, RefusesCopy, copies_of, run_write}
use Rattle.md_state.specs.Steps.MakeClean.{IsIdle}
use Rattle.md_state.specs.DeviceChanges.{AreSame, StaysHonest}
use Rattle.md_state.specs.DiskWrites.{IsTried}
use Rattle.md_state.specs.Members.{IsInSync, IsMember}
use Rattle.md_state.specs.Steps.ReadData.{HoldsData}
use Rattle.md_state.specs.Requests.{AreInFlight}
use Rattle.md_state.specs.Rests.{Rests}
use Rattle.md_faults.specs.declared.copy_fault.CopyFault.TheVariants as copy_fault
use Rattle.md_array.specs.Consistency.{IsConsistent}
use Rattle.md_array.specs.Steps.CopyData.{CopiesInTurn}
use Rattle.md_array.specs.Events.{Happens}
use Rattle.md_array.specs.InTurn.{AllOf, Leads, Requests}
use Rattle.md_array.specs.Steps.NoteResynced.{AllAgreeAt, IsHonestMember, sector_of}
use Rattle.md_array.proofs.General.Resting.{rests_sound}
use Rattle.md_array.proofs.StepLemmas.CopyData.{copied_run_is_consistent, run_fits}
use Rattle.md_array.proofs.StepLemmas.Turns.{all_on, all_such}
use Rattle.md_array.proofs.Worlds.States.{in_sync_recorded}
use Rattle.md_array.proofs.Openings.Opened.{same_through}
use Rattle.md_laws.specs.ReadInTurn.{ReadInTurn}
use Rattle.md_laws.proofs.Runs.ReadTurns.{read_on, read_then, unread}
use Rattle.md_laws.proofs.Runs.Rests.{rests_same}
use Rattle.md_metadata.specs.Going.{IsFaulty}
use Rattle.md_metadata.specs.Storing.{IsNoFailure, IsUpToDate}
use Rattle.md_metadata.proofs.Going.{fails_after}
use Rattle.md_metadata.proofs.Steps.{faulty_after}
use Rattle.md_resync.specs.Copying.{CopiesOnly, CopyingGoesOn, GivesTo, GivesWhereUnlike, CopyingHalts, IsAmong, IsBesideSectors, IsBetween, IsCopyIn, IsCopying, IsRun, IsUnlike, LosesCopying}
use Rattle.md_resync.proofs.StepsOn.{by_none, by_on, by_run, by_singles}
use Rattle.md_state.proofs.Stays.{stays_same}

-- ---- devices, each as honest as it was

pub tried_same : (k : ℕ) (w : Write) (before after : List Disk) → IsTried k w before after → AreSame before after
tried_same k w before after tried = record {
  as_many = tried.as_many;
  honest = λ j d e was is. by_same j k
      (λ here. tried.stays d e (sym (ap (slice_get before) here) ∙ was) (sym (ap (slice_get after) here) ∙ is))
      (λ apart. let same = got_same after j e d is (tried.others j apart ∙ was) in subst (StaysHonest d) (sym same) (stays_same d));
}

-- ---- events, one after another
pub goes_nowhere : (m : MirrorView) → IsConsistent m → CopyingGoesOn m m
goes_nowhere m sound = record {
  events = [];
  steps = tt;
  leads = λ previous requests in_flight. (m, rests_same m, (refl, refl));
  by_steps = by_none m m (rests_same m);
  same = (rests_same m).disks.same;
  sound = sound;
}

pub goes_read : (old new : MirrorView) → Rests old new → IsConsistent old → CopyingGoesOn old new
goes_read old new rests sound = record {
  events = [];
  steps = tt;
  leads = λ previous requests in_flight. (new, rests, (refl, refl));
  by_steps = by_none old new rests;
  same = rests.disks.same;
  sound = rests_sound old new rests sound;
}

pub goes_then : (Of : ℕ → Type 0) (old mid new : MirrorView) → CopiesOnly Of old mid → CopyingGoesOn mid new → CopyingGoesOn old new
goes_then Of old mid new g h = record {
  events = g.goes.events ++ h.events;
  steps = all_on IsCopying g.goes.events h.events g.goes.steps h.steps;
  leads = λ previous requests in_flight.
      let there : AreInFlight mid.array requests = subst (λ (a : ArrayView). AreInFlight a requests) (sym g.array) in_flight in
      read_on g.goes.events h.events previous old requests (λ m s. (m ≡ new) × (s ≡ requests))
      (read_then g.goes.events previous old requests
      (λ m s. (m ≡ mid) × (s ≡ requests))
      (λ m s. (last : Option Event) → ReadInTurn last m s h.events (λ m s. (m ≡ new) × (s ≡ requests)))
      (λ m s at last.
      subst (λ (x : MirrorView). ReadInTurn last x s h.events (λ m s. (m ≡ new) × (s ≡ requests))) (sym at.0)
      (subst (λ (x : Requests). ReadInTurn last mid x h.events (λ m s. (m ≡ new) × (s ≡ requests))) (sym at.1)
      (h.leads last requests there)))
      (g.goes.leads previous requests in_flight));
  by_steps = by_on g.goes.events h.events old mid new (λ requests in_flight. subst (λ (a : ArrayView). AreInFlight a requests) (sym g.array) in_flight) g.goes.by_steps h.by_steps;
  same = same_through old.disks mid.disks new.disks g.goes.same h.same;
  sound = h.sound;
}

pub copy_unfailing : (Of : ℕ → Type 0) (e : Event) → IsCopyIn Of e → IsNoFailure e
copy_unfailing Of (Event.Copy from k s) is = tt
copy_unfailing Of e is = absurd is

copy_as : (Of Such : ℕ → Type 0) → ((s : ℕ) → Of s → Such s) → (e : Event) → IsCopyIn Of e → IsCopyIn Such e
copy_as Of Such widen (Event.Copy from k s) is = widen s is
copy_as Of Such widen e is = absurd is

module _ (Of : ℕ → Type 0) where
  pub copies_none : (m : MirrorView) → IsConsistent m → CopiesOnly Of m m
  unfolding goes_nowhere
  copies_none m sound = record { goes = goes_nowhere m sound; only = tt; array = refl }

  pub copies_read : (old new : MirrorView) → Rests old new → IsConsistent old → CopiesOnly Of old new
  unfolding goes_read
  copies_read old new rests sound = record { goes = goes_read old new rests sound; only = tt; array = rests.array }

  pub copies_then : (old mid new : MirrorView) → CopiesOnly Of old mid → CopiesOnly Of mid new → CopiesOnly Of old new
  unfolding goes_then
  copies_then old mid new g h = record {
    goes = goes_then Of old mid new g h.goes;
    only = all_on (IsCopyIn Of) g.goes.events h.goes.events g.only h.only;
    array = h.array ∙ g.array;
  }

  -- a read after them is no event
  pub events_then_read : (old mid new : MirrorView) (g : CopiesOnly Of old mid) (rests : Rests mid new) (sound : IsConsistent mid)
      → (copies_then old mid new g (copies_read mid new rests sound)).goes.events ≡ g.goes.events
  unfolding copies_then copies_read goes_then goes_read
  events_then_read old mid new g rests sound = append-nil g.goes.events

  -- they are of other sectors too
  pub copies_as : (Such : ℕ → Type 0) → ((s : ℕ) → Of s → Such s) → (old new : MirrorView) → CopiesOnly Of old new → CopiesOnly Such old new
  copies_as Such widen old new g = record { goes = g.goes; only = all_such (IsCopyIn Of) (IsCopyIn Such) (copy_as Of Such widen) g.goes.events g.only; array = g.array }

  pub copies_unfailing : (old new : MirrorView) (g : CopiesOnly Of old new) → AllOf IsNoFailure g.goes.events
  copies_unfailing old new g = all_such (IsCopyIn Of) IsNoFailure (copy_unfailing Of) g.goes.events g.only

  -- a member fails after them
  pub loses_then : (k : ℕ) (old mid new : MirrorView) → CopiesOnly Of old mid → LosesCopying k mid new → LosesCopying k old new
  unfolding goes_then
  loses_then k old mid new g h = record {
    goes = goes_then Of old mid new g h.goes;
    last = fails_after k g.goes.events h.goes.events (copies_unfailing old mid g) h.last;
    marks = h.marks ∙ ap (λ (a : ArrayView). a.marks) g.array;
    was = subst (λ (a : ArrayView). IsUpToDate a k) g.array h.was;
    idle = h.idle;
    faulty = h.faulty;
  }

  pub halts_then : (old mid new : MirrorView) → CopiesOnly Of old mid → CopyingHalts mid new → CopyingHalts old new
  halts_then old mid new g h = record { mid = h.mid; goes = goes_then Of old mid h.mid g h.goes; failing = h.failing; of = h.of; halts = h.halts; sound = h.sound; halted = h.halted }

all_copying : (from k s n : ℕ) → AllOf IsCopying (copies_of from k s n)
all_copying from k s zero = tt
all_copying from k s (suc n) = (tt, all_copying from k (s + 1) n)

all_between : (from k s n start end : ℕ) → start ≤ s → s + n ≤ end → AllOf (IsCopyIn (IsBetween start end)) (copies_of from k s n)
all_between from k s zero start end low high = tt
all_between from k s (suc n) start end low high = ((low, omega arith), all_between from k (s + 1) n start end (omega arith) (omega arith))

-- ---- parts of parts

-- a sector of those bytes
pub sector_held : (v : MirrorView) (k sector : ℕ) (bytes : List ℕ) → HoldsData v k sector bytes → (s : ℕ) → sector ≤ s → 512 * s + 512 ≤ 512 * sector + length bytes
    → (m : MemberView) (d : Disk) → IsHonestMember v k m d → sector_of m d s ≡ part bytes (512 * (s - sector)) 512
sector_held v k sector bytes holds s from below m d served =
    let start : ℕ = m.superblock.data_offset + sector in
    let moved : 512 * (m.superblock.data_offset + s) ≡ 512 * start + 512 * (s - sector) = omega arith in
    ap (λ (n : ℕ). part d.content n 512) moved
    ∙ sym (part_part d.content (512 * start) (length bytes) (512 * (s - sector)) 512 (omega arith))
    ∙ ap (λ (xs : List ℕ). part xs (512 * (s - sector)) 512) (holds d m served.disk served.in_sync.member served.honest)

-- members that all have the bytes agree
pub all_given_agree : (v : MirrorView) (sector : ℕ) (bytes : List ℕ) → ((j : ℕ) (m : MemberView) → IsInSync v.array j m → HoldsData v j sector bytes)
    → (s : ℕ) → sector ≤ s → 512 * s + 512 ≤ 512 * sector + length bytes → AllAgreeAt v s
all_given_agree v sector bytes given s from below j k m n d e one other _ _ =
    sector_held v j sector bytes (given j m one.in_sync) s from below m d one
    ∙ sym (sector_held v k sector bytes (given k n other.in_sync) s from below n e other)

-- ---- devices that were only read
module _ (old new : MirrorView) (rests : Rests old new) where
  was_device : (k : ℕ) (e : Disk) → slice_get new.disks k ≡ Some e → (d : Disk) × (slice_get old.disks k ≡ Some d)
  was_device k e at = let low = slice_get_within new.disks k e at in let many = rests.disks.same.as_many in got_within old.disks k (omega arith)

  was_in_sync : (k : ℕ) (m : MemberView) → IsInSync new.array k m → IsInSync old.array k m
  was_in_sync k m is = subst (λ (a : ArrayView). IsInSync a k m) rests.array is

  was_served : (k : ℕ) (m : MemberView) (e : Disk) → IsHonestMember new k m e → (d : Disk) × IsHonestMember old k m d × (e.content ≡ d.content)
  was_served k m e is =
      let d = was_device k e is.disk in (
        d.0,
        record { in_sync = was_in_sync k m is.in_sync; disk = d.1; honest = sym (rests.disks.same.honest k d.0 e d.1 is.disk).honest ∙ is.honest },
        rests.disks.content k d.0 e d.1 is.disk,
      )

  pub read_agrees : (s : ℕ) → AllAgreeAt old s → AllAgreeAt new s
  read_agrees s agree j k m n d e one other free free_too =
      let a = was_served j m d one in
      let b = was_served k n e other in
      ap (λ (c : List ℕ). part c (512 * (m.superblock.data_offset + s)) 512) a.2
      ∙ agree j k m n a.0 b.0 a.1 b.1 free free_too
      ∙ sym (ap (λ (c : List ℕ). part c (512 * (n.superblock.data_offset + s)) 512) b.2)

  still_served : (k : ℕ) (m : MemberView) (d : Disk) → IsHonestMember old k m d → (e : Disk) × IsHonestMember new k m e × (d.content ≡ e.content)
  still_served k m d is =
      let low = slice_get_within old.disks k d is.disk in
      let many = rests.disks.same.as_many in
      let e = got_within new.disks k (omega arith) in
      let stays = rests.disks.same.honest k d e.0 is.disk e.1 in (
        e.0,
        record { in_sync = subst (λ (a : ArrayView). IsInSync a k m) (sym rests.array) is.in_sync; disk = e.1; honest = stays.honest ∙ is.honest },
        sym (rests.disks.content k d e.0 is.disk e.1),
      )

  -- members that agree after it agreed before
  pub agreed_before : (s : ℕ) → AllAgreeAt new s → AllAgreeAt old s
  agreed_before s agree j k m n d e one other free free_too =
      let a = still_served j m d one in
      let b = still_served k n e other in
      ap (λ (c : List ℕ). part c (512 * (m.superblock.data_offset + s)) 512) a.2
      ∙ agree j k m n a.0 b.0 a.1 b.1 free free_too
      ∙ sym (ap (λ (c : List ℕ). part c (512 * (n.superblock.data_offset + s)) 512) b.2)

  pub read_holds : (k sector : ℕ) (bytes : List ℕ) → HoldsData old k sector bytes → HoldsData new k sector bytes
  read_holds k sector bytes holds e m at member honest =
      let d = was_device k e at in
      ap (λ (c : List ℕ). held c (m.superblock.data_offset + sector) (length bytes)) (rests.disks.content k d.0 e d.1 at)
      ∙ holds d.0 m d.1 (subst (λ (a : ArrayView). IsMember a k m) rests.array member) (sym (rests.disks.same.honest k d.0 e d.1 at).honest ∙ honest)

-- ---- one write
module _ (k sector : ℕ) (bytes : List ℕ) (old new : MirrorView) (c : IsConsistent old) (t : CopiesTo k sector bytes old new) where
  abbrev target : MemberView
  target = t.copy.may.target

  there_in : (j : ℕ) (m : MemberView) → IsMember new.array j m → IsMember old.array j m
  there_in j m at = subst (λ (a : ArrayView). IsMember a j m) t.array at

  is_target : (m : MemberView) → IsMember new.array k m → m ≡ target
  is_target m at = got_same old.array.members k m target (there_in k m at) t.copy.may.in_sync.member

  was : (e : Disk) → slice_get new.disks k ≡ Some e → (d : Disk) × (slice_get old.disks k ≡ Some d)
  was e at = let low = slice_get_within new.disks k e at in let many = t.disks.tried.as_many in got_within old.disks k (omega arith)

  pub target_holds : HoldsData new k sector bytes
  target_holds e m at member honest =
      let d = was e at in
      let fits = run_fits k sector bytes old c t.copy target.superblock refl d.0 d.1 in
      let stays = t.disks.tried.stays d.0 e d.1 at in
      let offset = ap (λ (x : MemberView). x.superblock.data_offset) (is_target m member) in
      ap (λ (o : ℕ). held e.content (o + sector) (length bytes)) offset
      ∙ ap (λ (x : List ℕ). held x (target.superblock.data_offset + sector) (length bytes)) (t.disks.done d.0 e d.1 at (sym stays.honest ∙ honest))
      ∙ part-spliced d.0.content (512 * (target.superblock.data_offset + sector)) bytes (length bytes) refl (omega arith)

  pub still_holds : (j : ℕ) → HoldsData old j sector bytes → HoldsData new j sector bytes
  still_holds j holds = by_same j k
      (λ here. subst (λ (i : ℕ). HoldsData new i sector bytes) (sym here) target_holds)
      (λ apart d m at member honest. holds d m (sym (t.disks.tried.others j apart) ∙ at) (there_in j m member) honest)

  beside_served : (s : ℕ) → IsBesideSectors sector bytes s → (j : ℕ) (m : MemberView) (e : Disk) → IsHonestMember new j m e → (d : Disk) × IsHonestMember old j m d × (sector_of m e s ≡ sector_of m d s)
  beside_served s beside j m e is = by_same j k
      (λ here.
      let at : slice_get new.disks k ≡ Some e = sym (ap (slice_get new.disks) here) ∙ is.disk in
      let d = was e at in
      let stays = t.disks.tried.stays d.0 e d.1 at in
      let outside = t.disks.tried.outside d.0 e d.1 at in
      let offset = ap (λ (x : MemberView). x.superblock.data_offset) (is_target m (subst (λ (i : ℕ). IsMember new.array i m) here is.in_sync.member)) in (
        d.0,
        record { in_sync = subst (λ (a : ArrayView). IsInSync a j m) t.array is.in_sync; disk = ap (slice_get old.disks) here ∙ d.1; honest = sym stays.honest ∙ is.honest },
        elim beside [
          | inl before ↦ part_before outside (512 * (m.superblock.data_offset + s)) 512 (omega arith)
          | inr after ↦ part_after outside (512 * (m.superblock.data_offset + s)) 512 (omega arith)
        ],
      ))
      (λ apart. (e, record { in_sync = subst (λ (a : ArrayView). IsInSync a j m) t.array is.in_sync; disk = sym (t.disks.tried.others j apart) ∙ is.disk; honest = is.honest }, refl))

  pub beside_agrees : (s : ℕ) → IsBesideSectors sector bytes s → AllAgreeAt old s → AllAgreeAt new s
  beside_agrees s beside agree i j m n d e one other free free_too =
      let a = beside_served s beside i m d one in
      let b = beside_served s beside j n e other in
      a.2 ∙ agree i j m n a.0 b.0 a.1 b.1 free free_too ∙ sym b.2

  pub gives_to : CopiesInTurn k sector bytes old new → GivesTo k sector bytes old new
  gives_to turn = record {
    copies = record {
      goes = record {
        events = copies_of turn.from k sector turn.sectors;
        steps = all_copying turn.from k sector turn.sectors;
        leads = λ previous requests in_flight.
            unread (copies_of turn.from k sector turn.sectors) previous old requests (λ m r. (m ≡ new) × (r ≡ requests)) (turn.leads previous requests in_flight);
        by_steps = by_run k sector bytes old new t turn;
        same = tried_same k (run_write target sector bytes) old.disks new.disks t.disks.tried;
        sound = copied_run_is_consistent k sector bytes old c t.copy new t;
      };
      only = let long = turn.long in all_between turn.from k sector turn.sectors sector (sector + length bytes / 512) (omega arith) (omega arith);
      array = t.array;
    };
    given = λ m is. target_holds;
    kept = still_holds;
    agree = beside_agrees;
  }

pub gives_nothing : (k sector : ℕ) (bytes : List ℕ) (v : MirrorView) → IsConsistent v → ((m : MemberView) → IsInSync v.array k m → HoldsData v k sector bytes) → GivesTo k sector bytes v v
gives_nothing k sector bytes v sound has = record { copies = copies_none (IsAmong sector bytes) v sound; given = has; kept = λ j holds. holds; agree = λ s beside agree. agree }

-- the member was read, and holds them
pub gives_read : (k sector : ℕ) (bytes : List ℕ) (old new : MirrorView) → IsConsistent old → Rests old new → HoldsData new k sector bytes → GivesTo k sector bytes old new
gives_read k sector bytes old new sound rests holds = record {
  copies = copies_read (IsAmong sector bytes) old new rests sound;
  given = λ m in_sync. holds;
  kept = λ j. read_holds old new rests j sector bytes;
  agree = λ s beside. read_agrees old new rests s;
}

-- it was read in vain before they were written
pub gives_after_read : (k sector : ℕ) (bytes : List ℕ) (old mid new : MirrorView) → IsConsistent old → Rests old mid → GivesTo k sector bytes mid new → GivesTo k sector bytes old new
gives_after_read k sector bytes old mid new sound rests g = record {
  copies = copies_then (IsAmong sector bytes) old mid new (copies_read (IsAmong sector bytes) old mid rests sound) g.copies;
  given = g.given;
  kept = λ j holds. g.kept j (read_holds old mid rests j sector bytes holds);
  agree = λ s beside agree. g.agree s beside (read_agrees old mid rests s agree);
}

-- ---- only where the member is unlike
pub nothing_given : (k sector : ℕ) (bytes : List ℕ) (v : MirrorView) → IsConsistent v → ((m : MemberView) → IsInSync v.array k m → HoldsData v k sector bytes) → GivesWhereUnlike k sector bytes v v
unfolding gives_nothing copies_none goes_nowhere
nothing_given k sector bytes v sound has = record { gives = gives_nothing k sector bytes v sound has; why = inl refl }

pub only_read : (k sector : ℕ) (bytes : List ℕ) (old new : MirrorView) → IsConsistent old → Rests old new → HoldsData new k sector bytes → GivesWhereUnlike k sector bytes old new
unfolding gives_read copies_read goes_read
only_read k sector bytes old new sound rests holds = record { gives = gives_read k sector bytes old new sound rests holds; why = inl refl }

pub given_unlike : (k sector : ℕ) (bytes : List ℕ) (old mid new : MirrorView) → IsConsistent old → Rests old mid → IsUnlike k sector bytes old mid → GivesTo k sector bytes mid new → GivesWhereUnlike k sector bytes old new
given_unlike k sector bytes old mid new sound rests unlike g = record { gives = gives_after_read k sector bytes old mid new sound rests g; why = inr (mid, rests, unlike, g) }

-- ---- a write that failed
module _ (k sector n : ℕ) (old new : MirrorView) where
  pub loses_copying : (j : ℕ) → RefusesCopy k sector n old new (copy_fault.MemberFailed j) → Happens old (Event.WriteFails k (MemberPart.CopiedSectors sector n)) new → IsConsistent new → LosesCopying j old new
  loses_copying j r happens sound =
      let f = r.1 in
      let idle = f.copy.may.idle in
      let on = f.copy.may.in_sync in
      let same = got_same old.array.members k f.copy.may.target f.fails.array.member on.member f.fails.array.at in
      let in_use = in_sync_recorded f.fails.array.member.state (subst (λ (m : MemberView). is_in_sync m.state ≡ true) same on.in_sync) in
      let failing : List Event = Event.WriteFails k (MemberPart.CopiedSectors sector n) ∷ [] in
      let leads : (previous : Option Event) (requests : Requests) → AreInFlight old.array requests → Leads previous old requests failing new requests =
      λ previous requests in_flight. (new, requests, tt, (refl, f), (λ honest whole. happens honest requests in_flight), (refl, refl)) in
      record {
        goes = record {
          events = failing;
          steps = (tt, tt);
          leads = λ previous requests in_flight. unread failing previous old requests (λ m r. (m ≡ new) × (r ≡ requests)) (leads previous requests in_flight);
          by_steps = by_singles failing old new (tt, tt) leads;
          same = tried_same k (run_write f.copy.may.target sector f.bytes) old.disks new.disks f.fails.disks.tried;
          sound = sound;
        };
        last = record { before = []; unfailing = tt; failing = Event.WriteFails k (MemberPart.CopiedSectors sector n); of = sym r.0; list = refl };
        marks = ap (λ (a : ArrayView). a.marks) f.fails.array.array;
        was = subst (λ (i : ℕ). IsUpToDate old.array i) (sym r.0) (record { member = f.fails.array.member; at = f.fails.array.at; recorded = in_use });
        idle = subst IsIdle (sym f.fails.array.array) (record { running = idle.running; none = idle.none });
        faulty = subst (λ (i : ℕ). IsFaulty i new.array) (sym r.0) (faulty_after old.array new.array k f.fails.array in_use);
      }

  pub halts_copying : IsConsistent old → RefusesCopy k sector n old new copy_fault.Halted → IsConsistent new → CopyingHalts old new
  halts_copying before h sound = record {
    mid = old;
    goes = goes_nowhere old before;
    failing = Event.WriteFails k (MemberPart.CopiedSectors sector n);
    of = tt;
    halts = λ requests. h;
    sound = sound;
    halted = ap (λ (a : ArrayView). a.halted) h.halts.array.array;
  }

-- ---- a run of sectors is a copy to each other member in sync
pub run_is_copy : (from k sector : ℕ) (bytes : List ℕ) (v : MirrorView) → IsRun from sector bytes v → (m : MemberView) → IsInSync v.array k m → from ≢ k → IsCopy k sector bytes v
run_is_copy from k sector bytes v run m is apart = record {
  from = from;
  sectors = run.sectors;
  some = run.some;
  long = run.long;
  may = record {
    idle = run.idle;
    may = run.may;
    inside = run.inside;
    source = run.source;
    target = m;
    in_sync = is;
    apart = apart;
  };
  holds = run.holds;
}
