-- A resync goes on by its events while nothing is in flight, and how it ends.
use Rattle.std.proofs.Common.{◌+◌, ◌≡◌, ℕ, ◌<◌, Bool, true, false, List, [], ◌∷◌, ◌++◌, length, slice_get, Option, None, refl, sym, ap, ◌∙◌, subst, arith}
use Rattle.std.proofs.lemmas.Option.{none-some, slice_get_within}
use Rattle.md_assembly.specs.States.{is_in_sync, is_recorded}
use Rattle.md_assembly.proofs.Indices.{got_within}
use Rattle.md_bitmap.specs.Marks.{Bitmap}
use Rattle.md_model.specs.Events.{Event}
use Rattle.md_inflight.specs.Requests.Pending.{PendingView, extent_of}
use Rattle.md_kept_members.specs.View.{MemberView}
use Rattle.md_state.specs.DeviceChanges.{IsUntouched}
use Rattle.md_state.specs.DiskWrites.{AtDevice}
use Rattle.md_state.specs.View.{ArrayView, Disk, MirrorView}
use Rattle.md_state.specs.Steps.MakeClean.{IsIdle, first_number}
use Rattle.md_state.specs.Requests.{AreInFlight, IsPending}
use Rattle.md_state.specs.Members.{IsMember, AllInSync, IsAlone, IsInSync}
use Rattle.md_array.specs.InTurn.{InTurn, Leads, Requests}
use Rattle.md_array.specs.Steps.NoteResynced.{AllAgreeAt, IsHonestMember}
use Rattle.md_array.proofs.StepLemmas.MakeClean.{none_listed}
use Rattle.md_array.proofs.StepLemmas.Turns.{all_on, turn_on, turn_then}
use Rattle.md_array.proofs.Worlds.SectorCopied.{none_there}
use Rattle.md_array.proofs.Openings.Opened.{same_through}
use Rattle.md_laws.specs.ReadInTurn.{ReadInTurn}
use Rattle.md_laws.proofs.Runs.ReadTurns.{read_on, read_then, unread}
use Rattle.md_laws.proofs.Runs.Rests.{rests_same}
use Rattle.md_metadata.specs.Storing.{HasAllMarks, IsNoFailure, IsUpToDate}
use Rattle.md_metadata.proofs.Going.{fails_after}
use Rattle.md_resync.specs.Resyncing.{ResyncAdvances, EndsUnresynced, FailsToAgree, FailsAtWrite, ResyncGoesOn, GoesUnresynced, HasSameMembers, IsOfResync, LeavesMarks, LosesMember, ReadingFails, Unresyncs}
use Rattle.md_resync.proofs.StepsOn.{by_none, by_on, by_singles}
use Rattle.md_device.specs.Failing.{failed_read}

-- ---- nothing is in flight, before or after
pub none_flies : (a b : ArrayView) → IsIdle a → (requests : Requests) → AreInFlight a requests → AreInFlight b requests
none_flies a b idle requests in_flight n p e = absurd (none-some p (sym (none_there a requests in_flight idle.none n) ∙ e))

pub none_pending : (a b : ArrayView) → IsIdle a → (p : PendingView) → IsPending a p → IsPending b p
none_pending a b idle p is = absurd (none_listed a.requests.entries p.ticket.number (extent_of p) idle.none is.extent)

pub is_idle : (a : ArrayView) (halted : Bool) (first : Option ℕ) → halted ≡ a.halted → halted ≡ false → first ≡ first_number a → first ≡ None → IsIdle a
is_idle a halted first is running of none = record { running = sym is ∙ running; none = sym of ∙ none }

-- ---- the same members
-- who is kept up to date was so
pub up_to_date_before : (a b : ArrayView) (k : ℕ) → HasSameMembers a b → IsUpToDate b k → IsUpToDate a k
up_to_date_before a b k same is =
    let low = slice_get_within b.members k is.member is.at in
    let many = same.as_many in
    let m = got_within a.members k (omega arith) in
    record { member = m.0; at = m.1; recorded = ap (λ (x : MemberView). is_recorded x.state) (sym (same.each k m.0 is.member m.1 is.at)) ∙ is.recorded }

-- the same members on the same devices agree as before
pub agree_same : (old new : MirrorView) → new.disks ≡ old.disks → new.array.members ≡ old.array.members → (s : ℕ) → AllAgreeAt old s → AllAgreeAt new s
agree_same old new disks members s agree j k m n d e one other = agree j k m n d e (was j m d one) (was k n e other)
  where
    was : (i : ℕ) (x : MemberView) (y : Disk) → IsHonestMember new i x y → IsHonestMember old i x y
    was i x y is = record {
      in_sync = record { member = sym (ap (λ (xs : List MemberView). slice_get xs i) members) ∙ is.in_sync.member; in_sync = is.in_sync.in_sync };
      disk = sym (ap (λ (xs : List Disk). slice_get xs i) disks) ∙ is.disk;
      honest = is.honest;
    }

-- whoever is alone in sync is so still
pub alone_still : (a b : ArrayView) → HasSameMembers a b → IsAlone a → IsAlone b
alone_still a b same alone j k m n one other = alone j k (was j m one).0 (was k n other).0 (was j m one).1 (was k n other).1
  where
    was : (i : ℕ) (x : MemberView) → IsInSync b i x → (y : MemberView) × IsInSync a i y
    was i x is =
        let low = slice_get_within b.members i x is.member in
        let many = same.as_many in
        let y = got_within a.members i (omega arith) in
        (y.0, record { member = y.1; in_sync = ap (λ (z : MemberView). is_in_sync z.state) (sym (same.each i y.0 x y.1 is.member)) ∙ is.in_sync })

-- ---- events, one after another
unfoldable pub goes_none : (m : MirrorView) → ResyncGoesOn m m
goes_none m = record {
  events = [];
  steps = tt;
  leads = λ previous requests in_flight. (m, rests_same m, (refl, refl));
  by_steps = by_none m m (rests_same m);
  unread = λ alone previous requests in_flight. (refl, refl);
}

-- lists with no read, one after the other
pub unread_on : (es fs : List Event) (old mid new : MirrorView) (requests : Requests) (previous : Option Event) → Leads previous old requests es mid requests
    → ((last : Option Event) → Leads last mid requests fs new requests) → Leads previous old requests (es ++ fs) new requests
unread_on es fs old mid new requests previous first rest =
    turn_on es fs previous old requests (λ m s. (m ≡ new) × (s ≡ requests))
    (turn_then es previous old requests
    (λ m s. (m ≡ mid) × (s ≡ requests))
    (λ m s. (last : Option Event) → InTurn last m s fs (λ m s. (m ≡ new) × (s ≡ requests)))
    (λ m s at last.
    subst (λ (x : MirrorView). InTurn last x s fs (λ m s. (m ≡ new) × (s ≡ requests))) (sym at.0)
    (subst (λ (x : Requests). InTurn last mid x fs (λ m s. (m ≡ new) × (s ≡ requests))) (sym at.1) (rest last)))
    first)

unfoldable pub goes_on : (old mid new : MirrorView) → IsIdle old.array → HasSameMembers old.array mid.array → ResyncGoesOn old mid → ResyncGoesOn mid new → ResyncGoesOn old new
goes_on old mid new idle same g h = record {
  events = g.events ++ h.events;
  steps = all_on IsOfResync g.events h.events g.steps h.steps;
  leads = λ previous requests in_flight.
      let there = none_flies old.array mid.array idle requests in_flight in
      read_on g.events h.events previous old requests (λ m s. (m ≡ new) × (s ≡ requests))
      (read_then g.events previous old requests
      (λ m s. (m ≡ mid) × (s ≡ requests))
      (λ m s. (last : Option Event) → ReadInTurn last m s h.events (λ m s. (m ≡ new) × (s ≡ requests)))
      (λ m s at last.
      subst (λ (x : MirrorView). ReadInTurn last x s h.events (λ m s. (m ≡ new) × (s ≡ requests))) (sym at.0)
      (subst (λ (x : Requests). ReadInTurn last mid x h.events (λ m s. (m ≡ new) × (s ≡ requests))) (sym at.1)
      (h.leads last requests there)))
      (g.leads previous requests in_flight));
  by_steps = by_on g.events h.events old mid new (none_flies old.array mid.array idle) g.by_steps h.by_steps;
  unread = λ alone previous requests in_flight.
      let there = none_flies old.array mid.array idle requests in_flight in
      unread_on g.events h.events old mid new requests previous (g.unread alone previous requests in_flight)
      (λ last. h.unread (alone_still old.array mid.array same alone) last requests there);
}

unfoldable pub advances_on : (old mid new : MirrorView) → IsIdle old.array → HasSameMembers old.array mid.array → ResyncAdvances old mid → ResyncAdvances mid new → ResyncAdvances old new
unfolding goes_on
advances_on old mid new idle same g h = record {
  goes = goes_on old mid new idle same g.goes h.goes;
  unfailing = all_on IsNoFailure g.goes.events h.goes.events g.unfailing h.unfailing;
  same = same_through old.disks mid.disks new.disks g.same h.same;
  idle = h.idle;
  sound = h.sound;
}

-- a member fails after them
pub fails_on : (k : ℕ) (old mid new : MirrorView) → IsIdle old.array → HasSameMembers old.array mid.array → ResyncAdvances old mid → LeavesMarks old.array new.array → FailsAtWrite k mid new → FailsAtWrite k old new
unfolding goes_on
fails_on k old mid new idle same g marks h = record {
  goes = goes_on old mid new idle same g.goes h.goes;
  last = fails_after k g.goes.events h.goes.events g.unfailing h.last;
  marks = marks;
  idle = h.idle;
  was = up_to_date_before old.array mid.array k same h.was;
  faulty = h.faulty;
}

-- ---- it is kept that the array is not resynced
pub goes_unresynced : (old mid new : MirrorView) → IsIdle old.array → ResyncGoesOn old mid → Unresyncs mid new → GoesUnresynced old new
goes_unresynced old mid new idle g u = record {
  events = g.events;
  steps = g.steps;
  leads = λ previous requests in_flight.
      let there = none_flies old.array mid.array idle requests in_flight in
      read_on g.events (Event.Unresynced ∷ []) previous old requests (λ m s. (m ≡ new) × (s ≡ requests))
      (read_then g.events previous old requests
      (λ m s. (m ≡ mid) × (s ≡ requests))
      (λ m s. (last : Option Event) → ReadInTurn last m s (Event.Unresynced ∷ []) (λ m s. (m ≡ new) × (s ≡ requests)))
      (λ m s at last.
      subst (λ (x : MirrorView). ReadInTurn last x s (Event.Unresynced ∷ []) (λ m s. (m ≡ new) × (s ≡ requests))) (sym at.0)
      (subst (λ (x : Requests). ReadInTurn last mid x (Event.Unresynced ∷ []) (λ m s. (m ≡ new) × (s ≡ requests))) (sym at.1)
      (unread (Event.Unresynced ∷ []) last mid requests (λ m s. (m ≡ new) × (s ≡ requests))
      (new, requests, tt, (refl, u.marks), (λ honest whole. u.happens honest requests there), (refl, refl)))))
      (g.leads previous requests in_flight));
  by_steps = by_on g.events (Event.Unresynced ∷ []) old mid new (none_flies old.array mid.array idle) g.by_steps
      (by_singles (Event.Unresynced ∷ []) mid new (tt, tt) (λ previous requests in_flight. (new, requests, tt, (refl, u.marks), (λ honest whole. u.happens honest requests in_flight), (refl, refl))));
  unread = λ alone previous requests in_flight.
      let there = none_flies old.array mid.array idle requests in_flight in
      unread_on g.events (Event.Unresynced ∷ []) old mid new requests previous (g.unread alone previous requests in_flight)
      (λ last. (new, requests, tt, (refl, u.marks), (λ honest whole. u.happens honest requests there), (refl, refl)));
}

module _ (old mid new : MirrorView) (idle : IsIdle old.array) (goes : ResyncGoesOn old mid) (now_idle : IsIdle mid.array) (u : Unresyncs mid new) where
  pub stops : EndsUnresynced old new
  stops = record {
    idle = idle;
    goes = goes_unresynced old mid new idle goes u;
    unresynced = ap (λ (a : ArrayView). a.resynced) u.marks.array;
    running = ap (λ (a : ArrayView). a.halted) u.marks.array ∙ now_idle.running;
  }

members_stay : (mid new : MirrorView) → Unresyncs mid new → new.array.members ≡ mid.array.members
members_stay mid new u = ap (λ (a : ArrayView). a.members) u.marks.array

module _ (old mid new : MirrorView) (idle : IsIdle old.array) (u : Unresyncs mid new) where
  pub stops_reading : (k chunk : ℕ) → FailsToAgree k chunk old mid → ReadingFails k chunk old new
  unfolding goes_unresynced stops
  stops_reading k chunk f = record {
    stops = stops old mid new idle f.advances.goes f.advances.idle u;
    unfailing = f.advances.unfailing;
    members = record {
      as_many = ap length (members_stay mid new u) ∙ f.members.as_many;
      each = λ i m n was is. f.members.each i m n was (sym (ap (λ (xs : List MemberView). slice_get xs i) (members_stay mid new u)) ∙ is);
    };
    marks = ap (λ (a : ArrayView). a.marks) u.marks.array ∙ f.marks;
    stored = subst (λ (a : ArrayView). AllInSync a (HasAllMarks a.marks)) (sym u.marks.array) (λ i m is. f.stored i m (record { member = is.member; in_sync = is.in_sync }));
    mid = f.mid;
    reached = f.reached;
    by_events = f.by_events;
    sector = f.sector;
    comes = f.comes;
    two = f.two;
    member = f.member;
    in_sync = f.in_sync;
    unwritten = subst (IsUntouched f.mid.disks) (sym u.marks.disks) f.fails.rests.disks;
    failed = subst (λ (disks : List Disk). AtDevice k f.mid.disks disks (λ d e. d.honest ≡ true → d.failures < e.failures)) (sym u.marks.disks) f.fails.failed;
    size = f.size;
    of_chunk = f.of_chunk;
    there = subst (λ (disks : List Disk). AtDevice k f.mid.disks disks (λ d e. (m : MemberView) → IsMember f.mid.array k m → e.faults ≡ d.faults ++ failed_read (m.superblock.data_offset + f.sector) f.size ∷ [])) (sym u.marks.disks) f.fails.there;
  }

  pub loses_member : (k : ℕ) → FailsAtWrite k old mid → LosesMember k old new
  unfolding goes_unresynced stops
  loses_member k f = record {
    stops = stops old mid new idle f.goes f.idle u;
    last = f.last;
    marks = subst (λ (x : Bitmap). LeavesMarks old.array (record new.array { marks = x })) (sym (ap (λ (a : ArrayView). a.marks) u.marks.array)) f.marks;
    was = f.was;
    faulty = record { member = f.faulty.member; at = ap (λ (xs : List MemberView). slice_get xs k) (members_stay mid new u) ∙ f.faulty.at; faulty = f.faulty.faulty };
  }
