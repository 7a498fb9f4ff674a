-- What a crash leaves within a whole call, a crash of a run leaves.
use Rattle.std.proofs.Common.{◌≡◌, ◌∙◌, ◌⊎◌, inl, inr, ℕ, ◌<◌, List, [], ◌∷◌, ◌++◌, Option, Some, None, refl, sym, ap, subst, arith}
use Rattle.std.proofs.lemmas.Bool.{cases_lt}
use Rattle.std.proofs.lemmas.List.{append-nil}
use Rattle.std.proofs.lemmas.Option.{same_Some, none-some}
use Rattle.md_kept_members.specs.View.{MemberView}
use Rattle.md_members.specs.Areas.{bitmap_sectors}
use Rattle.md_model.specs.Events.{Event, MemberPart}
use Rattle.md_model.specs.Sectors.{put}
use Rattle.md_model.specs.Worlds.{Request}
use Rattle.md_model.proofs.Puts.{by_same, put-self}
use Rattle.md_inflight.specs.Requests.Pending.{PendingView}
use Rattle.md_state.specs.Steps.CopyData.{FailsToCopy, run_write}
use Rattle.md_state.specs.Members.{IsInSync}
use Rattle.md_state.specs.Requests.{among, request_of}
use Rattle.md_state.specs.Steps.StoreMarks.{FailsToStoreMarks}
use Rattle.md_state.specs.View.{ArrayView, Disk, MirrorView}
use Rattle.md_array.specs.Events.{Does}
use Rattle.md_array.specs.InTurn.{AllLeftWhole, Did, HaltsAt, InTurn, IsInOrder, IsPut, IsSectorDue, IsUnder, Leads, LeftWhole, Requests}
use Rattle.md_array.specs.Steps.StoreLog.{FailsToStoreLog}
use Rattle.md_array.specs.Worlds.{AreHonest}
use Rattle.md_array.proofs.Rebuilding.StoreLog.{store_log_fails_happens}
use Rattle.md_array.proofs.StepLemmas.MarksFailed.{store_marks_fails_happens}
use Rattle.md_array.proofs.Worlds.CopyFailed.{copy_fails_happens}
use Rattle.md_laws.specs.Left.{IsLeftByCrash, contents_of}
use Rattle.md_laws.specs.Runs.{MirrorRun, Moment, then_as}
use Rattle.md_laws.specs.CallCrashes.{HaveWholeSectors, BeginsWhole, HasWholeSectors, IsBesideEvent, IsLeftHalting, IsLeftWhole, IsCrashOf, IsWrittenBy, LeftWholeUntil, CrashesAtHalts, CrashesAtSteps, CrashesIn}
use Rattle.md_laws.specs.CrashesWithin.{MayAllBeLeft}
use Rattle.md_laws.proofs.Runs.Moments.{IsSoundAt, life_keeps, run_keeps, sound_when_opened}
use Rattle.md_laws.proofs.Runs.Rests.{at_once, at_rest}
use Rattle.md_laws.proofs.Crashes.AsFailed.{crashes_as_failed}
use Rattle.md_laws.proofs.Crashes.AtSteps.{crashes_in_memory}
use Rattle.md_laws.proofs.Crashes.DataInFlight.{is_whole}
use Rattle.md_laws.proofs.Crashes.WithinLog.{crashes_at_log}

-- ---- an event after which what is left stands on the devices: the call's own, or one whose write failed and left that
pub record GoesSo (e : Event) (old : MirrorView) (before : Requests) (left : List Disk) : Type 0 where
  pub mid : MirrorView
  pub between : Requests
  pub did : Did old before e mid between
  pub does : Does old before e mid between
  pub contents : contents_of left ≡ contents_of mid.disks

-- a sector of a bitmap that is due is one of the bitmap
pub due_within : (a : ArrayView) (k block : ℕ) (m : MemberView) → IsInSync a k m → IsSectorDue a k block → block < bitmap_sectors a.marks.chunks
due_within a k block m is due = elim (cases_lt block (bitmap_sectors a.marks.chunks)) [
  | inl low ↦ low
  | inr high ↦ elim (due m is) [
    | inl lacks ↦ absurd (lacks (λ c here below. absurd (omega arith)))
    | inr first ↦ let zero = first.0 in omega arith
  ]
]

-- the request whose bytes are written is of whole sectors
abbrev pub WritesWhole : Event → Requests → Type 0
WritesWhole (Event.WriteMember n k) requests = (r : Request) → requests n ≡ Some r → HasWholeSectors r
WritesWhole (Event.WriteFails k (MemberPart.RequestData n)) requests = (r : Request) → requests n ≡ Some r → HasWholeSectors r
WritesWhole e requests = Unit {0}

-- such a request is one among those in flight
under_among : (n : ℕ) (p : PendingView) (requests : Requests) → IsUnder n p requests → requests ≡ among p requests
under_among n p requests under =
    sym (put-self p.ticket.number requests)
    ∙ ap (λ (x : Option Request). put p.ticket.number x requests) (ap requests under.number ∙ under.request)

-- ---- within one event
module _ (previous : Option Event) (t : Moment) (at : IsSoundAt t) (mid : MirrorView) (between : Requests) (left : List Disk) (within : MayAllBeLeft t.mirror.disks mid.disks (contents_of left)) where
  abbrev Happened : Event → Type 0
  Happened e = AreHonest t.mirror.disks → LeftWhole t.mirror e mid → Does t.mirror t.requests e mid between

  abbrev Ends : Event → Type 0
  Ends e = IsLeftByCrash t left ⊎ GoesSo e t.mirror t.requests left

  in_memory : (e : Event) → mid.disks ≡ t.mirror.disks → Ends e
  in_memory e same = inl (inl (crashes_in_memory t.mirror.disks (contents_of left) (subst (λ (x : List Disk). MayAllBeLeft t.mirror.disks x (contents_of left)) same within)))

  beside : (e : Event) → Did t.mirror t.requests e mid between → Happened e → IsBesideEvent e t.mirror mid left → Ends e
  beside e did happens (inl before) = inl (inl before)
  beside e did happens (inr after) = inr (record { mid = mid; between = between; did = did; does = happens at.honest after.0; contents = after.1 })

  marks_fail : (k block : ℕ) → IsSectorDue t.mirror.array k block → FailsToStoreMarks k block t.mirror mid → Ends (Event.WriteFails k (MemberPart.BitmapSector block))
  marks_fail k block due f =
      let other = crashes_as_failed k f.write t.mirror mid (contents_of left) at.honest f.fails within in
      let g : FailsToStoreMarks k block t.mirror other.0 = record { member = f.member; write = f.write; may = f.may; fails = other.1 } in
      let low = due_within t.mirror.array k block f.member f.may.in_sync due in
      inr (record {
        mid = other.0;
        between = t.requests;
        did = (refl, g);
        does = store_marks_fails_happens k block t.mirror other.0 at.sound g low at.honest t.requests at.in_flight;
        contents = sym other.2;
      })

  copy_fails : (k sector n : ℕ) → FailsToCopy k sector n t.mirror mid → Ends (Event.WriteFails k (MemberPart.CopiedSectors sector n))
  copy_fails k sector n f =
      let other = crashes_as_failed k (run_write f.copy.may.target sector f.bytes) t.mirror mid (contents_of left) at.honest f.fails within in
      let g : FailsToCopy k sector n t.mirror other.0 = record { bytes = f.bytes; copy = f.copy; many = f.many; fails = other.1 } in
      inr (record {
        mid = other.0;
        between = t.requests;
        did = (refl, g);
        does = copy_fails_happens k sector n t.mirror other.0 at.sound g at.honest t.requests at.in_flight;
        contents = sym other.2;
      })

  log_fails : (k : ℕ) → FailsToStoreLog k t.mirror mid → Ends (Event.WriteFails k MemberPart.Log)
  log_fails k f =
      let other = crashes_as_failed k f.write t.mirror mid (contents_of left) at.honest f.fails within in
      let g : FailsToStoreLog k t.mirror other.0 = record { running = f.running; member = f.member; in_sync = f.in_sync; room = f.room; write = f.write; among = f.among; fails = other.1 } in
      inr (record {
        mid = other.0;
        between = t.requests;
        did = (refl, g);
        does = store_log_fails_happens k t.mirror other.0 at.sound g at.honest t.requests at.in_flight;
        contents = sym other.2;
      })

  pub within_event : (e : Event) → IsInOrder previous t.mirror.array e → Did t.mirror t.requests e mid between → Happened e → WritesWhole e t.requests
      → IsLeftWhole e t.mirror mid left → Ends e
  within_event (Event.Record k) order did happens whole (inl super) =
      inl (inr (inr (inr (inl (record { on = k; next = mid; call = inl did.1; within = within; super = super })))))
  within_event (Event.Record k) order did happens whole (inr short) =
      inl (inr (inr (inr (inr (inl (record { on = k; next = mid; call = did.1; within = within; old = short.stands; new = short.comes did.1.member did.1.may.at }))))))
  within_event (Event.WriteFails k MemberPart.Superblock) order did happens whole super =
      inl (inr (inr (inr (inl (record { on = k; next = mid; call = inr (inl did.1); within = within; super = super })))))
  within_event (Event.RecordTargetFails k) order did happens whole super =
      inl (inr (inr (inr (inl (record { on = k; next = mid; call = inr (inr (inr did.1.leaves)); within = within; super = super })))))
  within_event (Event.StoreMarks k b) order did happens whole asked =
      let r = did.1 in
      inl (inr (inl (record { on = k; block = b; inside = due_within t.mirror.array k b r.member r.may.in_sync order; next = mid; call = r; within = within })))
  within_event (Event.WriteFails k (MemberPart.BitmapSector b)) order did happens whole asked = marks_fail k b order did.1
  within_event (Event.WriteMember n k) order did happens whole asked =
      inl (inr (inr (inl (record {
        request = did.0;
        others = t.requests;
        in_flight = under_among n did.0 t.requests did.2;
        whole = is_whole did.0 (whole (request_of did.0) did.2.request);
        on = k;
        next = mid;
        then = did.1;
        call = inl did.5;
        within = within;
      }))))
  within_event (Event.WriteFails k (MemberPart.RequestData n)) order did happens whole asked =
      inl (inr (inr (inl (record {
        request = did.0;
        others = t.requests;
        in_flight = under_among n did.0 t.requests did.2;
        whole = is_whole did.0 (whole (request_of did.0) did.2.request);
        on = k;
        next = mid;
        then = did.1;
        call = inr (inl did.5);
        within = within;
      }))))
  within_event (Event.WriteFails k (MemberPart.CopiedSectors s n)) order did happens whole asked = copy_fails k s n did.1
  within_event (Event.Fill k) order did happens whole asked =
      inl (inr (inr (inr (inr (inr (inr (inl (record { on = k; next = mid; call = did.1; within = within }))))))))
  within_event (Event.Prepare k) order did happens whole asked =
      inl (inr (inr (inr (inr (inr (inr (inr (inl (record { on = k; next = mid; call = did.1; within = within })))))))))
  within_event (Event.StoreLog k listed) order did happens whole differs =
      let r = did.1 in
      elim (crashes_at_log k t.mirror mid (contents_of left) at.honest r (λ d was. differs r.member r.in_sync.member d was) within) [
        | inl before ↦ inl (inl before)
        | inr after ↦ inr (record { mid = mid; between = between; did = did; does = happens at.honest tt; contents = after })
      ]
  within_event (Event.WriteFails k MemberPart.Log) order did happens whole asked = log_fails k did.1
  within_event (Event.Begin n r) order did happens whole asked = in_memory (Event.Begin n r) (happens at.honest tt).writes
  within_event (Event.Finish n) order did happens whole asked = in_memory (Event.Finish n) (happens at.honest tt).writes
  within_event (Event.ClearIdle c) order did happens whole asked = in_memory (Event.ClearIdle c) (happens at.honest tt).writes
  within_event Event.MakeClean order did happens whole asked = in_memory Event.MakeClean (happens at.honest tt).writes
  within_event (Event.Fail k) order did happens whole asked = in_memory (Event.Fail k) (happens at.honest tt).writes
  within_event (Event.LowerOffset k s) order did happens whole asked = in_memory (Event.LowerOffset k s) (happens at.honest tt).writes
  within_event Event.Resynced order did happens whole asked = in_memory Event.Resynced (happens at.honest tt).writes
  within_event Event.Unresynced order did happens whole asked = in_memory Event.Unresynced (happens at.honest tt).writes
  within_event (Event.NoteBad k more) order did happens whole asked = in_memory (Event.NoteBad k more) (happens at.honest tt).writes
  within_event (Event.Copy from k s) order did happens whole asked = beside (Event.Copy from k s) did happens asked
  within_event (Event.Remove k) order did happens whole asked = beside (Event.Remove k) did happens asked
  within_event (Event.Add number device) order did happens whole asked = beside (Event.Add number device) did happens asked
  within_event (Event.ReAdd own offset device after) order did happens whole asked = beside (Event.ReAdd own offset device after) did happens asked
  within_event (Event.SpoilTarget k) order did happens whole asked = beside (Event.SpoilTarget k) did happens asked
  within_event (Event.Enrol k role listed) order did happens whole asked = beside (Event.Enrol k role listed) did happens asked
  within_event (Event.Admit k role listed) order did happens whole asked = beside (Event.Admit k role listed) did happens asked
  within_event (Event.Checkpoint k sure listed) order did happens whole asked = beside (Event.Checkpoint k sure listed) did happens asked

-- ---- along a list
-- after an event that was done
pub sound_then : (t : Moment) (e : Event) (mid : MirrorView) (between : Requests) → IsSoundAt t → Does t.mirror t.requests e mid between → IsSoundAt (then_as t e mid between)
sound_then t e mid between at does =
    let next = then_as t e mid between in
    run_keeps (e ∷ []) t next (mid, between, at_once t.mirror mid t.requests between e does, at_rest next) at

written_later : (e : Event) (es : List Event) (n : ℕ) → IsWrittenBy n es → IsWrittenBy n (e ∷ es)
written_later (Event.WriteMember m k) es n later = inr later
written_later (Event.WriteFails k (MemberPart.RequestData m)) es n later = inr later
written_later e es n later = later

-- what is asked of requests in flight, for the events to come
abbrev pub WholeFor : List Event → Requests → Type 0
WholeFor es requests = (n : ℕ) (r : Request) → IsWrittenBy n es → requests n ≡ Some r → HasWholeSectors r

-- one is put under a number, and the others are as before
put_whole : (es : List Event) (n : ℕ) (x : Option Request) (before after : Requests) → ((r : Request) → IsWrittenBy n es → x ≡ Some r → HasWholeSectors r) → IsPut n x before after
    → WholeFor es before → WholeFor es after
put_whole es n x before after this is all m r writes at = by_same m n
    (λ here. this r (subst (λ (j : ℕ). IsWrittenBy j es) here writes) (sym is.at ∙ ap after (sym here) ∙ at))
    (λ apart. all m r writes (sym (is.others m apart) ∙ at))

-- the request that was written is what it was, but for who has it
written_whole : (es : List Event) (n : ℕ) (p q : PendingView) (numbers : List ℕ) (before after : Requests) → IsUnder n p before → IsPut n (Some (request_of q)) before after
    → q ≡ record p { written = numbers } → WholeFor es before → WholeFor es after
written_whole es n p q numbers before after under is same all =
    put_whole es n (Some (request_of q)) before after
    (λ r writes here. subst HasWholeSectors (same_Some (request_of q) r here)
    (subst (λ (x : PendingView). HasWholeSectors (request_of x)) (sym same) (all n (request_of p) writes under.request)))
    is all

whole_for : (e : Event) (es : List Event) (old mid : MirrorView) (before after : Requests) → Did old before e mid after → BeginsWhole e → WholeFor es before → WholeFor es after
whole_for (Event.Begin n r) es old mid before after did begins all = put_whole es n (Some r) before after (λ x writes here. subst HasWholeSectors (same_Some r x here) begins) did.4 all
whole_for (Event.WriteMember n k) es old mid before after did begins all = written_whole es n did.0 did.1 (did.0.written ++ did.5.member.superblock.dev_number ∷ []) before after did.2 did.4 did.5.pending all
whole_for (Event.WriteFails k (MemberPart.RequestData n)) es old mid before after did begins all = written_whole es n did.0 did.1 did.0.written before after did.2 did.4 did.5.pending all
whole_for (Event.Finish n) es old mid before after did begins all = put_whole es n None before after (λ x writes none. absurd (none-some x none)) did.2 all
whole_for e es old mid before after did begins all = subst (WholeFor es) (sym did.0) all

pub whole_then : (e : Event) (es : List Event) (old mid : MirrorView) (before after : Requests) → Did old before e mid after → HaveWholeSectors (e ∷ es) before → HaveWholeSectors es after
whole_then e es old mid before after did whole = record {
  in_flight = whole_for e es old mid before after did whole.begun.0 (λ n r later at. whole.in_flight n r (written_later e es n later) at);
  begun = whole.begun.1;
}

writes_whole : (e : Event) (es : List Event) (requests : Requests) → WholeFor (e ∷ es) requests → WritesWhole e requests
writes_whole (Event.WriteMember n k) es requests all = λ r at. all n r (inl refl) at
writes_whole (Event.WriteFails k (MemberPart.RequestData n)) es requests all = λ r at. all n r (inl refl) at
writes_whole e es requests all = tt

-- the crash is in the first of the events
crashes_here : (e : Event) (es : List Event) (t : Moment) (left : List Disk) → IsLeftByCrash t left ⊎ GoesSo e t.mirror t.requests left → IsCrashOf (e ∷ es) t left
crashes_here e es t left (inl is_left) = record { done = []; rest = e ∷ es; order = refl; at = t; run = at_rest t; is_left = is_left }
crashes_here e es t left (inr so) =
    let next = then_as t e so.mid so.between in
    record {
      done = e ∷ [];
      rest = es;
      order = refl;
      at = next;
      run = (so.mid, so.between, at_once t.mirror so.mid t.requests so.between e so.does, at_rest next);
      is_left = inl so.contents;
    }

pub crashes_at : (es : List Event) (previous : Option Event) (t : Moment) (Then : MirrorView → Requests → Type 0) (turn : InTurn previous t.mirror t.requests es Then)
    → IsSoundAt t → HaveWholeSectors es t.requests → (left : List Disk) (stop : CrashesIn es previous t.mirror t.requests Then turn left)
    → LeftWholeUntil es previous t.mirror t.requests Then turn left stop → IsCrashOf es t left
crashes_at [] previous t Then turn at whole left stop until = absurd stop
crashes_at (e ∷ es) previous t Then turn at whole left (inl here) until =
    crashes_here e es t left (within_event previous t at turn.0 turn.1 left here.0 e turn.2 turn.3 turn.4 (writes_whole e es t.requests whole.in_flight) here.1)
crashes_at (e ∷ es) previous t Then turn at whole left (inr later) until =
    let does = turn.4 at.honest until.0 in
    let next = then_as t e turn.0 turn.1 in
    let so_far = whole_then e es t.mirror turn.0 t.requests turn.1 turn.3 whole in
    let rest = crashes_at es (Some e) next Then turn.5 (sound_then t e turn.0 turn.1 at does) so_far left later until.1 in
    record {
      done = e ∷ rest.done;
      rest = rest.rest;
      order = ap (λ (xs : List Event). e ∷ xs) rest.order;
      at = rest.at;
      run = (turn.0, turn.1, at_once t.mirror turn.0 t.requests turn.1 e does, rest.run);
      is_left = rest.is_left;
    }

-- ---- behind the list
-- where the events lead, and what is asked there for others to come
record ComesTo (es more : List Event) (t : Moment) (mid : MirrorView) (between : Requests) : Type 0 where
  past : Moment
  run : MirrorRun t es (record past { mirror = mid; requests = between })
  whole : HaveWholeSectors more between

comes_to : (es more : List Event) (previous : Option Event) (t : Moment) (mid : MirrorView) (between : Requests) (leads : Leads previous t.mirror t.requests es mid between)
    → IsSoundAt t → HaveWholeSectors (es ++ more) t.requests → AllLeftWhole es previous t.mirror t.requests (λ m r. (m ≡ mid) × (r ≡ between)) leads → ComesTo es more t mid between
comes_to [] more previous t mid between leads at whole left = record {
  past = t;
  run = subst (λ (x : Moment). MirrorRun t [] x) (λ i. record t { mirror = leads.0 i; requests = leads.1 i }) (at_rest t);
  whole = subst (HaveWholeSectors more) leads.1 whole;
}
comes_to (e ∷ es) more previous t mid between leads at whole left =
    let does = leads.4 at.honest left.0 in
    let so_far = whole_then e (es ++ more) t.mirror leads.0 t.requests leads.1 leads.3 whole in
    let rest = comes_to es more (Some e) (then_as t e leads.0 leads.1) mid between leads.5 (sound_then t e leads.0 leads.1 at does) so_far left.1 in
    record { past = rest.past; run = (leads.0, leads.1, at_once t.mirror leads.0 t.requests leads.1 e does, rest.run); whole = rest.whole }

-- within a write that halted the mirror
halting : (t : Moment) (failing : Event) → WritesWhole failing t.requests → (new : MirrorView) → HaltsAt t.mirror t.requests failing new → (left : List Disk)
    → MayAllBeLeft t.mirror.disks new.disks (contents_of left) → IsLeftHalting failing t.mirror left → IsLeftByCrash t left
halting t (Event.WriteFails k MemberPart.Superblock) whole new halts left within super =
    inr (inr (inr (inl (record { on = k; next = new; call = inr (inr (inl halts)); within = within; super = super }))))
halting t (Event.WriteFails k (MemberPart.RequestData n)) whole new halts left within asked =
    inr (inr (inl (record {
      request = halts.0;
      others = t.requests;
      in_flight = under_among n halts.0 t.requests halts.2;
      whole = is_whole halts.0 (whole (request_of halts.0) halts.2.request);
      on = k;
      next = new;
      then = halts.1;
      call = inr (inr halts.3);
      within = within;
    })))
halting t e whole new halts left within before = inl before

-- ---- at a moment of a life
pub crashes_at_steps : CrashesAtSteps
crashes_at_steps before m start events rest final t life es previous new after leads whole left stop until =
    let at = life_keeps m events rest final t (sound_when_opened before m start.honest start.opened) life in
    crashes_at es previous t (λ v r. (v ≡ new) × (r ≡ after)) leads at whole left stop until

pub crashes_at_halts : CrashesAtHalts
crashes_at_halts before m start events rest final t life es previous mid between leads all failing new halts whole left within asked =
    let at = life_keeps m events rest final t (sound_when_opened before m start.honest start.opened) life in
    let c = comes_to es (failing ∷ []) previous t mid between leads at whole all in
    let last = record c.past { mirror = mid; requests = between } in
    record {
      done = es;
      rest = [];
      order = sym (append-nil es);
      at = last;
      run = c.run;
      is_left = halting last failing (writes_whole failing [] between c.whole.in_flight) new halts left within asked;
    }
