-- A request's bytes are written to the members.
use Rattle.std.proofs.Common.{◌≡◌, ◌≢◌, ℕ, ◌+◌, ◌-◌, ◌*◌, ◌/◌, ◌≤◌, Bool, true, false, ◌&&◌, ◌||◌, eqb, nat_lt, List, [], ◌∷◌, ◌++◌, length, Some, refl, sym, ap, ◌∙◌, subst, arith, inl, inr, eq-eqb, true≢false}
use Rattle.std.specs.List.{list_any}
use Rattle.std.specs.Prelude.{Result, Ok, Err, MatchResult}
use Rattle.std.proofs.lemmas.Bool.{or_right}
use Rattle.std.proofs.lemmas.Option.{same_Some, slice_get_within}
use Rattle.md_model.specs.Events.{Event, MemberPart}
use Rattle.md_model.specs.Sectors.{block_of}
use Rattle.md_model.proofs.Cases.{by_test, not_below-nat_lt}
use Rattle.md_model.proofs.Puts.{by_same, put-hit, put-miss}
use Rattle.md_bitmap.specs.declared.chunks.Chunks.{Chunks}
use Rattle.md_assembly.specs.States.{is_in_sync, is_recorded, is_recovering}
use Rattle.md_assembly.specs.declared.state.MemberState.{MemberState}
use Rattle.md_assembly.specs.declared.state.MemberState.TheVariants.{InSync, Recovering, Stale, Spare, Faulty}
use Rattle.md_kept_members.specs.TakingBack.{member_says_of}
use Rattle.md_inflight.specs.Requests.Pending.{PendingView, has_written}
use Rattle.md_kept_members.specs.View.{MemberView}
use Rattle.md_faults.specs.declared.step_fault.WriteMemberFault.TheVariants.{Halted, NotActive, NotMarked, NotRecorded, AlreadyWritten, MemberFailed}
use Rattle.md_state.specs.View.{ArrayView, MirrorView}
use Rattle.md_state.specs.Members.{AllInSync, IsInSync, IsMember}
use Rattle.md_state.specs.Requests.{IsPending, among, request_of}
use Rattle.md_state.specs.Steps.Begin.{first_sector}
use Rattle.md_state.specs.Steps.Finish.{HasBytesOf}
use Rattle.md_state.specs.Steps.WriteMember.{HasMarksFrom, HasRequestMarks, IsNotDue, RefusesWriteMember, WritesTo}
use Rattle.md_state.proofs.Changes.RequestChunks.{div_mono}
use Rattle.md_array.specs.Consistency.{IsConsistent}
use Rattle.md_array.specs.Events.{HappensAmong}
use Rattle.md_array.specs.InTurn.{IsPut, IsUnder, Requests}
use Rattle.md_array.proofs.Worlds.States.{in_sync_recorded}
use Rattle.md_metadata.specs.declared.fault.PartFault.{PartFault}
use Rattle.md_metadata.specs.Going.{IsSameArray}
use Rattle.md_metadata.specs.Lowering.{IsLowering}
use Rattle.md_metadata.specs.Storing.{AllRecorded, IsRecorded, IsRecording, IsToldAs, RecordsAll, StaysReady, Stores, StoresAll, StoringFails}
use Rattle.md_metadata.proofs.Going.{same_refl, stores_as, stores_on}
use Rattle.md_metadata.proofs.StoredMembers.{last_on, records_last}
use Rattle.md_metadata.proofs.Steps.{failure_step, fewer_after, halted_after, in_use_there, never_halted}
use Rattle.md_write.specs.Progress.{AdvancesRequest, AllLowered, AllUnsaid, AreChunksOf, HaltsOn, IsLater, IsMarkingOf, IsLowered, IsOfRequest, IsReadyToFinish, LosesOn, Part, WritingFails, WritesAt, WritesBelow, WritesOn, WritesToAll, end_chunk, first_chunk}
use Rattle.md_write.proofs.InRounds.{first_records_leave, marks_leave, other_records_leave}
use Rattle.md_write.proofs.Advancing.{advances_on, later_refl, stays, steps_once, stops_later, stored_beside, storing_stops}
use Rattle.md_write.proofs.StoredMarks.{marked_still, marks_last}

or_more : (a b c : Bool) → (b ≡ true → c ≡ true) → (a || b) ≡ true → (a || c) ≡ true
or_more true b c f e = refl
or_more false b c f e = f e

any_more : (p : ℕ → Bool) (xs ys : List ℕ) → list_any p xs ≡ true → list_any p (xs ++ ys) ≡ true
any_more p [] ys e = absurd cc
any_more p (x ∷ xs) ys e = or_more (p x) (list_any p xs) (list_any p (xs ++ ys)) (any_more p xs ys) e

any_last : (p : ℕ → Bool) (xs : List ℕ) (y : ℕ) → p y ≡ true → list_any p (xs ++ y ∷ []) ≡ true
any_last p [] y e = ap (λ c. c || false) e
any_last p (x ∷ xs) y e = or_right (p x) (list_any p (xs ++ y ∷ [])) (any_last p xs y e)

same_of : (a b : ArrayView) → b ≡ a → IsSameArray a b
same_of a b e = subst (λ (x : ArrayView). IsSameArray a x) (sym e) (same_refl a)

pub under : (n : ℕ) (p : PendingView) (others : Requests) → p.ticket.number ≡ n → IsUnder n p (among p others)
under n p others e = record {
  number = e;
  request = subst (λ (i : ℕ). among p others i ≡ Some (request_of p)) e (put-hit p.ticket.number (Some (request_of p)) others);
}

pub put_under : (n : ℕ) (p : PendingView) (before others : Requests) → p.ticket.number ≡ n → ((m : ℕ) → m ≢ n → before m ≡ others m) → IsPut n (Some (request_of p)) before (among p others)
put_under n p before others e same = record {
  at = (under n p others e).request;
  others = λ m apart. put-miss p.ticket.number (Some (request_of p)) others m (λ here. apart (here ∙ e)) ∙ sym (same m apart);
}

pub beside : (p : PendingView) (others : Requests) (m : ℕ) → m ≢ p.ticket.number → among p others m ≡ others m
beside p others m apart = put-miss p.ticket.number (Some (request_of p)) others m apart

-- ---- what write_member gives
module _ (old new : MirrorView) (k : ℕ) (p q : PendingView) (before : IsConsistent old) (is : IsPending old.array p) where
  abbrev n : ℕ
  n = p.ticket.number

  module _ (sound : IsConsistent new) (pending : (o : PendingView) → IsPending old.array o → IsPending new.array o) where
    written_later : WritesTo k old new p q → IsLater p q
    written_later r = record {
      request = r.pending ∙ ap (λ (x : PendingView). record p { written = x.written }) (sym r.pending);
      more = λ d has. ap (λ (x : PendingView). has_written x d) r.pending ∙ any_more (eqb d) p.written (r.member.superblock.dev_number ∷ []) has;
    }

    pub data_written : WritesTo k old new p q → HappensAmong old p (Event.WriteMember n k) new q → IsPending new.array q → WritesAt k p q old new
    data_written r happens still =
        let number : q.ticket.number ≡ n = ap (λ (x : PendingView). x.ticket.number) r.pending in
        record {
          writes = record {
            advances = steps_once Part.Bytes Part.Bytes p q (Event.WriteMember n k) old new (record {
              of = refl;
              did = λ others. (p, q, under n p others refl, under n q others number, put_under n q (among p others) others number (beside p others), r);
              happens = λ honest whole others in_flight. happens honest others in_flight;
              array = same_of old.array new.array r.array;
              sound = sound;
              pending = pending;
            }) (λ previous. tt) (λ after rest. rest) (written_later r);
            still = still;
            array = r.array;
          };
          done = λ m in_sync.
              let there : IsMember old.array k m = subst (λ (x : ArrayView). IsMember x k m) r.array in_sync.member in
              let it : m ≡ r.member = same_Some m r.member (sym there ∙ r.may.intent.in_sync.member) in
              ap (λ (x : PendingView). has_written x m.superblock.dev_number) r.pending
              ∙ any_last (eqb m.superblock.dev_number) p.written r.member.superblock.dev_number (eq-eqb _ _ (ap (λ (x : MemberView). x.superblock.dev_number) it));
        }

    later_of : q ≡ p → IsLater p q
    later_of e = subst (IsLater p) (sym e) (later_refl p)

    pub data_fails : (j : ℕ) → RefusesWriteMember k old new p q (MemberFailed j) → HappensAmong old p (Event.WriteFails k (MemberPart.RequestData n)) new q → LosesOn Part.Bytes p q old new
    data_fails j r happens =
        let f = r.1 in
        let used = in_use_there old.array k f.member f.fails.array.member f.fails.array.at f.may.intent.in_sync.member (in_sync_recorded f.member.state f.may.intent.in_sync.in_sync) in
        let number : q.ticket.number ≡ n = ap (λ (x : PendingView). x.ticket.number) f.pending in
        record {
          advances = steps_once Part.Bytes Part.Marks p q (Event.WriteFails k (MemberPart.RequestData n)) old new
              (failure_step (among p) (among q) (IsOfRequest old.array.chunks p) (Event.WriteFails k (MemberPart.RequestData n)) old new k f.fails.array used refl
              (λ others. (p, q, under n p others refl, under n q others number, put_under n q (among p others) others number (beside p others), f))
              (λ honest whole others in_flight. happens honest others in_flight) sound pending) (λ previous. tt) (λ after rest. rest) (later_of f.pending);
          lost = fewer_after old.array new.array k f.fails.array used;
          halted = halted_after old.array new.array k f.fails.array used;
          still = subst (IsPending new.array) (sym f.pending) (pending p is);
        }

    pub data_halts : old.array.halted ≡ false → RefusesWriteMember k old new p q Halted → HaltsOn Part.Bytes p q old new
    data_halts run (inl r) = never_halted old new run r.0
    data_halts run (inr h) =
        let none = stays Part.Bytes p q old before h.pending in
        record {
          halts = record {
            mid = old;
            goes = none.goes;
            failing = Event.WriteFails k (MemberPart.RequestData n);
            of = refl;
            halts = λ others. (p, q, subst (λ (x : PendingView). IsUnder n p (among x others)) (sym h.pending) (under n p others refl), h);
            sound = sound;
            pending = pending;
          };
          rounds = none.rounds (Event.WriteFails k (MemberPart.RequestData n) ∷ []) tt;
          later = none.later;
        }

  -- nothing is to be done at member k
  pub written_nothing : ((m : MemberView) → IsInSync old.array k m → HasBytesOf p m) → WritesAt k p p old old
  written_nothing done = record {
    writes = record { advances = stays Part.Bytes p p old before refl; still = is; array = refl };
    done = done;
  }

  pub data_again : RefusesWriteMember k old new p q AlreadyWritten → WritesAt k p q old new
  data_again r =
      subst (λ (x : MirrorView). WritesAt k p q old x) (sym r.0.unchanged)
      (subst (λ (x : PendingView). WritesAt k p x old old) (sym r.1)
      (written_nothing (λ m in_sync.
      let it : m ≡ r.0.reason.member = same_Some m r.0.reason.member (sym in_sync.member ∙ r.0.reason.intent.in_sync.member) in
      ap (λ (x : MemberView). has_written p x.superblock.dev_number) it ∙ r.0.reason.written)))

  -- the other answers can't come
  pub data_inactive : {P : Type 0} → RefusesWriteMember k old new p q NotActive → ((m : MemberView) → IsMember old.array k m → is_in_sync m.state ≡ true) → P
  data_inactive r active = absurd (let yes = active r.0.reason.member r.0.reason.at in let no = r.0.reason.out in cc)

  pub data_unmarked : {P : Type 0} (j : ℕ) → RefusesWriteMember k old new p q (NotMarked j) → AllInSync old.array (HasRequestMarks old.array p) → P
  data_unmarked j r marked = absurd (r.0.reason.first.lacks (marked j r.0.reason.first.member r.0.reason.first.in_sync))

  pub data_unrecorded : {P : Type 0} (j : ℕ) → RefusesWriteMember k old new p q (NotRecorded j) → AllInSync old.array IsNotDue → AllUnsaid old.array p → P
  data_unrecorded j r recorded unsaid = elim r.0.reason.first [
    | inl due ↦ absurd (due.lacks (recorded j due.member due.in_sync))
    | inr says ↦ absurd (let yes = says.1.says in let no = unsaid j says.1.member says.1.at in cc)
  ]

-- ---- the members, one after another
module _ (p q : PendingView) (old new : MirrorView) (w : WritesOn p q old new) where
  pub recorded_on : AllInSync old.array IsNotDue → AllInSync new.array IsNotDue
  recorded_on all i m in_sync = all i m (subst (λ (x : ArrayView). IsInSync x i m) w.array in_sync)

  pub running_on : old.array.halted ≡ false → new.array.halted ≡ false
  running_on run = ap (λ (x : ArrayView). x.halted) w.array ∙ run

pub written_none : (p : PendingView) (m : MirrorView) → IsConsistent m → IsPending m.array p → WritesBelow 0 p p m m
written_none p m sound is = record {
  writes = record { advances = stays Part.Bytes p p m sound refl; still = is; array = refl };
  done = λ i n low in_sync. absurd (omega arith);
}

pub written_more : (k : ℕ) (p q r : PendingView) (old mid new : MirrorView) → WritesBelow k p q old mid → WritesAt k q r mid new → WritesBelow (k + 1) p r old new
written_more k p q r old mid new g h = record {
  writes = record {
    advances = advances_on p q r old mid new Part.Bytes Part.Bytes g.writes.advances Part.Bytes h.writes.advances;
    still = h.writes.still;
    array = h.writes.array ∙ g.writes.array;
  };
  done = λ i m low in_sync.
      by_same i k
      (λ same. h.done m (subst (λ (j : ℕ). IsInSync new.array j m) same in_sync))
      (λ apart. h.writes.advances.later.more m.superblock.dev_number (g.done i m (omega arith) (subst (λ (x : ArrayView). IsInSync x i m) h.writes.array in_sync)));
}

pub written_all : (k : ℕ) (p q : PendingView) (old new : MirrorView) → length new.array.members ≤ k → WritesBelow k p q old new → WritesToAll p q old new
written_all k p q old new last g = record {
  writes = g.writes;
  done = λ i m in_sync. g.done i m (let low = slice_get_within new.array.members i m in_sync.member in omega arith) in_sync;
}

-- ---- all parts
marking_is : (chunks : Chunks) (p : PendingView) (first end : ℕ) → first ≡ first_chunk chunks p → end ≡ end_chunk chunks p → (e : Event) → IsMarkingOf first end e → IsOfRequest chunks p e
marking_is chunks p first end low high (Event.StoreMarks k b) is = inr (subst (λ (c : ℕ). block_of c ≤ b) low is.0, subst (λ (c : ℕ). b ≤ block_of (c - 1)) high is.1)
marking_is chunks p first end low high (Event.WriteFails k (MemberPart.BitmapSector b)) is = inr (subst (λ (c : ℕ). block_of c ≤ b) low is.0, subst (λ (c : ℕ). b ≤ block_of (c - 1)) high is.1)
marking_is chunks p first end low high e is = absurd is

recording_is : (chunks : Chunks) (p : PendingView) (e : Event) → IsRecording e → IsOfRequest chunks p e
recording_is chunks p (Event.Record k) is = tt
recording_is chunks p (Event.StoreMarks k b) is = inl is
recording_is chunks p (Event.WriteFails k MemberPart.Superblock) is = tt
recording_is chunks p (Event.WriteFails k (MemberPart.BitmapSector b)) is = inl is
recording_is chunks p e is = absurd is

pub lowering_is : (chunks : Chunks) (p : PendingView) (sector : ℕ) (e : Event) → IsLowering sector e → IsOfRequest chunks p e
lowering_is chunks p sector (Event.LowerOffset k s) is = tt
lowering_is chunks p sector e is = absurd is

module _ (p : PendingView) (first end : ℕ) (a : MirrorView) (chunks : AreChunksOf a.array p first end) where
  -- the events of this request
  abbrev Of : Event → Type 0
  Of = IsOfRequest a.array.chunks p

  abbrev marking : (e : Event) → IsMarkingOf first end e → Of e
  marking = marking_is a.array.chunks p first end chunks.first_is chunks.end_is

  abbrev recording : (e : Event) → IsRecording e → Of e
  recording = recording_is a.array.chunks p

  abbrev marks_stored : (b : MirrorView) → Stores (IsMarkingOf first end) a b → Stores Of a b
  marks_stored b = stores_as (IsMarkingOf first end) Of marking a b

  abbrev records_stored : (b c : MirrorView) → Stores IsRecording b c → Stores Of b c
  records_stored = stores_as IsRecording Of recording

  module _ (b : MirrorView) (is : IsPending a.array p) where
    pub marks_stop : (fault : PartFault) → StoringFails (IsMarkingOf first end) a b fault → WritingFails Part.Marks p p a b fault
    marks_stop = storing_stops (IsMarkingOf first end) p a b is marking Part.Marks Part.Marks (marks_leave first end)

    module _ (c : MirrorView) (x : Stores (IsMarkingOf first end) a b) where
      marked : AdvancesRequest Part.Marks Part.Marks p p a b
      marked = stored_beside (IsMarkingOf first end) p a b is marking Part.Marks Part.Marks (marks_leave first end) x.goes

      pub records_stop : (fault : PartFault) → StoringFails IsRecording b c fault → WritingFails Part.Marks p p a c fault
      records_stop fault s =
          stops_later p p p a b c Part.Marks Part.Marks marked fault x.ready.halted
          (storing_stops IsRecording p b c (x.goes.pending p is) (recording_is b.array.chunks p) Part.Marks Part.Records first_records_leave fault s)

      module _ (d : MirrorView) (y : Stores IsRecording b c) where
        recorded : AdvancesRequest Part.Marks Part.Records p p a c
        recorded =
            advances_on p p p a b c Part.Marks Part.Marks marked Part.Records
            (stored_beside IsRecording p b c (x.goes.pending p is) (recording_is b.array.chunks p) Part.Marks Part.Records first_records_leave y.goes)

        pub others_stop : (fault : PartFault) → StoringFails IsRecording c d fault → WritingFails Part.Marks p p a d fault
        others_stop fault s =
            stops_later p p p a c d Part.Marks Part.Records recorded fault (y.ready.halted ∙ x.ready.halted)
            (storing_stops IsRecording p c d (y.goes.pending p (x.goes.pending p is)) (recording_is c.array.chunks p) Part.Records Part.Bytes other_records_leave fault s)

        pub all_stored : Stores IsRecording c d → AdvancesRequest Part.Marks Part.Bytes p p a d
        all_stored z =
            advances_on p p p a c d Part.Marks Part.Records recorded Part.Bytes
            (stored_beside IsRecording p c d (y.goes.pending p (x.goes.pending p is)) (recording_is c.array.chunks p) Part.Records Part.Bytes other_records_leave z.goes)

recovering_recorded : (s : MemberState) → is_recovering s ≡ true → is_recorded s ≡ true
recovering_recorded (InSync role) e = refl
recovering_recorded (Recovering role) e = refl
recovering_recorded (Stale role) e = absurd (true≢false (sym e))
recovering_recorded Spare e = refl
recovering_recorded Faulty e = absurd (true≢false (sym e))

-- a member that was lowered, and is recorded
unsaid_of : (sector : ℕ) (before n : MemberView) → n ≡ record before { stored = n.stored; due = n.due; stored_offset = n.stored_offset }
    → (is_recovering before.state ≡ true → before.superblock.recovery_offset ≤ sector) → (member_says_of sector before ≡ true → before.due ≡ true) → IsToldAs before n → IsRecorded n
    → member_says_of sector n ≡ false
unsaid_of sector before n same sure due told recorded = by_test (is_recovering n.state)
    (λ on. ap (λ b. b && nat_lt sector n.stored_offset) on ∙ at_most on told)
    (λ off. ap (λ b. b && nat_lt sector n.stored_offset) off)
  where
    was_on : is_recovering n.state ≡ true → is_recovering before.state ≡ true
    was_on on = sym (ap (λ (x : MemberView). is_recovering x.state) same) ∙ on

    at_most : is_recovering n.state ≡ true → IsToldAs before n → nat_lt sector n.stored_offset ≡ false
    at_most on (inr stored) =
        let own : n.superblock.recovery_offset ≡ before.superblock.recovery_offset = ap (λ (x : MemberView). x.superblock.recovery_offset) same in
        let low = sure (was_on on) in
        let is = stored.1 in
        not_below-nat_lt sector n.stored_offset (omega arith)
    at_most on (inl still) = by_test (nat_lt sector n.stored_offset)
        (λ above.
        let said : member_says_of sector before ≡ true =
        ap (λ b. b && nat_lt sector before.stored_offset) (was_on on) ∙ sym (ap (nat_lt sector) still.1) ∙ above in
        let yes = still.0 ∙ due said in
        let no = recorded (recovering_recorded n.state on) in
        absurd cc)
        (λ not_above. not_above)

-- the chunks of the request, later on
pub chunks_later : (a b : ArrayView) (p q : PendingView) (first end : ℕ) → IsSameArray a b → IsLater p q → AreChunksOf a p first end → AreChunksOf b q first end
chunks_later a b p q first end same later c =
    subst (λ (x : PendingView). AreChunksOf b x first end) (sym later.request)
    (record {
      are = marked_still a b first end same c.are;
      first_is = subst (λ (x : Chunks). first ≡ first_chunk x p) (sym same.chunks) c.first_is;
      end_is = subst (λ (x : Chunks). end ≡ end_chunk x p) (sym same.chunks) c.end_is;
    })

module _ (p q : PendingView) (first end : ℕ) (a b c d e : MirrorView) (is : IsPending a.array p) (chunks : AreChunksOf a.array p first end)
    (x : StoresAll (IsMarkingOf first end) (HasMarksFrom first end) a b) (y : StoresAll IsRecording IsNotDue b c) (others : RecordsAll c d) where
  abbrev rest : Stores (IsOfRequest a.array.chunks p) b d
  rest = stores_on (IsOfRequest a.array.chunks p) b c d (records_stored p first end a chunks b c y.stores) (records_stored p first end a chunks c d others.stores)

  abbrev all : Stores (IsOfRequest a.array.chunks p) a d
  all = stores_on (IsOfRequest a.array.chunks p) a b d (marks_stored p first end a chunks b x.stores) rest

  pub marked_then : AllInSync d.array (HasRequestMarks d.array p)
  marked_then i m in_sync s low high =
      let later = chunks_later a.array d.array p p first end all.goes.array (later_refl p) chunks in
      let wide = others.stores.goes.sound.chunks.wide in
      let up = div_mono d.array.chunks.sectors p.sector s wide low in
      let down = div_mono d.array.chunks.sectors s ((p.sector + length p.bytes / 512) - 1) wide (omega arith) in
      let from : first ≡ p.sector / d.array.chunks.sectors = later.first_is in
      let to : end ≡ ((p.sector + length p.bytes / 512) - 1) / d.array.chunks.sectors + 1 = later.end_is in
      let kept = last_on (IsOfRequest a.array.chunks p) (HasMarksFrom first end) a b d (marks_last a.array first end chunks.are) x.stores.goes.array.marks x.done rest i m in_sync in
      kept (s / d.array.chunks.sectors) (omega arith) (omega arith)

  pub recorded_then : AllInSync d.array IsNotDue
  recorded_then = last_on IsRecording IsNotDue b c d (records_last b.array.marks) y.stores.goes.array.marks y.done others.stores

  -- no superblock says any more that a recovering member has its chunks
  pub unsaid_then : AllLowered a.array p → AllUnsaid d.array p
  unsaid_then lowered i m at =
      let s : StaysReady a.array d.array i m = all.ready.each i m at in
      let was : IsLowered a.array p s.before = lowered i s.before s.member in
      let width : first_sector d.array p.sector ≡ first_sector a.array p.sector = ap (λ (x : Chunks). (p.sector / x.sectors) * x.sectors) all.goes.array.chunks in
      subst (λ (x : ℕ). member_says_of x m ≡ false) (sym width) (unsaid_of (first_sector a.array p.sector) s.before m s.same was.sure was.due s.told (others.done i m at))

  abbrev stored : AdvancesRequest Part.Marks Part.Bytes p p a d
  stored = all_stored p first end a chunks b is c x.stores d y.stores others.stores

  pub writes_or_stops : a.array.halted ≡ false → {T : Type 0} (result : Result T PartFault) → MatchResult result (λ _. WritesToAll p q d e) (WritingFails Part.Bytes p q d e)
      → MatchResult result (λ _. IsReadyToFinish p q a e) (WritingFails Part.Marks p q a e)
  writes_or_stops run (Ok t) w = record {
    advances = advances_on p p q a d e Part.Marks Part.Bytes stored Part.Bytes w.writes.advances;
    still = w.writes.still;
    may = record {
      running = running_on p q d e w.writes (all.ready.halted ∙ run);
      written = w.done;
      recorded = recorded_on p q d e w.writes recorded_then;
    };
    recorded = subst AllRecorded (sym w.writes.array) others.done;
  }
  writes_or_stops run (Err fault) w = stops_later p p q a d e Part.Marks Part.Bytes stored fault all.ready.halted w
