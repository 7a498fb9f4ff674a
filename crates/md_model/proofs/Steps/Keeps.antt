-- Every event keeps the invariant.
use Rattle.std.proofs.Common.{◌≡◌, ℕ, ◌<◌, ◌+◌, ◌↔◌, Bool, true, false, cond, ◌&&◌, ◌||◌, ◌⊎◌, inl, inr, ⊎_elim, refl, sym, ap, ◌∙◌, subst, eqb, eq-eqb, true≢false, arith, List, [], ◌∷◌}
use Rattle.std.specs.Prelude.{Some, None, nat_lt, not}
use Rattle.std.proofs.lemmas.Bool.{or_right, or_parts, not-true, and_parts}
use Rattle.md_model.specs.Sectors.{Geometry, chunk_of, put}
use Rattle.md_model.specs.States.{State, is_recorded, is_in_sync, is_recovering}
use Rattle.md_model.specs.Devices.{Super, Stored, AgreeAt}
use Rattle.md_model.specs.Worlds.{Request, touches, World, IsInFlight, IsInSync}
use Rattle.md_model.specs.Counts.{role_at_rise, risen, risen_if, HasToRise}
use Rattle.md_model.specs.Steps.{begun, due_after, finished, first_sector, lowered, lowered_on, says_of, sure_after, unmarked, with_device, super_for, recorded, recorded_device, marked_device, marks_stored, written_device, member_written, MayBegin, MayWrite}
use Rattle.md_model.specs.Failures.{failed, MayFail}
use Rattle.md_model.specs.Resyncing.{copied_device, copied, made_clean, made_resynced, MayResync}
use Rattle.md_model.specs.Membership.{added, former_member, is_spare, IsTakenBack, new_member, re_added, removed, skip}
use Rattle.md_model.specs.Rebuilding.{is_target, admitted, as_in_sync, as_recovering, checkpointed, enrolled, enrolled_device, taking_device, with_offset}
use Rattle.md_model.specs.Listing.{log_stored, noted_bad}
use Rattle.md_model.proofs.Steps.Membership.{former_joins, number_absent, recorded_joined, recorded_removed, spare_joins, tracked_joined, tracked_removed}
use Rattle.md_model.proofs.Steps.Rebuilding.{fewer_admitted, fewer_checkpointed, fewer_log_stored, fewer_noted_bad, fewer_target, recorded_left, recorded_taking, recorded_target, recovering_target, spare_target, still_due, target_recorded, tracked_enrolled}
use Rattle.md_model.specs.Events.{Event, MemberPart, Fails, FailsOnTarget, Happens, Spoils, Step}
use Rattle.md_model.specs.Openings.{IsWithinLimits}
use Rattle.md_model.specs.Runs.{History, away_after, failed_after, spoiled_after, tried_after, then_in, Run}
use Rattle.md_model.proofs.Cases.{by_test, none_some, is_below, not_below}
use Rattle.md_model.proofs.Puts.{put-at, put-hit, put-twice}
use Rattle.md_model.proofs.Steps.Tracked.{IsTracked, tracked_fewer}
use Rattle.md_model.proofs.Steps.TrackedSteps.{fewer_recorded, fewer_failed, fewer_lowered, tracked_risen, tracked_entered, tracked_finished, tracked_unmarked, tracked_marks_stored, tracked_written, other_flights}
use Rattle.md_model.proofs.Steps.TrackedCalls.{tracked_copied, tracked_resynced, tracked_made_clean}
use Rattle.md_model.proofs.Steps.Unstored.{unstored_step, IsUnstored}
use Rattle.md_model.proofs.Steps.FailedWrites.{super_left}
use Rattle.md_model.proofs.Steps.Recorded.{Book, book_of, IsRecorded, recorded_in_sync}
use Rattle.md_model.proofs.Steps.RecordedSteps.{absent_none, recorded_risen, recorded_recorded, recorded_without}
use Rattle.md_model.proofs.Steps.Seen.{anew, as_before, hidden, hidden_left, kept_super, seen, seen_begun, seen_fails, seen_left, seen_may_remove, seen_may_write, seen_removed}

-- where marked chunks were copied, the members in sync agree everywhere
pub all_agree : (g : Geometry) (w : World) → MayResync g w → IsTracked g w → IsUnstored w → (j k s : ℕ) → IsInSync w j → IsInSync w k → AgreeAt (w.stored j) (w.stored k) s
all_agree g w may t u j k s a b = by_test (w.marks (chunk_of g s))
    (λ at. by_test (w.bad j s)
    (λ bad. u.agree j k s a b bad quiet)
    (λ off_j. by_test (w.bad k s)
    (λ bad off off'. sym (u.agree k j s b a bad quiet off' off))
    (λ off_k. may.agree j k s a b at off_j off_k)))
    (λ off. t.in_memory j k s a b off)
  where
    quiet : (n : ℕ) (p : Request) → IsInFlight w n p → touches p s ≡ false
    quiet n p e = absurd (none_some p (sym (may.idle n) ∙ e))

-- while a request is in flight, no absent device has a role
abbrev pub IsAlone : Geometry → (ℕ → Bool) → World → Type 0
IsAlone g away w = (n : ℕ) (p : Request) (d : ℕ) → IsInFlight w n p → away d ≡ true → w.role d < g.raid_disks → ⊥

pub record IsKept (g : Geometry) (opened : Super) (h : History) : Type 0 where
  pub tracked : IsTracked g h.now
  pub unstored : IsUnstored h.now
  pub recorded : IsRecorded g opened h.failed_at h.tried h.away (book_of (seen h.spoiled h.now))
  pub alone : IsAlone g h.away h.now

-- the world in which a request is entered: the count has risen, if it had to, and no recovering member says any more that it has the data
abbrev pub before_entry : Geometry → World → Request → Bool → Bool → World
before_entry g w p rises full = lowered (risen_if g w rises full) (first_sector g p)

-- a request may begin there, if it may before
pub begin_after : (g : Geometry) (w : World) (n : ℕ) (p : Request) (rises full : Bool) → MayBegin g w n p → MayBegin g (before_entry g w p rises full) n p
begin_after g w n p true full m = record { resynced = m.resynced; new = m.new; apart = m.apart; some = m.some; inside = m.inside; unwritten = m.unwritten }
begin_after g w n p false full m = record { resynced = m.resynced; new = m.new; apart = m.apart; some = m.some; inside = m.inside; unwritten = m.unwritten }

-- a superblock that is not due after that was not before
due_before : (w : World) (s j : ℕ) → due_after w s j ≡ false → w.due j ≡ false
due_before w s j off = (or_parts (says_of w s j) (w.due j) off).1

module _ (g : Geometry) (small : IsWithinLimits g) where
  fails_tracked : (w : World) (k : ℕ) (left : Stored) (w' : World) → Fails g w k left w' → IsTracked g w → IsTracked g w'
  fails_tracked w k left w' f t = subst (IsTracked g) (sym f.3) (tracked_fewer g w (failed g (with_device w k left) k f.0) (fewer_failed g w k left f.0) t)

  rise_tracked : (w : World) (rises full : Bool) → IsTracked g w → IsTracked g (risen_if g w rises full)
  rise_tracked w true full t = tracked_risen g w full t
  rise_tracked w false full t = t

  lowered_tracked : (w : World) (sure : ℕ → ℕ) (due : ℕ → Bool) → IsTracked g w → IsTracked g (record w { sure_offset = sure; due = due })
  lowered_tracked w sure due t = tracked_fewer g w (record w { sure_offset = sure; due = due }) (fewer_lowered w sure due) t

  target_tracked : (w : World) (k : ℕ) (left : Stored) → is_target (w.state k) ≡ true → (w' : World) → w' ≡ with_device w k left → IsTracked g w → IsTracked g w'
  target_tracked w k left out w' is t = subst (IsTracked g) (sym is) (tracked_fewer g w (with_device w k left) (fewer_target w k left out) t)

  tracked_step : (w : World) → IsUnstored w → (e : Event) (w' : World) → IsTracked g w → Happens g w e w' → IsTracked g w'
  tracked_step w u (Event.Begin n p) w' t s = subst (IsTracked g) (sym s.5)
      (tracked_entered g (before_entry g w p s.0 s.1) n p small.wide (begin_after g w n p s.0 s.1 s.2)
      (lowered_tracked (risen_if g w s.0 s.1) (sure_after (risen_if g w s.0 s.1) (first_sector g p)) (due_after (risen_if g w s.0 s.1) (first_sector g p)) (rise_tracked w s.0 s.1 t)))
  tracked_step w u (Event.Record k) w' t s = subst (IsTracked g) (sym s.3) (tracked_fewer g w (recorded w k s.0) (fewer_recorded w k s.0 s.1) t)
  tracked_step w u (Event.StoreMarks k b) w' t s = subst (IsTracked g) (sym s.1) (tracked_marks_stored g w k b t)
  tracked_step w u (Event.WriteMember n k) w' t s = subst (IsTracked g) (sym s.2) (tracked_written g w n s.0 k s.1 t)
  tracked_step w u (Event.Finish n) w' t s = subst (IsTracked g) (sym s.2) (tracked_finished g w n s.0 s.1 t)
  tracked_step w u (Event.ClearIdle c) w' t s = subst (IsTracked g) (sym s.1) (tracked_unmarked g w c s.0 t)
  tracked_step w u (Event.Fail k) w' t s = fails_tracked w k (w.stored k) w' s.1 t
  tracked_step w u (Event.WriteFails k part) w' t s = fails_tracked w k s.0 w' s.2 t
  tracked_step w u (Event.Copy from k x) w' t s = subst (IsTracked g) (sym s.1) (tracked_copied g w from k x s.0 t)
  tracked_step w u Event.Resynced w' t s = subst (IsTracked g) (sym s.1) (tracked_resynced g w true s.0.idle (λ _. all_agree g w s.0 t u) t)
  tracked_step w u Event.Unresynced w' t s = subst (IsTracked g) (sym s.1) (tracked_resynced g w false s.0 (λ r. absurd (true≢false (sym r))) t)
  tracked_step w u Event.MakeClean w' t s = subst (IsTracked g) (sym s.3) (tracked_made_clean g w s.0 t)
  tracked_step w u (Event.Remove k) w' t s = subst (IsTracked g) (sym s.3) (tracked_removed g w k (is_spare (w.state k)) s.0 t)
  tracked_step w u (Event.Add d left) w' t s = subst (IsTracked g) (sym s.4) (tracked_joined g (risen g w s.0) (new_member d left) refl (tracked_risen g w s.0 t))
  tracked_step w u (Event.ReAdd own offset device left) w' t s = subst (IsTracked g) (sym s.4)
      (tracked_joined g (risen g w s.0) (former_member own offset left) refl (tracked_risen g w s.0 t))
  tracked_step w u (Event.LowerOffset k x) w' t s =
      subst (IsTracked g) (sym s.1) (lowered_tracked w (put k (sure_after w x k) w.sure_offset) (put k (due_after w x k) w.due) t)
  tracked_step w u (Event.Fill k) w' t s = target_tracked w k s.0 s.1.rebuild.target w' s.3 t
  tracked_step w u (Event.Prepare k) w' t s = target_tracked w k s.0 s.1.target w' s.3 t
  tracked_step w u (Event.RecordTargetFails k) w' t s = target_tracked w k s.0 s.1.0 w' s.1.2 t
  tracked_step w u (Event.SpoilTarget k) w' t s = target_tracked w k s.0 s.1.0 w' s.1.2 t
  tracked_step w u (Event.Enrol k role listed) w' t s = subst (IsTracked g) (sym s.3) (tracked_enrolled g w k role listed s.0 s.1 t)
  tracked_step w u (Event.Admit k role listed) w' t s = subst (IsTracked g) (sym s.3)
      (tracked_fewer g w (admitted g w k role listed s.0) (fewer_admitted g w k role listed s.0 (spare_target (w.state k) s.1.spare)) t)
  tracked_step w u (Event.Checkpoint k offset listed) w' t s = subst (IsTracked g) (sym s.1)
      (tracked_fewer g w (checkpointed w k offset listed) (fewer_checkpointed w k offset listed (recovering_target (w.state k) s.0.recovering)) t)
  tracked_step w u (Event.NoteBad k more) w' t s = subst (IsTracked g) (sym s.1) (tracked_fewer g w (noted_bad g w k more) (fewer_noted_bad g w k more) t)
  tracked_step w u (Event.StoreLog k listed) w' t s = subst (IsTracked g) (sym s.2) (tracked_fewer g w (log_stored w k listed) (fewer_log_stored w k listed s.1) t)

module _ (g : Geometry) (small : IsWithinLimits g) (opened : Super) (away : ℕ → Bool) where
  abbrev Records : ℕ → Bool → World → Type 0
  Records failed_at tried w = IsRecorded g opened failed_at tried away (book_of w)

  -- the same superblocks
  same_supers : (failed_at : ℕ) (tried : Bool) (w : World) (stored : ℕ → Stored) → ((j : ℕ) → (stored j).super ≡ (w.stored j).super)
      → Records failed_at tried w → Records failed_at tried (record w { stored = stored })
  same_supers failed_at tried w stored same = subst (IsRecorded g opened failed_at tried away) (λ i. record (book_of w) { super = λ k. sym (same k) i })

  -- Data was let through: each member in sync has recorded the absence of those that had a role.
  pub tried_now : (failed_at : ℕ) (tried : Bool) (w : World) (n : ℕ) (p : Request) (k : ℕ) → MayWrite g w n p k → IsAlone g away w
      → Records failed_at tried w → Records failed_at true w
  tried_now failed_at tried w n p k may alone r =
      record {
        number = r.number;
        below = r.below;
        later = r.later;
        has_super = r.has_super;
        there = r.there;
        entries = r.entries;
        present = r.present;
        slot = r.slot;
        gone = r.gone;
        distinct = r.distinct;
        by_memory = r.by_memory;
        by_opening = r.by_opening;
        by_super = r.by_super;
        as_new = r.as_new;
        stale = r.stale;
        recovering = r.recovering;
        clear = r.clear;
        bit = r.bit;
        in_memory = r.in_memory;
        roles = r.roles;
        unrisen = r.unrisen;
        out_memory = r.out_memory;
        out_super = r.out_super;
        current = r.current;
        some_in = r.some_in;
        out_tried = λ d _ off low j own a e.
            let is : own.events ≡ w.events = r.current j own (recorded_in_sync (w.state j) a) (may.recorded j a) e in
            let up : opened.events < w.events = by_test (nat_lt opened.events w.events) (is_below opened.events w.events)
            (λ at. absurd (alone n p d may.in_flight off (subst (λ x. x < g.raid_disks) (sym (r.unrisen (not_below opened.events w.events at) d)) low))) in
            omega arith;
      }

  may_fail_risen : (w v : World) (k : ℕ) → v.state ≡ w.state → MayFail w k → MayFail v k
  may_fail_risen w v k same may = record {
    in_use = ap (λ (f : ℕ → State). is_recorded (f k)) same ∙ may.in_use;
    other = may.other;
    apart = may.apart;
    in_sync = ap (λ (f : ℕ → State). is_in_sync (f may.other)) same ∙ may.in_sync;
  }

  -- a member fails, whose device has the superblock that it had, or none
  fails_recorded : (w : World) (k : ℕ) (left : Stored) (w' : World) (failed_at : ℕ) (tried : Bool)
      → ((own : Super) → left.super ≡ Some own → (w.stored k).super ≡ Some own)
      → Fails g w k left w' → Records failed_at tried w → Records w'.events tried w'
  fails_recorded w k left w' failed_at tried from f r = subst (λ v. Records v.events tried v) (sym f.3)
      (recorded_without g small.few opened failed_at tried away (risen g w f.0) k left from
      (λ j own e. let h = r.below j own e in let t : own.events < w.events + 1 = omega arith in t)
      (let h = r.later in let t : opened.events < w.events + 1 = omega arith in t)
      (may_fail_risen w (risen g w f.0) k refl f.1) (recorded_risen g small.few opened failed_at tried away w f.0 r))

  -- or the one that was being written: then it fails as after a record
  module _ (w : World) (k : ℕ) (left : Stored) (full : Bool) (tried : Bool) where
    abbrev after_record : World
    after_record = failed g (with_device (recorded w k left.listed) k left) k full

    not_due : (j : ℕ) → put k false (λ i. is_recorded (w.state i) || put k false w.due i) j ≡ put k false (λ i. is_recorded (w.state i) || w.due i) j
    not_due j = by_test (eqb j k)
        (λ at. ap (λ b. cond b false (is_recorded (w.state j) || cond b false (w.due j))) at ∙ sym (ap (λ b. cond b false (is_recorded (w.state j) || w.due j)) at))
        (λ off. ap (λ b. cond b false (is_recorded (w.state j) || cond b false (w.due j))) off ∙ sym (ap (λ b. cond b false (is_recorded (w.state j) || w.due j)) off))

    as_unrecorded : Records (w.events + 1) tried after_record → Records (w.events + 1) tried (failed g (with_device w k left) k full)
    as_unrecorded = subst (IsRecorded g opened (w.events + 1) tried away) (λ i. record (book_of (failed g (with_device w k left) k full)) {
      super = λ j. (put-twice k left (recorded_device w k left.listed) w.stored j i).super;
      due = λ j. not_due j i;
    })

    fails_at_end : (failed_at : ℕ) → left.super ≡ Some (super_for w k) → MayFail w k → Records failed_at tried (recorded w k left.listed) → Records (w.events + 1) tried after_record
    fails_at_end failed_at new may r = recorded_without g small.few opened failed_at tried away (risen g (recorded w k left.listed) full) k left
        (λ own e. ap (λ (d : Stored). d.super) (put-hit k (recorded_device w k left.listed) w.stored) ∙ sym new ∙ e)
        (λ j own e. let h = r.below j own e in let t : own.events < w.events + 1 = omega arith in t)
        (let h = r.later in let t : opened.events < w.events + 1 = omega arith in t)
        (may_fail_risen w (risen g (recorded w k left.listed) full) k refl may) (recorded_risen g small.few opened failed_at tried away (recorded w k left.listed) full r)

  record_fails : (w : World) (k : ℕ) (left : Stored) (w' : World) (failed_at : ℕ) (tried : Bool)
      → (left.super ≡ (w.stored k).super) ⊎ ((left.super ≡ Some (super_for w k)) ⊎ (left.super ≡ None)) → Fails g w k left w' → Records failed_at tried w → Records w'.events tried w'
  record_fails w k left w' failed_at tried l f r = ⊎_elim
      (λ (same : left.super ≡ (w.stored k).super). fails_recorded w k left w' failed_at tried (λ own e. sym same ∙ e) f r)
      (λ (x : (left.super ≡ Some (super_for w k)) ⊎ (left.super ≡ None)). ⊎_elim
      (λ (new : left.super ≡ Some (super_for w k)). subst (λ v. Records v.events tried v) (sym f.3)
      (as_unrecorded w k left f.0 tried (fails_at_end w k left f.0 tried failed_at new f.1
      (recorded_recorded g small.few opened failed_at tried away w k left.listed f.1.in_use r))))
      (λ (lost : left.super ≡ None). fails_recorded w k left w' failed_at tried (λ own e. absurd (none_some own (sym lost ∙ e))) f r)
      x)
      l

  -- more superblocks may be due
  more_due : (failed_at : ℕ) (tried : Bool) (w : World) (due : ℕ → Bool) → ((j : ℕ) → due j ≡ false → w.due j ≡ false) → Records failed_at tried w → Records failed_at tried (record w { due = due })
  more_due failed_at tried w due from = still_due g small.few opened failed_at tried away (book_of w) due from

  rise_recorded : (w : World) (n : ℕ) (p : Request) (rises full : Bool) (failed_at : ℕ) (tried : Bool) → Records failed_at tried w → Records failed_at tried (begun g w n p rises full)
  rise_recorded w n p true full failed_at tried r =
      more_due failed_at tried (risen g w full) (due_after (risen g w full) (first_sector g p)) (λ j. due_before (risen g w full) (first_sector g p) j)
      (recorded_risen g small.few opened failed_at tried away w full r)
  rise_recorded w n p false full failed_at tried r = more_due failed_at tried w (due_after w (first_sector g p)) (λ j. due_before w (first_sector g p) j) r

  -- with the devices that stay away
  pub record Before (h : History) : Type 0 where
    pub recorded : Records h.failed_at h.tried (seen h.spoiled h.now)
    pub alone : IsAlone g away h.now

  -- a superblock that is due again
  due_again : (failed_at : ℕ) (tried : Bool) (w : World) (k : ℕ) → Records failed_at tried w → Records failed_at tried (record w { due = put k true w.due })
  due_again failed_at tried w k = more_due failed_at tried w (put k true w.due)
      (λ j. put-at k true w.due j (λ x. x ≡ false → w.due j ≡ false) (λ _ off. absurd (true≢false off)) (λ _ off. off))

  module _ (h : History) (t : Before h) where
    abbrev w : World
    w = h.now

    -- the superblocks that are not spoiled
    abbrev seen_now : World
    seen_now = seen h.spoiled h.now

    abbrev Holds : World → Type 0
    Holds u = Records h.failed_at h.tried u

    -- as the device of member k has a superblock that was stored just now
    stored_anew : (u : World) (k : ℕ) (left : Stored) → Holds (record u { stored = put k left seen_now.stored }) → Holds (record u { stored = (seen (put k false h.spoiled) (with_device w k left)).stored })
    stored_anew u k left r = same_supers h.failed_at h.tried (record u { stored = put k left seen_now.stored }) (seen (put k false h.spoiled) (with_device w k left)).stored
        (anew h.spoiled w k left false) r

    -- or the one that it had
    stored_same : (u : World) (k : ℕ) (left : Stored) → left.super ≡ (w.stored k).super → Holds (record u { stored = seen_now.stored }) → Holds (record u { stored = (seen h.spoiled (with_device w k left)).stored })
    stored_same u k left same r = same_supers h.failed_at h.tried (record u { stored = seen_now.stored }) (seen h.spoiled (with_device w k left)).stored (kept_super h.spoiled w k left same) r

    removed_step : (k : ℕ) (w' : World) → ((d : ℕ) → away d ≡ true → w'.present d ≡ false) → Happens g w (Event.Remove k) w' → Holds (seen (λ j. h.spoiled (skip k j)) w')
    removed_step k w' gone s = subst (λ u. Holds (seen (λ j. h.spoiled (skip k j)) u)) (sym s.3)
        (subst Holds (seen_removed h.spoiled w g k (is_spare (w.state k)) s.0)
        (recorded_removed g small.few opened h.failed_at h.tried away seen_now k s.0 (seen_may_remove h.spoiled w k s.1)
        (λ d off. ap (λ (u : World). u.present d) (seen_removed h.spoiled w g k (is_spare (w.state k)) s.0) ∙ ap (λ (u : World). u.present d) (sym s.3) ∙ gone d off) t.recorded))

    -- the count is higher than any that is stored
    under_risen : (j : ℕ) (own : Super) → (seen_now.stored j).super ≡ Some own → own.events < w.events + 1
    under_risen j own e = let b = t.recorded.below j own e in omega arith

    later_risen : opened.events < w.events + 1
    later_risen = let l = t.recorded.later in omega arith

    added_step : (d : ℕ) (left : Stored) (w' : World) → ((d : ℕ) → away d ≡ true → w'.present d ≡ false) → Happens g w (Event.Add d left) w' → Holds (seen (put w.members false h.spoiled) w')
    added_step d left w' gone s = subst (λ u. Holds (seen (put w.members false h.spoiled) u)) (sym s.4)
        (stored_anew (added g w d left s.0) w.members left
        (recorded_joined g small.few opened h.failed_at h.tried away (risen g seen_now s.0) (new_member d left)
        (spare_joins g (risen g seen_now s.0) d left small.few (number_absent g seen_now d s.1.number) (record { super = s.2.super; listed = s.2.listed; bits = s.2.bits }))
        under_risen later_risen
        (λ e off. ap (λ (u : World). u.present e) (sym s.4) ∙ gone e off)
        (recorded_risen g small.few opened h.failed_at h.tried away seen_now s.0 t.recorded)))

    -- it is taken back, whatever is seen of the others
    taken_seen : (own : Super) (offset : ℕ) (device left : Stored) (full : Bool) → IsTakenBack g w (risen g w full) own offset device left → IsTakenBack g w (risen g seen_now full) own offset device left
    taken_seen own offset device left full t = record { was = t.was; passes = t.passes; sure_offset = t.sure_offset; within = t.within; unmarked = t.unmarked; rest = t.rest }

    taken_back_step : (own : Super) (offset : ℕ) (device left : Stored) (w' : World) → ((d : ℕ) → away d ≡ true → w'.present d ≡ false)
        → Happens g w (Event.ReAdd own offset device left) w' → Holds (seen (put w.members false h.spoiled) w')
    taken_back_step own offset device left w' gone s = subst (λ u. Holds (seen (put w.members false h.spoiled) u)) (sym s.4)
        (stored_anew (re_added g w own offset left s.0) w.members left
        (recorded_joined g small.few opened h.failed_at h.tried away (risen g seen_now s.0) (former_member own offset left)
        (former_joins g w (risen g seen_now s.0) own offset device left s.1.absent s.1.small (taken_seen own offset device left s.0 s.2))
        under_risen later_risen
        (λ e off. ap (λ (u : World). u.present e) (sym s.4) ∙ gone e off)
        (recorded_risen g small.few opened h.failed_at h.tried away seen_now s.0 t.recorded)))

    -- the device of a member that is rebuilt changes, and its superblock does not
    target_same : (k : ℕ) (left : Stored) → left.super ≡ (w.stored k).super → (w' : World) → w' ≡ with_device w k left → Holds (seen h.spoiled w')
    target_same k left same w' is = subst (λ u. Holds (seen h.spoiled u)) (sym is) (stored_same w k left same t.recorded)

    target_left : (k : ℕ) (left : Stored) (w' : World) → FailsOnTarget w k left w' → Holds (seen h.spoiled w')
    target_left k left w' s = subst (λ u. Holds (seen h.spoiled u)) (sym s.2)
        (same_supers h.failed_at h.tried (with_device seen_now k (hidden (h.spoiled k) left)) (seen h.spoiled (with_device w k left)).stored (as_before h.spoiled w k left)
        (recorded_left g small.few opened h.failed_at h.tried away seen_now k (hidden (h.spoiled k) left) s.0 (seen_left h.spoiled w k left s.1) t.recorded))

    -- it has any superblock, which is not looked at
    target_spoiled : (k : ℕ) (left : Stored) (w' : World) → Spoils w k left w' → Holds (seen (put k true h.spoiled) w')
    target_spoiled k left w' s = subst (λ u. Holds (seen (put k true h.spoiled) u)) (sym s.2)
        (same_supers h.failed_at h.tried (with_device seen_now k (hidden true left)) (seen (put k true h.spoiled) (with_device w k left)).stored (anew h.spoiled w k left true)
        (recorded_target g small.few opened h.failed_at h.tried away seen_now k (hidden true left) s.0 (λ own e. absurd (none_some own e)) t.recorded))

    enrolled_step : (k role : ℕ) (listed : ℕ → Bool) (w' : World) → Happens g w (Event.Enrol k role listed) w' → Holds (seen (put k false h.spoiled) w')
    enrolled_step k role listed w' s = subst (λ u. Holds (seen (put k false h.spoiled) u)) (sym s.3)
        (stored_anew (enrolled g w k role listed s.0) k (enrolled_device (risen g w s.0) k role listed)
        (recorded_taking g opened h.failed_at h.tried away (risen g seen_now s.0) k (as_in_sync (risen g w s.0) role listed) s.1.rebuild.target s.1.below s.1.small
        refl (λ e. let x = ap is_in_sync e in true≢false x) (λ e. absurd (true≢false (sym e))) (λ _. refl)
        under_risen later_risen
        (recorded_risen g small.few opened h.failed_at h.tried away seen_now s.0 t.recorded)))

    admitted_step : (k role : ℕ) (listed : ℕ → Bool) (w' : World) → Happens g w (Event.Admit k role listed) w' → Holds (seen (put k false h.spoiled) w')
    admitted_step k role listed w' s = subst (λ u. Holds (seen (put k false h.spoiled) u)) (sym s.3)
        (stored_anew (admitted g w k role listed s.0) k (taking_device (risen g w s.0) k (as_recovering w k role listed))
        (recorded_taking g opened h.failed_at h.tried away (risen g seen_now s.0) k (as_recovering w k role listed) (spare_target (w.state k) s.1.spare) s.1.below s.1.small
        refl (λ e. let x = ap is_recovering e in true≢false x) (λ _. refl) (λ e. absurd (true≢false (sym e)))
        under_risen later_risen
        (recorded_risen g small.few opened h.failed_at h.tried away seen_now s.0 t.recorded)))

    -- a member fails, whose device has the superblock that it had, the one that was being written, or none
    fails_super : (tried : Bool) (k : ℕ) (left : Stored) (w' : World) → (left.super ≡ (w.stored k).super) ⊎ ((left.super ≡ Some (super_for w k)) ⊎ (left.super ≡ None))
        → Fails g w k left w' → Records h.failed_at tried seen_now → Records w'.events tried (seen h.spoiled w')
    fails_super tried k left w' l f = record_fails seen_now k (hidden (h.spoiled k) left) (seen h.spoiled w') h.failed_at tried
        (hidden_left (h.spoiled k) left.super (w.stored k).super (Some (super_for w k)) l) (seen_fails h.spoiled w g k left w' f)

    tried_seen : (n : ℕ) (p : Request) (k : ℕ) → MayWrite g w n p k → Records h.failed_at true seen_now
    tried_seen n p k may = tried_now h.failed_at h.tried seen_now n p k (seen_may_write h.spoiled w g n p k may) t.alone t.recorded

    abbrev After : Event → World → Type 0
    After e w' = Records (failed_after e w' h.failed_at) (tried_after e h.tried) (seen (spoiled_after e w h.spoiled) w')

    -- nothing changes of it
    as_seen : (w' u : World) → w' ≡ u → Holds (seen h.spoiled u) → Holds (seen h.spoiled w')
    as_seen w' u is r = subst (λ x. Holds (seen h.spoiled x)) (sym is) r

    recorded_step : (e : Event) (w' : World) → ((d : ℕ) → away d ≡ true → w'.present d ≡ false) → Happens g w e w' → After e w'
    recorded_step (Event.Begin n p) w' gone s = as_seen w' (begun g w n p s.0 s.1) s.5
        (subst Holds (seen_begun h.spoiled w g n p s.0 s.1) (rise_recorded seen_now n p s.0 s.1 h.failed_at h.tried t.recorded))
    recorded_step (Event.Record k) w' gone s = subst (λ u. Holds (seen (put k false h.spoiled) u)) (sym s.3)
        (stored_anew (recorded w k s.0) k (recorded_device w k s.0) (recorded_recorded g small.few opened h.failed_at h.tried away seen_now k s.0 s.2 t.recorded))
    recorded_step (Event.StoreMarks k b) w' gone s = as_seen w' (marks_stored w k b) s.1 (stored_same (marks_stored w k b) k (marked_device w k b) refl t.recorded)
    recorded_step (Event.WriteMember n k) w' gone s = subst (λ u. Records h.failed_at true (seen h.spoiled u)) (sym s.2)
        (same_supers h.failed_at true seen_now (seen h.spoiled (member_written w n s.0 k)).stored (kept_super h.spoiled w k (written_device w k s.0) refl) (tried_seen n s.0 k s.1))
    recorded_step (Event.Finish n) w' gone s = as_seen w' (finished w n) s.2 t.recorded
    recorded_step (Event.ClearIdle c) w' gone s = as_seen w' (unmarked w c) s.1 t.recorded
    recorded_step (Event.Fail k) w' gone s = fails_super h.tried k (w.stored k) w' (inl refl) s.1 t.recorded
    recorded_step (Event.WriteFails k (MemberPart.RequestData n)) w' gone s =
        fails_super true k s.0 w' (super_left g w k (MemberPart.RequestData n) s.0 s.1) s.2 (tried_seen n s.1.0 k s.1.1)
    recorded_step (Event.WriteFails k part) w' gone s = fails_super h.tried k s.0 w' (super_left g w k part s.0 s.1) s.2 t.recorded
    recorded_step (Event.Copy from k x) w' gone s = as_seen w' (copied w from k x) s.1 (stored_same (copied w from k x) k (copied_device w from k x) refl t.recorded)
    recorded_step Event.Resynced w' gone s = as_seen w' (made_resynced w true) s.1 t.recorded
    recorded_step Event.Unresynced w' gone s = as_seen w' (made_resynced w false) s.1 t.recorded
    recorded_step Event.MakeClean w' gone s = as_seen w' (made_clean g w s.0) s.3 (recorded_risen g small.few opened h.failed_at h.tried away seen_now s.0 t.recorded)
    recorded_step (Event.Remove k) w' gone s = removed_step k w' gone s
    recorded_step (Event.Add d left) w' gone s = added_step d left w' gone s
    recorded_step (Event.ReAdd own offset device left) w' gone s = taken_back_step own offset device left w' gone s
    recorded_step (Event.LowerOffset k x) w' gone s = as_seen w' (lowered_on w k x) s.1
        (more_due h.failed_at h.tried seen_now (put k (due_after w x k) w.due)
        (λ j. put-at k (due_after w x k) w.due j (λ b. b ≡ false → w.due j ≡ false) (λ here off. due_before w x j (subst (λ i. due_after w x i ≡ false) (sym here) off)) (λ _ off. off)) t.recorded)
    recorded_step (Event.Fill k) w' gone s = target_same k s.0 (ap (λ (d : Stored). d.super) s.2.rest) w' s.3
    recorded_step (Event.Prepare k) w' gone s = target_same k s.0 (ap (λ (d : Stored). d.super) s.2.rest) w' s.3
    recorded_step (Event.RecordTargetFails k) w' gone s = target_left k s.0 w' s.1
    recorded_step (Event.SpoilTarget k) w' gone s = target_spoiled k s.0 w' s.1
    recorded_step (Event.Enrol k role listed) w' gone s = enrolled_step k role listed w' s
    recorded_step (Event.Admit k role listed) w' gone s = admitted_step k role listed w' s
    recorded_step (Event.Checkpoint k offset listed) w' gone s = subst (λ u. Holds (seen (put k false h.spoiled) u)) (sym s.1)
        (stored_anew (checkpointed w k offset listed) k (recorded_device (with_offset w k offset) k listed)
        (recorded_recorded g small.few opened h.failed_at h.tried away (with_offset seen_now k offset) k listed
        (target_recorded (w.state k) (recovering_target (w.state k) s.0.recovering)) t.recorded))
    recorded_step (Event.NoteBad k more) w' gone s = as_seen w' (noted_bad g w k more) s.1 t.recorded
    recorded_step (Event.StoreLog k listed) w' gone s = as_seen w' (log_stored w k listed) s.2
        (due_again h.failed_at h.tried (seen h.spoiled (with_device w k (record (w.stored k) { listed = listed }))) k
        (stored_same w k (record (w.stored k) { listed = listed }) refl t.recorded))

  -- a failure takes no role to an absent device
  fails_alone : (w : World) (k : ℕ) (left : Stored) (w' : World) → ((d : ℕ) → away d ≡ true → w.present d ≡ false) → Fails g w k left w' → IsAlone g away w'
  fails_alone w k left w' gone f = subst (IsAlone g away) (sym f.3)
      (λ n p d _ off. by_test (eqb d (w.number k) && nat_lt d w.entries)
      (λ at low. let t : 65534 < g.raid_disks = subst (λ x. x < g.raid_disks) (ap (λ b. cond b 65534 (role_at_rise g w d)) at) low in let few = small.few in omega arith)
      (λ no_entry low. absent_none g w d small.few (gone d off) (subst (λ x. x < g.raid_disks) (ap (λ b. cond b 65534 (role_at_rise g w d)) no_entry) low)))

  begun_alone : (w : World) (n : ℕ) (p : Request) (rises full : Bool) → ((d : ℕ) → away d ≡ true → w.present d ≡ false) → ((rises ≡ true) ↔ HasToRise g w) → IsAlone g away (begun g w n p rises full)
  begun_alone w n p true full gone needed m q d e off low = absent_none g w d small.few (gone d off) low
  begun_alone w n p false full gone needed m q d e off low = true≢false (sym (needed.1 (inr (d, low, gone d off))))

  alone_step : (w : World) → ((j : ℕ) → is_recorded (w.state j) ≡ true → w.present (w.number j) ≡ true) → (e : Event) (w' : World) → ((d : ℕ) → away d ≡ true → w.present d ≡ false) → ((d : ℕ) → away d ≡ true → w'.present d ≡ false) → IsAlone g away w → Happens g w e w' → IsAlone g away w'
  alone_step w here (Event.Begin n p) w' gone then t s = subst (IsAlone g away) (sym s.5) (begun_alone w n p s.0 s.1 gone s.3)
  alone_step w here (Event.Record k) w' gone then t s = subst (IsAlone g away) (sym s.3) t
  alone_step w here (Event.StoreMarks k b) w' gone then t s = subst (IsAlone g away) (sym s.1) t
  alone_step w here (Event.WriteMember n k) w' gone then t s = subst (IsAlone g away) (sym s.2) (λ _ _ d _. t n s.0 d s.1.in_flight)
  alone_step w here (Event.Finish n) w' gone then t s = subst (IsAlone g away) (sym s.2) (λ m q d e. t m q d (other_flights w n m q e).1)
  alone_step w here (Event.ClearIdle c) w' gone then t s = subst (IsAlone g away) (sym s.1) t
  alone_step w here (Event.Fail k) w' gone then t s = fails_alone w k (w.stored k) w' gone s.1
  alone_step w here (Event.WriteFails k part) w' gone then t s = fails_alone w k s.0 w' gone s.2
  alone_step w here (Event.Copy from k x) w' gone then t s = subst (IsAlone g away) (sym s.1) t
  alone_step w here Event.Resynced w' gone then t s = subst (IsAlone g away) (sym s.1) t
  alone_step w here Event.Unresynced w' gone then t s = subst (IsAlone g away) (sym s.1) t
  alone_step w here Event.MakeClean w' gone then t s = subst (IsAlone g away) (sym s.3) (λ m q d e. absurd (none_some q (sym (s.1.idle m) ∙ e)))
  alone_step w here (Event.Remove k) w' gone then t s = subst (IsAlone g away) (sym s.3) (removed_alone (is_spare (w.state k)))
    where
      removed_alone : (spare : Bool) → IsAlone g away (removed g w k spare s.0)
      removed_alone true n p d e off low = by_test (eqb d (w.number k) && nat_lt d w.entries)
          (λ at. let t : 65534 < g.raid_disks = subst (λ x. x < g.raid_disks) (ap (λ b. cond b 65534 (role_at_rise g w d)) at) low in let few = small.few in omega arith)
          (λ no_entry. absent_none g w d small.few (gone d off) (subst (λ x. x < g.raid_disks) (ap (λ b. cond b 65534 (role_at_rise g w d)) no_entry) low))
      removed_alone false n p d e off low = t n p d e off low
  alone_step w here (Event.Add d left) w' gone then t s = subst (IsAlone g away) (sym s.4) (λ n p e _ off low. put-at d 65535 (role_at_rise g w) e (λ x. x < g.raid_disks → ⊥)
      (λ _ l. let few = small.few in omega arith) (λ _ l. absent_none g w e small.few (gone e off) l) low)
  alone_step w here (Event.ReAdd own offset device left) w' gone then t s = subst (IsAlone g away) (sym s.4) (λ n p e _ off low. put-at own.number (own.role own.number) (role_at_rise g w) e (λ x. x < g.raid_disks → ⊥)
      (λ same l. true≢false (sym (ap (λ (v : World). v.present e) s.4 ∙ or_right (w.present e) (eqb e own.number) (eq-eqb e own.number same)) ∙ then e off)) (λ _ l. absent_none g w e small.few (gone e off) l) low)
  alone_step w here (Event.LowerOffset k x) w' gone then t s = subst (IsAlone g away) (sym s.1) t
  alone_step w here (Event.Fill k) w' gone then t s = subst (IsAlone g away) (sym s.3) t
  alone_step w here (Event.Prepare k) w' gone then t s = subst (IsAlone g away) (sym s.3) t
  alone_step w here (Event.RecordTargetFails k) w' gone then t s = subst (IsAlone g away) (sym s.1.2) t
  alone_step w here (Event.SpoilTarget k) w' gone then t s = subst (IsAlone g away) (sym s.1.2) t
  alone_step w here (Event.Enrol k role listed) w' gone then t s = subst (IsAlone g away) (sym s.3) (λ m q d e. absurd (none_some q (sym (s.1.rebuild.idle m) ∙ e)))
  alone_step w here (Event.Admit k role listed) w' gone then t s = subst (IsAlone g away) (sym s.3) (λ m q d _ off low. put-at (w.number k) role (role_at_rise g w) d (λ x. x < g.raid_disks → ⊥)
      (λ same _. true≢false (sym (here k (target_recorded (w.state k) (spare_target (w.state k) s.1.spare))) ∙ sym (ap w.present same) ∙ gone d off)) (λ _ l. absent_none g w d small.few (gone d off) l) low)
  alone_step w here (Event.Checkpoint k offset listed) w' gone then t s = subst (IsAlone g away) (sym s.1) t
  alone_step w here (Event.NoteBad k more) w' gone then t s = subst (IsAlone g away) (sym s.1) t
  alone_step w here (Event.StoreLog k listed) w' gone then t s = subst (IsAlone g away) (sym s.2) t

-- what stays away was away
still_away : (e : Event) (before : ℕ → Bool) (d : ℕ) → away_after e before d ≡ true → before d ≡ true
still_away (Event.Add number left) before d x = (and_parts (before d) (not (eqb d number)) x).0
still_away (Event.ReAdd own offset device left) before d x = (and_parts (before d) (not (eqb d own.number)) x).0
still_away e before d x = x

-- and no member has its number
neither : (a b : Bool) → a ≡ false → b ≡ false → (a || b) ≡ false
neither true b e f = absurd (true≢false e)
neither false b e f = f

never_both : (a b : Bool) → a ≡ false → (a && b) ≡ false
never_both true b e = absurd (true≢false e)
never_both false b e = refl

begun_present : (g : Geometry) (w : World) (n : ℕ) (p : Request) (rises full : Bool) → (begun g w n p rises full).present ≡ w.present
begun_present g w n p true full = refl
begun_present g w n p false full = refl

removed_present : (g : Geometry) (w : World) (k : ℕ) (spare full : Bool) (d : ℕ) → (removed g w k spare full).present d ≡ w.present d && not (eqb d (w.number k))
removed_present g w k true full d = refl
removed_present g w k false full d = refl

gone_step : (g : Geometry) (w : World) (e : Event) (w' : World) (before : ℕ → Bool) → ((d : ℕ) → before d ≡ true → w.present d ≡ false) → Happens g w e w'
    → (d : ℕ) → away_after e before d ≡ true → w'.present d ≡ false
gone_step g w (Event.Begin n p) w' before gone s d x = ap (λ (v : World). v.present d) s.5 ∙ ap (λ (f : ℕ → Bool). f d) (begun_present g w n p s.0 s.1) ∙ gone d x
gone_step g w (Event.Record k) w' before gone s d x = ap (λ (v : World). v.present d) s.3 ∙ gone d x
gone_step g w (Event.StoreMarks k b) w' before gone s d x = ap (λ (v : World). v.present d) s.1 ∙ gone d x
gone_step g w (Event.WriteMember n k) w' before gone s d x = ap (λ (v : World). v.present d) s.2 ∙ gone d x
gone_step g w (Event.Finish n) w' before gone s d x = ap (λ (v : World). v.present d) s.2 ∙ gone d x
gone_step g w (Event.ClearIdle c) w' before gone s d x = ap (λ (v : World). v.present d) s.1 ∙ gone d x
gone_step g w (Event.Fail k) w' before gone s d x = ap (λ (v : World). v.present d) s.1.3 ∙ gone d x
gone_step g w (Event.WriteFails k part) w' before gone s d x = ap (λ (v : World). v.present d) s.2.3 ∙ gone d x
gone_step g w (Event.Copy from k y) w' before gone s d x = ap (λ (v : World). v.present d) s.1 ∙ gone d x
gone_step g w Event.Resynced w' before gone s d x = ap (λ (v : World). v.present d) s.1 ∙ gone d x
gone_step g w Event.Unresynced w' before gone s d x = ap (λ (v : World). v.present d) s.1 ∙ gone d x
gone_step g w Event.MakeClean w' before gone s d x = ap (λ (v : World). v.present d) s.3 ∙ gone d x
gone_step g w (Event.Remove k) w' before gone s d x = ap (λ (v : World). v.present d) s.3 ∙ removed_present g w k (is_spare (w.state k)) s.0 d ∙ never_both (w.present d) (not (eqb d (w.number k))) (gone d x)
gone_step g w (Event.Add number left) w' before gone s d x =
    let parts = and_parts (before d) (not (eqb d number)) x in
    ap (λ (v : World). v.present d) s.4 ∙ neither (w.present d) (eqb d number) (gone d parts.0) (not-true (eqb d number) parts.1)
gone_step g w (Event.ReAdd own offset device left) w' before gone s d x =
    let parts = and_parts (before d) (not (eqb d own.number)) x in
    ap (λ (v : World). v.present d) s.4 ∙ neither (w.present d) (eqb d own.number) (gone d parts.0) (not-true (eqb d own.number) parts.1)
gone_step g w (Event.LowerOffset k y) w' before gone s d x = ap (λ (v : World). v.present d) s.1 ∙ gone d x
gone_step g w (Event.Fill k) w' before gone s d x = ap (λ (v : World). v.present d) s.3 ∙ gone d x
gone_step g w (Event.Prepare k) w' before gone s d x = ap (λ (v : World). v.present d) s.3 ∙ gone d x
gone_step g w (Event.RecordTargetFails k) w' before gone s d x = ap (λ (v : World). v.present d) s.1.2 ∙ gone d x
gone_step g w (Event.SpoilTarget k) w' before gone s d x = ap (λ (v : World). v.present d) s.1.2 ∙ gone d x
gone_step g w (Event.Enrol k role listed) w' before gone s d x = ap (λ (v : World). v.present d) s.3 ∙ gone d x
gone_step g w (Event.Admit k role listed) w' before gone s d x = ap (λ (v : World). v.present d) s.3 ∙ gone d x
gone_step g w (Event.Checkpoint k offset listed) w' before gone s d x = ap (λ (v : World). v.present d) s.1 ∙ gone d x
gone_step g w (Event.NoteBad k more) w' before gone s d x = ap (λ (v : World). v.present d) s.1 ∙ gone d x
gone_step g w (Event.StoreLog k listed) w' before gone s d x = ap (λ (v : World). v.present d) s.2 ∙ gone d x

-- fewer devices stay away
narrower : (g : Geometry) (opened : Super) (failed_at : ℕ) (tried : Bool) (away less : ℕ → Bool) (b : Book) → ((d : ℕ) → less d ≡ true → away d ≡ true)
    → IsRecorded g opened failed_at tried away b → IsRecorded g opened failed_at tried less b
narrower g opened failed_at tried away less b from r = record {
  number = r.number;
  below = r.below;
  later = r.later;
  has_super = r.has_super;
  there = r.there;
  entries = r.entries;
  present = r.present;
  slot = r.slot;
  gone = λ d off. r.gone d (from d off);
  distinct = r.distinct;
  by_memory = r.by_memory;
  by_opening = r.by_opening;
  by_super = r.by_super;
  as_new = r.as_new;
  stale = r.stale;
  recovering = r.recovering;
  clear = r.clear;
  bit = r.bit;
  in_memory = r.in_memory;
  roles = r.roles;
  unrisen = r.unrisen;
  out_memory = λ d off. r.out_memory d (from d off);
  out_super = λ j own d e off. r.out_super j own d e (from d off);
  out_tried = λ d at off. r.out_tried d at (from d off);
  current = r.current;
  some_in = r.some_in;
}

module _ (g : Geometry) (small : IsWithinLimits g) (opened : Super) where
  pub kept_step : (h : History) (e : Event) (w' : World) → IsKept g opened h → Step g h.now e w' → IsKept g opened (then_in h e w')
  kept_step h e w' t s =
      let away = (then_in h e w').away in
      let from : (d : ℕ) → away d ≡ true → h.away d ≡ true = λ d. still_away e h.away d in
      let gone : (d : ℕ) → away d ≡ true → w'.present d ≡ false = gone_step g h.now e w' h.away t.recorded.gone s.1 in
      let r = narrower g opened h.failed_at h.tried h.away away (book_of (seen h.spoiled h.now)) from t.recorded in
      let alone : IsAlone g away h.now = λ n p d e off. t.alone n p d e (from d off) in
      record {
        tracked = tracked_step g small h.now t.unstored e w' t.tracked s.1;
        unstored = unstored_step g h.now e w' t.tracked t.unstored s.1;
        recorded = recorded_step g small opened away h (record { recorded = r; alone = alone }) e w' gone s.1;
        alone = alone_step g small opened away h.now (λ j on. r.present j (r.there j on)) e w' r.gone gone alone s.1;
      }

  pub kept_run : (es : List Event) (h last : History) → IsKept g opened h → Run g h es last → IsKept g opened last
  kept_run [] h last t r = subst (IsKept g opened) (sym r) t
  kept_run (e ∷ es) h last t r = kept_run es (then_in h e r.0) last (kept_step h e r.0 t r.1) r.2
