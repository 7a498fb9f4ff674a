-- Every event keeps what is said of sure offsets.
use Rattle.std.proofs.Common.{◌≡◌, ◌≢◌, ℕ, ◌<◌, ◌≤◌, ◌/◌, Bool, true, false, ◌&&◌, ◌||◌, ◌⊎◌, inl, inr, ⊎_elim, refl, sym, ap, ◌∙◌, subst, true≢false, arith, eqb}
use Rattle.std.specs.Prelude.{Some, None, nat_lt}
use Rattle.std.proofs.Math.Nat.{div-mul-le_self, mul-div_cancel}
use Rattle.std.proofs.lemmas.Bool.{or_parts}
use Rattle.md_model.specs.Sectors.{Geometry, chunk_of, put}
use Rattle.md_model.specs.States.{is_in_sync, is_recovering}
use Rattle.md_model.specs.States.State.{Faulty}
use Rattle.md_model.specs.Devices.{Super, Stored, offset_of}
use Rattle.md_model.specs.Worlds.{Request, World, IsInFlight, IsInSync, IsQuiet}
use Rattle.md_model.specs.Counts.{risen}
use Rattle.md_model.specs.Steps.{begun, finished, first_sector, lowered_on, marked_device, marks_stored, member_written, recorded, recorded_device, says_of, super_for, sure_after, unmarked, with_device, written_device, KeepsList, MayBegin, MayFinish, MayWrite}
use Rattle.md_model.specs.Failures.{failed}
use Rattle.md_model.specs.Resyncing.{copied, copied_device, made_clean, made_resynced, MayCopy}
use Rattle.md_model.specs.Membership.{former_member, is_spare, joined, joined_super, new_member, re_added, removed, skip, IsTakenBack, Newcomer}
use Rattle.md_model.specs.Rebuilding.{admitted, as_in_sync, as_recovering, checkpointed, enrolled, is_missing, is_target, taking_device, with_offset, with_role_taken, MayCheckpoint, MayEnrol, Taking}
use Rattle.md_model.specs.Listing.{log_stored, noted_bad}
use Rattle.md_model.specs.Events.{Event, Fails, Happens}
use Rattle.md_model.specs.Runs.{spoiled_after}
use Rattle.md_model.specs.Content.{Content, with_request, Becomes, HoldsAtRest, IsKeptByEnrolling}
use Rattle.md_model.specs.Behind.{IsBehind}
use Rattle.md_model.specs.Recovering.{JoinsBehind, RecoveringHolds}
use Rattle.md_model.specs.SureOffsets.{IsHeldAt}
use Rattle.md_model.proofs.Cases.{by_test, never, none_some, some-injective}
use Rattle.md_model.proofs.Puts.{by_same, put-at, put-hit, put-miss, put-same}
use Rattle.md_model.proofs.Steps.Tracked.{IsFewer, IsTracked}
use Rattle.md_model.proofs.Steps.TrackedSteps.{content_marked, content_written, fewer_failed, fewer_recorded, flights, listed_marked, listed_written, other_flights}
use Rattle.md_model.proofs.Steps.Membership.{same_device, was_member}
use Rattle.md_model.proofs.Steps.Rebuilding.{by_device, fewer_admitted, fewer_checkpointed, fewer_target, recovering_out, recovering_target, spare_target}
use Rattle.md_model.proofs.Steps.Says.{below_said, said_below}
use Rattle.md_model.proofs.Steps.Between.{at_copy, ended_away}
use Rattle.md_model.proofs.Content.Contents.{quiet_unmarked}
use Rattle.md_model.proofs.Content.RecoveringSteps.{differs_in_missing}
use Rattle.md_model.proofs.Content.SureSteps.{held_old, known_same, lowered_less, not_touched, others_old, request_still, said_before, sure_becomes, sure_by, sure_same, touches_start, AreInSync, IsKnown, IsSaid, IsSure, IsSureRequest, WasRecovering}

-- a superblock that was stored just now, and those that were before
pub known_recorded : (spoiled : ℕ → Bool) (w : World) (k : ℕ) (listed : ℕ → Bool) → ((j : ℕ) → j ≢ k → is_recovering (w.state j) ≡ true → IsKnown spoiled w j)
    → (j : ℕ) → is_recovering (w.state j) ≡ true → IsKnown (put k false spoiled) (recorded w k listed) j
known_recorded spoiled w k listed others j on = by_same j k
    (λ here. subst (λ i. IsKnown (put k false spoiled) (recorded w k listed) i) (sym here) new)
    (λ apart. old apart (others j apart on))
  where
    at_k : put k (w.sure_offset k) w.stored_offset k ≡ w.sure_offset k
    at_k = put-hit k (w.sure_offset k) w.stored_offset

    new : IsKnown (put k false spoiled) (recorded w k listed) k
    new = record {
      bounded = subst (λ x. w.sure_offset k ≤ x) (sym at_k) (omega arith);
      stored = λ own _ e.
          let is = some-injective (super_for w k) own (sym (ap (λ (d : Stored). d.super) (put-hit k (recorded_device w k listed) w.stored)) ∙ e) in
          let same : w.sure_offset k ≡ own.offset = ap (λ (x : Super). x.offset) is in
          subst (λ x. own.offset ≤ x) (sym at_k) (omega arith);
    }

    old : j ≢ k → IsKnown spoiled w j → IsKnown (put k false spoiled) (recorded w k listed) j
    old apart was =
        let same = put-miss k (w.sure_offset k) w.stored_offset j apart in
        record {
          bounded = subst (λ x. w.sure_offset j ≤ x) (sym same) was.bounded;
          stored = λ own off e. subst (λ x. own.offset ≤ x) (sym same)
              (was.stored own (sym (put-miss k false spoiled j apart) ∙ off) (sym (ap (λ (d : Stored). d.super) (put-miss k (recorded_device w k listed) w.stored j apart)) ∙ e));
        }

module _ (g : Geometry) (wide : 0 < g.width) (spoiled : ℕ → Bool) (a : Content) (w : World) (t : IsSure g spoiled a w)
    (tracked : IsTracked g w) (holds : HoldsAtRest g a w) (late : RecoveringHolds g a w) (some_in : (k : ℕ) × IsInSync w k) where
  abbrev Sure : (ℕ → Bool) → World → Type 0
  Sure spoiled' w' = IsSure g spoiled' a w'

  in_sync_fewer : (w' : World) → IsFewer w w' → AreInSync g spoiled a w t w'
  in_sync_fewer w' f k on = record { at = k; on = f.in_sync k on; listed = λ s. f.listed k s on; content = λ s _. f.content k s on }

  same_requests : (n : ℕ) (p : Request) → IsInFlight w n p → IsSureRequest g w p
  same_requests = t.requests

  begun_requests : (n : ℕ) (p : Request) → MayBegin g w n p → (m : ℕ) (q : Request) → put n (Some p) w.request m ≡ Some q → IsSureRequest g w q
  begun_requests n p may m q e = ⊎_elim
      (λ (x : (m ≡ n) × (p ≡ q)). subst (IsSureRequest g w) x.1 (record { some = may.some; inside = may.inside; unsaid = λ d done. never (p.written d) done (may.unwritten d) }))
      (λ (x : (m ≢ n) × IsInFlight w m q). t.requests m q x.1)
      (flights w n p m q e)

  sure_begun : (n : ℕ) (p : Request) (rises full : Bool) → MayBegin g w n p → Sure spoiled (begun g w n p rises full)
  sure_begun n p true full may = sure_same g spoiled a w t (begun g w n p true full) refl refl (lowered_less (risen g w full) (first_sector g p)) (λ _ _ e. e) (λ _ _ _ off. off) (λ _ _ _. refl) (λ _ _ _ off. off)
      (begun_requests n p may)
  sure_begun n p false full may = sure_same g spoiled a w t (begun g w n p false full) refl refl (lowered_less w (first_sector g p)) (λ _ _ e. e) (λ _ _ _ off. off) (λ _ _ _. refl) (λ _ _ _ off. off)
      (begun_requests n p may)

  -- no data that is said changes, nor a superblock
  sure_still : (w' : World) → w'.state ≡ w.state → w'.stored_offset ≡ w.stored_offset → w'.sure_offset ≡ w.sure_offset → w'.bad ≡ w.bad
      → ((k : ℕ) → (w'.stored k).super ≡ (w.stored k).super)
      → ((k s : ℕ) → IsSaid g spoiled a w t s → (w'.stored k).content s ≡ (w.stored k).content s) → ((k s : ℕ) → IsInSync w k → (w'.stored k).listed s ≡ false → (w.stored k).listed s ≡ false)
      → ((n : ℕ) (p : Request) → IsInFlight w' n p → IsSureRequest g w p) → Sure spoiled w'
  sure_still w' state offset sure bad super content listed requests = sure_same g spoiled a w t w' state offset
      (λ k. let e = ap (λ (f : ℕ → ℕ). f k) sure in omega arith) (λ k own e. sym (super k) ∙ e) (λ k s _ off. sym (ap (λ (f : ℕ → ℕ → Bool). f k s) bad) ∙ off)
      content listed requests

  sure_recorded : (k : ℕ) (listed : ℕ → Bool) → KeepsList w k listed → Sure (put k false spoiled) (recorded w k listed)
  sure_recorded k listed keeps = sure_by g spoiled a w t (put k false spoiled) (recorded w k listed)
      (λ j on. inl (record {
        at = j;
        on = on;
        offset = put-at k (w.sure_offset k) w.stored_offset j (λ x. x ≤ w.stored_offset j)
            (λ here. subst (λ i. w.sure_offset k ≤ w.stored_offset i) (sym here) (t.known k (subst (λ i. is_recovering (w.state i) ≡ true) here on)).bounded)
            (λ _. omega arith);
        bad = λ _ off. off;
        content = λ s _. put-same (λ (d : Stored). d.content s) k (recorded_device w k listed) w.stored j refl;
      }))
      (in_sync_fewer (recorded w k listed) (fewer_recorded w k listed keeps))
      (known_recorded spoiled w k listed (λ j _ on. t.known j on))
      same_requests

  sure_failed : (k : ℕ) (left : Stored) (w' : World) → Fails g w k left w' → Sure spoiled w'
  sure_failed k left w' f = subst (Sure spoiled) (sym f.3) (sure_by g spoiled a w t spoiled v
      (λ j on. let x = other j on in inl (record {
        at = j;
        on = x.1;
        offset = omega arith;
        bad = λ _ off. off;
        content = λ s _. ap (λ (d : Stored). d.content s) (put-miss k left w.stored j x.0);
      }))
      (in_sync_fewer v (fewer_failed g w k left f.0))
      (λ j on. let x = other j on in known_same g spoiled a w t spoiled v j j x.1 refl (omega arith) (λ own off e. (off, sym (ap (λ (d : Stored). d.super) (put-miss k left w.stored j x.0)) ∙ e)))
      same_requests)
    where
      v : World
      v = failed g (with_device w k left) k f.0

      other : (j : ℕ) → is_recovering (put k Faulty w.state j) ≡ true → (j ≢ k) × (is_recovering (w.state j) ≡ true)
      other j = put-at k Faulty w.state j (λ s. is_recovering s ≡ true → (j ≢ k) × (is_recovering (w.state j) ≡ true)) (λ _ on. absurd (true≢false (sym on))) (λ apart on. (apart, on))

  -- a write touches nothing that is said
  sure_written : (n : ℕ) (p : Request) (k : ℕ) → MayWrite g w n p k → Sure spoiled (member_written w n p k)
  sure_written n p k may = sure_still (member_written w n p k) refl refl refl refl
      (λ j. put-same (λ (d : Stored). d.super) k (written_device w k p) w.stored j refl)
      (λ j s said. content_written g w n p k may j s (not_touched g w p may.unsaid s said.0 said.1))
      (λ j s _ off. sym (listed_written g w n p k may j s) ∙ off)
      requests
    where
      now : Request
      now = record p { written = put (w.number k) true p.written }

      requests : (m : ℕ) (q : Request) → put n (Some now) w.request m ≡ Some q → IsSureRequest g w q
      requests m q e = ⊎_elim
          (λ (x : (m ≡ n) × (now ≡ q)). let was = t.requests n p may.in_flight in
          subst (IsSureRequest g w) x.1 (record { some = was.some; inside = was.inside; unsaid = λ _ _. may.unsaid }))
          (λ (x : (m ≢ n) × IsInFlight w m q). t.requests m q x.1)
          (flights w n now m q e)

  sure_finished : (n : ℕ) (p : Request) → MayFinish w n p → IsSure g spoiled (with_request (w.request n) a) (finished w n)
  sure_finished n p may =
      let u = sure_still (finished w n) refl refl refl refl (λ _. refl) (λ _ _ _. refl) (λ _ _ _ off. off) (λ m q e. t.requests m q (other_flights w n m q e).1) in
      sure_becomes g spoiled a (finished w n) u (with_request (w.request n) a) (λ k s low says _.
      sym (ended_away w n p a s may.in_flight
      (not_touched g w p ((t.requests n p may.in_flight).unsaid (w.number some_in.0) (may.written some_in.0 some_in.1)) s k says)))

  -- The source of a copy, which does not list the sector, holds the content where it is said: so the copy gives that.
  sure_copied : (from k x : ℕ) → MayCopy g w from k x → Sure spoiled (copied w from k x)
  sure_copied from k x may = record {
    holds = λ i s low says bad. let was = t.holds i s low says bad in record {
      own = ap (λ (d : Stored). d.content s) (apart i (said_below w s i says).0) ∙ was.own;
      others = λ j on off. at_copy g a w from k x may j s on off was.others;
    };
    known = λ i on. known_same g spoiled a w t spoiled v i i on refl (omega arith) (λ own off e. (off, sym (ap (λ (d : Stored). d.super) (apart i on)) ∙ e));
    requests = λ n p e. let r = t.requests n p e in record { some = r.some; inside = r.inside; unsaid = r.unsaid };
  }
    where
      v : World
      v = copied w from k x

      apart : (i : ℕ) → is_recovering (w.state i) ≡ true → v.stored i ≡ w.stored i
      apart i on = put-miss k (copied_device w from k x) w.stored i (λ same. true≢false (sym may.target ∙ ap (λ j. is_in_sync (w.state j)) (sym same) ∙ recovering_out (w.state i) on))

  sure_removed : (k : ℕ) (spare full : Bool) → Sure (λ j. spoiled (skip k j)) (removed g w k spare full)
  sure_removed k true full = sure_by g spoiled a w t (λ j. spoiled (skip k j)) (removed g w k true full)
      (λ j on. inl (record { at = skip k j; on = on; offset = omega arith; bad = λ _ off. off; content = λ _ _. refl }))
      (λ j on. record { at = skip k j; on = on; listed = λ _ off. off; content = λ _ _. refl })
      (λ j on. let was = t.known (skip k j) on in record { bounded = was.bounded; stored = was.stored }) same_requests
  sure_removed k false full = sure_by g spoiled a w t (λ j. spoiled (skip k j)) (removed g w k false full)
      (λ j on. inl (record { at = skip k j; on = on; offset = omega arith; bad = λ _ off. off; content = λ _ _. refl }))
      (λ j on. record { at = skip k j; on = on; listed = λ _ off. off; content = λ _ _. refl })
      (λ j on. let was = t.known (skip k j) on in record { bounded = was.bounded; stored = was.stored }) same_requests

  -- ---- the device of one that is rebuilt changes
  sure_target : (k : ℕ) (left : Stored) (spoiled' : ℕ → Bool) → is_target (w.state k) ≡ true → ((s : ℕ) → says_of w s k ≡ true → left.content s ≡ (w.stored k).content s)
      → ((j : ℕ) → j ≢ k → spoiled' j ≡ false → spoiled j ≡ false)
      → (is_recovering (w.state k) ≡ true → (own : Super) → spoiled' k ≡ false → left.super ≡ Some own → own.offset ≤ w.stored_offset k) → Sure spoiled' (with_device w k left)
  sure_target k left spoiled' out content others super = sure_by g spoiled a w t spoiled' v
      (λ j on. inl (record { at = j; on = on; offset = omega arith; bad = λ _ off. off; content = λ s. its_content j s }))
      (in_sync_fewer v (fewer_target w k left out))
      known
      same_requests
    where
      v : World
      v = with_device w k left

      its_content : (j s : ℕ) → says_of w s j ≡ true → (v.stored j).content s ≡ (w.stored j).content s
      its_content j s = put-at k left w.stored j (λ (d : Stored). says_of w s j ≡ true → d.content s ≡ (w.stored j).content s)
          (λ here says. content s (subst (λ i. says_of w s i ≡ true) here says) ∙ ap (λ i. (w.stored i).content s) (sym here)) (λ _ _. refl)

      known : (j : ℕ) → is_recovering (w.state j) ≡ true → IsKnown spoiled' v j
      known j on = by_same j k
          (λ here. subst (λ i. IsKnown spoiled' v i) (sym here) (record {
            bounded = (t.known k (subst (λ i. is_recovering (w.state i) ≡ true) here on)).bounded;
            stored = λ own off e. super (subst (λ i. is_recovering (w.state i) ≡ true) here on) own off (sym (ap (λ (d : Stored). d.super) (put-hit k left w.stored)) ∙ e);
          }))
          (λ apart. known_same g spoiled a w t spoiled' v j j on refl (omega arith) (λ own off e. (others j apart off, sym (ap (λ (d : Stored). d.super) (put-miss k left w.stored j apart)) ∙ e)))

  -- with the superblock that it had, or the one that was being stored
  stored_before : (k : ℕ) (left : Stored) → left.super ≡ (w.stored k).super → is_recovering (w.state k) ≡ true → (own : Super) → spoiled k ≡ false → left.super ≡ Some own → own.offset ≤ w.stored_offset k
  stored_before k left same on own off e = (t.known k on).stored own off (sym same ∙ e)

  stored_anyway : (k : ℕ) (left : Stored) → (left.super ≡ (w.stored k).super) ⊎ ((left.super ≡ Some (super_for w k)) ⊎ (left.super ≡ None))
      → is_recovering (w.state k) ≡ true → (own : Super) → spoiled k ≡ false → left.super ≡ Some own → own.offset ≤ w.stored_offset k
  stored_anyway k left l on own off e = ⊎_elim
      (λ (same : left.super ≡ (w.stored k).super). stored_before k left same on own off e)
      (λ (x : (left.super ≡ Some (super_for w k)) ⊎ (left.super ≡ None)). ⊎_elim
      (λ (new : left.super ≡ Some (super_for w k)).
      let same : w.sure_offset k ≡ own.offset = ap (λ (s : Super). s.offset) (some-injective (super_for w k) own (sym new ∙ e)) in
      let most = (t.known k on).bounded in
      omega arith)
      (λ (gone : left.super ≡ None). absurd (none_some own (sym gone ∙ e)))
      x)
      l

  -- ---- a member that comes in
  module _ (n : Newcomer) (full : Bool) where
    abbrev v : World
    v = joined (risen g w full) n

    abbrev less_spoiled : ℕ → Bool
    less_spoiled = put w.members false spoiled

    joined_was : (j : ℕ) → j ≢ w.members → is_recovering (v.state j) ≡ true → WasRecovering g spoiled a w t v j
    joined_was j apart on = record {
      at = j;
      on = sym (ap is_recovering (put-miss w.members n.state w.state j apart)) ∙ on;
      offset = (let e = put-miss w.members n.sure_offset w.stored_offset j apart in omega arith);
      bad = λ s off. sym (ap (λ (f : ℕ → Bool). f s) (put-miss w.members n.device.listed w.bad j apart)) ∙ off;
      content = λ s _. ap (λ (d : Stored). d.content s) (put-miss w.members n.device w.stored j apart);
    }

    joined_in_sync : is_in_sync n.state ≡ false → AreInSync g spoiled a w t v
    joined_in_sync out j on =
        let same = same_device (risen g w full) n out j on in
        record {
          at = j;
          on = (was_member (risen g w full) n out j on).1;
          listed = λ s off. sym (ap (λ (d : Stored). d.listed s) same) ∙ off;
          content = λ s _. ap (λ (d : Stored). d.content s) same;
        }

    joined_known : (j : ℕ) → j ≢ w.members → is_recovering (v.state j) ≡ true → IsKnown less_spoiled v j
    joined_known j apart on = known_same g spoiled a w t less_spoiled v j j (sym (ap is_recovering (put-miss w.members n.state w.state j apart)) ∙ on)
        (put-miss w.members n.sure_offset w.stored_offset j apart)
        (let e = put-miss w.members n.sure_offset w.sure_offset j apart in omega arith)
        (λ own off e. (sym (put-miss w.members false spoiled j apart) ∙ off, sym (ap (λ (d : Stored). d.super) (put-miss w.members n.device w.stored j apart)) ∙ e))

    newcomer : (j : ℕ) → j ≡ w.members → is_recovering (v.state j) ≡ true → is_recovering n.state ≡ true
    newcomer j same on = sym (ap is_recovering (ap v.state same ∙ put-hit w.members n.state w.state)) ∙ on

    sure_spare : is_recovering n.state ≡ false → is_in_sync n.state ≡ false → Sure less_spoiled v
    sure_spare out not_in = sure_by g spoiled a w t less_spoiled v (λ j on. inl (joined_was j (apart j on) on)) (joined_in_sync not_in) (λ j on. joined_known j (apart j on) on) same_requests
      where
        apart : (j : ℕ) → is_recovering (v.state j) ≡ true → j ≢ w.members
        apart j on same = true≢false (sym (newcomer j same on) ∙ out)

    -- one that is taken back
    module _ (not_in : is_in_sync n.state ≡ false) (unmarked_below : (s : ℕ) → s < g.size → s < n.sure_offset → w.marks (chunk_of g s) ≡ false)
        (has : (s : ℕ) → s < g.size → s < n.sure_offset → n.device.listed s ≡ false → n.device.content s ≡ a s)
        (stored : (own : Super) → n.device.super ≡ Some own → own.offset ≤ n.sure_offset) where
      at_members : v.stored_offset w.members ≡ n.sure_offset
      at_members = put-hit w.members n.sure_offset w.stored_offset

      said_new : (s : ℕ) → says_of v s w.members ≡ true → s < n.sure_offset
      said_new s says = let low = (said_below v s w.members says).1 in let e = at_members in omega arith

      new_holds : (s : ℕ) → s < g.size → says_of v s w.members ≡ true → v.bad w.members s ≡ false → IsHeldAt v.stored (IsInSync v) a w.members s
      unfolding joined_in_sync
      new_holds s low says bad =
          let below = said_new s says in
          let off = unmarked_below s low below in
          record {
            own = ap (λ (d : Stored). d.content s) (put-hit w.members n.device w.stored)
                ∙ has s low below (sym (ap (λ (f : ℕ → Bool). f s) (put-hit w.members n.device.listed w.bad)) ∙ bad);
            others = λ j on clear. let m = joined_in_sync not_in j on in
                ap (λ (d : Stored). d.content s) (same_device (risen g w full) n not_in j on) ∙ holds m.at s low m.on (m.listed s clear) (quiet_unmarked g w tracked s off) (inr off);
          }

      sure_former : Sure less_spoiled v
      sure_former = record {
        holds = λ j s low says bad. by_same j w.members
            (λ same. subst (λ i. IsHeldAt v.stored (IsInSync v) a i s) (sym same)
            (new_holds s low (subst (λ i. says_of v s i ≡ true) same says) (subst (λ i. v.bad i s ≡ false) same bad)))
            (λ apart. held_old g spoiled a w t v j (joined_was j apart (said_below v s j says).0) s low says bad (others_old g spoiled a w t v (joined_in_sync not_in) s));
        known = λ j on. by_same j w.members
            (λ same. subst (λ i. IsKnown less_spoiled v i) (sym same) (record {
              bounded = (let e = at_members in let e' = put-hit w.members n.sure_offset w.sure_offset in omega arith);
              stored = λ own _ e. let most = stored own (sym (ap (λ (d : Stored). d.super) (put-hit w.members n.device w.stored)) ∙ e) in let is = at_members in omega arith;
            }))
            (λ apart. joined_known j apart on);
        requests = λ m p e. let r = t.requests m p e in record {
          some = r.some;
          inside = r.inside;
          unsaid = λ d done j. by_test (says_of v (first_sector g p) j)
              (λ says. by_same j w.members
              (λ same. absurd (not_new m p e (said_new (first_sector g p) (subst (λ i. says_of v (first_sector g p) i ≡ true) same says))))
              (λ apart. let x = joined_was j apart (said_below v (first_sector g p) j says).0 in
              never (says_of w (first_sector g p) x.at) (said_before g spoiled a w t v j x (first_sector g p) says) (r.unsaid d done x.at)))
              (λ off. off);
        };
      }
        where
          not_new : (m : ℕ) (p : Request) → IsInFlight w m p → first_sector g p < n.sure_offset → ⊥
          not_new m p e below =
              let r = t.requests m p e in
              let least = div-mul-le_self p.start g.width in
              let some = r.some in
              let inside = r.inside in
              let low : first_sector g p < g.size = omega arith in
              let at : chunk_of g (first_sector g p) ≡ chunk_of g p.start = mul-div_cancel (p.start / g.width) wide in
              never (w.marks (chunk_of g p.start)) (tracked.marked m p p.start e (touches_start p r.some)) (sym (ap w.marks at) ∙ unmarked_below (first_sector g p) low below)

  taken_back : (own : Super) (offset : ℕ) (device left : Stored) (full : Bool) → IsTakenBack g w (risen g w full) own offset device left → (offset ≡ 0) ⊎ IsBehind g a device w
      → Sure (put w.members false spoiled) (re_added g w own offset left full)
  taken_back own offset device left full taken told = sure_former (former_member own offset left) full refl
      (λ s low below. taken.unmarked s low (let e = sure_is in omega arith))
      (λ s low below off. ⊎_elim
      (λ (first : offset ≡ 0). absurd (let e = sure_is in let most = taken.within in omega arith))
      (λ (x : IsBehind g a device w). ap (λ (d : Stored). d.content s) taken.rest
      ∙ x.in_memory s low (sym (ap (λ (d : Stored). d.listed s) taken.rest) ∙ off) (taken.unmarked s low (let e = sure_is in omega arith)))
      told)
      (λ it e. let same : taken.sure_offset ≡ it.offset = ap (λ (s : Super). s.offset) (some-injective (joined_super (risen g w full) own.number (own.role own.number) true taken.sure_offset) it
      (sym (ap (λ (d : Stored). d.super) taken.rest) ∙ e)) in let e = sure_is in omega arith)
    where
      sure_is : offset_of left ≡ taken.sure_offset
      sure_is = ap offset_of taken.rest

  -- ---- a member that takes a role
  module _ (k : ℕ) (n : Taking) (full : Bool) where
    abbrev u : World
    u = with_role_taken (risen g w full) k n

    taking_was : (j : ℕ) → j ≢ k → is_recovering (u.state j) ≡ true → WasRecovering g spoiled a w t u j
    taking_was j apart on = record {
      at = j;
      on = sym (ap is_recovering (put-miss k n.state w.state j apart)) ∙ on;
      offset = (let e = put-miss k n.offset w.stored_offset j apart in omega arith);
      bad = λ s off. sym (ap (λ (f : ℕ → Bool). f s) (put-miss k n.bad w.bad j apart)) ∙ off;
      content = λ s _. ap (λ (d : Stored). d.content s) (put-miss k (taking_device (risen g w full) k n) w.stored j apart);
    }

    taking_known : (j : ℕ) → j ≢ k → is_recovering (u.state j) ≡ true → IsKnown (put k false spoiled) u j
    taking_known j apart on = known_same g spoiled a w t (put k false spoiled) u j j (sym (ap is_recovering (put-miss k n.state w.state j apart)) ∙ on)
        (put-miss k n.offset w.stored_offset j apart)
        (let e = put-miss k n.offset w.sure_offset j apart in omega arith)
        (λ own off e. (sym (put-miss k false spoiled j apart) ∙ off, sym (ap (λ (d : Stored). d.super) (put-miss k (taking_device (risen g w full) k n) w.stored j apart)) ∙ e))

    taker : (j : ℕ) → j ≡ k → is_recovering (u.state j) ≡ true → is_recovering n.state ≡ true
    taker j same on = sym (ap is_recovering (ap u.state same ∙ put-hit k n.state w.state)) ∙ on

  sure_enrolled : (k role : ℕ) (listed : ℕ → Bool) (full : Bool) (b : Content) → MayEnrol g w k role listed → IsKeptByEnrolling g w k listed a b → Sure (put k false spoiled) (enrolled g w k role listed full)
  sure_enrolled k role listed full b may c = record {
    holds = λ j s low says bad. held_old g spoiled a w t v j (taking_was k n full j (apart j (said_below v s j says).0) (said_below v s j says).0) s low says bad
        (λ _ held i on off. by_device g w k role listed full may i (λ (d : Stored). d.listed s ≡ false → d.content s ≡ a s) on (λ _. c.held s low) (λ was clear. held i was clear) off);
    known = λ j on. taking_known k n full j (apart j on) on;
    requests = λ m p e. request_still g spoiled a w t v (λ j on. inl (taking_was k n full j (apart j on) on)) p (t.requests m p e);
  }
    where
      n : Taking
      n = as_in_sync (risen g w full) role listed

      v : World
      v = enrolled g w k role listed full

      apart : (j : ℕ) → is_recovering (v.state j) ≡ true → j ≢ k
      apart j on same = true≢false (sym (taker k n full j same on))

  sure_admitted : (k role : ℕ) (listed : ℕ → Bool) (full : Bool) → is_target (w.state k) ≡ true → Sure (put k false spoiled) (admitted g w k role listed full)
  sure_admitted k role listed full out = sure_by g spoiled a w t (put k false spoiled) v
      (λ j on. by_same j k (λ same. inr (ap v.stored_offset same ∙ at_k)) (λ apart. inl (taking_was k n full j apart on)))
      (in_sync_fewer v (fewer_admitted g w k role listed full out))
      (λ j on. by_same j k
      (λ same. subst (λ i. IsKnown (put k false spoiled) v i) (sym same) (record {
        bounded = (let e = at_k in let e' = put-hit k 0 w.sure_offset in omega arith);
        stored = λ own _ e.
            let same : 0 ≡ own.offset = ap (λ (s : Super). s.offset) (some-injective (joined_super (risen g w full) (w.number k) role true 0) own
            (sym (ap (λ (d : Stored). d.super) (put-hit k (taking_device (risen g w full) k n) w.stored)) ∙ e)) in omega arith;
      }))
      (λ apart. taking_known k n full j apart on))
      same_requests
    where
      n : Taking
      n = as_recovering w k role listed

      v : World
      v = admitted g w k role listed full

      at_k : v.stored_offset k ≡ 0
      at_k = put-hit k 0 w.stored_offset

  -- nothing is in flight, and the array is resynced: what members in sync have is the content
  sure_checkpointed : (k sure : ℕ) (listed : ℕ → Bool) → MayCheckpoint g w k sure → Sure (put k false spoiled) (checkpointed w k sure listed)
  sure_checkpointed k sure listed may = record {
    holds = λ j s low says bad. record {
      own = content j s ∙ by_same j k
          (λ here. subst (λ i. (w.stored i).content s ≡ a s) (sym here) (at_k s low (subst (λ i. says_of v s i ≡ true) here says) (subst (λ i. w.bad i s ≡ false) here bad)))
          (λ apart. (t.holds j s low (said_there j s apart says) bad).own);
      others = λ i on off. f.content i s on ∙ holds i s low on (f.listed i s on off) (quiet s) (inl may.resynced);
    };
    known = known_recorded spoiled (with_offset w k sure) k listed (λ j apart on. let was = t.known j on in record {
      bounded = (let e = put-miss k sure w.sure_offset j apart in let most = was.bounded in omega arith);
      stored = was.stored;
    });
    requests = λ m p e. absurd (none_some p (sym (may.idle m) ∙ e));
  }
    where
      v : World
      v = checkpointed w k sure listed

      f : IsFewer w v
      f = fewer_checkpointed w k sure listed (recovering_target (w.state k) may.recovering)

      quiet : (s : ℕ) → IsQuiet w s
      quiet s n p e = absurd (none_some p (sym (may.idle n) ∙ e))

      content : (j s : ℕ) → (v.stored j).content s ≡ (w.stored j).content s
      content j s = put-same (λ (d : Stored). d.content s) k (recorded_device (with_offset w k sure) k listed) w.stored j refl

      new_offset : ℕ
      new_offset = put k sure w.sure_offset k

      said_there : (j s : ℕ) → j ≢ k → says_of v s j ≡ true → says_of w s j ≡ true
      said_there j s apart says =
          let x = said_below v s j says in
          below_said w s j x.0 (subst (λ y. s < y) (put-miss k new_offset w.stored_offset j apart) x.1)

      at_k : (s : ℕ) → s < g.size → says_of v s k ≡ true → w.bad k s ≡ false → (w.stored k).content s ≡ a s
      at_k s low says bad =
          let below : s < sure = subst (λ y. s < y) (put-hit k new_offset w.stored_offset ∙ put-hit k sure w.sure_offset) (said_below v s k says).1 in
          by_test (is_missing g w k (chunk_of g s))
          (λ lacked. let y = may.copied s low lacked below in y.same ∙ holds y.from s low y.in_sync y.unlisted (quiet s) (inl may.resynced))
          (λ there. differs_in_missing g a w late k s low may.recovering bad there)

  sure_noted_bad : (k : ℕ) (more : ℕ → Bool) → Sure spoiled (noted_bad g w k more)
  sure_noted_bad k more = sure_same g spoiled a w t (noted_bad g w k more) refl refl (λ _. omega arith) (λ _ _ e. e) (λ j s _. noted j s) (λ _ _ _. refl) (λ _ _ _ off. off) same_requests
    where
      noted : (j x : ℕ) → (noted_bad g w k more).bad j x ≡ false → w.bad j x ≡ false
      noted j x = put-at k (λ y. w.bad k y || (nat_lt y g.size && more y)) w.bad j (λ (f : ℕ → Bool). f x ≡ false → w.bad j x ≡ false)
          (λ here off. ap (λ i. w.bad i x) here ∙ (or_parts (w.bad k x) (nat_lt x g.size && more x) off).0) (λ _ off. off)

  -- ---- all of them
  becomes_same : (spoiled' : ℕ → Bool) (b : Content) (w' v : World) → b ≡ a → w' ≡ v → Sure spoiled' v → IsSure g spoiled' b w'
  becomes_same spoiled' b w' v same is x = subst (λ c. IsSure g spoiled' c w') (sym same) (subst (Sure spoiled') (sym is) x)

  failed_same : (b : Content) (k : ℕ) (left : Stored) (w' : World) → b ≡ a → Fails g w k left w' → IsSure g spoiled b w'
  failed_same b k left w' same f = subst (λ c. IsSure g spoiled c w') (sym same) (sure_failed k left w' f)

  nothing_changes : (w' : World) → w'.state ≡ w.state → w'.stored_offset ≡ w.stored_offset → w'.sure_offset ≡ w.sure_offset → w'.bad ≡ w.bad → w'.stored ≡ w.stored → w'.request ≡ w.request → Sure spoiled w'
  nothing_changes w' state offset sure bad stored request = sure_still w' state offset sure bad
      (λ k. ap (λ (f : ℕ → Stored). (f k).super) stored) (λ k s _. ap (λ (f : ℕ → Stored). (f k).content s) stored)
      (λ k s _ off. sym (ap (λ (f : ℕ → Stored). (f k).listed s) stored) ∙ off)
      (λ n p e. t.requests n p (sym (ap (λ h. h n) request) ∙ e))

  pub sure_event : (b : Content) (e : Event) (w' : World) → Happens g w e w' → Becomes g e w a b → JoinsBehind g e w a → IsSure g (spoiled_after e w spoiled) b w'
  sure_event b (Event.Begin n p) w' s c _ = becomes_same spoiled b w' (begun g w n p s.0 s.1) c s.5 (sure_begun n p s.0 s.1 s.2)
  sure_event b (Event.Record k) w' s c _ = becomes_same (put k false spoiled) b w' (recorded w k s.0) c s.3 (sure_recorded k s.0 s.1)
  sure_event b (Event.StoreMarks k x) w' s c _ = becomes_same spoiled b w' (marks_stored w k x) c s.1 (sure_still (marks_stored w k x) refl refl refl refl
      (λ j. put-same (λ (d : Stored). d.super) k (marked_device w k x) w.stored j refl) (λ j y _. content_marked g w k x j y) (λ j y _ off. sym (listed_marked g w k x j y) ∙ off) same_requests)
  sure_event b (Event.WriteMember n k) w' s c _ = becomes_same spoiled b w' (member_written w n s.0 k) c s.2 (sure_written n s.0 k s.1)
  sure_event b (Event.Finish n) w' s c _ = subst (λ x. IsSure g spoiled x w') (sym c) (subst (IsSure g spoiled (with_request (w.request n) a)) (sym s.2) (sure_finished n s.0 s.1))
  sure_event b (Event.ClearIdle x) w' s c _ = becomes_same spoiled b w' (unmarked w x) c s.1 (nothing_changes (unmarked w x) refl refl refl refl refl refl)
  sure_event b (Event.Fail k) w' s c _ = failed_same b k (w.stored k) w' c s.1
  sure_event b (Event.WriteFails k part) w' s c _ = failed_same b k s.0 w' c s.2
  sure_event b (Event.Copy from k x) w' s c _ = becomes_same spoiled b w' (copied w from k x) c s.1 (sure_copied from k x s.0)
  sure_event b Event.Resynced w' s c _ = subst (IsSure g spoiled b) (sym s.1)
      (sure_becomes g spoiled a (made_resynced w true) (nothing_changes (made_resynced w true) refl refl refl refl refl refl) b
      (λ k x low says bad. c.kept x low (λ j on off. (t.holds k x low says bad).others j on off)))
  sure_event b Event.Unresynced w' s c _ = becomes_same spoiled b w' (made_resynced w false) c s.1 (nothing_changes (made_resynced w false) refl refl refl refl refl refl)
  sure_event b Event.MakeClean w' s c _ = becomes_same spoiled b w' (made_clean g w s.0) c s.3 (nothing_changes (made_clean g w s.0) refl refl refl refl refl refl)
  sure_event b (Event.Remove k) w' s c _ = becomes_same (λ j. spoiled (skip k j)) b w' (removed g w k (is_spare (w.state k)) s.0) c s.3 (sure_removed k (is_spare (w.state k)) s.0)
  sure_event b (Event.Add d left) w' s c _ = becomes_same (put w.members false spoiled) b w' (joined (risen g w s.0) (new_member d left)) c s.4 (sure_spare (new_member d left) s.0 refl refl)
  sure_event b (Event.ReAdd own offset device left) w' s c told = becomes_same (put w.members false spoiled) b w' (re_added g w own offset left s.0) c s.4 (taken_back own offset device left s.0 s.2 told)
  sure_event b (Event.LowerOffset k x) w' s c _ = becomes_same spoiled b w' (lowered_on w k x) c s.1 (sure_same g spoiled a w t (lowered_on w k x) refl refl
      (λ j. put-at k (sure_after w x k) w.sure_offset j (λ y. y ≤ w.sure_offset j) (λ here. subst (λ i. sure_after w x k ≤ w.sure_offset i) (sym here) (lowered_less w x k)) (λ _. omega arith))
      (λ _ _ e. e) (λ _ _ _ off. off) (λ _ _ _. refl) (λ _ _ _ off. off) same_requests)
  sure_event b (Event.Fill k) w' s c _ = becomes_same spoiled b w' (with_device w k s.0) c s.3 (sure_target k s.0 spoiled s.1.rebuild.target s.2.said (λ _ _ off. off)
      (stored_before k s.0 (ap (λ (d : Stored). d.super) s.2.rest)))
  sure_event b (Event.Prepare k) w' s c _ = becomes_same spoiled b w' (with_device w k s.0) c s.3 (sure_target k s.0 spoiled s.1.target (λ x _. ap (λ (d : Stored). d.content x) s.2.rest) (λ _ _ off. off)
      (stored_before k s.0 (ap (λ (d : Stored). d.super) s.2.rest)))
  sure_event b (Event.RecordTargetFails k) w' s c _ = becomes_same spoiled b w' (with_device w k s.0) c s.1.2 (sure_target k s.0 spoiled s.1.0 (λ x _. ap (λ (d : Stored). d.content x) s.1.1.rest) (λ _ _ off. off)
      (stored_anyway k s.0 s.1.1.super))
  sure_event b (Event.SpoilTarget k) w' s c _ = becomes_same (put k true spoiled) b w' (with_device w k s.0) c s.1.2 (sure_target k s.0 (put k true spoiled) s.1.0 (λ x _. ap (λ (d : Stored). d.content x) s.1.1.rest)
      (λ j apart off. sym (put-miss k true spoiled j apart) ∙ off)
      (λ _ _ off. absurd (true≢false (sym (put-hit k true spoiled) ∙ off))))
  sure_event b (Event.Enrol k role listed) w' s c _ = becomes_same (put k false spoiled) b w' (enrolled g w k role listed s.0) c.same s.3 (sure_enrolled k role listed s.0 b s.1 c)
  sure_event b (Event.Admit k role listed) w' s c _ = becomes_same (put k false spoiled) b w' (admitted g w k role listed s.0) c s.3 (sure_admitted k role listed s.0 (spare_target (w.state k) s.1.spare))
  sure_event b (Event.Checkpoint k sure listed) w' s c _ = becomes_same (put k false spoiled) b w' (checkpointed w k sure listed) c s.1 (sure_checkpointed k sure listed s.0)
  sure_event b (Event.NoteBad k more) w' s c _ = becomes_same spoiled b w' (noted_bad g w k more) c s.1 (sure_noted_bad k more)
  sure_event b (Event.StoreLog k listed) w' s c _ = becomes_same spoiled b w' (log_stored w k listed) c s.2 (sure_still (log_stored w k listed) refl refl refl refl
      (λ j. put-same (λ (d : Stored). d.super) k (record (w.stored k) { listed = listed }) w.stored j refl)
      (λ j x _. put-same (λ (d : Stored). d.content x) k (record (w.stored k) { listed = listed }) w.stored j refl)
      (λ j x _. put-at k (record (w.stored k) { listed = listed }) w.stored j (λ (d : Stored). d.listed x ≡ false → (w.stored j).listed x ≡ false)
      (λ here off. ap (λ i. (w.stored i).listed x) here ∙ s.1.had x off) (λ _ off. off))
      same_requests)
