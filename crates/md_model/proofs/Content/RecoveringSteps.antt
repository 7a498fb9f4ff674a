-- Every event keeps what is said of recovering members.
use Rattle.std.proofs.Common.{◌≡◌, ◌≢◌, ℕ, ◌<◌, ◌+◌, ◌*◌, ◌/◌, leb, arith, Bool, true, false, ◌&&◌, ◌||◌, ◌⊎◌, inl, inr, ⊎_elim, refl, sym, ap, ◌∙◌, subst, eqb, true≢false}
use Rattle.std.specs.Prelude.{not, nat_lt, max}
use Rattle.std.proofs.lemmas.Bool.{or_parts}
use Rattle.std.proofs.lemmas.Bool.Decides.{nat_tests}
use Rattle.std.proofs.Math.Nat.{lt-mul-div-succ, mul_comm}
use Rattle.md_model.specs.Sectors.{Geometry, chunk_of, is_passed, put}
use Rattle.md_model.specs.States.{State, is_in_sync, is_recovering}
use Rattle.md_model.specs.States.State.{Faulty}
use Rattle.md_model.specs.Devices.{Stored}
use Rattle.md_model.specs.Worlds.{Request, World, IsInSync}
use Rattle.md_model.specs.Counts.{risen}
use Rattle.md_model.specs.Steps.{begun, lowered_on, with_device, recorded, recorded_device, marks_stored, member_written, finished, unmarked, written_device}
use Rattle.md_model.specs.Failures.{failed}
use Rattle.md_model.specs.Resyncing.{copied, copied_device, made_clean, made_resynced}
use Rattle.md_model.specs.Membership.{former_member, is_spare, joined, new_member, removed, skip, Newcomer}
use Rattle.md_model.specs.Rebuilding.{as_in_sync, as_recovering, checkpointed, is_missing, taking_device, with_role_taken, with_offset, LeftByFilling, MayCheckpoint, MayEnrol, MayFill, Taking}
use Rattle.md_model.specs.Listing.{log_stored, noted_bad}
use Rattle.md_model.specs.Events.{Event, Fails, Happens}
use Rattle.md_model.specs.Content.{Content, Becomes, HoldsAtRest}
use Rattle.md_model.specs.Behind.{IsBehind, IsDegraded}
use Rattle.md_model.specs.Recovering.{recovered, RecoveringHolds, DiffersInMissing, TellsRecovering, JoinsBehind}
use Rattle.md_model.proofs.Cases.{by_test, never, none_some}
use Rattle.md_model.proofs.Puts.{by_same, put-at, put-hit, put-miss, put-same}
use Rattle.md_model.proofs.Steps.Tracked.{IsTracked}
use Rattle.md_model.proofs.Steps.TrackedSteps.{content_marked}
use Rattle.md_model.proofs.Steps.Rebuilding.{recovering_out}
use Rattle.md_model.proofs.Steps.Roles.{degraded_free, degraded_recovering, HasRoles}
use Rattle.md_model.proofs.Content.BehindSteps.{behind_step}
use Rattle.md_model.proofs.Content.RebuiltWhole.{none_passed}
use Rattle.md_model.proofs.Content.Told.{unless_missing}

pub off_both : (a b : Bool) → a ≡ false → b ≡ false → (a || b) ≡ false
off_both true b e f = absurd (true≢false e)
off_both false b e f = f

pub not_off : (b : Bool) → not b ≡ false → b ≡ true
not_off true e = refl
not_off false e = absurd (true≢false e)

pub off_not : (b : Bool) → b ≡ true → not b ≡ false
off_not true e = refl
off_not false e = absurd (true≢false (sym e))

-- what counts of a recovering member: no sector of its list, and no chunk that its offset has not passed
module _ (g : Geometry) (w : World) (k s : ℕ) where
  abbrev passed : Bool
  passed = is_passed g (w.offset k) (chunk_of g s)

  pub counts : (recovered g w k).listed s ≡ false → (w.bad k s ≡ false) × (passed ≡ true)
  counts off = let x = or_parts (w.bad k s) (not passed) off in (x.0, not_off passed x.1)

  pub counted : w.bad k s ≡ false → passed ≡ true → (recovered g w k).listed s ≡ false
  counted bad at = off_both (w.bad k s) (not passed) bad (off_not passed at)

  -- a chunk that it has
  pub had : is_recovering (w.state k) ≡ true → is_missing g w k (chunk_of g s) ≡ false → (w.marks (chunk_of g s) ≡ false) × (passed ≡ true)
  had on off = let x = unless_missing (is_in_sync (w.state k)) (is_recovering (w.state k)) (w.marks (chunk_of g s)) passed (recovering_out (w.state k) on) off in (x.1, x.2)

-- or lacks
may_lack : (in_sync recovering marked by : Bool) → in_sync ≡ false → recovering ≡ true → marked ≡ false → by ≡ true → not in_sync && (not recovering || (marked || not by)) ≡ false
may_lack true recovering marked by a b c d = absurd (true≢false a)
may_lack false false marked by a b c d = absurd (true≢false (sym b))
may_lack false true true by a b c d = absurd (true≢false c)
may_lack false true false false a b c d = absurd (true≢false (sym d))
may_lack false true false true a b c d = refl

pub has : (g : Geometry) (w : World) (k s : ℕ) → is_recovering (w.state k) ≡ true → w.marks (chunk_of g s) ≡ false → passed g w k s ≡ true → is_missing g w k (chunk_of g s) ≡ false
has g w k s on off at = may_lack (is_in_sync (w.state k)) (is_recovering (w.state k)) (w.marks (chunk_of g s)) (passed g w k s) (recovering_out (w.state k) on) on off at

pub differs_in_missing : DiffersInMissing
differs_in_missing g a w t k s low on bad there =
    let x = had g w k s on there in
    (t k on).in_memory s low (counted g w k s bad x.1) x.0

-- the greater of two offsets has passed what one of them has
passed_by_one : (g : Geometry) (less sure c : ℕ) → is_passed g (max less sure) c ≡ true → is_passed g less c ≡ false → is_passed g sure c ≡ true
passed_by_one g less sure c at off = one g.size ((c + 1) * g.width) less sure at off
  where
    one : (size end less sure : ℕ) → (leb size (max less sure) || leb end (max less sure)) ≡ true → (leb size less || leb end less) ≡ false → (leb size sure || leb end sure) ≡ true
    one size end less sure at off = grind (arith, nat_tests)

-- what an offset has passed lies before it
passed_before : (g : Geometry) → 0 < g.width → (offset s : ℕ) → s < g.size → is_passed g offset (chunk_of g s) ≡ true → s < offset
passed_before g wide offset s low at =
    let more = lt-mul-div-succ s wide in
    let order = mul_comm g.width (s / g.width + 1) in
    let within : s < (s / g.width + 1) * g.width = omega arith in
    before g.size ((s / g.width + 1) * g.width) within low at
  where
    before : (size end : ℕ) → s < end → s < size → (leb size offset || leb end offset) ≡ true → s < offset
    before size end within low at = grind (arith, nat_tests)

-- fewer sectors of a device that lies behind
pub behind_less : (g : Geometry) (a : Content) (d d' : Stored) (w : World)
    → ((s : ℕ) → s < g.size → d'.listed s ≡ false → d.listed s ≡ false) → ((s : ℕ) → s < g.size → d'.listed s ≡ false → d'.content s ≡ d.content s)
    → IsBehind g a d w → IsBehind g a d' w
behind_less g a d d' w listed content t = record {
  in_memory = λ s low off m. content s low off ∙ t.in_memory s low (listed s low off) m;
  on_members = λ i s low on off bit. content s low off ∙ t.on_members i s low on (listed s low off) bit;
}

-- where its data is the content, it lies behind
pub behind_holding : (g : Geometry) (a : Content) (d : Stored) (w : World) → ((s : ℕ) → s < g.size → d.listed s ≡ false → d.content s ≡ a s) → IsBehind g a d w
behind_holding g a d w all = record { in_memory = λ s low off _. all s low off; on_members = λ i s low _ off _. all s low off }

module _ (g : Geometry) (wide : 0 < g.width) (a : Content) (w : World) (tracked : IsTracked g w) (roles : HasRoles g w) (holds : HoldsAtRest g a w) (t : RecoveringHolds g a w) where
  -- before the event, what there will be of a recovering member lies behind
  abbrev IsLate : World → ℕ → Type 0
  IsLate w' k = IsBehind g a (recovered g w' k) w × IsDegraded g w

  abbrev AreLate : World → Type 0
  AreLate w' = (k : ℕ) → is_recovering (w'.state k) ≡ true → IsLate w' k

  -- it was recovering, and no more counts of it
  record IsFrom (w' : World) (k : ℕ) : Type 0 where
    at : ℕ
    on : is_recovering (w.state at) ≡ true
    content : (s : ℕ) → (w'.stored k).content s ≡ (w.stored at).content s
    bad : (s : ℕ) → w'.bad k s ≡ false → w.bad at s ≡ false
    offset : w'.offset k ≡ w.offset at

  from_old : (w' : World) (k : ℕ) → IsFrom w' k → IsLate w' k
  from_old w' k f = (
    behind_less g a (recovered g w f.at) (recovered g w' k) w
        (λ s _ off. let x = counts g w' k s off in counted g w f.at s (f.bad s x.0) (sym (ap (λ o. is_passed g o (chunk_of g s)) f.offset) ∙ x.1))
        (λ s _ _. f.content s) (t f.at f.on),
    degraded_recovering g w roles f.at f.on,
  )

  -- nothing changes of those that are recovering
  all_old : (w' : World) → w'.state ≡ w.state → ((k s : ℕ) → is_recovering (w.state k) ≡ true → (w'.stored k).content s ≡ (w.stored k).content s)
      → ((k s : ℕ) → w'.bad k s ≡ false → w.bad k s ≡ false) → w'.offset ≡ w.offset → AreLate w'
  all_old w' state content bad offset k on =
      let on' : is_recovering (w.state k) ≡ true = sym (ap (λ (f : ℕ → State). is_recovering (f k)) state) ∙ on in
      from_old w' k (record { at = k; on = on'; content = λ s. content k s on'; bad = bad k; offset = ap (λ (f : ℕ → ℕ). f k) offset })

  apart_from : (k : ℕ) → IsInSync w k → (j : ℕ) → is_recovering (w.state j) ≡ true → j ≢ k
  apart_from k in_ j on same = true≢false (sym in_ ∙ ap (λ i. is_in_sync (w.state i)) (sym same) ∙ recovering_out (w.state j) on)

  begun_old : (n : ℕ) (p : Request) (rises full : Bool) → AreLate (begun g w n p rises full)
  begun_old n p true full = all_old (begun g w n p true full) refl (λ _ _ _. refl) (λ _ _ off. off) refl
  begun_old n p false full = all_old (begun g w n p false full) refl (λ _ _ _. refl) (λ _ _ off. off) refl

  failed_old : (k : ℕ) (left : Stored) (w' : World) → Fails g w k left w' → AreLate w'
  failed_old k left w' f = subst AreLate (sym f.3) (λ j on.
      let x = other j on in
      from_old (failed g (with_device w k left) k f.0) j (record {
        at = j;
        on = x.1;
        content = λ s. ap (λ (d : Stored). d.content s) (put-miss k left w.stored j x.0);
        bad = λ _ off. off;
        offset = refl;
      }))
    where
      other : (j : ℕ) → is_recovering (put k Faulty w.state j) ≡ true → (j ≢ k) × (is_recovering (w.state j) ≡ true)
      other j = put-at k Faulty w.state j (λ s. is_recovering s ≡ true → (j ≢ k) × (is_recovering (w.state j) ≡ true)) (λ _ on. absurd (true≢false (sym on))) (λ apart on. (apart, on))

  removed_old : (k : ℕ) (spare full : Bool) → AreLate (removed g w k spare full)
  removed_old k true full j on = from_old (removed g w k true full) j (record { at = skip k j; on = on; content = λ _. refl; bad = λ _ off. off; offset = refl })
  removed_old k false full j on = from_old (removed g w k false full) j (record { at = skip k j; on = on; content = λ _. refl; bad = λ _ off. off; offset = refl })

  -- ---- a member that comes in
  module _ (n : Newcomer) (full : Bool) where
    abbrev v : World
    v = joined (risen g w full) n

    joined_old : (k : ℕ) → k ≢ w.members → is_recovering (v.state k) ≡ true → IsLate v k
    joined_old k apart on = from_old v k (record {
      at = k;
      on = sym (ap is_recovering (put-miss w.members n.state w.state k apart)) ∙ on;
      content = λ s. ap (λ (d : Stored). d.content s) (put-miss w.members n.device w.stored k apart);
      bad = λ s off. sym (ap (λ (f : ℕ → Bool). f s) (put-miss w.members n.device.listed w.bad k apart)) ∙ off;
      offset = put-miss w.members n.offset w.offset k apart;
    })

    joined_spare : is_recovering n.state ≡ false → AreLate v
    joined_spare out k on = joined_old k (λ same. true≢false (sym on ∙ ap (λ i. is_recovering (v.state i)) same ∙ ap is_recovering (put-hit w.members n.state w.state) ∙ out)) on

    -- one that is taken back has what the device has, or its offset has passed nothing
    joined_former : (n.offset ≡ 0) ⊎ IsBehind g a n.device w → IsDegraded g w → AreLate v
    joined_former told empty k on = by_same k w.members
        (λ same. subst (λ i. IsLate v i) (sym same) (
          ⊎_elim
              (λ (zero_is : n.offset ≡ 0). behind_holding g a (recovered g v w.members) w (λ s low off. never (is_passed g (v.offset w.members) (chunk_of g s)) (counts g v w.members s off).1
              (ap (λ o. is_passed g o (chunk_of g s)) (put-hit w.members n.offset w.offset ∙ zero_is) ∙ none_passed g s wide low)))
              (λ (late : IsBehind g a n.device w). behind_less g a n.device (recovered g v w.members) w
              (λ s _ off. sym (ap (λ (f : ℕ → Bool). f s) (put-hit w.members n.device.listed w.bad)) ∙ (counts g v w.members s off).0)
              (λ s _ _. ap (λ (d : Stored). d.content s) (put-hit w.members n.device w.stored)) late)
              told,
          empty,
        ))
        (λ apart. joined_old k apart on)

  -- ---- a member that takes a role
  module _ (k : ℕ) (n : Taking) (full : Bool) where
    abbrev u : World
    u = with_role_taken (risen g w full) k n

    taking_old : (j : ℕ) → j ≢ k → is_recovering (u.state j) ≡ true → IsLate u j
    taking_old j apart on = from_old u j (record {
      at = j;
      on = sym (ap is_recovering (put-miss k n.state w.state j apart)) ∙ on;
      content = λ s. ap (λ (d : Stored). d.content s) (put-miss k (taking_device (risen g w full) k n) w.stored j apart);
      bad = λ s off. sym (ap (λ (f : ℕ → Bool). f s) (put-miss k n.bad w.bad j apart)) ∙ off;
      offset = put-miss k n.offset w.offset j apart;
    })

    taking_in_sync : is_recovering n.state ≡ false → AreLate u
    taking_in_sync out j on = taking_old j (λ same. true≢false (sym on ∙ ap (λ i. is_recovering (u.state i)) same ∙ ap is_recovering (put-hit k n.state w.state) ∙ out)) on

    -- an offset of 0 has passed nothing
    taking_first : n.offset ≡ 0 → IsDegraded g w → AreLate u
    taking_first zero_is empty j on = by_same j k
        (λ same. subst (λ i. IsLate u i) (sym same) (
          behind_holding g a (recovered g u k) w (λ s low off. never (is_passed g (u.offset k) (chunk_of g s)) (counts g u k s off).1
              (ap (λ o. is_passed g o (chunk_of g s)) (put-hit k n.offset w.offset ∙ zero_is) ∙ none_passed g s wide low)),
          empty,
        ))
        (λ apart. taking_old j apart on)

  -- ---- the device of one that is rebuilt changes
  target_old : (k : ℕ) (left : Stored) → ((s : ℕ) → left.content s ≡ (w.stored k).content s) → AreLate (with_device w k left)
  target_old k left same = all_old (with_device w k left) refl
      (λ j s _. put-at k left w.stored j (λ (d : Stored). d.content s ≡ (w.stored j).content s) (λ here. same s ∙ ap (λ i. (w.stored i).content s) (sym here)) (λ _. refl))
      (λ _ _ off. off) refl

  -- In a chunk that has no mark on some member in sync it has none in memory: so it is not filled.
  filled_old : (k : ℕ) (left : Stored) → MayFill w k → LeftByFilling g w k left → AreLate (with_device w k left)
  filled_old k left may l j on = by_same j k
      (λ here. subst (λ i. IsLate v i) (sym here) (late (subst (λ i. is_recovering (w.state i) ≡ true) here on), degraded_recovering g w roles j on))
      (λ apart. from_old v j (record { at = j; on = on; content = λ s. ap (λ (d : Stored). d.content s) (put-miss k left w.stored j apart); bad = λ _ off. off; offset = refl }))
    where
      v : World
      v = with_device w k left

      same : (on : is_recovering (w.state k) ≡ true) (s : ℕ) → (recovered g v k).listed s ≡ false → w.marks (chunk_of g s) ≡ false → (v.stored k).content s ≡ (w.stored k).content s
      same on s off m = ap (λ (d : Stored). d.content s) (put-hit k left w.stored) ∙ l.outside s (has g w k s on m (counts g w k s off).1)

      late : is_recovering (w.state k) ≡ true → IsBehind g a (recovered g v k) w
      late on = record {
        in_memory = λ s low off m. same on s off m ∙ (t k on).in_memory s low off m;
        on_members = λ i s low in_ off bit. by_test (w.marks (chunk_of g s))
            (λ at. never ((w.stored i).bits (chunk_of g s)) (sym (tracked.known i (chunk_of g s) in_) ∙ may.noted on i (chunk_of g s) in_ at) bit)
            (λ m. same on s off m ∙ (t k on).in_memory s low off m);
      }

  -- What the offset has passed by then it had passed before, or it was not missing, or was copied.
  checkpoint_old : (k sure : ℕ) (listed : ℕ → Bool) → MayCheckpoint g w k sure → AreLate (checkpointed w k sure listed)
  checkpoint_old k sure listed may j on = by_same j k
      (λ here. subst (λ i. IsLate v i) (sym here) (late, degraded_recovering g w roles k may.recovering))
      (λ apart. from_old v j (record {
        at = j;
        on = on;
        content = content j;
        bad = λ _ off. off;
        offset = put-miss k offset w.offset j apart;
      }))
    where
      offset : ℕ
      offset = max (w.offset k) sure

      v : World
      v = checkpointed w k sure listed

      content : (j s : ℕ) → (v.stored j).content s ≡ (w.stored j).content s
      content j s = put-same (λ (d : Stored). d.content s) k (recorded_device (with_offset w k sure) k listed) w.stored j refl

      -- it holds the content there, if it does where the old offset had passed
      has_it : (s : ℕ) → s < g.size → (recovered g v k).listed s ≡ false → ((recovered g w k).listed s ≡ false → (w.stored k).content s ≡ a s) → (v.stored k).content s ≡ a s
      has_it s low off old =
          let x = counts g v k s off in
          let at : is_passed g offset (chunk_of g s) ≡ true = sym (ap (λ o. is_passed g o (chunk_of g s)) (put-hit k offset w.offset)) ∙ x.1 in
          content k s ∙ by_test (passed g w k s)
          (λ before. old (counted g w k s x.0 before))
          (λ later. by_test (is_missing g w k (chunk_of g s))
          (λ lacked. let y = may.copied s low lacked (passed_before g wide sure s low (passed_by_one g (w.offset k) sure (chunk_of g s) at later)) in
          y.same ∙ holds y.from s low y.in_sync y.unlisted (λ n p e. absurd (none_some p (sym (may.idle n) ∙ e))) (inl may.resynced))
          (λ there. differs_in_missing g a w t k s low may.recovering x.0 there))

      late : IsBehind g a (recovered g v k) w
      late = record {
        in_memory = λ s low off m. has_it s low off (λ before. (t k may.recovering).in_memory s low before m);
        on_members = λ i s low in_ off bit. has_it s low off (λ before. (t k may.recovering).on_members i s low in_ before bit);
      }

  pub late_before : (e : Event) (w' : World) → Happens g w e w' → JoinsBehind g e w a → AreLate w'
  late_before (Event.Begin n p) w' s _ = subst AreLate (sym s.5) (begun_old n p s.0 s.1)
  late_before (Event.Record k) w' s _ = subst AreLate (sym s.3) (all_old (recorded w k s.0) refl (λ j x _. put-same (λ (d : Stored). d.content x) k (recorded_device w k s.0) w.stored j refl) (λ _ _ off. off) refl)
  late_before (Event.StoreMarks k b) w' s _ = subst AreLate (sym s.1) (all_old (marks_stored w k b) refl (λ j x _. content_marked g w k b j x) (λ _ _ off. off) refl)
  late_before (Event.WriteMember n k) w' s _ = subst AreLate (sym s.2) (all_old (member_written w n s.0 k) refl
      (λ j x on. ap (λ (d : Stored). d.content x) (put-miss k (written_device w k s.0) w.stored j (apart_from k s.1.in_sync j on))) (λ _ _ off. off) refl)
  late_before (Event.Finish n) w' s _ = subst AreLate (sym s.2) (all_old (finished w n) refl (λ _ _ _. refl) (λ _ _ off. off) refl)
  late_before (Event.ClearIdle c) w' s _ = subst AreLate (sym s.1) (all_old (unmarked w c) refl (λ _ _ _. refl) (λ _ _ off. off) refl)
  late_before (Event.Fail k) w' s _ = failed_old k (w.stored k) w' s.1
  late_before (Event.WriteFails k part) w' s _ = failed_old k s.0 w' s.2
  late_before (Event.Copy from k x) w' s _ = subst AreLate (sym s.1) (all_old (copied w from k x) refl
      (λ j y on. ap (λ (d : Stored). d.content y) (put-miss k (copied_device w from k x) w.stored j (apart_from k s.0.target j on))) (λ _ _ off. off) refl)
  late_before Event.Resynced w' s _ = subst AreLate (sym s.1) (all_old (made_resynced w true) refl (λ _ _ _. refl) (λ _ _ off. off) refl)
  late_before Event.Unresynced w' s _ = subst AreLate (sym s.1) (all_old (made_resynced w false) refl (λ _ _ _. refl) (λ _ _ off. off) refl)
  late_before Event.MakeClean w' s _ = subst AreLate (sym s.3) (all_old (made_clean g w s.0) refl (λ _ _ _. refl) (λ _ _ off. off) refl)
  late_before (Event.Remove k) w' s _ = subst AreLate (sym s.3) (removed_old k (is_spare (w.state k)) s.0)
  late_before (Event.Add d left) w' s _ = subst AreLate (sym s.4) (joined_spare (new_member d left) s.0 refl)
  late_before (Event.ReAdd own offset device left) w' s told = subst AreLate (sym s.4) (joined_former (former_member own offset left) s.0
      (⊎_elim inl
      (λ (late : IsBehind g a device w). inr (behind_less g a device left w (λ x _ off. sym (ap (λ (d : Stored). d.listed x) s.2.rest) ∙ off) (λ x _ _. ap (λ (d : Stored). d.content x) s.2.rest) late))
      told)
      (degraded_free g w (own.role own.number) s.1.has_role s.1.free))
  late_before (Event.LowerOffset k x) w' s _ = subst AreLate (sym s.1) (all_old (lowered_on w k x) refl (λ _ _ _. refl) (λ _ _ off. off) refl)
  late_before (Event.Fill k) w' s _ = subst AreLate (sym s.3) (filled_old k s.0 s.1 s.2)
  late_before (Event.Prepare k) w' s _ = subst AreLate (sym s.3) (target_old k s.0 (λ x. ap (λ (d : Stored). d.content x) s.2.rest))
  late_before (Event.RecordTargetFails k) w' s _ = subst AreLate (sym s.1.2) (target_old k s.0 (λ x. ap (λ (d : Stored). d.content x) s.1.1.rest))
  late_before (Event.SpoilTarget k) w' s _ = subst AreLate (sym s.1.2) (target_old k s.0 (λ x. ap (λ (d : Stored). d.content x) s.1.1.rest))
  late_before (Event.Enrol k role listed) w' s _ = subst AreLate (sym s.3) (taking_in_sync k (as_in_sync (risen g w s.0) role listed) s.0 refl)
  late_before (Event.Admit k role listed) w' s _ = subst AreLate (sym s.3) (taking_first k (as_recovering w k role listed) s.0 refl (degraded_free g w role s.1.below s.1.free))
  late_before (Event.Checkpoint k offset listed) w' s _ = subst AreLate (sym s.1) (checkpoint_old k offset listed s.0)
  late_before (Event.NoteBad k more) w' s _ = subst AreLate (sym s.1) (all_old (noted_bad g w k more) refl (λ _ _ _. refl) (λ j x. noted j x) refl)
    where
      noted : (j x : ℕ) → (noted_bad g w k more).bad j x ≡ false → w.bad j x ≡ false
      noted j x = put-at k (λ y. w.bad k y || (nat_lt y g.size && more y)) w.bad j (λ (f : ℕ → Bool). f x ≡ false → w.bad j x ≡ false)
          (λ here off. ap (λ i. w.bad i x) here ∙ (or_parts (w.bad k x) (nat_lt x g.size && more x) off).0) (λ _ off. off)
  late_before (Event.StoreLog k listed) w' s _ = subst AreLate (sym s.2) (all_old (log_stored w k listed) refl
      (λ j x _. put-same (λ (d : Stored). d.content x) k (record (w.stored k) { listed = listed }) w.stored j refl) (λ _ _ off. off) refl)

  pub recovering_step : (b : Content) (e : Event) (w' : World) → Happens g w e w' → Becomes g e w a b → JoinsBehind g e w a → RecoveringHolds g b w'
  recovering_step b e w' s becomes told k on =
      let x = late_before e w' s told k on in
      behind_step g (recovered g w' k) a b w e w' tracked x.1 x.0 s becomes

pub tells_recovering : TellsRecovering
tells_recovering g a w t holds k role listed may s low there off = by_test (w.bad k s)
    (λ at. let x = may.unlisted s low at off in
    sym (may.agrees x.0 s x.1 x.2 off) ∙ holds x.0 s low x.1 x.2 (λ n p e. absurd (none_some p (sym (may.rebuild.idle n) ∙ e))) (inl may.resynced))
    (λ bad. differs_in_missing g a w t k s low may.recovering bad there)

-- one that might be enrolled has all of it, but for what it will list
pub enrolled_holds : (g : Geometry) (a : Content) (w : World) → RecoveringHolds g a w → HoldsAtRest g a w → (k role : ℕ) (listed : ℕ → Bool) → MayEnrol g w k role listed
    → (s : ℕ) → s < g.size → listed s ≡ false → (w.stored k).content s ≡ a s
enrolled_holds g a w t holds k role listed may s low off = by_test (is_missing g w k (chunk_of g s))
    (λ at. let x = may.copied s low at off in
    sym (may.agrees x.0 s x.1 x.2 off) ∙ holds x.0 s low x.1 x.2 (λ n p e. absurd (none_some p (sym (may.rebuild.idle n) ∙ e))) (inl may.resynced))
    (λ there. tells_recovering g a w t holds k role listed may s low there off)
