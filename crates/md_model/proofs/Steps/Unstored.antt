-- The lists in memory of members in sync: they have what devices list; and where one has more, its log not being stored yet, its member agrees
-- with the others all the same. Every event keeps that.
use Rattle.std.proofs.Common.{◌≡◌, ◌≢◌, ℕ, Bool, true, false, ◌||◌, refl, sym, ap, ◌∙◌, subst, true≢false, eqb, List, ◌&&◌}
use Rattle.std.specs.Prelude.{Some, None, nat_lt}
use Rattle.std.proofs.lemmas.Bool.{or_parts}
use Rattle.md_model.specs.Sectors.{Geometry, chunk_of, put}
use Rattle.md_model.specs.States.{State, is_in_sync}
use Rattle.md_model.specs.Devices.{Stored, AgreeAt}
use Rattle.md_model.specs.Worlds.{Request, touches, World, IsInSync, IsQuiet}
use Rattle.md_model.specs.Counts.{risen}
use Rattle.md_model.specs.Steps.{begun, entered, finished, marks_stored, member_written, recorded, recorded_device, with_device, KeepsList, MayBegin, MayFinish, MayWrite}
use Rattle.md_model.specs.Failures.{failed}
use Rattle.md_model.specs.Resyncing.{copied, MayCopy}
use Rattle.md_model.specs.Membership.{former_member, is_spare, joined, new_member, removed, skip, Newcomer}
use Rattle.md_model.specs.Rebuilding.{admitted, as_recovering, checkpointed, enrolled, is_target, taking_device, with_offset, MayEnrol}
use Rattle.md_model.specs.Listing.{log_stored, noted_bad}
use Rattle.md_model.specs.Events.{Event, Fails, Happens}
use Rattle.md_model.proofs.Cases.{by_test, none_some}
use Rattle.md_model.proofs.Puts.{by_same, put-at, put-hit, put-miss}
use Rattle.md_model.proofs.Steps.Tracked.{IsFewer, IsTracked}
use Rattle.md_model.proofs.Steps.TrackedSteps.{fewer_recorded, fewer_failed, quiet_but, content_marked, listed_marked, content_written, listed_written, quiet_written}
use Rattle.md_model.proofs.Steps.TrackedCalls.{content_copied, content_at_copy, listed_copied}
use Rattle.md_model.proofs.Steps.Membership.{same_device, was_member}
use Rattle.md_model.proofs.Steps.Rebuilding.{by_device, fewer_admitted, fewer_checkpointed, fewer_log_stored, fewer_target, not_target, recovering_out, recovering_target, spare_target, was_in_sync}

pub record IsUnstored (w : World) : Type 0 where
  pub listed : (k s : ℕ) → IsInSync w k → w.bad k s ≡ false → (w.stored k).listed s ≡ false
  pub agree : (j k s : ℕ) → IsInSync w j → IsInSync w k → w.bad j s ≡ true → IsQuiet w s → AgreeAt (w.stored j) (w.stored k) s

-- fewer members in sync, with the same lists in memory, and devices that list no more than these
unstored_fewer : (w w' : World) → IsFewer w w' → ((k s : ℕ) → IsInSync w' k → w'.bad k s ≡ w.bad k s)
    → ((k s : ℕ) → IsInSync w' k → w'.bad k s ≡ false → (w'.stored k).listed s ≡ false) → IsUnstored w → IsUnstored w'
unstored_fewer w w' f bad listed u = record {
  listed = listed;
  agree = λ j k s a b at q off off'.
      f.content j s a ∙ u.agree j k s (f.in_sync j a) (f.in_sync k b) (sym (bad j s a) ∙ at) (λ n p e. q n p (ap (λ h. h n) f.request ∙ e)) (f.listed j s a off) (f.listed k s b off') ∙ sym (f.content k s b);
}

-- devices that list the same
unstored_same : (w w' : World) → IsFewer w w' → ((k s : ℕ) → IsInSync w' k → w'.bad k s ≡ w.bad k s) → ((k s : ℕ) → IsInSync w' k → (w'.stored k).listed s ≡ (w.stored k).listed s)
    → IsUnstored w → IsUnstored w'
unstored_same w w' f bad same u = unstored_fewer w w' f bad (λ k s on off. same k s on ∙ u.listed k s (f.in_sync k on) (sym (bad k s on) ∙ off)) u

unstored_recorded : (w : World) (k : ℕ) (listed : ℕ → Bool) → KeepsList w k listed → IsUnstored w → IsUnstored (recorded w k listed)
unstored_recorded w k listed keeps u = unstored_fewer w (recorded w k listed) (fewer_recorded w k listed keeps) (λ _ _ _. refl)
    (λ j x on off. put-at k (recorded_device w k listed) w.stored j (λ (d : Stored). d.listed x ≡ false)
    (λ here. (keeps (ap (λ i. is_in_sync (w.state i)) (sym here) ∙ on)).kept x (ap (λ i. w.bad i x) (sym here) ∙ off)) (λ _. u.listed j x on off)) u

module _ (g : Geometry) where
  others_failed : (w : World) (k : ℕ) (left : Stored) (full : Bool) (j : ℕ) → IsInSync (failed g (with_device w k left) k full) j → j ≢ k
  others_failed w k left full j on same = true≢false (sym on ∙ ap (λ i. is_in_sync ((failed g (with_device w k left) k full).state i)) same
      ∙ put-at k State.Faulty w.state k (λ s. is_in_sync s ≡ false) (λ _. refl) (λ apart. absurd (apart refl)))

  unstored_fails : (w : World) (k : ℕ) (left : Stored) (w' : World) → Fails g w k left w' → IsUnstored w → IsUnstored w'
  unstored_fails w k left w' f u = subst IsUnstored (sym f.3)
      (unstored_same w (failed g (with_device w k left) k f.0) (fewer_failed g w k left f.0) (λ _ _ _. refl)
      (λ j s on. ap (λ (d : Stored). d.listed s) (put-miss k left w.stored j (others_failed w k left f.0 j on))) u)

  unstored_target : (w : World) (k : ℕ) (left : Stored) → is_target (w.state k) ≡ true → (w' : World) → w' ≡ with_device w k left → IsUnstored w → IsUnstored w'
  unstored_target w k left out w' is u = subst IsUnstored (sym is)
      (unstored_same w (with_device w k left) (fewer_target w k left out) (λ _ _ _. refl)
      (λ j s on. ap (λ (d : Stored). d.listed s) (put-miss k left w.stored j (not_target w k out j on))) u)

  unstored_entered : (w : World) (n : ℕ) (p : Request) → MayBegin g w n p → IsUnstored w → IsUnstored (entered g w n p)
  unstored_entered w n p may u = record {
    listed = u.listed;
    agree = λ j k s a b at q. u.agree j k s a b at (λ m o e. q m o (put-miss n (Some p) w.request m (λ same. none_some o (sym may.new ∙ sym (ap w.request same) ∙ e)) ∙ e));
  }

  unstored_begun : (w : World) (n : ℕ) (p : Request) (rises full : Bool) → MayBegin g w n p → IsUnstored w → IsUnstored (begun g w n p rises full)
  unstored_begun w n p true full may u = let x = unstored_entered w n p may u in record { listed = x.listed; agree = x.agree }
  unstored_begun w n p false full may u = let x = unstored_entered w n p may u in record { listed = x.listed; agree = x.agree }

  unstored_marks_stored : (w : World) (k b : ℕ) → IsUnstored w → IsUnstored (marks_stored w k b)
  unstored_marks_stored w k b u = record {
    listed = λ j s on off. listed_marked g w k b j s ∙ u.listed j s on off;
    agree = λ i j s x y at q off off'. content_marked g w k b i s ∙ u.agree i j s x y at q (sym (listed_marked g w k b i s) ∙ off) (sym (listed_marked g w k b j s) ∙ off') ∙ sym (content_marked g w k b j s);
  }

  unstored_written : (w : World) (n : ℕ) (p : Request) (k : ℕ) → MayWrite g w n p k → IsUnstored w → IsUnstored (member_written w n p k)
  unstored_written w n p k may u = record {
    listed = λ j s on off. listed_written g w n p k may j s ∙ u.listed j s on off;
    agree = λ i j s x y at q off off'.
        let z = quiet_written g w n p k may s q in
        content_written g w n p k may i s z.0 ∙ u.agree i j s x y at z.1 (sym (listed_written g w n p k may i s) ∙ off) (sym (listed_written g w n p k may j s) ∙ off') ∙ sym (content_written g w n p k may j s z.0);
  }

  unstored_finished : (w : World) (n : ℕ) (p : Request) → IsTracked g w → MayFinish w n p → IsUnstored w → IsUnstored (finished w n)
  unstored_finished w n p t may u = record {
    listed = u.listed;
    agree = λ j k s a b at q. by_test (touches p s)
        (λ here _ _. t.in_flight.written n p j s may.in_flight a (may.written j a) here ∙ sym (t.in_flight.written n p k s may.in_flight b (may.written k b) here))
        (λ away. u.agree j k s a b at (quiet_but g w n p s may.in_flight away (λ m o apart e. q m o (put-miss n None w.request m apart ∙ e))));
  }

  unstored_copied : (w : World) (from k s : ℕ) → MayCopy g w from k s → IsUnstored w → IsUnstored (copied w from k s)
  unstored_copied w from k s may u = record {
    listed = λ j x on off. listed_copied g w from k s j x ∙ u.listed j x on off;
    agree = λ i j x a b at q off off'.
        let off_i = sym (listed_copied g w from k s i x) ∙ off in
        let off_j = sym (listed_copied g w from k s j x) ∙ off' in
        let same = u.agree i j x a b at q off_i off_j in
        by_same x s
        (λ here.
        let source = u.agree i from x a may.source at q off_i (ap (w.stored from).listed here ∙ may.unlisted) in
        -- each holds what member i held
        let holds : (y : ℕ) → (w.stored y).content s ≡ (w.stored i).content s → ((copied w from k s).stored y).content s ≡ (w.stored i).content s =
        λ y e. content_at_copy g w from k s y (λ (c : List ℕ). c ≡ (w.stored i).content s) (subst (λ v. (w.stored from).content v ≡ (w.stored i).content v) here (sym source)) e in
        subst (λ v. ((copied w from k s).stored i).content v ≡ ((copied w from k s).stored j).content v) (sym here)
        (holds i refl ∙ sym (holds j (subst (λ v. (w.stored j).content v ≡ (w.stored i).content v) here (sym same)))))
        (λ away. content_copied g w from k s i x away ∙ same ∙ sym (content_copied g w from k s j x away));
  }

  unstored_removed : (w : World) (k : ℕ) (spare full : Bool) → IsUnstored w → IsUnstored (removed g w k spare full)
  unstored_removed w k true full u = record { listed = λ j. u.listed (skip k j); agree = λ i j. u.agree (skip k i) (skip k j) }
  unstored_removed w k false full u = record { listed = λ j. u.listed (skip k j); agree = λ i j. u.agree (skip k i) (skip k j) }

  unstored_joined : (w : World) (n : Newcomer) (full : Bool) → is_in_sync n.state ≡ false → IsUnstored w → IsUnstored (joined (risen g w full) n)
  unstored_joined w n full out u =
      let v = joined (risen g w full) n in
      let was : (j : ℕ) → IsInSync v j → (j ≢ w.members) × IsInSync w j = was_member (risen g w full) n out in
      let device : (j : ℕ) → IsInSync v j → v.stored j ≡ w.stored j = same_device (risen g w full) n out in
      let bad : (j s : ℕ) → IsInSync v j → v.bad j s ≡ w.bad j s = λ j s on. ap (λ (f : ℕ → Bool). f s) (put-miss w.members n.device.listed w.bad j (was j on).0) in
      record {
        listed = λ j s on off. ap (λ (d : Stored). d.listed s) (device j on) ∙ u.listed j s (was j on).1 (sym (bad j s on) ∙ off);
        agree = λ i j s a b at q off off'. ap (λ (d : Stored). d.content s) (device i a)
            ∙ u.agree i j s (was i a).1 (was j b).1 (sym (bad i s a) ∙ at) q (sym (ap (λ (d : Stored). d.listed s) (device i a)) ∙ off) (sym (ap (λ (d : Stored). d.listed s) (device j b)) ∙ off')
            ∙ sym (ap (λ (d : Stored). d.content s) (device j b));
      }

  -- the list of the new member is stored
  unstored_enrolled : (w : World) (k role : ℕ) (listed : ℕ → Bool) (full : Bool) → MayEnrol g w k role listed → IsUnstored w → IsUnstored (enrolled g w k role listed full)
  unstored_enrolled w k role listed full may u =
      let v = enrolled g w k role listed full in
      let was : (j : ℕ) → j ≢ k → IsInSync v j → IsInSync w j = was_in_sync g w k role listed full may in
      let bad_here : (j s : ℕ) → j ≡ k → v.bad j s ≡ listed s = λ j s here. ap (λ i. v.bad i s) here ∙ ap (λ (f : ℕ → Bool). f s) (put-hit k listed w.bad) in
      let bad_there : (j s : ℕ) → j ≢ k → v.bad j s ≡ w.bad j s = λ j s apart. ap (λ (f : ℕ → Bool). f s) (put-miss k listed w.bad j apart) in
      record {
        listed = λ j s on off. by_same j k
            (λ here. by_device g w k role listed full may j (λ (d : Stored). d.listed s ≡ false) on (λ _. sym (bad_here j s here) ∙ off)
            (λ old. absurd (true≢false (sym old ∙ ap (λ i. is_in_sync (w.state i)) here ∙ recovering_out (w.state k) may.recovering))))
            (λ apart. by_device g w k role listed full may j (λ (d : Stored). d.listed s ≡ false) on (λ here. absurd (apart here)) (λ old. u.listed j s old (sym (bad_there j s apart) ∙ off)));
        agree = λ i j s a b at q off off'. by_same i k
            (λ here. absurd (true≢false (sym at ∙ bad_here i s here ∙ by_device g w k role listed full may i (λ (d : Stored). d.listed s ≡ false → listed s ≡ false) a (λ _ e. e)
            (λ old. absurd (true≢false (sym old ∙ ap (λ x. is_in_sync (w.state x)) here ∙ recovering_out (w.state k) may.recovering))) off)))
            (λ apart. by_device g w k role listed full may i (λ (d : Stored). d.listed s ≡ false → d.content s ≡ (v.stored j).content s) a (λ here. absurd (apart here))
            (λ old clear. by_device g w k role listed full may j (λ (e : Stored). e.listed s ≡ false → (w.stored i).content s ≡ e.content s) b
            (λ _. may.agrees i s old clear) (λ old_j. u.agree i j s old old_j (sym (bad_there i s apart) ∙ at) q clear) off') off);
      }

  unstored_noted_bad : (w : World) (k : ℕ) (more : ℕ → Bool) → w.resynced ≡ true → IsTracked g w → IsUnstored w → IsUnstored (noted_bad g w k more)
  unstored_noted_bad w k more r t u = record {
    listed = λ j s on off. u.listed j s on (put-at k (λ y. w.bad k y || (nat_lt y g.size && more y)) w.bad j (λ (f : ℕ → Bool). f s ≡ false → w.bad j s ≡ false)
        (λ here e. ap (λ i. w.bad i s) here ∙ (or_parts (w.bad k s) (nat_lt s g.size && more s) e).0) (λ _ e. e) off);
    agree = λ i j s a b _ q. t.quiet r i j s a b q;
  }

  pub unstored_step : (w : World) (e : Event) (w' : World) → IsTracked g w → IsUnstored w → Happens g w e w' → IsUnstored w'
  unstored_step w (Event.Begin n p) w' t u s = subst IsUnstored (sym s.5) (unstored_begun w n p s.0 s.1 s.2 u)
  unstored_step w (Event.Record k) w' t u s = subst IsUnstored (sym s.3) (unstored_recorded w k s.0 s.1 u)
  unstored_step w (Event.StoreMarks k b) w' t u s = subst IsUnstored (sym s.1) (unstored_marks_stored w k b u)
  unstored_step w (Event.WriteMember n k) w' t u s = subst IsUnstored (sym s.2) (unstored_written w n s.0 k s.1 u)
  unstored_step w (Event.Finish n) w' t u s = subst IsUnstored (sym s.2) (unstored_finished w n s.0 t s.1 u)
  unstored_step w (Event.ClearIdle c) w' t u s = subst IsUnstored (sym s.1) (record { listed = u.listed; agree = u.agree })
  unstored_step w (Event.Fail k) w' t u s = unstored_fails w k (w.stored k) w' s.1 u
  unstored_step w (Event.WriteFails k part) w' t u s = unstored_fails w k s.0 w' s.2 u
  unstored_step w (Event.Copy from k x) w' t u s = subst IsUnstored (sym s.1) (unstored_copied w from k x s.0 u)
  unstored_step w Event.Resynced w' t u s = subst IsUnstored (sym s.1) (record { listed = u.listed; agree = u.agree })
  unstored_step w Event.Unresynced w' t u s = subst IsUnstored (sym s.1) (record { listed = u.listed; agree = u.agree })
  unstored_step w Event.MakeClean w' t u s = subst IsUnstored (sym s.3) (record { listed = u.listed; agree = u.agree })
  unstored_step w (Event.Remove k) w' t u s = subst IsUnstored (sym s.3) (unstored_removed w k (is_spare (w.state k)) s.0 u)
  unstored_step w (Event.Add d left) w' t u s = subst IsUnstored (sym s.4) (unstored_joined w (new_member d left) s.0 refl u)
  unstored_step w (Event.ReAdd own offset device left) w' t u s = subst IsUnstored (sym s.4) (unstored_joined w (former_member own offset left) s.0 refl u)
  unstored_step w (Event.LowerOffset k x) w' t u s = subst IsUnstored (sym s.1) (record { listed = u.listed; agree = u.agree })
  unstored_step w (Event.Fill k) w' t u s = unstored_target w k s.0 s.1.rebuild.target w' s.3 u
  unstored_step w (Event.Prepare k) w' t u s = unstored_target w k s.0 s.1.target w' s.3 u
  unstored_step w (Event.RecordTargetFails k) w' t u s = unstored_target w k s.0 s.1.0 w' s.1.2 u
  unstored_step w (Event.SpoilTarget k) w' t u s = unstored_target w k s.0 s.1.0 w' s.1.2 u
  unstored_step w (Event.Enrol k role listed) w' t u s = subst IsUnstored (sym s.3) (unstored_enrolled w k role listed s.0 s.1 u)
  unstored_step w (Event.Admit k role listed) w' t u s = subst IsUnstored (sym s.3)
      (unstored_same w (admitted g w k role listed s.0) (fewer_admitted g w k role listed s.0 (spare_target (w.state k) s.1.spare))
      (λ j x _. put-same-bad w k j x)
      (λ j x on. ap (λ (d : Stored). d.listed x) (put-miss k (taking_device (risen g w s.0) k (as_recovering w k role listed)) w.stored j (admitted_apart w k role listed s.0 j on))) u)
    where
      put-same-bad : (w : World) (k j x : ℕ) → put k (w.bad k) w.bad j x ≡ w.bad j x
      put-same-bad w k j x = put-at k (w.bad k) w.bad j (λ (f : ℕ → Bool). f x ≡ w.bad j x) (λ here. ap (λ i. w.bad i x) (sym here)) (λ _. refl)

      admitted_apart : (w : World) (k role : ℕ) (listed : ℕ → Bool) (full : Bool) (j : ℕ) → IsInSync (admitted g w k role listed full) j → j ≢ k
      admitted_apart w k role listed full j = put-at k State.Recovering w.state j (λ s. is_in_sync s ≡ true → j ≢ k) (λ _ on. absurd (true≢false (sym on))) (λ apart _. apart)
  unstored_step w (Event.Checkpoint k offset listed) w' t u s = subst IsUnstored (sym s.1)
      (unstored_same w (checkpointed w k offset listed) (fewer_checkpointed w k offset listed (recovering_target (w.state k) s.0.recovering)) (λ _ _ _. refl)
      (λ j x on. ap (λ (d : Stored). d.listed x) (put-miss k (recorded_device (with_offset w k offset) k listed) w.stored j (not_target w k (recovering_target (w.state k) s.0.recovering) j on))) u)
  unstored_step w (Event.NoteBad k more) w' t u s = subst IsUnstored (sym s.1) (unstored_noted_bad w k more s.0.resynced t u)
  unstored_step w (Event.StoreLog k listed) w' t u s = subst IsUnstored (sym s.2)
      (unstored_fewer w (log_stored w k listed) (fewer_log_stored w k listed s.1) (λ _ _ _. refl)
      (λ j x on off. put-at k (record (w.stored k) { listed = listed }) w.stored j (λ (d : Stored). d.listed x ≡ false)
      (λ here. s.1.kept x (ap (λ i. w.bad i x) (sym here) ∙ off)) (λ _. u.listed j x on off)) u)
