-- An opening misreads no member in sync whose superblock is stored as it is kept.
use Rattle.std.proofs.Common.{◌≡◌, ◌≢◌, ℕ, Bool, true, false, true≢false, ◌||◌, List, [], ◌∷◌, refl, sym, ap, ◌∙◌, subst}
use Rattle.md_model.specs.Sectors.{Geometry, put}
use Rattle.md_model.specs.Counts.{risen, risen_if}
use Rattle.md_model.specs.Devices.{Stored}
use Rattle.md_model.specs.Events.{Event, Happens}
use Rattle.md_model.specs.Listing.{log_stored}
use Rattle.md_model.specs.Membership.{Newcomer, former_member, is_spare, joined, new_member, removed, skip}
use Rattle.md_model.specs.Rebuilding.{Taking, as_in_sync, as_recovering, checkpointed, is_target, with_role_taken}
use Rattle.md_model.specs.Resyncing.{made_clean}
use Rattle.md_model.specs.Failures.{failed}
use Rattle.md_model.specs.States.{State, is_in_sync, is_recorded}
use Rattle.md_model.specs.States.State.{InSync, Recovering, Stale, Spare, Faulty}
use Rattle.md_model.specs.Steps.{begun, due_after, first_sector, lowered_on, recorded, says_of, with_device}
use Rattle.md_model.specs.Worlds.{IsInSync, World}
use Rattle.md_model.proofs.Puts.{by_same, put-at, put-hit, put-miss}
use Rattle.md_kept_members.specs.View.{MemberView}
use Rattle.md_state.specs.View.{ArrayView, MirrorView, geometry_of}
use Rattle.md_array.specs.ReadAsKept.{has_shift, misread_after}
use Rattle.md_array.specs.Worlds.{world_of}
use Rattle.md_array.proofs.StepLemmas.OneMember.{member_there}
use Rattle.md_array.proofs.Worlds.InSync.{in_sync_there}
use Rattle.md_laws.specs.Lives.{MirrorLife, ReadsRecorded}
use Rattle.md_laws.specs.Runs.{MirrorRun, Moment, opened_as, then_as}
use Rattle.md_laws.proofs.Runs.Rests.{history_rests, rests_does}

-- each member in sync that an opening may misread has its superblock due
abbrev pub Settled : (ℕ → Bool) → World → Type 0
Settled misread w = (j : ℕ) → IsInSync w j → w.due j ≡ false → misread j ≡ false

off_right : (x y : Bool) → (x || y) ≡ false → y ≡ false
off_right true y off = absurd (true≢false off)
off_right false y off = off

target_out : (s : State) → is_target s ≡ true → is_in_sync s ≡ true → ⊥
target_out InSync target on = absurd (true≢false (sym target))
target_out Recovering target on = absurd (true≢false (sym on))
target_out Stale target on = absurd (true≢false (sym on))
target_out Spare target on = absurd (true≢false (sym on))
target_out Faulty target on = absurd (true≢false (sym on))

-- ---- what becomes due when the count rises
module _ (g : Geometry) (w : World) where
  rise_state : (rises full : Bool) (j : ℕ) → (risen_if g w rises full).state j ≡ w.state j
  rise_state true full j = refl
  rise_state false full j = refl

  rise_due : (rises full : Bool) (j : ℕ) → (risen_if g w rises full).due j ≡ false → w.due j ≡ false
  rise_due true full j off = off_right (is_recorded (w.state j)) (w.due j) off
  rise_due false full j off = off

module _ (f : ℕ → Bool) (w : World) (t : Settled f w) where
  more_due : (u : World) → ((j : ℕ) → u.state j ≡ w.state j) → ((j : ℕ) → u.due j ≡ false → w.due j ≡ false) → Settled f u
  more_due u state due j on off = t j (sym (ap is_in_sync (state j)) ∙ on) (due j off)

  -- one of the others is as it was, or its superblock became due
  abbrev IsAsBefore : World → ℕ → Type 0
  IsAsBefore u k = (j : ℕ) → j ≢ k → (u.state j ≡ w.state j) × (u.due j ≡ false → w.due j ≡ false)

  but_one : (k : ℕ) (b : Bool) (u : World) → IsAsBefore u k → (IsInSync u k → u.due k ≡ false → b ≡ false) → Settled (put k b f) u
  but_one k b u others this j on off = put-at k b f j (λ (x : Bool). x ≡ false)
      (λ here. this (subst (λ (i : ℕ). IsInSync u i) here on) (subst (λ (i : ℕ). u.due i ≡ false) here off))
      (λ apart. let x = others j apart in t j (sym (ap is_in_sync x.0) ∙ on) (x.1 off))

  but_out : (k : ℕ) (u : World) → IsAsBefore u k → is_in_sync (u.state k) ≡ false → Settled f u
  but_out k u others out j on off = by_same j k
      (λ here. absurd (true≢false (sym (subst (λ (i : ℕ). IsInSync u i) here on) ∙ out)))
      (λ apart. let x = others j apart in t j (sym (ap is_in_sync x.0) ∙ on) (x.1 off))

  -- another superblock of it is stored, and the count may have risen
  put_others : (k : ℕ) (state : State) (due : ℕ → Bool) (u : World) → u.state ≡ put k state w.state → u.due ≡ put k false due → ((j : ℕ) → due j ≡ false → w.due j ≡ false) → IsAsBefore u k
  put_others k state due u states dues less j apart = (
    ap (λ (x : ℕ → State). x j) states ∙ put-miss k state w.state j apart,
    λ off. less j (sym (ap (λ (x : ℕ → Bool). x j) dues ∙ put-miss k false due j apart) ∙ off),
  )

  when_failed : (g : Geometry) (k : ℕ) (left : Stored) (full : Bool) → Settled f (failed g (with_device w k left) k full)
  when_failed g k left full =
      let u : World = failed g (with_device w k left) k full in
      but_out k u (put_others k Faulty (risen g (with_device w k left) full).due u refl refl (λ j off. off_right (is_recorded (w.state j)) (w.due j) off)) (ap is_in_sync (put-hit k Faulty w.state))

  when_removed : (g : Geometry) (k : ℕ) (spare full : Bool) → Settled (λ j. f (skip k j)) (removed g w k spare full)
  when_removed g k true full j on off = t (skip k j) on (off_right (is_recorded (w.state (skip k j))) (w.due (skip k j)) off)
  when_removed g k false full j on off = t (skip k j) on off

  when_joined : (g : Geometry) (full : Bool) (n : Newcomer) → Settled (put w.members false f) (joined (risen g w full) n)
  when_joined g full n =
      let u : World = joined (risen g w full) n in
      but_one w.members false u (put_others w.members n.state (risen g w full).due u refl refl (λ j off. off_right (is_recorded (w.state j)) (w.due j) off)) (λ _ _. refl)

  when_taking : (g : Geometry) (full : Bool) (k : ℕ) (x : Taking) → Settled (put k false f) (with_role_taken (risen g w full) k x)
  when_taking g full k x =
      let u : World = with_role_taken (risen g w full) k x in
      but_one k false u (put_others k x.state (risen g w full).due u refl refl (λ j off. off_right (is_recorded (w.state j)) (w.due j) off)) (λ _ _. refl)

  -- its superblock is stored
  when_stored : (k : ℕ) (u : World) → u.state ≡ w.state → u.due ≡ put k false w.due → Settled (put k false f) u
  when_stored k u states dues = but_one k false u
      (λ j apart. (ap (λ (x : ℕ → State). x j) states, λ off. sym (ap (λ (x : ℕ → Bool). x j) dues ∙ put-miss k false w.due j apart) ∙ off)) (λ _ _. refl)

settled_step : (g : Geometry) (a : ArrayView) (w : World) (f : ℕ → Bool) → Settled f w → (e : Event) (w' : World) → Happens g w e w' → Settled (misread_after e a w f) w'
settled_step g a w f t (Event.Begin n p) w' h = subst (Settled f) (sym h.5)
    (more_due f w t (begun g w n p h.0 h.1) (rise_state g w h.0 h.1)
    (λ j off. rise_due g w h.0 h.1 j (off_right (says_of (risen_if g w h.0 h.1) (first_sector g p) j) ((risen_if g w h.0 h.1).due j) off)))
settled_step g a w f t (Event.Record k) w' h = subst (Settled (put k false f)) (sym h.3) (when_stored f w t k (recorded w k h.0) refl refl)
settled_step g a w f t (Event.StoreMarks k b) w' h = subst (Settled f) (sym h.1) t
settled_step g a w f t (Event.WriteMember n k) w' h = subst (Settled f) (sym h.2) t
settled_step g a w f t (Event.Finish n) w' h = subst (Settled f) (sym h.2) t
settled_step g a w f t (Event.ClearIdle c) w' h = subst (Settled f) (sym h.1) t
settled_step g a w f t (Event.Fail k) w' h = subst (Settled f) (sym h.1.3) (when_failed f w t g k (w.stored k) h.1.0)
settled_step g a w f t (Event.WriteFails k part) w' h = subst (Settled f) (sym h.2.3) (when_failed f w t g k h.0 h.2.0)
settled_step g a w f t (Event.Copy from k x) w' h = subst (Settled f) (sym h.1) t
settled_step g a w f t Event.Resynced w' h = subst (Settled f) (sym h.1) t
settled_step g a w f t Event.Unresynced w' h = subst (Settled f) (sym h.1) t
settled_step g a w f t Event.MakeClean w' h = subst (Settled f) (sym h.3)
    (more_due f w t (made_clean g w h.0) (λ _. refl) (λ j off. off_right (is_recorded (w.state j)) (w.due j) off))
settled_step g a w f t (Event.Remove k) w' h = subst (Settled (λ j. f (skip k j))) (sym h.3) (when_removed f w t g k (is_spare (w.state k)) h.0)
settled_step g a w f t (Event.Add d left) w' h = subst (Settled (put w.members false f)) (sym h.4) (when_joined f w t g h.0 (new_member d left))
settled_step g a w f t (Event.ReAdd own offset device left) w' h = subst (Settled (put w.members false f)) (sym h.4) (when_joined f w t g h.0 (former_member own offset left))
settled_step g a w f t (Event.LowerOffset k s) w' h = subst (Settled f) (sym h.1)
    (more_due f w t (lowered_on w k s) (λ _. refl)
    (λ j. put-at k (due_after w s k) w.due j (λ (b : Bool). b ≡ false → w.due j ≡ false)
    (λ here off. subst (λ (i : ℕ). w.due i ≡ false) (sym here) (off_right (says_of w s k) (w.due k) off)) (λ _ off. off)))
settled_step g a w f t (Event.Fill k) w' h = subst (Settled f) (sym h.3) t
settled_step g a w f t (Event.Prepare k) w' h = subst (Settled f) (sym h.3) t
settled_step g a w f t (Event.RecordTargetFails k) w' h = subst (Settled f) (sym h.1.2) t
settled_step g a w f t (Event.SpoilTarget k) w' h = subst (Settled (put k true f)) (sym h.1.2)
    (but_one f w t k true (with_device w k h.0) (λ j apart. (refl, λ off. off)) (λ on off. absurd (target_out (w.state k) h.1.0 on)))
settled_step g a w f t (Event.Enrol k role listed) w' h = subst (Settled (put k false f)) (sym h.3) (when_taking f w t g h.0 k (as_in_sync (risen g w h.0) role listed))
settled_step g a w f t (Event.Admit k role listed) w' h = subst (Settled (put k false f)) (sym h.3) (when_taking f w t g h.0 k (as_recovering w k role listed))
settled_step g a w f t (Event.Checkpoint k sure listed) w' h = subst (Settled (put k false f)) (sym h.1) (when_stored f w t k (checkpointed w k sure listed) refl refl)
settled_step g a w f t (Event.NoteBad k more) w' h = subst (Settled f) (sym h.1) t
settled_step g a w f t (Event.StoreLog k listed) w' h = subst (Settled (put k (has_shift a k || f k) f)) (sym h.2)
    (but_one f w t k (has_shift a k || f k) (log_stored w k listed) (λ j apart. (refl, λ off. sym (put-miss k true w.due j apart) ∙ off))
    (λ on off. absurd (true≢false (sym (put-hit k true w.due) ∙ off))))

-- ---- over lives
settled_run : (es : List Event) (t last : Moment) → MirrorRun t es last → Settled t.misread (world_of t.mirror t.requests) → Settled last.misread (world_of last.mirror last.requests)
settled_run [] t last r kept =
    subst (λ (x : Moment). Settled x.misread (world_of last.mirror last.requests)) (sym r.is) (subst (Settled t.misread) (sym (ap (λ h. h.now) (history_rests t last r))) kept)
settled_run (e ∷ es) t last r kept =
    settled_run es (then_as t e r.0 r.1) last r.3
    (settled_step (geometry_of t.mirror.array) t.mirror.array (world_of t.mirror t.requests) t.misread kept e (world_of r.0 r.1) (rests_does t.mirror r.0 t.requests r.1 e r.2).step.1)

settled_life : (m : MirrorView) (es : List Event) (rest : List (List Event)) (final : MirrorView) (last : Moment) → MirrorLife m es rest final last → Settled last.misread (world_of last.mirror last.requests)
settled_life m es [] final last life = settled_run es (opened_as m) last life.1 (λ _ _ _. refl)
settled_life m es (more ∷ rest) final last life = settled_life life.1 more rest final last life.4

pub reads_recorded : ReadsRecorded
reads_recorded before m start es rest final last life k n on off =
    settled_life m es rest final last life k (in_sync_there last.mirror.disks last.mirror.array last.requests k n on)
    (member_there last.mirror.array k n false (λ (x : MemberView). x.due) on.member ∙ off)
