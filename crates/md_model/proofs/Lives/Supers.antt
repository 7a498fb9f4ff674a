-- What holds of each superblock that is stored holds at every moment, if it holds of each one that is written; but for spoiled ones.
use Rattle.std.proofs.Common.{◌≡◌, ℕ, ◌⊎◌, Bool, true, false, cond, ⊎_elim, sym, ap, ◌∙◌, subst, List, [], ◌∷◌}
use Rattle.std.specs.Prelude.{Some, None}
use Rattle.md_model.specs.Sectors.{Geometry, put}
use Rattle.md_model.specs.States.{is_recorded}
use Rattle.md_model.specs.Devices.{Super, Stored}
use Rattle.md_model.specs.Worlds.{World}
use Rattle.md_model.specs.Steps.{super_for, recorded_device, marked_device, written_device, begun}
use Rattle.md_model.specs.Resyncing.{copied_device}
use Rattle.md_model.specs.Events.{Event, Fails, Happens}
use Rattle.md_model.specs.Openings.{IsWithinLimits}
use Rattle.md_model.specs.Runs.{History, spoiled_after, then_in, Run}
use Rattle.md_model.specs.Counts.{risen}
use Rattle.md_model.specs.Membership.{is_spare, joined_super, removed, skip}
use Rattle.md_model.specs.Rebuilding.{as_recovering, enrolled_device, taking_device, with_offset}
use Rattle.md_model.proofs.Cases.{some-injective, none_some}
use Rattle.md_model.proofs.Puts.{by_same, put-at, put-hit, put-miss}
use Rattle.md_model.proofs.Steps.Rebuilding.{recovering_target, target_recorded}
use Rattle.md_model.proofs.Steps.FailedWrites.{super_left}
use Rattle.md_model.proofs.Steps.Keeps.{IsKept, kept_step}
use Rattle.md_model.proofs.Steps.Seen.{anew, hidden, seen, unhidden}

-- of those that are not spoiled
abbrev pub OfAll : (Super → Type 0) → (ℕ → Bool) → World → Type 0
OfAll Q spoiled w = (k : ℕ) (own : Super) → cond (spoiled k) None (w.stored k).super ≡ Some own → Q own

module _ (g : Geometry) (small : IsWithinLimits g) (opened : Super) (Q : Super → Type 0)
    (new : (h : History) → IsKept g opened h → (k : ℕ) → is_recorded (h.now.state k) ≡ true → Q (super_for h.now k))
    (moved : (h : History) → IsKept g opened h → (k offset : ℕ) → is_recorded (h.now.state k) ≡ true → Q (record (super_for h.now k) { offset = offset }))
    (came : (h : History) → IsKept g opened h → (d role : ℕ) (recovering full : Bool) (offset : ℕ) → Q (joined_super (risen g h.now full) d role recovering offset)) where
  module _ (h : History) (t : IsKept g opened h) (all : OfAll Q h.spoiled h.now) where
    abbrev w : World
    w = h.now

    abbrev Still : World → Type 0
    Still u = OfAll Q h.spoiled u

    -- the device of one member changes
    put_all : (k : ℕ) (left : Stored) → ((own : Super) → cond (h.spoiled k) None left.super ≡ Some own → Q own)
        → (j : ℕ) (own : Super) → cond (h.spoiled j) None (put k left w.stored j).super ≡ Some own → Q own
    put_all k left this j own = put-at k left w.stored j (λ (x : Stored). cond (h.spoiled j) None x.super ≡ Some own → Q own)
        (λ here e. this own (ap (λ i. cond (h.spoiled i) None left.super) (sym here) ∙ e)) (λ _ e. all j own e)

    -- and is spoiled from then on, or is no longer
    put_anew : (k : ℕ) (left : Stored) (b : Bool) → ((own : Super) → cond b None left.super ≡ Some own → Q own)
        → (j : ℕ) (own : Super) → cond (put k b h.spoiled j) None (put k left w.stored j).super ≡ Some own → Q own
    put_anew k left b this j own e = by_same j k
        (λ here. this own (sym (anew h.spoiled w k left b j ∙ ap (λ i. (put k (hidden b left) (seen h.spoiled w).stored i).super) here ∙ ap (λ (d : Stored). d.super) (put-hit k (hidden b left) (seen h.spoiled w).stored)) ∙ e))
        (λ there. all j own (sym (anew h.spoiled w k left b j ∙ ap (λ (d : Stored). d.super) (put-miss k (hidden b left) (seen h.spoiled w).stored j there)) ∙ e))

    fails_all : (k : ℕ) (left : Stored) (w' : World) → Fails g w k left w' → ((own : Super) → cond (h.spoiled k) None left.super ≡ Some own → Q own) → Still w'
    fails_all k left w' f this = subst Still (sym f.3) (put_all k left this)

    -- the device has the superblock that it had
    same_all : (k : ℕ) (left : Stored) → left.super ≡ (w.stored k).super → (own : Super) → cond (h.spoiled k) None left.super ≡ Some own → Q own
    same_all k left same own e = all k own (ap (cond (h.spoiled k) None) (sym same) ∙ e)

    by_left : (k : ℕ) (left : Stored) → is_recorded (w.state k) ≡ true → (left.super ≡ (w.stored k).super) ⊎ ((left.super ≡ Some (super_for w k)) ⊎ (left.super ≡ None)) → (own : Super) → cond (h.spoiled k) None left.super ≡ Some own → Q own
    by_left k left on l own e = ⊎_elim
        (λ (same : left.super ≡ (w.stored k).super). same_all k left same own e)
        (λ (x : (left.super ≡ Some (super_for w k)) ⊎ (left.super ≡ None)). ⊎_elim
        (λ (is : left.super ≡ Some (super_for w k)). subst Q (some-injective (super_for w k) own (sym is ∙ unhidden (h.spoiled k) left.super own e)) (new h t k on))
        (λ (gone : left.super ≡ None). absurd (none_some own (sym gone ∙ unhidden (h.spoiled k) left.super own e)))
        x)
        l

    pub all_step : (e : Event) (w' : World) → Happens g w e w' → OfAll Q (spoiled_after e w h.spoiled) w'
    all_step (Event.Begin n p) w' s = subst Still (sym s.5) (begun_all s.0)
      where
        begun_all : (rises : Bool) → Still (begun g w n p rises s.1)
        begun_all true = all
        begun_all false = all
    all_step (Event.Record k) w' s = subst (OfAll Q (put k false h.spoiled)) (sym s.3)
        (put_anew k (recorded_device w k s.0) false (λ own e. subst Q (some-injective (super_for w k) own e) (new h t k s.2)))
    all_step (Event.StoreMarks k b) w' s = subst Still (sym s.1) (put_all k (marked_device w k b) (all k))
    all_step (Event.WriteMember n k) w' s = subst Still (sym s.2) (put_all k (written_device w k s.0) (all k))
    all_step (Event.Finish n) w' s = subst Still (sym s.2) all
    all_step (Event.ClearIdle c) w' s = subst Still (sym s.1) all
    all_step (Event.Fail k) w' s = fails_all k (w.stored k) w' s.1 (all k)
    all_step (Event.WriteFails k part) w' s = fails_all k s.0 w' s.2 (by_left k s.0 s.2.1.in_use (super_left g w k part s.0 s.1))
    all_step (Event.Copy from k x) w' s = subst Still (sym s.1) (put_all k (copied_device w from k x) (all k))
    all_step Event.Resynced w' s = subst Still (sym s.1) all
    all_step Event.Unresynced w' s = subst Still (sym s.1) all
    all_step Event.MakeClean w' s = subst Still (sym s.3) all
    all_step (Event.Remove k) w' s = subst (OfAll Q (λ j. h.spoiled (skip k j))) (sym s.3) (removed_all (is_spare (w.state k)))
      where
        removed_all : (spare : Bool) → OfAll Q (λ j. h.spoiled (skip k j)) (removed g w k spare s.0)
        removed_all true j = all (skip k j)
        removed_all false j = all (skip k j)
    all_step (Event.Add d left) w' s = subst (OfAll Q (put w.members false h.spoiled)) (sym s.4)
        (put_anew w.members left false (λ own e. subst Q (some-injective (joined_super (risen g w s.0) d 65535 false 0) own (sym s.2.super ∙ e)) (came h t d 65535 false s.0 0)))
    all_step (Event.ReAdd own offset device left) w' s = subst (OfAll Q (put w.members false h.spoiled)) (sym s.4)
        (put_anew w.members left false (λ it e. subst Q
        (some-injective (joined_super (risen g w s.0) own.number (own.role own.number) true s.2.sure_offset) it (sym (ap (λ (x : Stored). x.super) s.2.rest) ∙ e)) (came h t own.number (own.role own.number) true s.0 s.2.sure_offset)))
    all_step (Event.LowerOffset k x) w' s = subst Still (sym s.1) all
    all_step (Event.Fill k) w' s = subst Still (sym s.3) (put_all k s.0 (same_all k s.0 (ap (λ (d : Stored). d.super) s.2.rest)))
    all_step (Event.Prepare k) w' s = subst Still (sym s.3) (put_all k s.0 (same_all k s.0 (ap (λ (d : Stored). d.super) s.2.rest)))
    all_step (Event.RecordTargetFails k) w' s = subst Still (sym s.1.2) (put_all k s.0 (by_left k s.0 (target_recorded (w.state k) s.1.0) s.1.1.super))
    all_step (Event.SpoilTarget k) w' s = subst (OfAll Q (put k true h.spoiled)) (sym s.1.2) (put_anew k s.0 true (λ own e. absurd (none_some own e)))
    all_step (Event.Enrol k role listed) w' s = subst (OfAll Q (put k false h.spoiled)) (sym s.3)
        (put_anew k (enrolled_device (risen g w s.0) k role listed) false (λ own e. subst Q
        (some-injective (joined_super (risen g w s.0) (w.number k) role false 0) own e) (came h t (w.number k) role false s.0 0)))
    all_step (Event.Admit k role listed) w' s = subst (OfAll Q (put k false h.spoiled)) (sym s.3)
        (put_anew k (taking_device (risen g w s.0) k (as_recovering w k role listed)) false (λ own e. subst Q
        (some-injective (joined_super (risen g w s.0) (w.number k) role true 0) own e) (came h t (w.number k) role true s.0 0)))
    all_step (Event.Checkpoint k sure listed) w' s = subst (OfAll Q (put k false h.spoiled)) (sym s.1)
        (put_anew k (recorded_device (with_offset w k sure) k listed) false (λ own e. subst Q
        (some-injective (super_for (with_offset w k sure) k) own e) (moved h t k (put k sure w.sure_offset k) (target_recorded (w.state k) (recovering_target (w.state k) s.0.recovering)))))
    all_step (Event.NoteBad k more) w' s = subst Still (sym s.1) all
    all_step (Event.StoreLog k listed) w' s = subst Still (sym s.2) (put_all k (record (w.stored k) { listed = listed }) (all k))

  pub all_run : (es : List Event) (h last : History) → IsKept g opened h → OfAll Q h.spoiled h.now → Run g h es last → OfAll Q last.spoiled last.now
  all_run [] h last t all r = subst (λ (x : History). OfAll Q x.spoiled x.now) (sym r) all
  all_run (e ∷ es) h last t all r = all_run es (then_in h e r.0) last (kept_step g small opened h e r.0 t r.1) (all_step h t all e r.0 r.1.1) r.2
