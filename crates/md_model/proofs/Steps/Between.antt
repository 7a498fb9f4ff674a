-- Every event keeps what the members in sync hold between the steps.
use Rattle.std.proofs.Common.{◌≡◌, ℕ, Bool, true, false, cond, inl, inr, ⊎_elim, refl, sym, ap, ◌∙◌, subst, true≢false, List}
use Rattle.std.specs.Prelude.{Some, None}
use Rattle.md_model.specs.Sectors.{Geometry, chunk_of, put}
use Rattle.md_model.specs.Devices.{Stored}
use Rattle.md_model.specs.Worlds.{Request, touches, World, IsInSync}
use Rattle.md_model.specs.Counts.{risen}
use Rattle.md_model.specs.Steps.{entered, begun, due_after, first_sector, lowered, lowered_on, sure_after, with_device, recorded, marks_stored, member_written, finished, unmarked, MayBegin, MayWrite, MayFinish, MayClear}
use Rattle.md_model.specs.Failures.{failed}
use Rattle.md_model.specs.Resyncing.{copied, made_resynced, made_clean, MayCopy}
use Rattle.md_model.specs.Events.{Event, Fails, Happens}
use Rattle.md_model.specs.Content.{Content, with_request, IsResyncedContent, IsKeptByEnrolling, Becomes, HoldsBetween, HoldsInFlight, KeepsBetween, KeepsInFlight, BeginsBetween}
use Rattle.md_model.proofs.Cases.{by_test, none_some}
use Rattle.md_model.proofs.Puts.{by_same, put-miss}
use Rattle.md_model.proofs.Steps.Tracked.{IsFewer, in_flight_fewer}
use Rattle.md_model.proofs.Steps.TrackedSteps.{fewer_recorded, fewer_failed, fewer_lowered, quiet_but, content_marked, listed_marked, content_written, listed_written, quiet_written, in_flight_risen, in_flight_entered, in_flight_finished, in_flight_unmarked, in_flight_marks_stored, in_flight_written}
use Rattle.md_model.proofs.Steps.TrackedCalls.{content_copied, content_at_copy, listed_copied, in_flight_copied, in_flight_resynced, in_flight_made_clean}
use Rattle.md_model.specs.States.{is_in_sync}
use Rattle.md_model.specs.Membership.{former_member, is_spare, joined, new_member, removed, skip, Newcomer}
use Rattle.md_model.specs.Rebuilding.{is_target, admitted, checkpointed, enrolled, MayEnrol}
use Rattle.md_model.specs.Listing.{log_stored, noted_bad}
use Rattle.md_model.proofs.Steps.Membership.{in_flight_joined, in_flight_removed, same_device, was_member}
use Rattle.md_model.proofs.Steps.Rebuilding.{by_device, fewer_admitted, fewer_checkpointed, fewer_log_stored, fewer_noted_bad, fewer_target, in_flight_enrolled, recovering_target, spare_target}
use Rattle.md_model.proofs.Steps.Keeps.{before_entry, begin_after}
use Rattle.md_model.proofs.Lives.Opened.{in_flight_opened}

-- the content after a request's end
module _ (w : World) (n : ℕ) (p : Request) (a : Content) (s : ℕ) (e : w.request n ≡ Some p) where
  ended : with_request (w.request n) a s ≡ cond (touches p s) (p.bytes s) (a s)
  ended = ap (λ x. with_request x a s) e

  ended_at : touches p s ≡ true → p.bytes s ≡ with_request (w.request n) a s
  ended_at at = sym (ap (λ b. cond b (p.bytes s) (a s)) at) ∙ sym ended

  pub ended_away : touches p s ≡ false → a s ≡ with_request (w.request n) a s
  ended_away away = sym (ap (λ b. cond b (p.bytes s) (a s)) away) ∙ sym ended

-- a copy gives what the source has
pub at_copy : (g : Geometry) (a : Content) (w : World) (from k s : ℕ) → MayCopy g w from k s → (j x : ℕ) → IsInSync w j
    → ((copied w from k s).stored j).listed x ≡ false
    → ((y : ℕ) → IsInSync w y → (w.stored y).listed x ≡ false → (w.stored y).content x ≡ a x) → ((copied w from k s).stored j).content x ≡ a x
at_copy g a w from k s may j x on clear all = by_same x s
    (λ at. subst (λ v. ((copied w from k s).stored j).content v ≡ a v) (sym at)
    (content_at_copy g w from k s j (λ (c : List ℕ). c ≡ a s)
    (subst (λ v. (w.stored from).content v ≡ a v) at (all from may.source (ap (w.stored from).listed at ∙ may.unlisted)))
    (subst (λ v. (w.stored j).content v ≡ a v) at (all j on (sym (listed_copied g w from k s j x) ∙ clear)))))
    (λ away. content_copied g w from k s j x away ∙ all j on (sym (listed_copied g w from k s j x) ∙ clear))

module _ (g : Geometry) (a : Content) where
  between_fewer : (w w' : World) → IsFewer w w' → HoldsBetween g a w → HoldsBetween g a w'
  between_fewer w w' f t = record {
    at_rest = λ k s low on clear q when. f.content k s on ∙ t.at_rest k s low (f.in_sync k on) (f.listed k s on clear) (λ n p e. q n p (ap (λ h. h n) f.request ∙ e))
        (⊎_elim (λ (r : w'.resynced ≡ true). inl (sym f.resynced ∙ r)) (λ (m : w'.marks (chunk_of g s) ≡ false). inr (sym (ap (λ h. h (chunk_of g s)) f.marks) ∙ m)) when);
    in_flight = in_flight_fewer w w' f t.in_flight;
  }

  between_fails : (w : World) (k : ℕ) (left : Stored) (w' : World) → Fails g w k left w' → HoldsBetween g a w → HoldsBetween g a w'
  between_fails w k left w' f t = subst (HoldsBetween g a) (sym f.3) (between_fewer w (failed g (with_device w k left) k f.0) (fewer_failed g w k left f.0) t)

  between_entered : (w : World) (n : ℕ) (p : Request) → MayBegin g w n p → HoldsBetween g a w → HoldsBetween g a (entered g w n p)
  between_entered w n p may t = record {
    at_rest = λ k s low on clear q _. t.at_rest k s low on clear
        (λ m o e. q m o (put-miss n (Some p) w.request m (λ same. none_some o (sym may.new ∙ sym (ap w.request same) ∙ e)) ∙ e)) (inl may.resynced);
    in_flight = in_flight_entered g w n p may t.in_flight;
  }

  between_lowered : (w : World) (s : ℕ) → HoldsBetween g a w → HoldsBetween g a (lowered w s)
  between_lowered w s t = between_fewer w (lowered w s) (fewer_lowered w (sure_after w s) (due_after w s)) t

  between_begun : (w : World) (n : ℕ) (p : Request) (rises full : Bool) → MayBegin g w n p → HoldsBetween g a w → HoldsBetween g a (begun g w n p rises full)
  between_begun w n p true full may t =
      between_entered (before_entry g w p true full) n p (begin_after g w n p true full may)
      (between_lowered (risen g w full) (first_sector g p) (record { at_rest = t.at_rest; in_flight = in_flight_risen g w full t.in_flight }))
  between_begun w n p false full may t = between_entered (before_entry g w p false full) n p (begin_after g w n p false full may) (between_lowered w (first_sector g p) t)

  between_marks_stored : (w : World) (k b : ℕ) → HoldsBetween g a w → HoldsBetween g a (marks_stored w k b)
  between_marks_stored w k b t = record {
    at_rest = λ j s low on clear q when. content_marked g w k b j s ∙ t.at_rest j s low on (sym (listed_marked g w k b j s) ∙ clear) q when;
    in_flight = in_flight_marks_stored g w k b t.in_flight;
  }

  between_written : (w : World) (n : ℕ) (p : Request) (k : ℕ) → MayWrite g w n p k → HoldsBetween g a w → HoldsBetween g a (member_written w n p k)
  between_written w n p k may t = record {
    at_rest = λ j s low on clear q when. let x = quiet_written g w n p k may s q in
        content_written g w n p k may j s x.0 ∙ t.at_rest j s low on (sym (listed_written g w n p k may j s) ∙ clear) x.1 when;
    in_flight = in_flight_written g w n p k may t.in_flight;
  }

  between_finished : (w : World) (n : ℕ) (p : Request) → MayFinish w n p → HoldsBetween g a w → HoldsBetween g (with_request (w.request n) a) (finished w n)
  between_finished w n p may t = record {
    at_rest = λ k s low on clear q when. by_test (touches p s)
        (λ at. t.in_flight.written n p k s may.in_flight on (may.written k on) at ∙ ended_at w n p a s may.in_flight at)
        (λ away. t.at_rest k s low on clear (quiet_but g w n p s may.in_flight away (λ m o apart e. q m o (put-miss n None w.request m apart ∙ e))) when
        ∙ ended_away w n p a s may.in_flight away);
    in_flight = in_flight_finished g w n p t.in_flight;
  }

  between_unmarked : (w : World) (c : ℕ) → MayClear g w c → HoldsBetween g a w → HoldsBetween g a (unmarked w c)
  between_unmarked w c may t = record {
    at_rest = λ k s low on clear q _. t.at_rest k s low on clear q (inl may.resynced);
    in_flight = in_flight_unmarked w c t.in_flight;
  }

  between_copied : (w : World) (from k s : ℕ) → MayCopy g w from k s → HoldsBetween g a w → HoldsBetween g a (copied w from k s)
  between_copied w from k s may t = record {
    at_rest = λ j x low on clear q when. at_copy g a w from k s may j x on clear (λ y in_ c. t.at_rest y x low in_ c q when);
    in_flight = in_flight_copied g w from k s may t.in_flight;
  }

  between_resynced : (w : World) (b : Content) → IsResyncedContent g w a b → HoldsBetween g a w → HoldsBetween g b (made_resynced w true)
  between_resynced w b c t = record { at_rest = λ k s low on clear _ _. c.held k s low on clear; in_flight = in_flight_resynced w true t.in_flight }

  between_unresynced : (w : World) → HoldsBetween g a w → HoldsBetween g a (made_resynced w false)
  between_unresynced w t = record {
    at_rest = λ k s low on clear q when. t.at_rest k s low on clear q
        (⊎_elim (λ (r : false ≡ true). absurd (true≢false (sym r))) (λ (m : w.marks (chunk_of g s) ≡ false). inr m) when);
    in_flight = in_flight_resynced w false t.in_flight;
  }

  between_made_clean : (w : World) (full : Bool) → HoldsBetween g a w → HoldsBetween g a (made_clean g w full)
  between_made_clean w full t = record { at_rest = t.at_rest; in_flight = in_flight_made_clean g w full t.in_flight }

  between_risen : (w : World) (full : Bool) → HoldsBetween g a w → HoldsBetween g a (risen g w full)
  between_risen w full t = record { at_rest = t.at_rest; in_flight = in_flight_risen g w full t.in_flight }

  between_removed : (w : World) (k : ℕ) (spare full : Bool) → HoldsBetween g a w → HoldsBetween g a (removed g w k spare full)
  between_removed w k true full t = record { at_rest = λ j s low on. t.at_rest (skip k j) s low on; in_flight = in_flight_removed g w k true full t.in_flight }
  between_removed w k false full t = record { at_rest = λ j s low on. t.at_rest (skip k j) s low on; in_flight = in_flight_removed g w k false full t.in_flight }

  between_joined : (w : World) (n : Newcomer) → is_in_sync n.state ≡ false → HoldsBetween g a w → HoldsBetween g a (joined w n)
  between_joined w n out t = record {
    at_rest = λ j s low on clear q when.
        let same = same_device w n out j on in
        ap (λ (d : Stored). d.content s) same ∙ t.at_rest j s low (was_member w n out j on).1 (sym (ap (λ (d : Stored). d.listed s) same) ∙ clear) q when;
    in_flight = in_flight_joined w n out t.in_flight;
  }

  between_target : (w : World) (k : ℕ) (left : Stored) → is_target (w.state k) ≡ true → (w' : World) → w' ≡ with_device w k left → HoldsBetween g a w → HoldsBetween g a w'
  between_target w k left out w' is t = subst (HoldsBetween g a) (sym is) (between_fewer w (with_device w k left) (fewer_target w k left out) t)

  between_enrolled : (w : World) (k role : ℕ) (listed : ℕ → Bool) (full : Bool) (b : Content) → MayEnrol g w k role listed → IsKeptByEnrolling g w k listed a b
      → HoldsBetween g a w → HoldsBetween g a (enrolled g w k role listed full)
  between_enrolled w k role listed full b may c t = record {
    at_rest = λ j s low on clear q when. by_device g w k role listed full may j (λ (d : Stored). d.listed s ≡ false → d.content s ≡ a s) on
        (λ _. c.held s low) (λ was off. t.at_rest j s low was off q when) clear;
    in_flight = in_flight_enrolled g w k role listed full may t.in_flight;
  }

  -- the content goes along with each event
  same : (b : Content) (w : World) → b ≡ a → HoldsBetween g a w → HoldsBetween g b w
  same b w e = subst (λ c. HoldsBetween g c w) (sym e)

  between : (b : Content) (w : World) (e : Event) (w' : World) → Happens g w e w' → Becomes g e w a b → HoldsBetween g a w → HoldsBetween g b w'
  between b w (Event.Begin n p) w' s c t = same b w' c (subst (HoldsBetween g a) (sym s.5) (between_begun w n p s.0 s.1 s.2 t))
  between b w (Event.Record k) w' s c t = same b w' c (subst (HoldsBetween g a) (sym s.3) (between_fewer w (recorded w k s.0) (fewer_recorded w k s.0 s.1) t))
  between b w (Event.StoreMarks k x) w' s c t = same b w' c (subst (HoldsBetween g a) (sym s.1) (between_marks_stored w k x t))
  between b w (Event.WriteMember n k) w' s c t = same b w' c (subst (HoldsBetween g a) (sym s.2) (between_written w n s.0 k s.1 t))
  between b w (Event.Finish n) w' s c t = subst (λ x. HoldsBetween g x w') (sym c) (subst (HoldsBetween g (with_request (w.request n) a)) (sym s.2) (between_finished w n s.0 s.1 t))
  between b w (Event.ClearIdle x) w' s c t = same b w' c (subst (HoldsBetween g a) (sym s.1) (between_unmarked w x s.0 t))
  between b w (Event.Fail k) w' s c t = same b w' c (between_fails w k (w.stored k) w' s.1 t)
  between b w (Event.WriteFails k part) w' s c t = same b w' c (between_fails w k s.0 w' s.2 t)
  between b w (Event.Copy from k x) w' s c t = same b w' c (subst (HoldsBetween g a) (sym s.1) (between_copied w from k x s.0 t))
  between b w Event.Resynced w' s c t = subst (HoldsBetween g b) (sym s.1) (between_resynced w b c t)
  between b w Event.Unresynced w' s c t = same b w' c (subst (HoldsBetween g a) (sym s.1) (between_unresynced w t))
  between b w (Event.Remove k) w' s c t = same b w' c (subst (HoldsBetween g a) (sym s.3) (between_removed w k (is_spare (w.state k)) s.0 t))
  between b w (Event.Add d left) w' s c t = same b w' c (subst (HoldsBetween g a) (sym s.4)
      (between_joined (risen g w s.0) (new_member d left) refl (between_risen w s.0 t)))
  between b w (Event.ReAdd own offset device left) w' s c t = same b w' c (subst (HoldsBetween g a) (sym s.4)
      (between_joined (risen g w s.0) (former_member own offset left) refl (between_risen w s.0 t)))
  between b w Event.MakeClean w' s c t = same b w' c (subst (HoldsBetween g a) (sym s.3) (between_made_clean w s.0 t))
  between b w (Event.LowerOffset k x) w' s c t =
      same b w' c (subst (HoldsBetween g a) (sym s.1) (between_fewer w (lowered_on w k x) (fewer_lowered w (put k (sure_after w x k) w.sure_offset) (put k (due_after w x k) w.due)) t))
  between b w (Event.Fill k) w' s c t = same b w' c (between_target w k s.0 s.1.rebuild.target w' s.3 t)
  between b w (Event.Prepare k) w' s c t = same b w' c (between_target w k s.0 s.1.target w' s.3 t)
  between b w (Event.RecordTargetFails k) w' s c t = same b w' c (between_target w k s.0 s.1.0 w' s.1.2 t)
  between b w (Event.SpoilTarget k) w' s c t = same b w' c (between_target w k s.0 s.1.0 w' s.1.2 t)
  between b w (Event.Enrol k role listed) w' s c t = same b w' c.same (subst (HoldsBetween g a) (sym s.3) (between_enrolled w k role listed s.0 b s.1 c t))
  between b w (Event.Admit k role listed) w' s c t = same b w' c (subst (HoldsBetween g a) (sym s.3)
      (between_fewer w (admitted g w k role listed s.0) (fewer_admitted g w k role listed s.0 (spare_target (w.state k) s.1.spare)) t))
  between b w (Event.Checkpoint k offset listed) w' s c t = same b w' c (subst (HoldsBetween g a) (sym s.1)
      (between_fewer w (checkpointed w k offset listed) (fewer_checkpointed w k offset listed (recovering_target (w.state k) s.0.recovering)) t))
  between b w (Event.NoteBad k more) w' s c t = same b w' c (subst (HoldsBetween g a) (sym s.1) (between_fewer w (noted_bad g w k more) (fewer_noted_bad g w k more) t))
  between b w (Event.StoreLog k listed) w' s c t = same b w' c (subst (HoldsBetween g a) (sym s.2) (between_fewer w (log_stored w k listed) (fewer_log_stored w k listed s.1) t))

-- what was written of the requests in flight goes along by itself
module _ (g : Geometry) where
  flight_fails : (w : World) (k : ℕ) (left : Stored) (w' : World) → Fails g w k left w' → HoldsInFlight w → HoldsInFlight w'
  flight_fails w k left w' f t = subst HoldsInFlight (sym f.3) (in_flight_fewer w (failed g (with_device w k left) k f.0) (fewer_failed g w k left f.0) t)

  flight_lowered : (w : World) (s : ℕ) → HoldsInFlight w → HoldsInFlight (lowered w s)
  flight_lowered w s t = in_flight_fewer w (lowered w s) (fewer_lowered w (sure_after w s) (due_after w s)) t

  flight_begun : (w : World) (n : ℕ) (p : Request) (rises full : Bool) → MayBegin g w n p → HoldsInFlight w → HoldsInFlight (begun g w n p rises full)
  flight_begun w n p true full may t =
      in_flight_entered g (before_entry g w p true full) n p (begin_after g w n p true full may) (flight_lowered (risen g w full) (first_sector g p) (in_flight_risen g w full t))
  flight_begun w n p false full may t =
      in_flight_entered g (before_entry g w p false full) n p (begin_after g w n p false full may) (flight_lowered w (first_sector g p) t)

  flight_target : (w : World) (k : ℕ) (left : Stored) → is_target (w.state k) ≡ true → (w' : World) → w' ≡ with_device w k left → HoldsInFlight w → HoldsInFlight w'
  flight_target w k left out w' is t = subst HoldsInFlight (sym is) (in_flight_fewer w (with_device w k left) (fewer_target w k left out) t)

  flight : (w : World) (e : Event) (w' : World) → Happens g w e w' → HoldsInFlight w → HoldsInFlight w'
  flight w (Event.Begin n p) w' s t = subst HoldsInFlight (sym s.5) (flight_begun w n p s.0 s.1 s.2 t)
  flight w (Event.Record k) w' s t = subst HoldsInFlight (sym s.3) (in_flight_fewer w (recorded w k s.0) (fewer_recorded w k s.0 s.1) t)
  flight w (Event.StoreMarks k x) w' s t = subst HoldsInFlight (sym s.1) (in_flight_marks_stored g w k x t)
  flight w (Event.WriteMember n k) w' s t = subst HoldsInFlight (sym s.2) (in_flight_written g w n s.0 k s.1 t)
  flight w (Event.Finish n) w' s t = subst HoldsInFlight (sym s.2) (in_flight_finished g w n s.0 t)
  flight w (Event.ClearIdle x) w' s t = subst HoldsInFlight (sym s.1) (in_flight_unmarked w x t)
  flight w (Event.Fail k) w' s t = flight_fails w k (w.stored k) w' s.1 t
  flight w (Event.WriteFails k part) w' s t = flight_fails w k s.0 w' s.2 t
  flight w (Event.Copy from k x) w' s t = subst HoldsInFlight (sym s.1) (in_flight_copied g w from k x s.0 t)
  flight w Event.Resynced w' s t = subst HoldsInFlight (sym s.1) (in_flight_resynced w true t)
  flight w Event.Unresynced w' s t = subst HoldsInFlight (sym s.1) (in_flight_resynced w false t)
  flight w Event.MakeClean w' s t = subst HoldsInFlight (sym s.3) (in_flight_made_clean g w s.0 t)
  flight w (Event.Remove k) w' s t = subst HoldsInFlight (sym s.3) (in_flight_removed g w k (is_spare (w.state k)) s.0 t)
  flight w (Event.Add d left) w' s t = subst HoldsInFlight (sym s.4)
      (in_flight_joined (risen g w s.0) (new_member d left) refl (in_flight_risen g w s.0 t))
  flight w (Event.ReAdd own offset device left) w' s t = subst HoldsInFlight (sym s.4)
      (in_flight_joined (risen g w s.0) (former_member own offset left) refl (in_flight_risen g w s.0 t))
  flight w (Event.LowerOffset k x) w' s t =
      subst HoldsInFlight (sym s.1) (in_flight_fewer w (lowered_on w k x) (fewer_lowered w (put k (sure_after w x k) w.sure_offset) (put k (due_after w x k) w.due)) t)
  flight w (Event.Fill k) w' s t = flight_target w k s.0 s.1.rebuild.target w' s.3 t
  flight w (Event.Prepare k) w' s t = flight_target w k s.0 s.1.target w' s.3 t
  flight w (Event.RecordTargetFails k) w' s t = flight_target w k s.0 s.1.0 w' s.1.2 t
  flight w (Event.SpoilTarget k) w' s t = flight_target w k s.0 s.1.0 w' s.1.2 t
  flight w (Event.Enrol k role listed) w' s t = subst HoldsInFlight (sym s.3) (in_flight_enrolled g w k role listed s.0 s.1 t)
  flight w (Event.Admit k role listed) w' s t = subst HoldsInFlight (sym s.3)
      (in_flight_fewer w (admitted g w k role listed s.0) (fewer_admitted g w k role listed s.0 (spare_target (w.state k) s.1.spare)) t)
  flight w (Event.Checkpoint k offset listed) w' s t = subst HoldsInFlight (sym s.1)
      (in_flight_fewer w (checkpointed w k offset listed) (fewer_checkpointed w k offset listed (recovering_target (w.state k) s.0.recovering)) t)
  flight w (Event.NoteBad k more) w' s t = subst HoldsInFlight (sym s.1) (in_flight_fewer w (noted_bad g w k more) (fewer_noted_bad g w k more) t)
  flight w (Event.StoreLog k listed) w' s t = subst HoldsInFlight (sym s.2) (in_flight_fewer w (log_stored w k listed) (fewer_log_stored w k listed s.1) t)

pub in_flight_step : KeepsInFlight
in_flight_step g w e w' step = flight g w e w' step.1

pub between_step : KeepsBetween
between_step g w e w' a b step = between g a b w e w' step.1

pub between_opened : BeginsBetween
between_opened g opened w a o t = record { at_rest = t.at_rest; in_flight = in_flight_opened g opened w o }
