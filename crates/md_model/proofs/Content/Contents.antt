-- Every event keeps what is said of the array's content.
use Rattle.std.proofs.Common.{◌≡◌, ℕ, Bool, true, false, inr, refl, sym, ap, ◌∙◌, subst}
use Rattle.md_model.specs.Sectors.{Geometry, chunk_of}
use Rattle.md_model.specs.Devices.{Stored}
use Rattle.md_model.specs.Worlds.{Request, touches, World, IsInSync, IsQuiet}
use Rattle.md_model.specs.Steps.{begun, with_device, recorded, marks_stored, member_written, finished, MayWrite, MayFinish}
use Rattle.md_model.specs.Failures.{failed}
use Rattle.md_model.specs.Resyncing.{copied, MayCopy}
use Rattle.md_model.specs.Events.{Event, Fails, Step, Happens}
use Rattle.md_model.specs.Content.{Content, with_request, IsKeptByEnrolling, Becomes, HoldsUnmarked, Holds}
use Rattle.md_model.proofs.Cases.{by_test, never}
use Rattle.md_model.proofs.Steps.Tracked.{IsTracked, IsFewer}
use Rattle.md_model.proofs.Steps.TrackedSteps.{fewer_recorded, fewer_failed, content_marked, listed_marked, off_marked, content_written, listed_written, bits_written, bit_written}
use Rattle.md_model.proofs.Steps.TrackedCalls.{bits_copied}
use Rattle.md_model.specs.States.{is_in_sync}
use Rattle.md_model.specs.Counts.{risen}
use Rattle.md_model.specs.Membership.{former_member, is_spare, joined, new_member, removed, skip, Newcomer}
use Rattle.md_model.proofs.Steps.Membership.{same_device, was_member}
use Rattle.md_model.specs.Rebuilding.{is_target, admitted, checkpointed, enrolled, MayEnrol}
use Rattle.md_model.specs.Listing.{log_stored, noted_bad}
use Rattle.md_model.proofs.Steps.Rebuilding.{by_device, fewer_admitted, fewer_checkpointed, fewer_log_stored, fewer_noted_bad, fewer_target, off_enrolled, recovering_target, spare_target}
use Rattle.md_model.proofs.Steps.Between.{ended_away, at_copy, between_step}

-- a chunk without a mark has no request
pub quiet_unmarked : (g : Geometry) (w : World) → IsTracked g w → (s : ℕ) → w.marks (chunk_of g s) ≡ false → IsQuiet w s
quiet_unmarked g w t s off n p e = by_test (touches p s) (λ at. never (w.marks (chunk_of g s)) (t.marked n p s e at) off) (λ away. away)

-- what is held where a bitmap has no bit
module _ (g : Geometry) (a : Content) where
  unmarked_fewer : (w w' : World) → IsFewer w w' → HoldsUnmarked g a w → HoldsUnmarked g a w'
  unmarked_fewer w w' f t i k s low x on clear bit =
      f.content k s on ∙ t i k s low (f.in_sync i x) (f.in_sync k on) (f.listed k s on clear) (sym (f.bits i (chunk_of g s) x) ∙ bit)

  unmarked_fails : (w : World) (k : ℕ) (left : Stored) (w' : World) → Fails g w k left w' → HoldsUnmarked g a w → HoldsUnmarked g a w'
  unmarked_fails w k left w' f t = subst (HoldsUnmarked g a) (sym f.3) (unmarked_fewer w (failed g (with_device w k left) k f.0) (fewer_failed g w k left f.0) t)

  unmarked_begun : (w : World) (n : ℕ) (p : Request) (rises full : Bool) → HoldsUnmarked g a w → HoldsUnmarked g a (begun g w n p rises full)
  unmarked_begun w n p true full t = t
  unmarked_begun w n p false full t = t

  unmarked_marks_stored : (w : World) (k b : ℕ) → IsTracked g w → Holds g a w → HoldsUnmarked g a (marks_stored w k b)
  unmarked_marks_stored w k b tracked t i j s low x on clear = off_marked g w k b i (chunk_of g s) (((marks_stored w k b).stored j).content s ≡ a s)
      (λ m. content_marked g w k b j s ∙ t.at_rest j s low on (sym (listed_marked g w k b j s) ∙ clear) (quiet_unmarked g w tracked s m) (inr m))
      (λ bit. content_marked g w k b j s ∙ t.unmarked i j s low x on (sym (listed_marked g w k b j s) ∙ clear) bit)

  unmarked_written : (w : World) (n : ℕ) (p : Request) (k : ℕ) → MayWrite g w n p k → IsTracked g w → HoldsUnmarked g a w → HoldsUnmarked g a (member_written w n p k)
  unmarked_written w n p k may tracked t i j s low x on clear off' = let off = sym (bits_written g w n p k may i (chunk_of g s)) ∙ off' in by_test (touches p s)
      (λ at. bit_written g w n p k may tracked i s x at off)
      (λ away. content_written g w n p k may j s away ∙ t i j s low x on (sym (listed_written g w n p k may j s) ∙ clear) off)

  unmarked_finished : (w : World) (n : ℕ) (p : Request) → MayFinish w n p → IsTracked g w → HoldsUnmarked g a w → HoldsUnmarked g (with_request (w.request n) a) (finished w n)
  unmarked_finished w n p may tracked t i k s low x on clear bit = by_test (touches p s)
      (λ at. never ((w.stored i).bits (chunk_of g s)) (tracked.noted n p i s may.in_flight x (may.written i x) at) bit)
      (λ away. t i k s low x on clear bit ∙ ended_away w n p a s may.in_flight away)

  unmarked_copied : (w : World) (from k s : ℕ) → MayCopy g w from k s → HoldsUnmarked g a w → HoldsUnmarked g a (copied w from k s)
  unmarked_copied w from k s may t i j x low y on clear bit =
      at_copy g a w from k s may j x on clear (λ z in_ c. t i z x low y in_ c (sym (bits_copied g w from k s i (chunk_of g x)) ∙ bit))

  unmarked_removed : (w : World) (k : ℕ) (spare full : Bool) → HoldsUnmarked g a w → HoldsUnmarked g a (removed g w k spare full)
  unmarked_removed w k true full t i j s low = t (skip k i) (skip k j) s low
  unmarked_removed w k false full t i j s low = t (skip k i) (skip k j) s low

  unmarked_joined : (w : World) (n : Newcomer) → is_in_sync n.state ≡ false → HoldsUnmarked g a w → HoldsUnmarked g a (joined w n)
  unmarked_joined w n out t i j s low x on clear bit =
      let same = same_device w n out in
      ap (λ (d : Stored). d.content s) (same j on)
      ∙ t i j s low (was_member w n out i x).1 (was_member w n out j on).1 (sym (ap (λ (d : Stored). d.listed s) (same j on)) ∙ clear) (sym (ap (λ (d : Stored). d.bits (chunk_of g s)) (same i x)) ∙ bit)

  unmarked_target : (w : World) (k : ℕ) (left : Stored) → is_target (w.state k) ≡ true → (w' : World) → w' ≡ with_device w k left → HoldsUnmarked g a w → HoldsUnmarked g a w'
  unmarked_target w k left out w' is t = subst (HoldsUnmarked g a) (sym is) (unmarked_fewer w (with_device w k left) (fewer_target w k left out) t)

  -- the bits of the new member are the marks in memory
  unmarked_enrolled : (w : World) (k role : ℕ) (listed : ℕ → Bool) (full : Bool) (b : Content) → MayEnrol g w k role listed → IsKeptByEnrolling g w k listed a b
      → IsTracked g w → Holds g a w → HoldsUnmarked g a (enrolled g w k role listed full)
  unmarked_enrolled w k role listed full b may c tracked t i j s low x on clear =
      let v = enrolled g w k role listed full in
      let has : ((y : ℕ) → IsInSync w y → (w.stored y).listed s ≡ false → (w.stored y).content s ≡ a s) → (v.stored j).content s ≡ a s =
      λ all. by_device g w k role listed full may j (λ (d : Stored). d.listed s ≡ false → d.content s ≡ a s) on (λ _. c.held s low) (λ was. all j was) clear in
      off_enrolled g w k role listed full may i (chunk_of g s) ((v.stored j).content s ≡ a s) x
      (λ m. has (λ y was off. t.at_rest y s low was off (quiet_unmarked g w tracked s m) (inr m)))
      (λ was_i bit. has (λ y was off. t.unmarked i y s low was_i was off bit))

  same : (b : Content) (w : World) → b ≡ a → HoldsUnmarked g a w → HoldsUnmarked g b w
  same b w e = subst (λ c. HoldsUnmarked g c w) (sym e)

  unmarked_step : (b : Content) (w : World) (e : Event) (w' : World) → IsTracked g w → Holds g a w → Happens g w e w' → Becomes g e w a b → HoldsUnmarked g b w'
  unmarked_step b w (Event.Begin n p) w' _ t s c = same b w' c (subst (HoldsUnmarked g a) (sym s.5) (unmarked_begun w n p s.0 s.1 t.unmarked))
  unmarked_step b w (Event.Record k) w' _ t s c = same b w' c (subst (HoldsUnmarked g a) (sym s.3) (unmarked_fewer w (recorded w k s.0) (fewer_recorded w k s.0 s.1) t.unmarked))
  unmarked_step b w (Event.StoreMarks k x) w' tracked t s c = same b w' c (subst (HoldsUnmarked g a) (sym s.1) (unmarked_marks_stored w k x tracked t))
  unmarked_step b w (Event.WriteMember n k) w' tracked t s c = same b w' c (subst (HoldsUnmarked g a) (sym s.2) (unmarked_written w n s.0 k s.1 tracked t.unmarked))
  unmarked_step b w (Event.Finish n) w' tracked t s c =
      subst (λ x. HoldsUnmarked g x w') (sym c) (subst (HoldsUnmarked g (with_request (w.request n) a)) (sym s.2) (unmarked_finished w n s.0 s.1 tracked t.unmarked))
  unmarked_step b w (Event.ClearIdle x) w' _ t s c = same b w' c (subst (HoldsUnmarked g a) (sym s.1) t.unmarked)
  unmarked_step b w (Event.Fail k) w' _ t s c = same b w' c (unmarked_fails w k (w.stored k) w' s.1 t.unmarked)
  unmarked_step b w (Event.WriteFails k part) w' _ t s c = same b w' c (unmarked_fails w k s.0 w' s.2 t.unmarked)
  unmarked_step b w (Event.Copy from k x) w' _ t s c = same b w' c (subst (HoldsUnmarked g a) (sym s.1) (unmarked_copied w from k x s.0 t.unmarked))
  unmarked_step b w Event.Resynced w' _ t s c = subst (HoldsUnmarked g b) (sym s.1) (λ i k x low _ on clear _. c.held k x low on clear)
  unmarked_step b w Event.Unresynced w' _ t s c = same b w' c (subst (HoldsUnmarked g a) (sym s.1) t.unmarked)
  unmarked_step b w (Event.Remove k) w' _ t s c = same b w' c (subst (HoldsUnmarked g a) (sym s.3) (unmarked_removed w k (is_spare (w.state k)) s.0 t.unmarked))
  unmarked_step b w (Event.Add d left) w' _ t s c = same b w' c (subst (HoldsUnmarked g a) (sym s.4)
      (unmarked_joined (risen g w s.0) (new_member d left) refl t.unmarked))
  unmarked_step b w (Event.ReAdd own offset device left) w' _ t s c = same b w' c (subst (HoldsUnmarked g a) (sym s.4)
      (unmarked_joined (risen g w s.0) (former_member own offset left) refl t.unmarked))
  unmarked_step b w Event.MakeClean w' _ t s c = same b w' c (subst (HoldsUnmarked g a) (sym s.3) t.unmarked)
  unmarked_step b w (Event.LowerOffset k x) w' _ t s c = same b w' c (subst (HoldsUnmarked g a) (sym s.1) t.unmarked)
  unmarked_step b w (Event.Fill k) w' _ t s c = same b w' c (unmarked_target w k s.0 s.1.rebuild.target w' s.3 t.unmarked)
  unmarked_step b w (Event.Prepare k) w' _ t s c = same b w' c (unmarked_target w k s.0 s.1.target w' s.3 t.unmarked)
  unmarked_step b w (Event.RecordTargetFails k) w' _ t s c = same b w' c (unmarked_target w k s.0 s.1.0 w' s.1.2 t.unmarked)
  unmarked_step b w (Event.SpoilTarget k) w' _ t s c = same b w' c (unmarked_target w k s.0 s.1.0 w' s.1.2 t.unmarked)
  unmarked_step b w (Event.Enrol k role listed) w' tracked t s c =
      same b w' c.same (subst (HoldsUnmarked g a) (sym s.3) (unmarked_enrolled w k role listed s.0 b s.1 c tracked t))
  unmarked_step b w (Event.Admit k role listed) w' _ t s c = same b w' c (subst (HoldsUnmarked g a) (sym s.3)
      (unmarked_fewer w (admitted g w k role listed s.0) (fewer_admitted g w k role listed s.0 (spare_target (w.state k) s.1.spare)) t.unmarked))
  unmarked_step b w (Event.Checkpoint k offset listed) w' _ t s c = same b w' c (subst (HoldsUnmarked g a) (sym s.1)
      (unmarked_fewer w (checkpointed w k offset listed) (fewer_checkpointed w k offset listed (recovering_target (w.state k) s.0.recovering)) t.unmarked))
  unmarked_step b w (Event.NoteBad k more) w' _ t s c = same b w' c (subst (HoldsUnmarked g a) (sym s.1) (unmarked_fewer w (noted_bad g w k more) (fewer_noted_bad g w k more) t.unmarked))
  unmarked_step b w (Event.StoreLog k listed) w' _ t s c = same b w' c (subst (HoldsUnmarked g a) (sym s.2) (unmarked_fewer w (log_stored w k listed) (fewer_log_stored w k listed s.1) t.unmarked))

pub holds_step : (g : Geometry) (a b : Content) (w : World) (e : Event) (w' : World) → IsTracked g w → Holds g a w → Step g w e w' → Becomes g e w a b → Holds g b w'
holds_step g a b w e w' tracked t s c = record {
  at_rest = (between_step g w e w' a b s c (record { at_rest = t.at_rest; in_flight = tracked.in_flight })).at_rest;
  unmarked = unmarked_step g a b w e w' tracked t s.1 c;
}
