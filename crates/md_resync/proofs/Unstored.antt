-- Members that agree where one lists in memory what its device does not, agree there still after the events of a resync.
use Rattle.std.proofs.Common.{◌≡◌, ℕ, List, [], ◌∷◌, Option, Some, None, refl, sym, ap, ◌∙◌, subst}
use Rattle.md_model.specs.Events.{Event, MemberPart, Step}
use Rattle.md_model.specs.Resyncing.{copied, MayCopy}
use Rattle.md_model.specs.Sectors.{Geometry}
use Rattle.md_model.specs.Steps.{marks_stored}
use Rattle.md_model.specs.Worlds.{World}
use Rattle.md_model.proofs.Puts.{by_same}
use Rattle.md_model.proofs.Steps.TrackedSteps.{content_marked, listed_marked}
use Rattle.md_model.proofs.Steps.TrackedCalls.{content_copied, content_at_copy, listed_copied}
use Rattle.md_state.specs.Requests.{AreInFlight}
use Rattle.md_state.specs.Rests.{Rests}
use Rattle.md_state.specs.View.{MirrorView, geometry_of}
use Rattle.md_array.specs.InTurn.{AllOf, LeftWhole, Requests}
use Rattle.md_array.specs.Worlds.{AreHonest, world_of}
use Rattle.md_array.proofs.General.Honesty.{same_honest}
use Rattle.md_array.proofs.General.Resting.{geometry_rests, world_rests}
use Rattle.md_laws.specs.ReadInTurn.{LeadsReading}
use Rattle.md_metadata.specs.Storing.{IsNoFailure}
use Rattle.md_resync.specs.Resyncing.{ResyncAdvances, AgreeUnstored, IsOfResync}

-- ---- by one event
module _ (g : Geometry) where
  unstored_marked : (w : World) (k b : ℕ) → AgreeUnstored g w → AgreeUnstored g (marks_stored w k b)
  unstored_marked w k b u i j s low x y at quiet off off_too =
      content_marked g w k b i s
      ∙ u i j s low x y at quiet (sym (listed_marked g w k b i s) ∙ off) (sym (listed_marked g w k b j s) ∙ off_too)
      ∙ sym (content_marked g w k b j s)

  -- the source agrees with each of them
  unstored_copied : (w : World) (from k s : ℕ) → MayCopy g w from k s → AgreeUnstored g w → AgreeUnstored g (copied w from k s)
  unstored_copied w from k s may u i j x low a b at quiet off off_too =
      let off_i = sym (listed_copied g w from k s i x) ∙ off in
      let same = u i j x low a b at quiet off_i (sym (listed_copied g w from k s j x) ∙ off_too) in
      by_same x s
      (λ here.
      let source = u i from x low a may.source at quiet off_i (ap (w.stored from).listed here ∙ may.unlisted) in
      let holds : (y : ℕ) → (w.stored y).content s ≡ (w.stored i).content s → ((copied w from k s).stored y).content s ≡ (w.stored i).content s =
      λ y e. content_at_copy g w from k s y (λ (c : List ℕ). c ≡ (w.stored i).content s) (subst (λ v. (w.stored from).content v ≡ (w.stored i).content v) here (sym source)) e in
      subst (λ v. ((copied w from k s).stored i).content v ≡ ((copied w from k s).stored j).content v) (sym here)
      (holds i refl ∙ sym (holds j (subst (λ v. (w.stored j).content v ≡ (w.stored i).content v) here (sym same)))))
      (λ away. content_copied g w from k s i x away ∙ same ∙ sym (content_copied g w from k s j x away))

  unstored_step : (w : World) (e : Event) (w' : World) → IsOfResync e → IsNoFailure e → Step g w e w' → AgreeUnstored g w → AgreeUnstored g w'
  unstored_step w (Event.StoreMarks k b) w' of done step u = subst (AgreeUnstored g) (sym step.1.1) (unstored_marked w k b u)
  unstored_step w (Event.WriteFails k part) w' of done step u = absurd done
  unstored_step w (Event.Copy from k s) w' of done step u = subst (AgreeUnstored g) (sym step.1.1) (unstored_copied w from k s step.1.0 u)
  unstored_step w Event.Resynced w' of done step u = subst (AgreeUnstored g) (sym step.1.1) u
  unstored_step w (Event.ClearIdle c) w' of done step u = subst (AgreeUnstored g) (sym step.1.1) u
  unstored_step w e w' of done step u = absurd of

-- nothing is asked of what such an event left
left_whole : (e : Event) → IsOfResync e → (old new : MirrorView) → LeftWhole old e new
left_whole (Event.StoreMarks k b) of old new = tt
left_whole (Event.WriteFails k (MemberPart.BitmapSector b)) of old new = tt
left_whole (Event.Copy from k s) of old new = tt
left_whole (Event.WriteFails k (MemberPart.CopiedSectors s n)) of old new = tt
left_whole Event.Resynced of old new = tt
left_whole (Event.ClearIdle c) of old new = tt
left_whole e of old new = absurd of

-- ---- by a list of them, with reads between them
read_unstored : (old new : MirrorView) (requests : Requests) → Rests old new → AgreeUnstored (geometry_of old.array) (world_of old requests) → AgreeUnstored (geometry_of new.array) (world_of new requests)
read_unstored old new requests rests u =
    subst (λ (g : Geometry). AgreeUnstored g (world_of new requests)) (sym (geometry_rests old new rests))
    (subst (λ (w : World). AgreeUnstored (geometry_of old.array) w) (sym (world_rests old new rests requests)) u)

unstored_along : (es : List Event) (previous : Option Event) (old : MirrorView) (before : Requests) (new : MirrorView) (after : Requests) → AllOf IsOfResync es → AllOf IsNoFailure es
    → AreHonest old.disks → LeadsReading previous old before es new after
    → AgreeUnstored (geometry_of old.array) (world_of old before) → AgreeUnstored (geometry_of new.array) (world_of new after)
unstored_along [] previous old before new after all done honest t u =
    subst (λ (m : MirrorView). AgreeUnstored (geometry_of m.array) (world_of m after)) t.2.0
    (subst (λ (r : Requests). AgreeUnstored (geometry_of t.0.array) (world_of t.0 r)) t.2.1 (read_unstored old t.0 before t.1 u))
unstored_along (e ∷ es) previous old before new after all done honest t u =
    let does = t.6 (same_honest old.disks t.0.disks t.3.disks.same honest) (left_whole e all.0 t.0 t.1) in
    let mid = unstored_step (geometry_of t.0.array) (world_of t.0 before) e (world_of t.1 t.2) all.0 done.0 does.step (read_unstored old t.0 before t.3 u) in
    unstored_along es (Some e) t.1 t.2 new after all.1 done.1 does.honest t.7
    (subst (λ (g : Geometry). AgreeUnstored g (world_of t.1 t.2)) (sym does.geometry) mid)

pub unstored_on : (old new : MirrorView) → ResyncAdvances old new → AreHonest old.disks → (requests : Requests) → AreInFlight old.array requests
    → AgreeUnstored (geometry_of old.array) (world_of old requests) → AgreeUnstored (geometry_of new.array) (world_of new requests)
unstored_on old new g honest requests in_flight =
    unstored_along g.goes.events None old requests new requests g.goes.steps g.unfailing honest (g.goes.leads None requests in_flight)
