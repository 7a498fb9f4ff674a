-- Whether an array is resynced changes by a resync alone.
use Rattle.std.proofs.Common.{◌≡◌, ◌∙◌, ◌⊎◌, inl, inr, ℕ, Bool, true, false, List, [], ◌∷◌, refl, ap}
use Rattle.md_model.specs.Events.{Event, Step}
use Rattle.md_model.specs.Membership.{removed}
use Rattle.md_model.specs.Sectors.{Geometry}
use Rattle.md_model.specs.Steps.{begun}
use Rattle.md_model.specs.Worlds.{Request, World}
use Rattle.md_state.specs.View.{ArrayView, geometry_of}
use Rattle.md_array.specs.InTurn.{AllOf}
use Rattle.md_array.specs.Worlds.{world_of}
use Rattle.md_laws.specs.Runs.{MirrorRun, Moment, then_as}
use Rattle.md_laws.proofs.Runs.Rests.{rests_does}

begun_same : (g : Geometry) (w : World) (n : ℕ) (p : Request) (rises full : Bool) → (begun g w n p rises full).resynced ≡ w.resynced
begun_same g w n p true full = refl
begun_same g w n p false full = refl

removed_same : (g : Geometry) (w : World) (k : ℕ) (spare full : Bool) → (removed g w k spare full).resynced ≡ w.resynced
removed_same g w k true full = refl
removed_same g w k false full = refl

-- an event by which it stays so, where it was
abbrev pub IsSettling : Event → Type 0
IsSettling Event.Unresynced = ⊥
IsSettling e = Unit {0}

abbrev is : World → Bool
is w = w.resynced

pub settles : (g : Geometry) (w : World) (e : Event) (u : World) → IsSettling e → Step g w e u → w.resynced ≡ true → u.resynced ≡ true
settles g w (Event.Begin n p) u of step r = ap is step.1.5 ∙ begun_same g w n p step.1.0 step.1.1 ∙ r
settles g w (Event.Record k) u of step r = ap is step.1.3 ∙ r
settles g w (Event.StoreMarks k b) u of step r = ap is step.1.1 ∙ r
settles g w (Event.WriteMember n k) u of step r = ap is step.1.2 ∙ r
settles g w (Event.Finish n) u of step r = ap is step.1.2 ∙ r
settles g w (Event.ClearIdle c) u of step r = ap is step.1.1 ∙ r
settles g w (Event.Fail k) u of step r = ap is step.1.1.3 ∙ r
settles g w (Event.WriteFails k part) u of step r = ap is step.1.2.3 ∙ r
settles g w (Event.Copy from k s) u of step r = ap is step.1.1 ∙ r
settles g w Event.Resynced u of step r = ap is step.1.1
settles g w Event.Unresynced u of step r = absurd of
settles g w Event.MakeClean u of step r = ap is step.1.3 ∙ r
settles g w (Event.Remove k) u of step r = ap is step.1.3 ∙ removed_same g w k _ step.1.0 ∙ r
settles g w (Event.Add d left) u of step r = ap is step.1.4 ∙ r
settles g w (Event.ReAdd own offset device left) u of step r = ap is step.1.4 ∙ r
settles g w (Event.LowerOffset k s) u of step r = ap is step.1.1 ∙ r
settles g w (Event.Fill k) u of step r = ap is step.1.3 ∙ r
settles g w (Event.Prepare k) u of step r = ap is step.1.3 ∙ r
settles g w (Event.RecordTargetFails k) u of step r = ap is step.1.1.2 ∙ r
settles g w (Event.SpoilTarget k) u of step r = ap is step.1.1.2 ∙ r
settles g w (Event.Enrol k role listed) u of step r = ap is step.1.3 ∙ r
settles g w (Event.Admit k role listed) u of step r = ap is step.1.3 ∙ r
settles g w (Event.Checkpoint k sure listed) u of step r = ap is step.1.1 ∙ r
settles g w (Event.NoteBad k more) u of step r = ap is step.1.1 ∙ r
settles g w (Event.StoreLog k listed) u of step r = ap is step.1.2 ∙ r

-- or nothing changes on the devices
pub settles_or_stays : (g : Geometry) (w : World) (e : Event) (u : World) → Step g w e u → w.resynced ≡ true → (u.resynced ≡ true) ⊎ (u.stored ≡ w.stored)
settles_or_stays g w Event.Unresynced u step r = inr (ap (λ (x : World). x.stored) step.1.1)
settles_or_stays g w e u step r = inl (settles g w e u tt step r)

-- ---- along a run
pub resynced_along : (es : List Event) → AllOf IsSettling es → (t u : Moment) → MirrorRun t es u → t.mirror.array.resynced ≡ true → u.mirror.array.resynced ≡ true
resynced_along [] of t u r before = ap (λ (a : ArrayView). a.resynced) r.rests.array ∙ before
resynced_along (e ∷ es) of t u r before =
    let step = (rests_does t.mirror r.0 t.requests r.1 e r.2).step in
    resynced_along es of.1 (then_as t e r.0 r.1) u r.3 (settles (geometry_of t.mirror.array) (world_of t.mirror t.requests) e (world_of r.0 r.1) of.0 step before)
