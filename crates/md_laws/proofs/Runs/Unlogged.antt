-- As long as no log is stored, an opening misreads no more members than those that are spoiled.
use Rattle.std.proofs.Common.{◌≡◌, ℕ, Bool, true, false, cond, eqb, [], ◌∷◌, sym, ap, subst}
use Rattle.md_model.specs.Events.{Event}
use Rattle.md_model.specs.Membership.{skip}
use Rattle.md_model.specs.Runs.{spoiled_after}
use Rattle.md_model.specs.Sectors.{put}
use Rattle.md_model.specs.Worlds.{World}
use Rattle.md_state.specs.View.{ArrayView}
use Rattle.md_array.specs.ReadAsKept.{misread_after}
use Rattle.md_array.specs.Worlds.{world_of}
use Rattle.md_laws.specs.Runs.{Moment, then_as}
use Rattle.md_laws.specs.Unlogged.{StaysUnlogged, StoresNoLog}

module _ (f g : ℕ → Bool) (same : (k : ℕ) → f k ≡ g k) where
  put_same : (k : ℕ) (b : Bool) (j : ℕ) → put k b f j ≡ put k b g j
  put_same k b j = ap (λ (x : Bool). cond (eqb j k) b x) (same j)

  same_after : (e : Event) (a : ArrayView) (w : World) → StoresNoLog e → (j : ℕ) → misread_after e a w f j ≡ spoiled_after e w g j
  same_after (Event.StoreLog k listed) a w none j = absurd none
  same_after (Event.SpoilTarget k) a w none j = put_same k true j
  same_after (Event.Record k) a w none j = put_same k false j
  same_after (Event.Enrol k role listed) a w none j = put_same k false j
  same_after (Event.Admit k role listed) a w none j = put_same k false j
  same_after (Event.Checkpoint k sure listed) a w none j = put_same k false j
  same_after (Event.Remove k) a w none j = same (skip k j)
  same_after (Event.Add number left) a w none j = put_same w.members false j
  same_after (Event.ReAdd own offset device left) a w none j = put_same w.members false j
  same_after e a w none j = same j

pub stays_unlogged : StaysUnlogged
stays_unlogged [] t last r none same = λ k. subst (λ (x : Moment). x.misread k ≡ x.spoiled k) (sym r.is) (same k)
stays_unlogged (e ∷ es) t last r none same =
    stays_unlogged es (then_as t e r.0 r.1) last r.3 none.1 (same_after t.misread t.spoiled same e t.mirror.array (world_of t.mirror t.requests) none.0)
