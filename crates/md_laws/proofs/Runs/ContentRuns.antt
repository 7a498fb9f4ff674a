-- The content that the members in sync of a mirror hold goes along each run of it.
use Rattle.std.proofs.Common.{◌≡◌, List, [], ◌∷◌, refl, sym, ◌∙◌, subst}
use Rattle.md_model.specs.Sectors.{Geometry}
use Rattle.md_model.specs.Devices.{Super}
use Rattle.md_model.specs.Events.{Event, Step}
use Rattle.md_model.specs.Runs as runs
use Rattle.md_model.specs.Worlds.{World}
use Rattle.md_model.specs.Content.{Content, Becomes, Holds, TellsAtEnrolment}
use Rattle.md_model.proofs.Content.ContentAlong.{after_event}
use Rattle.md_model.proofs.Content.ContentLives.{IsHeld, held_opened}
use Rattle.md_model.proofs.Content.Contents.{holds_step}
use Rattle.md_model.proofs.Steps.Keeps.{kept_step}
use Rattle.md_state.specs.View.{MirrorView, geometry_of}
use Rattle.md_array.specs.Worlds.{none_in_flight, super_of, world_of}
use Rattle.md_laws.specs.Runs.{MirrorRun, MirrorRunTellsEnrolments, MirrorRunWith, Moment, history_of, opened_as, then_as}
use Rattle.md_laws.proofs.Runs.Rests.{history_rests, rests_does}

module _ (m : MirrorView) (start : runs.IsStart (geometry_of m.array) (super_of m.array.shared) (world_of m none_in_flight)) where
  abbrev g : Geometry
  g = geometry_of m.array

  abbrev opened : Super
  opened = super_of m.array.shared

  abbrev first : World
  first = world_of m none_in_flight

  along : (es : List Event) (t : Moment) (a : Content) (last : Moment) → geometry_of t.mirror.array ≡ g → IsHeld g opened (history_of t) a
      → (r : MirrorRun t es last) → MirrorRunTellsEnrolments t a es last r → (b : Content) × MirrorRunWith t a es last b × IsHeld g opened (history_of last) b
  along [] t a last same held r told = (a, (r, refl), subst (λ h. IsHeld g opened h a) (sym (history_rests t last r)) held)
  along (e ∷ es) t a last same held r told =
      let h = history_of t in
      let w = world_of r.0 r.1 in
      let leads = rests_does t.mirror r.0 t.requests r.1 e r.2 in
      let s = subst (λ x. Step x h.now e w) same leads.step in
      let c = after_event g start.small opened h e w a held (subst (λ x. TellsAtEnrolment x e h.now a) same told.0) s.1 in
      let next = then_as t e r.0 r.1 in
      let becomes = subst (λ x. Becomes x e h.now a c.0) (sym same) c.1 in
      let more = along es next c.0 last (leads.geometry ∙ same)
      (record { kept = kept_step g start.small opened h e w held.kept s; holds = holds_step g a c.0 h.now e w held.kept.tracked held.holds s c.1 })
      r.3 (told.1 c.0 becomes) in
      (more.0, (r.0, r.1, c.0, r.2, becomes, more.1), more.2)

  -- from the opening on
  pub content_along : (es : List Event) (a : Content) (last : Moment) → Holds g a first → (r : MirrorRun (opened_as m) es last)
      → MirrorRunTellsEnrolments (opened_as m) a es last r → (b : Content) × MirrorRunWith (opened_as m) a es last b × IsHeld g opened (history_of last) b
  content_along es a last holds r told = along es (opened_as m) a last refl (held_opened g opened first a start holds) r told

  pub held : (es : List Event) (t : Moment) (a : Content) (last : Moment) (b : Content) → geometry_of t.mirror.array ≡ g → IsHeld g opened (history_of t) a
      → MirrorRunWith t a es last b → IsHeld g opened (history_of last) b
  held [] t a last b same is r = subst (λ h. IsHeld g opened h b) (sym (history_rests t last r.0)) (subst (IsHeld g opened (history_of t)) (sym r.1) is)
  held (e ∷ es) t a last b same is r =
      let h = history_of t in
      let w = world_of r.0 r.1 in
      let leads = rests_does t.mirror r.0 t.requests r.1 e r.3 in
      let s = subst (λ x. Step x h.now e w) same leads.step in
      let c = subst (λ x. Becomes x e h.now a r.2) same r.4 in
      held es (then_as t e r.0 r.1) r.2 last b (leads.geometry ∙ same)
      (record { kept = kept_step g start.small opened h e w is.kept s; holds = holds_step g a r.2 h.now e w is.kept.tracked is.holds s c }) r.5

  pub content_held : (es : List Event) (a : Content) (last : Moment) (b : Content) → Holds g a first → MirrorRunWith (opened_as m) a es last b → IsHeld g opened (history_of last) b
  content_held es a last b holds r = held es (opened_as m) a last b refl (held_opened g opened first a start holds) r

-- the run alone
pub without_content : (es : List Event) (t : Moment) (a : Content) (last : Moment) (b : Content) → MirrorRunWith t a es last b → MirrorRun t es last
without_content [] t a last b r = r.0
without_content (e ∷ es) t a last b r = (r.0, r.1, r.3, without_content es (then_as t e r.0 r.1) r.2 last b r.5)
