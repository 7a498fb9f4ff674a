-- In the life of a mirror members agree where one lists in memory what its device does not: so a resync makes one content of it.
use Rattle.std.proofs.Common.{◌≡◌, ap, inr, sym, subst}
use Rattle.md_model.specs.Content.{Content, HoldsBetween}
use Rattle.md_model.specs.Sectors.{Geometry}
use Rattle.md_model.proofs.Steps.Keeps.{IsKept, kept_run}
use Rattle.md_state.specs.View.{ArrayView, MirrorView, geometry_of}
use Rattle.md_array.specs.Worlds.{super_of, world_of}
use Rattle.md_laws.specs.Runs.{history_of}
use Rattle.md_laws.proofs.Runs.MirrorContents.{life_held_at, starts_small}
use Rattle.md_laws.proofs.Runs.MirrorRuns.{model_run}
use Rattle.md_array.specs.InTurn.{Requests}
use Rattle.md_resync.specs.InLives.{ResyncsContentInLives}
use Rattle.md_resync.specs.Resyncing.{HasResyncedContent}
use Rattle.md_resync.specs.Telling.{Tells}
use Rattle.md_resync.proofs.ToldRuns.{at_told, told_content, told_run, told_sound}

-- of the array before its recovering members were told of it is the same content
told_as : (old told new : MirrorView) (requests : Requests) (b : Content) → Tells old told → HasResyncedContent told requests b new → HasResyncedContent old requests b new
told_as old told new requests b t h = subst (λ (a : ArrayView). HasResyncedContent (record told { array = a }) requests b new) t.array h

pub resyncs_content_in_lives : ResyncsContentInLives
unfolding at_told
resyncs_content_in_lives before m a start holds es rest final last b life new r =
    let at = life_held_at before m a start holds es rest final last b life in
    let g = geometry_of m.array in
    let there = told_sound last at.sound r.told r.tells in
    let events = r.tells.goes.events in
    let geometry : geometry_of r.told.array ≡ geometry_of last.mirror.array = ap geometry_of r.tells.array in
    let kept : IsKept g (super_of final.array.shared) (history_of (at_told last at.sound r.told r.tells)) =
    kept_run g (starts_small before m start) (super_of final.array.shared) events (history_of last) (history_of (at_told last at.sound r.told r.tells)) at.held.kept
    (model_run g events last (at_told last at.sound r.told r.tells) at.geometry (told_run last at.sound r.told r.tells)) in
    let held : HoldsBetween (geometry_of last.mirror.array) b (world_of last.mirror last.requests) =
    subst (λ g. HoldsBetween g b (world_of last.mirror last.requests)) (sym at.geometry) (record { at_rest = at.held.holds.at_rest; in_flight = at.held.kept.tracked.in_flight }) in
    told_as last.mirror r.told new last.requests b r.tells
    (r.then.content there.honest last.requests there.in_flight b
    (subst (λ (x : Geometry). HoldsBetween x b (world_of r.told last.requests)) (sym geometry)
    (told_content last.mirror r.told r.tells at.sound.honest last.requests at.sound.in_flight b held))
    (inr (λ j k s low. kept.unstored.agree j k s)))
