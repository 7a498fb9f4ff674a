-- An opening with devices that come back before any data was let through is a start.
use Rattle.std.proofs.Common.{◌≡◌, ◌⊎◌, ℕ, inl, inr, cond, nat_lt, List, length, Some, None, true≢false, refl, sym, ap, ◌∙◌, subst}
use Rattle.std.proofs.lemmas.List.{length-map}
use Rattle.md_model.specs.Sectors.{Geometry, chunk_of}
use Rattle.md_model.specs.States.{is_in_sync}
use Rattle.md_model.specs.Devices.{AgreeAt, Covered, Stored, Super, is_marked}
use Rattle.md_model.specs.Worlds as worlds
use Rattle.md_model.specs.Worlds.{World}
use Rattle.md_model.specs.Assembly.{IsFound, IsFreshest}
use Rattle.md_model.specs.Events.{Event}
use Rattle.md_model.specs.Returns.{KeepsMembers, WasAway, beside}
use Rattle.md_model.specs.Crashes as crashes
use Rattle.md_model.specs.Crashes.{IsFit, WasTried}
use Rattle.md_model.proofs.Cases.{by_option}
use Rattle.md_model.proofs.Lives.OpeningCovers.{own_of}
use Rattle.md_model.proofs.Present.{same_members}
use Rattle.md_model.proofs.Lives.Returns.{covers_returns}
use Rattle.md_state.specs.View.{Disk, MirrorView, geometry_of}
use Rattle.md_array.specs.Open.Opened.{IsOpenedFrom}
use Rattle.md_array.specs.Worlds.{none_in_flight, super_of, world_of}
use Rattle.md_laws.specs.Left.{contents_of}
use Rattle.md_laws.specs.Lives.{AreFoundAgain}
use Rattle.md_laws.specs.Returning.{StartsAgain, returned}
use Rattle.md_laws.specs.Runs.{IsStart, MirrorRun, Moment, history_of, opened_as}
use Rattle.md_laws.proofs.Crashes.LeftContents.{read_in, read_same}
use Rattle.md_laws.proofs.Runs.MirrorLives.{all_of, as_placed, at_none, at_some, made_of, opens, opens_again, place}
use Rattle.md_laws.proofs.Runs.MirrorRuns.{model_run, starts}
use Rattle.md_laws.proofs.Runs.Moments.{IsSoundAt, geometry_kept, run_keeps, sound_when_opened}
use Rattle.md_laws.proofs.Openings.Reopened.{read_alike, same_geometry}
use Rattle.md_laws.proofs.Openings.OpenedFrom.{super_was}

module _ (before : List Disk) (m : MirrorView) (start : IsStart before m) (es : List Event) (t : Moment) (keeps : KeepsMembers es) (r : MirrorRun (opened_as m) es t)
    (untried : WasTried (geometry_of m.array) (history_of t) → ⊥) (found : List Disk) (next : MirrorView) (devices : AreFoundAgain t found)
    (same : contents_of devices.left ≡ contents_of t.mirror.disks) (from_these : IsOpenedFrom found next)
    (fit : IsFit (super_of m.array.shared) (super_of next.array.shared) t.failed_at) where
  abbrev g : Geometry
  g = geometry_of t.mirror.array

  abbrev opened : Super
  opened = super_of m.array.shared

  abbrev first : Super
  first = super_of next.array.shared

  abbrev w : World
  w = world_of next none_in_flight

  abbrev count : ℕ
  count = length m.array.members

  at_t : IsSoundAt t
  at_t = run_keeps es (opened_as m) t r (sound_when_opened before m start.honest start.opened)

  kept : geometry_of t.mirror.array ≡ geometry_of m.array
  kept = geometry_kept es (opened_as m) t r

  -- those that were left
  abbrev left : ℕ → Stored
  left = made_of t at_t next found devices from_these

  left_at : (k j : ℕ) → devices.at k ≡ Some j → crashes.IsHalfOpened g (read_in t.mirror.array t.mirror.disks k) (left k) ⊎ ((left k).super ≡ None)
  left_at k j is = inl (subst (λ (x : Stored). crashes.IsHalfOpened g x (left k)) (read_same t.mirror.array devices.left t.mirror.disks same k)
      (subst (crashes.IsHalfOpened g (read_in t.mirror.array devices.left k)) (sym (at_some t at_t next found devices from_these k j is)) (read_alike t at_t found next.array devices from_these.array k j is)))

  is_left : crashes.IsLeftByCrash g (history_of t) left
  is_left = (
    (world_of t.mirror t.requests).stored,
    inl refl,
    λ k. by_option (devices.at k) (λ gone. inr (ap (λ (x : Stored). x.super) (at_none t at_t next found devices from_these k gone))) (left_at k),
    λ k spoiled. by_option (devices.at k) (λ gone. ap (λ (x : Stored). x.super) (at_none t at_t next found devices from_these k gone))
        (λ j is. absurd (true≢false (sym spoiled ∙ devices.unspoiled k j is))),
  )

  -- and those that come back, as the next opening has them all
  same_count : length devices.left ≡ count
  same_count =
      sym (length-map devices.left (λ d. d.content)) ∙ ap length same ∙ length-map t.mirror.disks (λ d. d.content) ∙ at_t.sound.fits.as_many
      ∙ same_members (geometry_of m.array) es (history_of (opened_as m)) (history_of t) keeps (model_run (geometry_of m.array) es (opened_as m) t refl r)

  abbrev all : ℕ → Stored
  all = all_of t at_t next found devices from_these

  abbrev back : ℕ → Stored
  back = returned t found devices next.array count

  all_beside : all ≡ beside count left back
  all_beside = λ i k. cond (nat_lt k (same_count i)) (left k) (returned t found devices next.array (same_count i) k)

  freshest : IsFreshest all first
  freshest =
      let again = opens_again t at_t next found devices from_these in
      let fresh = again.opened.freshest in
      record {
        at = again.at fresh.at;
        is = again.super fresh.at first fresh.is;
        greatest = λ k own e. let j = again.all k own e in fresh.greatest j.0 own j.1;
      }

  abbrev CoversAll : Geometry → (ℕ → Stored) → Type 0
  CoversAll x stored = Covered x stored (IsFound x stored first)

  all_covered : WasAway (geometry_of m.array) opened (world_of m none_in_flight) back → CoversAll g all
  all_covered away =
      subst (λ x. CoversAll x all) (sym kept) (subst (CoversAll (geometry_of m.array)) (sym all_beside)
      (covers_returns (geometry_of m.array) opened (world_of m none_in_flight) (starts before m start) back away es (history_of t) keeps
      (model_run (geometry_of m.array) es (opened_as m) t refl r) untried left first
      (subst (λ x. crashes.IsLeftByCrash x (history_of t) left) kept is_left)
      (subst (λ (x : ℕ → Stored). IsFreshest x first) all_beside freshest) fit))

  -- a member in sync of the next mirror is found so among them
  abbrev slot : ℕ → ℕ
  slot = place t at_t next found devices from_these

  placed : (k : ℕ) → all (slot k) ≡ read_in next.array found k
  placed = as_placed t at_t next found devices from_these

  found_there : (k : ℕ) → worlds.IsInSync w k → IsFound g all first (slot k)
  found_there k on =
      let it = opens t at_t next found devices from_these in
      let x = own_of g first w it.opened k on in
      record {
        own = x.0;
        is = ap (λ (d : Stored). d.super) (placed k) ∙ super_was found next devices.honest from_these k x.0 x.1;
        in_sync = sym (ap is_in_sync (it.opened.states.by_table k x.0 x.1)) ∙ on;
      }

  covered_next : CoversAll g all → Covered g (read_in next.array found) (worlds.IsInSync w)
  covered_next covered i j k s low a b c off =
      subst (λ (d : Stored). AgreeAt d (read_in next.array found k) s) (placed j) (subst (λ (d : Stored). AgreeAt (all (slot j)) d s) (placed k)
      (covered (slot i) (slot j) (slot k) s low (found_there i a) (found_there j b) (found_there k c) (ap (λ (d : Stored). is_marked d (chunk_of g s)) (placed i) ∙ off)))

  start_next : WasAway (geometry_of m.array) opened (world_of m none_in_flight) back → IsStart found next
  start_next away = record {
    honest = devices.honest;
    opened = from_these;
    covered = subst (λ x. Covered x (read_in next.array found) (worlds.IsInSync w)) (sym (same_geometry t at_t found next.array devices from_these.array)) (covered_next (all_covered away));
  }

pub starts_again : StartsAgain
starts_again before m start es t keeps r untried found next devices same from_these fit away = start_next before m start es t keeps r untried found next devices same from_these fit away
