-- A member that failed differs from the content only in marked chunks, as long as some role is empty.
use Rattle.std.proofs.Common.{◌≡◌, ℕ, ◌<◌, ◌≤◌, inl, inr, true, false, true≢false, List, [], ◌∷◌, length, Option, slice_get, Some, refl, sym, ap, ◌∙◌, subst, arith}
use Rattle.md_model.specs.Sectors.{Geometry}
use Rattle.md_model.specs.Behind.{IsBehind, IsDegraded, Leaves}
use Rattle.md_model.specs.Content.{Content, Becomes, BecomesAtOpening, Holds}
use Rattle.md_model.specs.Counts.{IsFull}
use Rattle.md_model.specs.Devices.{Stored, Super}
use Rattle.md_model.specs.Events.{Event, MemberPart, Step}
use Rattle.md_model.specs.Openings.{IsWithinLimits}
use Rattle.md_model.specs.Lives.{Reopens}
use Rattle.md_model.specs.Runs as runs
use Rattle.md_model.specs.Worlds as worlds
use Rattle.md_model.specs.Worlds.{Request, World}
use Rattle.md_model.proofs.Lives.Lives.{start_again}
use Rattle.md_model.proofs.Content.BehindSteps.{behind_leaving, behind_log, behind_step}
use Rattle.md_model.specs.States as states
use Rattle.md_model.proofs.Cases.{none_some}
use Rattle.md_model.proofs.Puts.{put-hit}
use Rattle.md_model.proofs.Content.ContentLives as model
use Rattle.md_model.proofs.Content.ContentLives.{IsHeld, held_again, stays_behind}
use Rattle.md_model.proofs.Content.Contents.{holds_step}
use Rattle.md_model.proofs.Content.Picked.{has_content_again}
use Rattle.md_model.proofs.Steps.Keeps.{IsKept, kept_step}
use Rattle.md_kept_members.specs.View.{MemberView}
use Rattle.md_state.specs.Members.{IsInSync, is_degraded}
use Rattle.md_state.specs.View.{Disk, MirrorView, geometry_of}
use Rattle.md_array.specs.ReadAsKept.{misread_after}
use Rattle.md_array.specs.Worlds.{block_on, none_in_flight, stored_of, super_of, world_of}
use Rattle.md_array.proofs.StepLemmas.OneMember.{stored_there}
use Rattle.md_array.proofs.Worlds.Supers.{super_shown}
use Rattle.md_array.proofs.Worlds.InSync.{in_sync_there}
use Rattle.md_array.proofs.Worlds.Risen.{full_when_not_degraded}
use Rattle.md_laws.specs.LeftBehind.{DegradedLifeWith, DegradedRunWith, MemberFails, MemberFailsWithLog, IsLeftOut, LiesBehind, LogLiesBehind, MissingLiesBehind, failed_then, log_failed_then}
use Rattle.md_laws.specs.Lives.{IsReopened, MirrorLifeWith}
use Rattle.md_laws.specs.Runs.{IsStart, MirrorRunWith, Moment, RestsThenDoes, history_of, opened_as, then_as}
use Rattle.md_laws.proofs.Openings.Reopened.{same_geometry}
use Rattle.md_laws.proofs.Runs.MirrorContents.{IsHeldAt, final_geometry, life_held_at, starts_small}
use Rattle.md_laws.proofs.Runs.MirrorLives.{cut_there, left, reopens_there}
use Rattle.md_laws.proofs.Runs.Moments.{geometry_kept, run_keeps, sound_when_opened}
use Rattle.md_laws.proofs.Runs.Rests.{history_rests, rests_does}
use Rattle.md_laws.proofs.Crashes.LeftAtCrashes.{IsSorted}

-- the device d is behind, and the content is held
pub record StaysBehind (g : Geometry) (opened : Super) (d : Stored) (t : Moment) (a : Content) : Type 0 where
  pub held : IsHeldAt g opened t a
  pub behind : IsBehind g a d (world_of t.mirror t.requests)

-- the event within whose call a crash came
at_crash : (t : Moment) (a : Content) (es : List Event) (last : Moment) → length es ≤ 1 → is_degraded t.mirror.array ≡ true → MirrorRunWith t a es last a → DegradedRunWith t a es last a
at_crash t a [] last few empty r = r
at_crash t a (e ∷ []) last few empty r = (r.0, r.1, r.2, empty, r.3, r.4, r.5)
at_crash t a (e ∷ f ∷ es) last few empty r = absurd (omega (arith, few))

module _ (g : Geometry) (small : IsWithinLimits g) (opened : Super) where
  pub leads_to : (t : Moment) (a : Content) → IsHeldAt g opened t a → (e : Event) (m : MirrorView) (requests : ℕ → Option Request) → RestsThenDoes t.mirror t.requests e m requests
      → Step g (world_of t.mirror t.requests) e (world_of m requests)
  leads_to t a is e m requests x =
      subst (λ y. Step y (world_of t.mirror t.requests) e (world_of m requests)) is.geometry (rests_does t.mirror m t.requests requests e x).step

  pub held_then : (t : Moment) (a : Content) → IsHeldAt g opened t a → (e : Event) (m : MirrorView) (requests : ℕ → Option Request) → RestsThenDoes t.mirror t.requests e m requests
      → (b : Content) → Becomes g e (world_of t.mirror t.requests) a b → IsHeldAt g opened (then_as t e m requests) b
  held_then t a is e m requests x b becomes =
      let leads = rests_does t.mirror m t.requests requests e x in
      let s = leads_to t a is e m requests x in
      let h = history_of t in
      let w = world_of m requests in
      record {
        held = record { kept = kept_step g small opened h e w is.held.kept s; holds = holds_step g a b h.now e w is.held.kept.tracked is.held.holds s becomes };
        sound = record { sound = leads.sound; read = leads.read t.failed_at t.misread is.sound.read; honest = x.does.honest; in_flight = x.does.in_flight };
        geometry = leads.geometry ∙ is.geometry;
      }

  pub held_along : (es : List Event) (t : Moment) (a : Content) (last : Moment) (b : Content) → MirrorRunWith t a es last b → IsHeldAt g opened t a → IsHeldAt g opened last b
  held_along [] t a last b r is = record {
    held = subst (λ h. IsHeld g opened h b) (sym (history_rests t last r.0)) (subst (IsHeld g opened (history_of t)) (sym r.1) is.held);
    sound = run_keeps [] t last r.0 is.sound;
    geometry = geometry_kept [] t last r.0 ∙ is.geometry;
  }
  held_along (e ∷ es) t a last b r is =
      held_along es (then_as t e r.0 r.1) r.2 last b r.5
      (held_then t a is e r.0 r.1 r.3 r.2 (subst (λ y. Becomes y e (world_of t.mirror t.requests) a r.2) is.geometry r.4))

  degraded_there : (t : Moment) (a : Content) → IsHeldAt g opened t a → is_degraded t.mirror.array ≡ true → IsDegraded g (world_of t.mirror t.requests)
  degraded_there t a is empty full =
      true≢false (sym empty ∙ (full_when_not_degraded t.mirror.disks t.mirror.array t.requests is.sound.sound.roles).1
      (subst (λ y. IsFull y (world_of t.mirror t.requests)) (sym is.geometry) full))

  behind_along : (d : Stored) (es : List Event) (t : Moment) (a : Content) (last : Moment) (b : Content) → DegradedRunWith t a es last b → StaysBehind g opened d t a → StaysBehind g opened d last b
  behind_along d [] t a last b r is = record {
    held = held_along [] t a last b r is.held;
    behind = subst (λ h. IsBehind g b d h.now) (sym (history_rests t last r.0)) (subst (λ x. IsBehind g x d (world_of t.mirror t.requests)) (sym r.1) is.behind);
  }
  behind_along d (e ∷ es) t a last b r is =
      let becomes = subst (λ y. Becomes y e (world_of t.mirror t.requests) a r.2) is.held.geometry r.5 in
      let s = leads_to t a is.held e r.0 r.1 r.4 in
      behind_along d es (then_as t e r.0 r.1) r.2 last b r.6 (record {
        held = held_then t a is.held e r.0 r.1 r.4 r.2 becomes;
        behind = behind_step g d a r.2 (world_of t.mirror t.requests) e (world_of r.0 r.1) is.held.held.kept.tracked (degraded_there t a is.held r.3) is.behind s.1 becomes;
      })

-- ---- a crash, and the next opening
module _ (g : Geometry) (small : IsWithinLimits g) (opened : MirrorView) (same_opened : geometry_of opened.array ≡ g) (t : Moment) (a : Content) (is : IsHeldAt g (super_of opened.array.shared) t a)
    (next : MirrorView) (again : IsReopened opened t next) where
  abbrev was : Super
  was = super_of opened.array.shared

  abbrev first : Super
  first = super_of next.array.shared

  abbrev w : World
  w = world_of next none_in_flight

  abbrev s : IsSorted t again.devices.left
  s = left t is.sound next again.before again.devices again.opens

  pub held_at_crash : IsHeldAt g was s.moment a
  held_at_crash = held_along g small was s.events t a s.moment a (s.still a) is

  pub same : geometry_of next.array ≡ g
  same = same_geometry t is.sound again.before next.array again.devices again.opens.array ∙ is.geometry

  -- by the array's own chunks
  abbrev here : Geometry
  here = geometry_of t.mirror.array

  pub small_here : IsWithinLimits here
  small_here = subst IsWithinLimits (sym is.geometry) small

  pub same_here : geometry_of opened.array ≡ here
  same_here = same_opened ∙ sym is.geometry

  pub kept_here : IsKept here was (history_of t)
  kept_here = subst (λ x. IsKept x was (history_of t)) (sym is.geometry) is.held.kept

  abbrev pub reopens_here : Reopens here was (history_of s.moment) first w
  reopens_here = reopens_there t is.sound next opened same_here small_here kept_here again

  of_model : Reopens g was (history_of s.moment) first w
  of_model = subst (λ x. Reopens x was (history_of s.moment) first w) is.geometry reopens_here

  pub start_next : runs.IsStart g first w
  start_next = start_again g was (history_of s.moment) first w small held_at_crash.held.kept of_model

  -- some content is held then
  pub content_next : (b : Content) × BecomesAtOpening (geometry_of next.array) w a b
  content_next =
      let b = has_content_again g was (history_of s.moment) held_at_crash.held.kept a first w of_model start_next held_at_crash.held.holds.unmarked in
      (b.0, subst (λ x. BecomesAtOpening x w a b.0) (sym same) b.1)

  -- what it becomes
  module _ (b : Content) (becomes : BecomesAtOpening (geometry_of next.array) (world_of next none_in_flight) a b) where
    pub becomes_there : BecomesAtOpening g w a b
    becomes_there = subst (λ x. BecomesAtOpening x w a b) same becomes

    pub held_next : IsHeldAt g first (opened_as next) b
    held_next = record {
      held = held_again g small (λ v. Unit {0}) was (history_of s.moment) a first w b held_at_crash.held of_model becomes_there;
      sound = sound_when_opened again.before next again.devices.honest again.opens;
      geometry = same;
    }

    -- a device that was behind
    behind_again : (d : Stored) → is_degraded t.mirror.array ≡ true → IsBehind g a d (world_of t.mirror t.requests) → StaysBehind g first d (opened_as next) b
    behind_again d empty late =
        let then = behind_along g small was d s.events t a s.moment a (at_crash t a s.events s.moment s.few empty (s.still a)) (record { held = is; behind = late }) in
        record { held = held_next; behind = stays_behind g small was (history_of s.moment) a then.held.held first w of_model b becomes_there d then.behind }

    -- a member that was in sync, as the crash left it
    cut_behind : (k : ℕ) (o : MemberView) → IsInSync t.mirror.array k o → IsBehind g b (s.cut k) w
    cut_behind k o on =
        let held = subst (λ x. IsHeld x was (history_of s.moment) a) (sym is.geometry) held_at_crash.held in
        let becomes_here = subst (λ x. BecomesAtOpening x w a b) (sym is.geometry) becomes_there in
        let on_then = ap states.is_in_sync (s.memory.state k) ∙ in_sync_there t.mirror.disks t.mirror.array t.requests k o on in
        let cut_is = cut_there t is.sound next opened same_here small_here kept_here again in
        subst (λ x. IsBehind x b (s.cut k) w) is.geometry (subst (λ (f : ℕ → Stored). IsBehind here b (f k) w) cut_is (model.missing_behind here small_here was (history_of s.moment) a held first w reopens_here b becomes_here k on_then))

    left_out : (k : ℕ) (r : IsLeftOut opened t k next) (same_again : r.again ≡ again) → StaysBehind g first (stored_of t.mirror.array r.member r.device.content) (opened_as next) b
    left_out k r same_again =
        let at : slice_get again.devices.left k ≡ Some r.device = subst (λ (x : IsReopened opened t next). slice_get x.devices.left k ≡ Some r.device) same_again r.at in
        let is_read = stored_there again.devices.left t.mirror.array k r.member r.device r.in_sync.member at in
        let cut : s.cut k ≡ stored_of t.mirror.array r.member r.device.content = elim (s.read k) [
          | inl read ↦ sym read ∙ is_read
          | inr none ↦ absurd (none_some (super_of r.superblock) (sym none ∙ ap (λ (d : Stored). d.super) is_read ∙ super_shown (block_on r.device.content) r.superblock r.has.fields r.has.sound))
        ] in
        record { held = held_next; behind = subst (λ (d : Stored). IsBehind g b d w) cut (cut_behind k r.member r.in_sync) }

behind_life : (g : Geometry) (small : IsWithinLimits g) (d : Stored) (opened : MirrorView) (t : Moment) (a : Content) (es : List Event) (rest : List (List Event)) (final : MirrorView) (last : Moment) (b : Content)
    → geometry_of opened.array ≡ g → StaysBehind g (super_of opened.array.shared) d t a → DegradedLifeWith opened t a es rest final last b
    → StaysBehind g (super_of final.array.shared) d last b
behind_life g small d opened t a es [] final last b chunks is life =
    subst (λ (x : MirrorView). StaysBehind g (super_of x.array.shared) d last b) (sym life.0) (behind_along g small (super_of opened.array.shared) d es t a last b life.1 is)
behind_life g small d opened t a es (more ∷ rest) final last b chunks is life =
    let mid = behind_along g small (super_of opened.array.shared) d es t a life.0 life.2 life.4 is in
    behind_life g small d life.1 (opened_as life.1) life.3 more rest final last b (same g small opened chunks life.0 life.2 mid.held life.1 life.6)
    (behind_again g small opened chunks life.0 life.2 mid.held life.1 life.6 life.3 life.7 d life.5 mid.behind) life.8

-- a failure changes nothing of the content
same_content : (g : Geometry) (w : World) (a : Content) (k : ℕ) (e : Event) → Leaves e k → Becomes g e w a a
same_content g w a k (Event.Fail j) it = refl
same_content g w a k (Event.WriteFails j part) it = refl
same_content g w a k e it = absurd it

pub failed_behind : (before : List Disk) (m : MirrorView) (a : Content) → IsStart before m → Holds (geometry_of m.array) a (world_of m none_in_flight)
    → (es : List Event) (rest : List (List Event)) (final : MirrorView) (t : Moment) (b : Content) → MirrorLifeWith m a es rest final t b
    → (k : ℕ) (f : MemberFails t k) → StaysBehind (geometry_of m.array) (super_of final.array.shared) ((world_of f.mirror f.requests).stored k) (failed_then t k f) b
failed_behind before m a start holds es rest final t b life k f =
    let g = geometry_of m.array in
    let opened = super_of final.array.shared in
    let small = starts_small before m start in
    let is = life_held_at before m a start holds es rest final t b life in
    let w = world_of t.mirror t.requests in
    let s = leads_to g small opened t b is f.event f.mirror f.requests f.does in
    let on = in_sync_there t.mirror.disks t.mirror.array t.requests k f.member f.in_sync in
    record {
      held = held_then g small opened t b is f.event f.mirror f.requests f.does b (same_content g w b k f.event f.it);
      behind = behind_leaving g b w is.held.kept.tracked is.held.holds k on f.event f.it (world_of f.mirror f.requests) s.1;
    }

-- nor whom an opening misreads
pub failed_clear : (t : Moment) (k : ℕ) (f : MemberFails t k) → t.misread k ≡ false → (failed_then t k f).misread k ≡ false
failed_clear t k f clear = same_read f.event f.it ∙ clear
  where
    same_read : (e : Event) → Leaves e k → misread_after e t.mirror.array (world_of t.mirror t.requests) t.misread k ≡ t.misread k
    same_read (Event.Fail j) it = refl
    same_read (Event.WriteFails j part) it = refl
    same_read e it = absurd it

pub failed_later : (before : List Disk) (m : MirrorView) (a : Content) → IsStart before m → Holds (geometry_of m.array) a (world_of m none_in_flight)
    → (es : List Event) (rest : List (List Event)) (final : MirrorView) (t : Moment) (b : Content) → MirrorLifeWith m a es rest final t b
    → (k : ℕ) (f : MemberFails t k) (more : List Event) (others : List (List Event)) (newest : MirrorView) (last : Moment) (c : Content)
    → DegradedLifeWith final (failed_then t k f) b more others newest last c
    → StaysBehind (geometry_of m.array) (super_of newest.array.shared) ((world_of f.mirror f.requests).stored k) last c
failed_later before m a start holds es rest final t b life k f more others newest last c degraded =
    behind_life (geometry_of m.array) (starts_small before m start) ((world_of f.mirror f.requests).stored k) final (failed_then t k f) b more others newest last c
    (final_geometry before m a start holds es rest final t b life) (failed_behind before m a start holds es rest final t b life k f) degraded

pub left_behind : LiesBehind
left_behind before m a start holds es rest final t b life k f more others newest last c degraded =
    (failed_later before m a start holds es rest final t b life k f more others newest last c degraded).behind

-- its log could not be stored
module _ (before : List Disk) (m : MirrorView) (a : Content) (start : IsStart before m) (holds : Holds (geometry_of m.array) a (world_of m none_in_flight))
    (es : List Event) (rest : List (List Event)) (final : MirrorView) (t : Moment) (b : Content) (life : MirrorLifeWith m a es rest final t b)
    (k : ℕ) (f : MemberFailsWithLog t k) where
  abbrev log_g : Geometry
  log_g = geometry_of m.array

  abbrev log_opened : Super
  log_opened = super_of final.array.shared

  log_is : IsHeldAt log_g log_opened t b
  log_is = life_held_at before m a start holds es rest final t b life

  log_on : worlds.IsInSync (world_of t.mirror t.requests) k
  log_on = in_sync_there t.mirror.disks t.mirror.array t.requests k f.member f.in_sync

  pub log_held : IsHeldAt log_g log_opened (log_failed_then t k f) b
  log_held = held_then log_g (starts_small before m start) log_opened t b log_is (Event.WriteFails k MemberPart.Log) f.mirror f.requests f.does b refl

  pub log_later : (device : Stored) → ((s : ℕ) → s < m.array.chunks.size → device.content s ≡ ((world_of f.mirror f.requests).stored k).content s)
      → ((s : ℕ) → s < m.array.chunks.size → device.listed s ≡ false → ((world_of t.mirror t.requests).stored k).listed s ≡ false)
      → (more : List Event) (others : List (List Event)) (newest : MirrorView) (last : Moment) (c : Content) → DegradedLifeWith final (log_failed_then t k f) b more others newest last c
      → StaysBehind log_g (super_of newest.array.shared) device last c
  log_later device content listed more others newest last c degraded =
      let small = starts_small before m start in
      let w = world_of t.mirror t.requests in
      let now = world_of f.mirror f.requests in
      let s = (leads_to log_g small log_opened t b log_is (Event.WriteFails k MemberPart.Log) f.mirror f.requests f.does).1 in
      let left_there : (now.stored k) ≡ s.0 = ap (λ (v : World). v.stored k) s.2.3 ∙ put-hit k s.0 w.stored in
      behind_life log_g small device final (log_failed_then t k f) b more others newest last c (final_geometry before m a start holds es rest final t b life)
      (record {
        held = log_held;
        behind = behind_log log_g b w log_is.held.kept.tracked log_is.held.holds k log_on s.0 now s.1.1 s.2 device (λ y low. content y low ∙ ap (λ (d : Stored). d.content y) (left_there ∙ s.1.1.rest)) listed;
      })
      degraded

pub log_left_behind : LogLiesBehind
log_left_behind before m a start holds es rest final t b life k f device content listed more others newest last c degraded =
    (log_later before m a start holds es rest final t b life k f device content listed more others newest last c degraded).behind

-- what the crash left of one that was in sync is read as it was kept
pub missing_later : (before : List Disk) (m : MirrorView) (a : Content) → IsStart before m → Holds (geometry_of m.array) a (world_of m none_in_flight)
    → (es : List Event) (rest : List (List Event)) (final : MirrorView) (t : Moment) (b : Content) → MirrorLifeWith m a es rest final t b
    → (k : ℕ) (next : MirrorView) (r : IsLeftOut final t k next) (c : Content) → BecomesAtOpening (geometry_of next.array) (world_of next none_in_flight) b c
    → (more : List Event) (others : List (List Event)) (newest : MirrorView) (last : Moment) (d : Content) → DegradedLifeWith next (opened_as next) c more others newest last d
    → StaysBehind (geometry_of m.array) (super_of newest.array.shared) (stored_of t.mirror.array r.member r.device.content) last d
missing_later before m a start holds es rest final t b life k next r c becomes more others newest last d degraded =
    let g = geometry_of m.array in
    let small = starts_small before m start in
    let is = life_held_at before m a start holds es rest final t b life in
    let chunks = final_geometry before m a start holds es rest final t b life in
    let late = left_out g small final chunks t b is next r.again c becomes k r refl in
    behind_life g small (stored_of t.mirror.array r.member r.device.content) next (opened_as next) c more others newest last d late.held.geometry late degraded

pub missing_behind : MissingLiesBehind
missing_behind before m a start holds es rest final t b life k next r c becomes more others newest last d degraded =
    (missing_later before m a start holds es rest final t b life k next r c becomes more others newest last d degraded).behind
