-- What recovering members hold goes along each life, and with it a content.
use Rattle.std.proofs.Common.{◌≡◌, ℕ, ◌≤◌, inl, inr, false, List, [], ◌∷◌, Option, Some, refl, sym, ap, ◌∙◌, subst}
use Rattle.md_model.specs.Sectors.{Geometry, chunk_of, is_passed}
use Rattle.md_model.specs.Devices.{Stored, Super}
use Rattle.md_model.specs.States.{is_in_sync, is_recovering}
use Rattle.md_model.specs.Behind.{IsBehind}
use Rattle.md_model.specs.Content.{Content, Becomes, BecomesAtOpening, Holds}
use Rattle.md_model.specs.Events.{Event}
use Rattle.md_model.specs.Openings.{IsWithinLimits}
use Rattle.md_model.specs.Rebuilding.{is_missing, is_target, lacks, MayFill}
use Rattle.md_model.specs.Recovering as model
use Rattle.md_model.specs.Recovering.{IsAsPrepared, IsAsStored, JoinsBehind, OpensBehind, RecoveringHolds, recovered}
use Rattle.md_model.specs.Crashes as crashes
use Rattle.md_model.specs.Worlds.{Request, World}
use Rattle.md_model.proofs.Content.AsKept.{prepared_as_kept, stored_as_kept}
use Rattle.md_model.proofs.Content.ContentAlong.{after_event}
use Rattle.md_model.proofs.Content.RecoveringLives.{IsResumed, resumed_again, told_by}
use Rattle.md_model.proofs.Content.RecoveringSteps.{recovering_step}
use Rattle.md_model.proofs.Steps.Roles.{HasRoles, roles_opened, roles_step}
use Rattle.md_state.specs.View.{Disk, MirrorView, geometry_of}
use Rattle.md_array.specs.Worlds.{none_in_flight, super_of, world_of}
use Rattle.md_laws.specs.Lives.{IsReopened, MirrorLife, MirrorLifeWith}
use Rattle.md_laws.specs.Recovering.{ContentGoesAlong, IsOffsetKnown, KeepsRecovering, MirrorLifeJoins, MirrorLifeTells, MirrorOpensBehind, MirrorRunJoins, MirrorRunTells, SaysNoMore, SaysNoMoreWhenOpened}
use Rattle.md_laws.specs.Runs.{HasRested, IsStart, MirrorRun, MirrorRunWith, Moment, RestsThenDoes, history_of, opened_as, then_as}
use Rattle.md_laws.proofs.Runs.LeftBehind.{content_next, held_along, held_next, held_then, kept_here, leads_to, reopens_here, same, same_here, small_here}
use Rattle.md_laws.proofs.Runs.ContentRuns.{without_content}
use Rattle.md_laws.proofs.Runs.Lists.{ListsAreIn, listed_at_crash, lists_run, lists_when_opened}
use Rattle.md_laws.proofs.Runs.Offsets.{SuresIn, offset_at_crash, offsets_run, offsets_when_opened, sures_when_opened}
use Rattle.md_laws.proofs.Runs.MirrorContents.{IsHeldAt, life_held_at, starts_small}
use Rattle.md_laws.proofs.Runs.MirrorLives.{as_left, left}
use Rattle.md_laws.proofs.Runs.MirrorRuns.{starts}
use Rattle.md_laws.proofs.Runs.Rests.{at_rest, history_rests}
use Rattle.md_laws.proofs.Crashes.LeftAtCrashes.{IsSorted, KeepsMemory}
use Rattle.md_laws.proofs.Crashes.LeftContents.{read_in}

-- the content is held, members have their roles, and those that recover hold it where they lack nothing
pub record IsResumedAt (g : Geometry) (opened : Super) (t : Moment) (a : Content) : Type 0 where
  pub held : IsHeldAt g opened t a
  pub roles : HasRoles g (world_of t.mirror t.requests)
  pub recovering : RecoveringHolds g a (world_of t.mirror t.requests)

-- what is kept of the member is the same in another world, and so is which devices say no more
module _ (g : Geometry) (w next : World) (keeps : KeepsMemory w next) (k : ℕ) (d : Stored) where
  stored_still : IsAsStored w k d → IsAsStored next k d
  stored_still t = record {
    offset = λ own e. subst (λ n. own.offset ≤ n) (sym (keeps.offset k)) (t.offset own e);
    listed = λ s off. keeps.bad k s ∙ t.listed s off;
  }

  fill_still : MayFill w k → MayFill next k
  fill_still may = record {
    rebuild = record { idle = λ n. keeps.request n ∙ may.rebuild.idle n; target = ap is_target (keeps.state k) ∙ may.rebuild.target };
    noted = λ on i c in_ marked.
        let was = sym (keeps.marks c) ∙ marked in
        keeps.known i c was (may.noted (sym (ap is_recovering (keeps.state k)) ∙ on) i c (sym (ap is_in_sync (keeps.state i)) ∙ in_) was);
  }

  missing_still : (c : ℕ) → is_missing g next k c ≡ is_missing g w k c
  missing_still c = λ i. lacks (is_in_sync (keeps.state k i)) (is_recovering (keeps.state k i)) (keeps.marks c i) (is_passed g (keeps.offset k i) c)

  prepared_still : IsAsPrepared g w k d → IsAsPrepared g next k d
  prepared_still t = record {
    offset = λ own e. subst (λ n. own.offset ≤ n) (sym (keeps.offset k)) (t.offset own e);
    listed = λ s low off. elim (t.listed s low off) [
      | inl bad ↦ inl (keeps.bad k s ∙ bad)
      | inr lacked ↦ inr (missing_still (chunk_of g s) ∙ lacked)
    ];
  }

half_kept : (g : Geometry) (w : World) (k : ℕ) (d e : Stored) → crashes.IsHalfOpened g d e → model.IsAsKept g w k d → model.IsAsKept g w k e
half_kept g w k d e half t = record {
  offset = λ own is. t.offset own (sym half.super ∙ is);
  listed = λ own is s low off at i in_ bit. t.listed own (sym half.super ∙ is) s low (sym (ap (λ f. f s) half.listed) ∙ off) at i in_ bit;
}

module _ (g : Geometry) (small : IsWithinLimits g) where
  pub resumed_rests : (opened : Super) (t last : Moment) (a : Content) → HasRested t last → IsResumedAt g opened t a → IsResumedAt g opened last a
  resumed_rests opened t last a r is = record {
    held = held_along g small opened [] t a last a (r, refl) is.held;
    roles = subst (λ h. HasRoles g h.now) (sym (history_rests t last r)) is.roles;
    recovering = subst (λ h. RecoveringHolds g a h.now) (sym (history_rests t last r)) is.recovering;
  }

  pub resumed_then : (opened : Super) (t : Moment) (a : Content) → IsResumedAt g opened t a → (e : Event) (m : MirrorView) (requests : ℕ → Option Request) → RestsThenDoes t.mirror t.requests e m requests
      → (b : Content) → Becomes (geometry_of t.mirror.array) e (world_of t.mirror t.requests) a b → JoinsBehind (geometry_of t.mirror.array) e (world_of t.mirror t.requests) a
      → IsResumedAt g opened (then_as t e m requests) b
  resumed_then opened t a is e m requests does b becomes joins =
      let w = world_of t.mirror t.requests in
      let s = leads_to g small opened t a is.held e m requests does in
      let c = subst (λ y. Becomes y e w a b) is.held.geometry becomes in
      record {
        held = held_then g small opened t a is.held e m requests does b c;
        roles = roles_step g small opened (history_of t) is.held.held.kept is.roles e (world_of m requests) s.1;
        recovering = recovering_step g small.wide a w is.held.held.kept.tracked is.roles is.held.held.holds.at_rest is.recovering b e (world_of m requests) s.1 c
            (subst (λ y. JoinsBehind y e w a) is.held.geometry joins);
      }

  resumed_along : (opened : Super) (es : List Event) (t : Moment) (a : Content) (last : Moment) (b : Content) (r : MirrorRunWith t a es last b) → MirrorRunJoins t a es last b r
      → IsResumedAt g opened t a → IsResumedAt g opened last b
  resumed_along opened [] t a last b r told is = subst (IsResumedAt g opened last) (sym r.1) (resumed_rests opened t last a r.0 is)
  resumed_along opened (e ∷ es) t a last b r told is =
      resumed_along opened es (then_as t e r.0 r.1) r.2 last b r.5 told.1 (resumed_then opened t a is e r.0 r.1 r.3 r.2 r.4 told.0)

  -- a content goes along a run
  along : (opened : Super) (es : List Event) (t : Moment) (a : Content) (last : Moment) → IsResumedAt g opened t a → (r : MirrorRun t es last) → MirrorRunTells t a es last r
      → (b : Content) × MirrorRunWith t a es last b × IsResumedAt g opened last b
  along opened [] t a last is r told = (a, (r, refl), resumed_rests opened t last a r is)
  along opened (e ∷ es) t a last is r told =
      let w = world_of t.mirror t.requests in
      let next = world_of r.0 r.1 in
      let s = leads_to g small opened t a is.held e r.0 r.1 r.2 in
      let c = after_event g small opened (history_of t) e next a is.held.held (told_by g w a is.recovering is.held.held.holds.at_rest e next s.1) s.1 in
      let becomes = subst (λ y. Becomes y e w a c.0) (sym is.held.geometry) c.1 in
      let more = along opened es (then_as t e r.0 r.1) c.0 last (resumed_then opened t a is e r.0 r.1 r.2 c.0 becomes told.0) r.3 (told.1 c.0 becomes) in
      (more.0, (r.0, r.1, c.0, r.2, becomes, more.1), more.2)

  -- ---- a crash, and the next opening
  module _ (opened : MirrorView) (same_opened : geometry_of opened.array ≡ g) (t : Moment) (a : Content) (is : IsResumedAt g (super_of opened.array.shared) t a)
      (next : MirrorView) (again : IsReopened opened t next) where
    abbrev was : Super
    was = super_of opened.array.shared

    abbrev first : Super
    first = super_of next.array.shared

    abbrev w : World
    w = world_of next none_in_flight

    abbrev s : IsSorted t again.devices.left
    s = left t is.held.sound next again.before again.devices again.opens

    abbrev now : World
    now = (history_of s.moment).now

    abbrev here : Geometry
    here = geometry_of t.mirror.array

    abbrev small_there : IsWithinLimits here
    small_there = small_here g small opened same_opened t a is.held next again

    same_next : geometry_of next.array ≡ here
    same_next = same g small opened same_opened t a is.held next again ∙ sym is.held.geometry

    pub resumed_at_stop : IsResumed here was (history_of s.moment) a
    resumed_at_stop =
        let x = resumed_along was s.events t a s.moment a (s.still a) (s.joins a) is in
        subst (λ y. IsResumed y was (history_of s.moment) a) (sym is.held.geometry) (record { held = x.held.held; roles = x.roles; recovering = x.recovering })

    as_kept : (k : ℕ) → SaysNoMore t again.devices.left k → model.IsAsKept here now k (read_in t.mirror.array again.devices.left k)
    as_kept k says =
        let d : Stored = read_in t.mirror.array again.devices.left k in
        elim says [
          | inl stored ↦ stored_as_kept here now k d (stored_still here (world_of t.mirror t.requests) now s.memory k d stored)
          | inr x ↦ prepared_as_kept here now resumed_at_stop.held.kept.tracked k d (ap is_recovering (s.memory.state k) ∙ x.0)
              (fill_still here (world_of t.mirror t.requests) now s.memory k d x.1) (prepared_still here (world_of t.mirror t.requests) now s.memory k d x.2)
        ]

    -- what a device says that is known
    module _ (es : List Event) (r : MirrorRun (opened_as opened) es t) (first_lists : ListsAreIn (λ _. false) (world_of opened none_in_flight)) (first_sures : SuresIn (world_of opened none_in_flight)) (k : ℕ)
        (known : IsOffsetKnown t again.devices.left again.devices.is_left k) where
      known_says : (own : Super) → (read_in t.mirror.array again.devices.left k).super ≡ Some own → SaysNoMore t again.devices.left k
      known_says own told = inl (record {
        offset = offset_at_crash t is.held.sound (offsets_run es (opened_as opened) t r (offsets_when_opened opened) first_sures) again.devices.left again.devices.is_left k known.offset;
        listed = listed_at_crash t is.held.sound (lists_run es (opened_as opened) t r first_lists) again.devices.left again.devices.is_left k known.rebuilt known.log known.beside own told;
      })

      known_as_kept : model.IsAsKept here now k (read_in t.mirror.array again.devices.left k)
      known_as_kept = record {
        offset = λ own told. (as_kept k (known_says own told)).offset own told;
        listed = λ own told. (as_kept k (known_says own told)).listed own told;
      }

    module _ (es : List Event) (run : MirrorRun (opened_as opened) es t) (first_lists : ListsAreIn (λ _. false) (world_of opened none_in_flight)) (first_sures : SuresIn (world_of opened none_in_flight))
        (b : Content) (told : MirrorOpensBehind opened t next again b) (becomes : BecomesAtOpening (geometry_of next.array) w a b) where
      opens_behind : OpensBehind here was (history_of s.moment) first w (reopens_here g small opened same_opened t a is.held next again) b
      opens_behind j on = elim (told j on) [
        | inl x ↦
            let there = as_left t is.held.sound next opened (same_here g small opened same_opened t a is.held next again) small_there (kept_here g small opened same_opened t a is.held next again) again j x.0 x.1 in
            let r = reopens_here g small opened same_opened t a is.held next again in
            inl (subst (λ i. (r.made_of i ≡ r.left i) × model.IsAsKept here now i (r.left i)) (sym there.0) (
              there.1,
              half_kept here now x.0 (read_in t.mirror.array again.devices.left x.0) (r.left x.0) there.2 (elim x.2 [
                | inl known ↦ known_as_kept es run first_lists first_sures x.0 known
                | inr says ↦ as_kept x.0 says
              ]),
            ))
        | inr late ↦ inr (subst (λ y. IsBehind y b (recovered y w j) w) same_next late)
      ]

      pub resumed_next : IsResumedAt g first (opened_as next) b
      resumed_next =
          let x = resumed_again here small_there was (history_of s.moment) a resumed_at_stop first w (reopens_here g small opened same_opened t a is.held next again) b
          (subst (λ y. BecomesAtOpening y w a b) same_next becomes) opens_behind in
          record {
            held = held_next g small opened same_opened t a is.held next again b becomes;
            roles = subst (λ y. HasRoles y w) is.held.geometry x.roles;
            recovering = subst (λ y. RecoveringHolds y b w) is.held.geometry x.recovering;
          }

  -- ---- lives
  resumed_life : (m : MirrorView) (a : Content) (es : List Event) (rest : List (List Event)) (final : MirrorView) (last : Moment) (b : Content) (life : MirrorLifeWith m a es rest final last b)
      → MirrorLifeJoins m a es rest final last b life → geometry_of m.array ≡ g → ListsAreIn (λ _. false) (world_of m none_in_flight) → SuresIn (world_of m none_in_flight) → IsResumedAt g (super_of m.array.shared) (opened_as m) a
      → IsResumedAt g (super_of final.array.shared) last b
  resumed_life m a es [] final last b life told chunks lists sures is =
      subst (λ (x : MirrorView). IsResumedAt g (super_of x.array.shared) last b) (sym life.0) (resumed_along (super_of m.array.shared) es (opened_as m) a last b life.1 told is)
  resumed_life m a es (more ∷ rest) final last b life told chunks lists sures is =
      let next = life.1 in
      let mid = resumed_along (super_of m.array.shared) es (opened_as m) a life.0 life.2 life.4 told.0 is in
      resumed_life next life.3 more rest final last b life.7 told.2 (same g small m chunks life.0 life.2 mid.held next life.5)
      (lists_when_opened life.5.before next life.5.devices.honest life.5.opens) (sures_when_opened life.5.before next life.5.devices.honest life.5.opens)
      (resumed_next m chunks life.0 life.2 mid next life.5 es (without_content es (opened_as m) a life.0 life.2 life.4) lists sures life.3 told.1 life.6)

  along_life : (m : MirrorView) (a : Content) (es : List Event) (rest : List (List Event)) (final : MirrorView) (last : Moment) → geometry_of m.array ≡ g → ListsAreIn (λ _. false) (world_of m none_in_flight) → SuresIn (world_of m none_in_flight) → IsResumedAt g (super_of m.array.shared) (opened_as m) a
      → (life : MirrorLife m es rest final last) → MirrorLifeTells m a es rest final last life → (b : Content) × MirrorLifeWith m a es rest final last b
  along_life m a es [] final last chunks lists sures is life told =
      let x = along (super_of m.array.shared) es (opened_as m) a last is life.1 told in
      (x.0, (life.0, x.1))
  along_life m a es (more ∷ rest) final last chunks lists sures is life told =
      let t = life.0 in
      let next = life.1 in
      let x = along (super_of m.array.shared) es (opened_as m) a t is life.2 told.0 in
      let d = content_next g small m chunks t x.0 x.2.held next life.3 in
      let behind = told.1 x.0 d.0 x.1 d.1 in
      let y = along_life next d.0 more rest final last (same g small m chunks t x.0 x.2.held next life.3) (lists_when_opened life.3.before next life.3.devices.honest life.3.opens) (sures_when_opened life.3.before next life.3.devices.honest life.3.opens)
      (resumed_next m chunks t x.0 x.2 next life.3 es life.2 lists sures d.0 behind.0 d.1) life.4 behind.1 in
      (y.0, (t, next, x.0, d.0, x.1, life.3, d.1, y.1))

pub resumed_first : (before : List Disk) (m : MirrorView) (a : Content) → IsStart before m → Holds (geometry_of m.array) a (world_of m none_in_flight) → RecoveringHolds (geometry_of m.array) a (world_of m none_in_flight)
    → IsResumedAt (geometry_of m.array) (super_of m.array.shared) (opened_as m) a
resumed_first before m a start holds recovering = record {
  held = life_held_at before m a start holds [] [] m (opened_as m) a (refl, (at_rest (opened_as m), refl));
  roles = roles_opened (geometry_of m.array) (super_of m.array.shared) (world_of m none_in_flight) (starts before m start);
  recovering = recovering;
}

pub says_no_more_when_opened : SaysNoMoreWhenOpened
says_no_more_when_opened before m start k known =
    inl (record { offset = offsets_when_opened m k known; listed = λ s off. (starts before m start).opening.states.bad k s ∙ off })

pub keeps_recovering : KeepsRecovering
keeps_recovering before m a start holds recovering es rest final last b life told =
    (resumed_life (geometry_of m.array) (starts_small before m start) m a es rest final last b life told refl (lists_when_opened before m start.honest start.opened) (sures_when_opened before m start.honest start.opened)
    (resumed_first before m a start holds recovering)).recovering

pub content_along : ContentGoesAlong
content_along before m a start holds recovering es rest final last life told =
    along_life (geometry_of m.array) (starts_small before m start) m a es rest final last refl (lists_when_opened before m start.honest start.opened) (sures_when_opened before m start.honest start.opened)
    (resumed_first before m a start holds recovering) life told
