-- A member that has no role leaves: the mirror is then as one that was opened by the superblock that it keeps, and the number is one that no member
-- had since.
use Rattle.std.proofs.Common.{◌≡◌, ◌≢◌, ◌∙◌, ◌⊎◌, inl, inr, ℕ, zero, suc, ◌<◌, ◌≤◌, Bool, true, false, true≢false, ◌||◌, ◌&&◌, cond, eqb, eq-eqb, nat_lt, List, [], ◌∷◌, refl, sym, ap, subst, arith}
use Rattle.std.specs.Prelude.{◌+◌, not, slice_get, Some, None}
use Rattle.std.proofs.Math.Bool.{and-false}
use Rattle.std.proofs.lemmas.Bool.{eqb-true, or_right}
use Rattle.md_assembly.specs.States.{state_of}
use Rattle.md_assembly.specs.declared.state.MemberState.{MemberState}
use Rattle.md_assembly.specs.declared.state.MemberState.TheVariants.{Faulty, Spare, Stale}
use Rattle.md_kept_members.specs.View.{MemberView}
use Rattle.md_model.specs.Assembly.{state_by}
use Rattle.md_model.specs.Counts.{role_at_rise}
use Rattle.md_model.specs.Devices.{Stored, Super}
use Rattle.md_model.specs.Events.{Event, Happens}
use Rattle.md_model.specs.Membership.{is_spare, removed}
use Rattle.md_model.specs.Openings.{IsWithinLimits}
use Rattle.md_model.specs.Runs.{History, away_after}
use Rattle.md_model.specs.Sectors.{Geometry}
use Rattle.md_model.specs.States as model
use Rattle.md_model.specs.Worlds.{World}
use Rattle.md_model.proofs.Cases.{by_test, is_below, not_below}
use Rattle.md_model.proofs.Steps.Keeps.{IsKept, kept_run}
use Rattle.md_model.proofs.Table.{found_says, has_role}
use Rattle.md_state.specs.Members.{IsMember}
use Rattle.md_state.specs.View.{Disk, MirrorView, geometry_of}
use Rattle.md_array.specs.Worlds.{block_on, kind_of, super_in, super_of, world_of}
use Rattle.md_array.proofs.StepLemmas.OneMember.{stored_there}
use Rattle.md_array.proofs.Worlds.InSync.{number_at}
use Rattle.md_array.proofs.Worlds.Shown.{at_is}
use Rattle.md_array.proofs.Worlds.States.{same_in_sync, same_state}
use Rattle.md_laws.specs.Lives.{IsCalledOut}
use Rattle.md_laws.specs.Runs.{IsStart, MirrorRun, Moment, history_of, opened_as, then_as}
use Rattle.md_laws.proofs.Runs.MirrorLives.{final_geometry, keeps_geometry, life_kept}
use Rattle.md_laws.proofs.Runs.MirrorRuns.{model_run, starts}
use Rattle.md_laws.proofs.Runs.Moments.{IsSoundAt, geometry_kept, life_keeps, run_keeps, sound_when_opened}
use Rattle.md_laws.proofs.Runs.Rests.{at_rest, rests_does}
use Rattle.md_call_laws.specs.Crashes.Departed.{FindsOutSince, GivesOut, HasNoRole, IsTwoEventsBehind, IsStale, MemberLeavesAt, LeavesOut, StaleIsOut, StandsSince, StartsSince, StaysAway, StaysOutNext, StaysOutSince, after_leaving}
use Rattle.md_call_laws.proofs.CrashLemmas.Beside as beside
use Rattle.md_call_laws.proofs.CrashLemmas.Beside.{behind_next, out_next, shut_out_since}

-- a device is not found in sync whose number has no role,
no_role_out : (g : Geometry) (first own : Super) → (first.role own.number < g.raid_disks → ⊥) → model.is_in_sync (state_by g first own) ≡ false
no_role_out g first own out = by_test (model.is_in_sync (state_by g first own)) (λ on. absurd (out (found_says g first own on).role)) (λ off. off)

-- and by two superblocks with the same count and the same role for it, it is found alike
same_row : (g : Geometry) (first other own : Super) → first.role own.number ≡ other.role own.number → first.events ≡ other.events
    → model.is_in_sync (state_by g first own) ≡ model.is_in_sync (state_by g other own)
same_row g first other own role count = λ i. model.is_in_sync (state_by g (record other { role = λ _. role i; events = count i }) own)

-- ---- of the model: as if it had been opened now
module _ (g : Geometry) (small : IsWithinLimits g) (opened anew : Super) (h : History) (d : ℕ) (t : IsKept g opened h) (count : anew.events ≡ h.now.events)
    (roles : (e : ℕ) → anew.role e ≡ h.now.role e) (absent : h.now.present d ≡ false) (out : h.now.role d < g.raid_disks → ⊥) where
  abbrev pub since : History
  since = record h { away = λ e. h.away e || eqb e d }

  -- a number that is away is one of those, or this
  either : (e : ℕ) → (h.away e || eqb e d) ≡ true → (h.away e ≡ true) ⊎ (e ≡ d)
  either e off = by_test (h.away e) (λ was. inl was) (λ no. inr (eqb-true e d (sym (ap (λ b. b || eqb e d) no) ∙ off)))

  -- it has no role, once data was let through
  none_tried : h.tried ≡ true → (e : ℕ) → (h.away e ≡ true) ⊎ (e ≡ d) → h.now.role e < g.raid_disks → ⊥
  none_tried tried e (inr same) low = out (subst (λ x. h.now.role x < g.raid_disks) same low)
  none_tried tried e (inl off) low =
      let r = t.recorded in
      by_test (nat_lt opened.events h.now.events)
      (λ newer. r.out_memory e off (is_below opened.events h.now.events newer) low)
      (λ old.
      let same : h.now.events ≤ opened.events = not_below opened.events h.now.events old in
      let in_ = r.some_in in
      let own = r.has_super in_.0 in_.1 in
      let up = r.out_tried e tried off (subst (λ x. x < g.raid_disks) (r.unrisen same e) low) in_.0 own.0 in_.1 own.1 in
      let low_count = r.below in_.0 own.0 own.1 in
      absurd (omega arith))

  pub kept_since : IsKept g anew since
  kept_since =
      let r = t.recorded in
      record {
        tracked = t.tracked;
        unstored = t.unstored;
        recorded = record {
          number = r.number;
          below = r.below;
          later = omega (arith, count);
          has_super = r.has_super;
          there = r.there;
          entries = r.entries;
          present = r.present;
          slot = r.slot;
          gone = λ e off. elim (either e off) [ inl was ↦ r.gone e was | inr same ↦ ap h.now.present same ∙ absent ];
          distinct = r.distinct;
          by_memory = r.by_memory;
          by_opening = λ _ k own has late low. r.by_memory k (r.slot k own has) (subst (λ x. x < g.raid_disks) (roles (h.now.number k)) low);
          by_super = λ j own has late newer. let b = r.below j own has in absurd (omega (arith, count));
          as_new = λ k own has newer. let b = r.below k own has in absurd (omega (arith, count));
          stale = λ k own has state. elim (r.stale k own has state) [
            | inl few ↦ let l = r.later in let late : own.events + 1 < anew.events = omega (arith, count) in inl late
            | inr other ↦ inr (λ same. other (same ∙ roles (h.now.number k) ∙ r.roles.stale k own has state))
          ];
          recovering = r.recovering;
          clear = r.clear;
          bit = r.bit;
          in_memory = r.in_memory;
          roles = record {
            own = r.roles.own;
            by_opening = λ k _ _ _ _. roles (h.now.number k);
            by_super = λ j first _ _ has _ _ _ newer. let b = r.below j first has in absurd (omega (arith, count));
            stale = λ k _ _ _. sym (roles (h.now.number k));
            stale_super = λ j first _ _ has _ _ newer. let b = r.below j first has in absurd (omega (arith, count));
          };
          unrisen = λ _ e. sym (roles e);
          out_memory = λ e off newer. absurd (omega (arith, count));
          out_super = λ j own e has off newer. let b = r.below j own has in absurd (omega (arith, count));
          out_tried = λ e tried off low k own on has. absurd (none_tried tried e (either e off) (subst (λ x. x < g.raid_disks) (roles e) low));
          current = r.current;
          some_in = r.some_in;
        };
        alone = λ n p e flight off low. elim (either e off) [ inl was ↦ t.alone n p e flight was low | inr same ↦ out (subst (λ x. h.now.role x < g.raid_disks) same low) ];
      }

  -- what the superblock of the opening calls out of sync, the one that is kept now does too, as long as the number is away
  pub still_out : (own : Super) → h.away own.number ≡ true → model.is_in_sync (state_by g opened own) ≡ false → model.is_in_sync (state_by g anew own) ≡ false
  still_out own off was_out =
      let r = t.recorded in
      by_test (nat_lt opened.events h.now.events)
      (λ newer. no_role_out g anew own (λ low. r.out_memory own.number off (is_below opened.events h.now.events newer) (subst (λ x. x < g.raid_disks) (roles own.number) low)))
      (λ old.
      let same : h.now.events ≤ opened.events = not_below opened.events h.now.events old in
      let later = r.later in
      let role_is : anew.role own.number ≡ opened.role own.number = roles own.number ∙ r.unrisen same own.number in
      let count_is : anew.events ≡ opened.events = count ∙ omega arith in
      same_row g anew opened own role_is count_is ∙ was_out)

  pub tried_out : (own : Super) → h.tried ≡ true → h.away own.number ≡ true → model.is_in_sync (state_by g anew own) ≡ false
  tried_out own tried off = no_role_out g anew own (λ low. none_tried tried own.number (inl off) (subst (λ x. x < g.raid_disks) (roles own.number) low))

-- ---- a member that has no role leaves
removed_absent : (g : Geometry) (w : World) (k : ℕ) (spare full : Bool) → (removed g w k spare full).present (w.number k) ≡ false
removed_absent g w k true full = ap (λ b. w.present (w.number k) && not b) (eq-eqb (w.number k) (w.number k) refl) ∙ and-false (w.present (w.number k))
removed_absent g w k false full = ap (λ b. w.present (w.number k) && not b) (eq-eqb (w.number k) (w.number k) refl) ∙ and-false (w.present (w.number k))

-- one of two numbers, of which none is a role
not_role : (limit : ℕ) (b : Bool) (x : ℕ) → limit ≤ 32 → (x < limit → ⊥) → cond b 65534 x < limit → ⊥
not_role limit true x few out low = omega arith
not_role limit false x few out low = out low

removed_out : (g : Geometry) (w : World) (k : ℕ) (spare full : Bool) → g.raid_disks ≤ 32 → (w.role (w.number k) < g.raid_disks → ⊥) → (removed g w k spare full).role (w.number k) < g.raid_disks → ⊥
removed_out g w k true full few out = not_role g.raid_disks (eqb (w.number k) (w.number k) && nat_lt (w.number k) w.entries) (role_at_rise g w (w.number k)) few
    (not_role g.raid_disks (nat_lt (w.role (w.number k)) g.raid_disks && not (w.present (w.number k))) (w.role (w.number k)) few out)
removed_out g w k false full few out = out

no_role : (s : MemberState) → HasNoRole s → has_role (kind_of s) ≡ false
no_role Faulty is = refl
no_role Spare is = refl
no_role s is = absurd is

stale_kind : (s : MemberState) → IsStale s → kind_of s ≡ model.State.Stale
stale_kind (Stale role) is = refl
stale_kind s is = absurd is

-- what is said of a device by the table of the model, and by a mirror's superblock
called_by : (g : Geometry) (v : MirrorView) (n : MemberView) → geometry_of v.array ≡ g → model.is_in_sync (state_by g (super_of v.array.shared) (super_of n.superblock)) ≡ false → IsCalledOut v n
called_by g v n same off =
    sym (same_in_sync (state_of v.array.shared n.superblock)) ∙ ap model.is_in_sync (same_state v.array n.superblock)
    ∙ subst (λ x. model.is_in_sync (state_by x (super_of v.array.shared) (super_of n.superblock)) ≡ false) (sym same) off

by_called : (g : Geometry) (v : MirrorView) (n : MemberView) → geometry_of v.array ≡ g → IsCalledOut v n → model.is_in_sync (state_by g (super_of v.array.shared) (super_of n.superblock)) ≡ false
by_called g v n same out =
    subst (λ x. model.is_in_sync (state_by x (super_of v.array.shared) (super_of n.superblock)) ≡ false) same
    (sym (ap model.is_in_sync (same_state v.array n.superblock)) ∙ same_in_sync (state_of v.array.shared n.superblock) ∙ out)

-- ---- where a mirror stands since an opening, or since a member left
record IsKeptSince (opened : MirrorView) (t : Moment) : Type 0 where
  at : IsSoundAt t
  same : geometry_of opened.array ≡ geometry_of t.mirror.array
  small : IsWithinLimits (geometry_of t.mirror.array)
  kept : IsKept (geometry_of t.mirror.array) (super_of opened.array.shared) (history_of t)

module _ (opened : MirrorView) (t : Moment) (s : IsKeptSince opened t) (k : ℕ) (l : MemberLeavesAt t k) where
  abbrev g : Geometry
  g = geometry_of t.mirror.array

  abbrev w : World
  w = world_of t.mirror t.requests

  abbrev number : ℕ
  number = l.member.superblock.dev_number

  abbrev now : Moment
  now = then_as t (Event.Remove k) l.mirror l.requests

  run : MirrorRun t (Event.Remove k ∷ []) now
  run = (l.mirror, l.requests, l.does, at_rest now)

  at_now : IsSoundAt now
  at_now = run_keeps (Event.Remove k ∷ []) t now run s.at

  kept_now : IsKept g (super_of opened.array.shared) (history_of now)
  kept_now = kept_run g s.small (super_of opened.array.shared) (Event.Remove k ∷ []) (history_of t) (history_of now) s.kept (model_run g (Event.Remove k ∷ []) t now refl run)

  number_is : w.number k ≡ number
  number_is = number_at t.mirror.disks t.mirror.array t.requests k l.member l.is_member

  state_is : w.state k ≡ kind_of l.member.state
  state_is = at_is t.mirror.array k model.State.Faulty (λ (x : MemberView). kind_of x.state) l.member l.is_member

  happens : Happens g w (Event.Remove k) (world_of l.mirror l.requests)
  happens = (rests_does t.mirror l.mirror t.requests l.requests (Event.Remove k) l.does).step.1

  out_before : w.role (w.number k) < g.raid_disks → ⊥
  out_before low = true≢false (sym (s.kept.recorded.by_memory k happens.1.there low) ∙ ap has_role state_is ∙ no_role l.member.state l.out)

  absent : (history_of now).now.present number ≡ false
  absent = ap (λ (v : World). v.present number) happens.3 ∙ ap (removed g w k (is_spare (w.state k)) happens.0).present (sym number_is) ∙ removed_absent g w k (is_spare (w.state k)) happens.0

  out_then : (history_of now).now.role number < g.raid_disks → ⊥
  out_then low = removed_out g w k (is_spare (w.state k)) happens.0 s.small.few out_before
      (subst (λ x. x < g.raid_disks) (ap (λ (v : World). v.role number) happens.3 ∙ ap (removed g w k (is_spare (w.state k)) happens.0).role (sym number_is)) low)

  kept_after : IsKept g (super_of l.mirror.array.shared) (history_of (after_leaving t k l))
  kept_after = kept_since g s.small (super_of opened.array.shared) (super_of l.mirror.array.shared) (history_of now) number kept_now refl (λ e. refl) absent out_then

  same_now : geometry_of l.mirror.array ≡ g
  same_now = geometry_kept (Event.Remove k ∷ []) t now run

  -- and from there on
  module _ (more : List Event) (last : Moment) (r : MirrorRun (after_leaving t k l) more last) where
    sound_after : IsSoundAt (after_leaving t k l)
    sound_after = record { sound = at_now.sound; read = at_now.read; honest = at_now.honest; in_flight = at_now.in_flight }

    same_last : geometry_of last.mirror.array ≡ geometry_of l.mirror.array
    same_last = geometry_kept more (after_leaving t k l) last r

    all_along : geometry_of last.mirror.array ≡ g
    all_along = same_last ∙ same_now

    kept_there : IsKeptSince l.mirror last
    kept_there = record {
      at = run_keeps more (after_leaving t k l) last r sound_after;
      same = sym same_last;
      small = subst IsWithinLimits (sym all_along) s.small;
      kept = subst (λ x. IsKept x (super_of l.mirror.array.shared) (history_of last)) (sym all_along)
          (kept_run g s.small (super_of l.mirror.array.shared) more (history_of (after_leaving t k l)) (history_of last) kept_after (model_run g more (after_leaving t k l) last same_now r));
    }

module _ (before : List Disk) (m : MirrorView) (start : IsStart before m) where
  begins : IsSoundAt (opened_as m)
  begins = sound_when_opened before m start.honest start.opened

  stands : (n : ℕ) (opened : MirrorView) (last : Moment) → StandsSince m n opened last → IsKeptSince opened last
  stands zero opened last s =
      let here = keeps_geometry before m start s.0 s.1 opened last s.2 in
      record {
        at = life_keeps m s.0 s.1 opened last begins s.2;
        same = final_geometry m s.0 s.1 opened last begins s.2 ∙ sym here;
        small = subst IsWithinLimits (sym here) (starts before m start).small;
        kept = subst (λ x. IsKept x (super_of opened.array.shared) (history_of last)) (sym here) (life_kept before m start s.0 s.1 opened last s.2);
      }
  stands (suc n) opened last s =
      subst (λ (v : MirrorView). IsKeptSince v last) (sym s.7) (kept_there s.0 s.1 (stands n s.0 s.1 s.2) s.3 s.4 s.5 last s.6)

-- what is kept of each moment since
module _ (before : List Disk) (m : MirrorView) (start : IsStart before m) (count : ℕ) (opened : MirrorView) (t : Moment) (s : StandsSince m count opened t) where
  here : IsKeptSince opened t
  here = stands before m start count opened t s

  -- ---- what keeps a device out
  leaves_called_out : (k : ℕ) (l : MemberLeavesAt t k) (n : MemberView) → n.superblock.dev_number ≡ l.member.superblock.dev_number → IsCalledOut l.mirror n
  leaves_called_out k l n same = called_by (geometry_of l.mirror.array) l.mirror n refl
      (no_role_out (geometry_of l.mirror.array) (super_of l.mirror.array.shared) (super_of n.superblock)
      (λ low. out_then opened t here k l
      (subst (λ y. (super_of l.mirror.array.shared).role y < (geometry_of t.mirror.array).raid_disks) same
      (subst (λ y. (super_of l.mirror.array.shared).role n.superblock.dev_number < y.raid_disks) (same_now opened t here k l) low))))

  stays_away_there : (k : ℕ) (l : MemberLeavesAt t k) (d : ℕ) → t.away d ≡ true → (after_leaving t k l).away d ≡ true
  stays_away_there k l d off = ap (λ b. b || eqb d l.member.superblock.dev_number) off

  -- the superblock that is kept after another one left
  by_kept_now : (k : ℕ) (l : MemberLeavesAt t k) (n : MemberView) → model.is_in_sync (state_by (geometry_of t.mirror.array) (super_of l.mirror.array.shared) (super_of n.superblock)) ≡ false
      → IsCalledOut l.mirror n
  by_kept_now k l n = called_by (geometry_of t.mirror.array) l.mirror n (same_now opened t here k l)

  called_still : (k : ℕ) (l : MemberLeavesAt t k) (n : MemberView) → t.away n.superblock.dev_number ≡ true → IsCalledOut opened n → IsCalledOut l.mirror n
  called_still k l n off out = by_kept_now k l n
      (still_out (geometry_of t.mirror.array) here.small (super_of opened.array.shared) (super_of l.mirror.array.shared) (history_of (then_as t (Event.Remove k) l.mirror l.requests))
      l.member.superblock.dev_number (kept_now opened t here k l) refl (λ e. refl) (absent opened t here k l) (out_then opened t here k l) (super_of n.superblock) off
      (by_called (geometry_of t.mirror.array) opened n here.same out))

  tried_called : (k : ℕ) (l : MemberLeavesAt t k) (n : MemberView) → t.away n.superblock.dev_number ≡ true → t.tried ≡ true → IsCalledOut l.mirror n
  tried_called k l n off tried = by_kept_now k l n
      (tried_out (geometry_of t.mirror.array) here.small (super_of opened.array.shared) (super_of l.mirror.array.shared) (history_of (then_as t (Event.Remove k) l.mirror l.requests))
      l.member.superblock.dev_number (kept_now opened t here k l) refl (λ e. refl) (absent opened t here k l) (out_then opened t here k l) (super_of n.superblock) tried off)

  still_behind : (k : ℕ) (l : MemberLeavesAt t k) (n : MemberView) → IsTwoEventsBehind opened n → IsTwoEventsBehind l.mirror n
  still_behind k l n late = let later = (kept_now opened t here k l).recorded.later in omega (arith, later, late)

  stale_behind : (k : ℕ) (m : MemberView) → IsMember t.mirror.array k m → IsStale m.state → t.spoiled k ≡ false
      → (d : Disk) → slice_get t.mirror.disks k ≡ Some d → (own : Super) → super_in (block_on d.content) ≡ Some own
      → (own.events + 1 < opened.array.shared.events) ⊎ (own.role ((world_of t.mirror t.requests).number k) ≢ (super_of opened.array.shared).role ((world_of t.mirror t.requests).number k))
  stale_behind k m is stale known d at own read =
      here.kept.recorded.stale k own
      (ap (λ b. cond b None ((world_of t.mirror t.requests).stored k).super) known ∙ ap (λ (x : Stored). x.super) (stored_there t.mirror.disks t.mirror.array k m d is at) ∙ read)
      (at_is t.mirror.array k model.State.Faulty (λ (x : MemberView). kind_of x.state) m is ∙ stale_kind m.state stale)

pub leaves_out : LeavesOut
leaves_out before m start count opened t s k l n same =
    inl (
      or_right ((then_as t (Event.Remove k) l.mirror l.requests).away n.superblock.dev_number) (eqb n.superblock.dev_number l.member.superblock.dev_number) (eq-eqb n.superblock.dev_number l.member.superblock.dev_number same),
      leaves_called_out before m start count opened t s k l n same,
    )

pub stale_is_out : StaleIsOut
stale_is_out before m start count opened t s k x is stale known d at own read n no_newer =
    elim (stale_behind before m start count opened t s k x is stale known d at own read) [
      | inl few ↦ let late : n.superblock.events + 1 < opened.array.shared.events = omega (arith, few, no_newer) in inl late
      | inr other ↦ inr (λ same. other (subst (λ e. own.role e ≡ (super_of opened.array.shared).role e) (sym (at_is t.mirror.array k 0 (λ (y : MemberView). y.superblock.dev_number) x is)) same))
    ]

pub stays_out_since : StaysOutSince
stays_out_since before m start count opened t s k l n why = elim why [
  | inl (inl (off, out)) ↦ inl (stays_away_there before m start count opened t s k l n.superblock.dev_number off, called_still before m start count opened t s k l n off out)
  | inl (inr late) ↦ inr (still_behind before m start count opened t s k l n late)
  | inr (off, tried) ↦ inl (stays_away_there before m start count opened t s k l n.superblock.dev_number off, tried_called before m start count opened t s k l n off tried)
]

-- ---- a number stays away
still_away : (d : ℕ) (e : Event) (away : ℕ → Bool) → (GivesOut d e → ⊥) → away d ≡ true → away_after e away d ≡ true
still_away d (Event.Add number left) away given off = ap (λ b. b && not (eqb d number)) off ∙ ap not (by_test (eqb d number) (λ at. absurd (given (sym (eqb-true d number at)))) (λ apart. apart))
still_away d (Event.ReAdd own offset device left) away given off = ap (λ b. b && not (eqb d own.number)) off ∙ ap not (by_test (eqb d own.number) (λ at. absurd (given (sym (eqb-true d own.number at)))) (λ apart. apart))
still_away d e away given off = off

pub stays_away : StaysAway
stays_away d [] t last r none off = ap (λ (x : Moment). x.away d) r.is ∙ off
stays_away d (e ∷ es) t last r none off = stays_away d es (then_as t e r.0 r.1) last r.3 none.1 (still_away d e t.away none.0 off)

-- ---- at an opening
pub finds_out_since : FindsOutSince
finds_out_since before m start count opened last s found next devices others opens fit =
    let x = stands before m start count opened last s in
    shut_out_since last x.at next found devices opens opened x.same x.small x.kept others fit

pub stays_out_next : StaysOutNext
stays_out_next before m start count opened last s found next devices others opens fit n no_newer why =
    let x = stands before m start count opened last s in
    elim why [
      | inl (off, out) ↦ inl (out_next last x.at next found devices opens opened x.same x.small x.kept others fit n no_newer off out)
      | inr late ↦ inr (behind_next last x.at next found devices opens opened x.same x.small x.kept others fit n late)
    ]

pub starts_since : StartsSince
starts_since before m start count opened last s next again =
    let x = stands before m start count opened last s in
    record {
      start = beside.start last x.at next again.found again.devices again.opens opened x.same x.small x.kept again.others again.fit again.out;
      among = beside.among last x.at next again.found again.devices again.opens opened x.same x.small x.kept again.others again.fit again.out;
    }
