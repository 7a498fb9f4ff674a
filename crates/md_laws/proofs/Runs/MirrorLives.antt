-- A life of a mirror is one of the model, so that what always holds of the model holds of the mirror.
use Rattle.std.proofs.Common.{◌≡◌, ℕ, ◌+◌, ◌-◌, ◌<◌, ◌≤◌, ◌⊎◌, inl, inr, true, false, cond, nat_lt, true≢false, List, [], ◌∷◌, ◌++◌, length, slice_get, Some, None, refl, sym, ap, ◌∙◌, subst, arith}
use Rattle.std.specs.Prelude.{option_map, unwrap_or}
use Rattle.std.proofs.lemmas.Option.{none-some, slice_get_past, slice_get_within}
use Rattle.md_model.specs.Sectors.{Geometry, chunk_of}
use Rattle.md_model.specs.Devices.{Stored, Super, is_marked}
use Rattle.md_model.specs.Assembly.{IsFound, IsFreshest, state_by}
use Rattle.md_model.specs.Events.{Event}
use Rattle.md_model.specs.Lives as lives
use Rattle.md_model.specs.Lives.{AgreesUnstored, Always, IsCovered, IsSound, Reopens}
use Rattle.md_model.specs.Openings as openings
use Rattle.md_model.specs.Openings.{IsWithinLimits}
use Rattle.md_model.specs.Runs as runs
use Rattle.md_model.specs.Crashes as crashes
use Rattle.md_model.specs.Crashes.{IsFit}
use Rattle.md_model.proofs.Cases.{below-nat_lt, by_option, by_test, not_below-nat_lt}
use Rattle.md_model.specs.States.{is_in_sync}
use Rattle.md_model.specs.Worlds as worlds
use Rattle.md_model.proofs.Lives.OpeningCovers.{own_of}
use Rattle.md_model.proofs.Lives.Fits as fits
use Rattle.md_model.proofs.Lives.Lives.{always, always_covered, always_out, always_safe, always_sound, always_stays_out, start_again}
use Rattle.md_model.proofs.Lives.Opened.{kept_opened}
use Rattle.md_model.proofs.Lives.Safe.{keeps_out, safe_at_crash, stays_out}
use Rattle.md_model.proofs.Steps.Keeps.{IsKept, kept_run}
use Rattle.md_model.proofs.Steps.Lists.{always_agrees}
use Rattle.md_assembly.specs.States as assembly
use Rattle.md_assembly.specs.States.{state_of}
use Rattle.md_kept_members.specs.View.{MemberView}
use Rattle.md_state.specs.View.{Disk, MirrorView, geometry_of}
use Rattle.md_state.specs.Members.{IsInSync, IsMember}
use Rattle.md_array.specs.Open.Opened.{IsOpenedFrom}
use Rattle.md_array.specs.Worlds.{none_in_flight, nothing_stored, stored_on, super_of, world_of}
use Rattle.md_array.proofs.Worlds.InSync.{in_sync_is, in_sync_there}
use Rattle.md_array.proofs.Worlds.Shown.{as_read, by_member, own_is, state_at, super_at}
use Rattle.md_array.proofs.Worlds.States.{same_in_sync, same_state}
use Rattle.md_laws.specs.Left.{IsLeftWriting}
use Rattle.md_laws.specs.Lives.{FoundHaveRecorded, AreAllLeft, AreFoundAgain, AreFurther, AtEachMoment, FindsAll, FindsInSync, FindsOut, FitsWhenThere, IsCalledOut, IsReopened, IsShutOut, IsThereInSync, KeepsGeometry, MirrorLife}
use Rattle.md_laws.specs.Runs.{IsStart, MirrorRun, Moment, history_of, opened_as}
use Rattle.md_laws.proofs.Crashes.LeftAtCrashes.{IsSorted, sorted, sorted_writing}
use Rattle.md_laws.proofs.Crashes.LeftContents.{read_in}
use Rattle.md_laws.proofs.Runs.Moments.{IsSoundAt, geometry_kept, life_keeps, run_keeps, run_then, sound_when_opened}
use Rattle.md_laws.proofs.Runs.MirrorRuns.{model_run, starts}
use Rattle.md_laws.proofs.Openings.Reopened.{read_alike, recorded_first, same_geometry}
use Rattle.md_laws.proofs.Openings.OpenedFrom.{opened_from, opened_in_place, super_stays, super_was}

-- ---- the next opening is one of the model
module _ (t : Moment) (at_t : IsSoundAt t) (next : MirrorView)
    (before : List Disk) (devices : AreFoundAgain t before) (from_these : IsOpenedFrom before next) where
  abbrev g : Geometry
  g = geometry_of t.mirror.array

  abbrev read : ℕ → Stored
  read = read_in next.array before

  -- the moment of which the crash leaves devices, or a torn write
  pub left : IsSorted t devices.left
  left = sorted t at_t devices.left devices.is_left

  abbrev stop : Moment
  stop = left.moment

  -- the devices that were left, as the next mirror is made of them
  abbrev pub made_of : ℕ → Stored
  made_of k = unwrap_or (option_map read (devices.at k)) nothing_stored

  pub at_some : (k j : ℕ) → devices.at k ≡ Some j → made_of k ≡ read j
  at_some k j is = ap (λ o. unwrap_or (option_map read o) nothing_stored) is

  pub at_none : (k : ℕ) → devices.at k ≡ None → made_of k ≡ nothing_stored
  at_none k is = ap (λ o. unwrap_or (option_map read o) nothing_stored) is

  -- device k is there, as device j by now, unless it has no superblock
  left_at : (k j : ℕ) → devices.at k ≡ Some j → crashes.IsHalfOpened g (left.cut k) (made_of k) ⊎ ((made_of k).super ≡ None)
  left_at k j is =
      let half = subst (crashes.IsHalfOpened g (read_in t.mirror.array devices.left k)) (sym (at_some k j is)) (read_alike t at_t before next.array devices from_these.array k j is) in
      elim (left.read k) [
        | inl same ↦ inl (subst (λ (x : Stored). crashes.IsHalfOpened g x (made_of k)) same half)
        | inr none ↦ inr (half.super ∙ none)
      ]

  are_left : crashes.IsLeftByCrash g (history_of stop) made_of
  are_left = (
    left.cut,
    left.is_cut,
    λ k. by_option (devices.at k) (λ gone. inr (ap (λ (x : Stored). x.super) (at_none k gone))) (left_at k),
    λ k spoiled. by_option (devices.at k) (λ gone. ap (λ (x : Stored). x.super) (at_none k gone))
        (λ j is. absurd (true≢false (sym spoiled ∙ left.spoiled k (devices.unspoiled k j is)))),
  )

  -- each member is the device at its place
  abbrev OpensInPlace : Geometry → Type 0
  OpensInPlace x = (o : openings.IsOpenedFrom x read (super_of next.array.shared) (world_of next none_in_flight)) × ((j : ℕ) → o.at j ≡ j)

  opens_in_place : OpensInPlace g
  opens_in_place = subst OpensInPlace (same_geometry t at_t before next.array devices from_these.array) (opened_from before next devices.honest from_these, opened_in_place before next devices.honest from_these)

  pub opens : openings.IsOpenedFrom g read (super_of next.array.shared) (world_of next none_in_flight)
  opens = opens_in_place.0

  -- ---- with further devices behind them
  abbrev many : ℕ
  many = length devices.left

  abbrev further : ℕ → Stored
  further j = unwrap_or (option_map (λ (_ : ℕ). nothing_stored) (devices.from j)) (read j)

  abbrev pub all_of : ℕ → Stored
  all_of k = cond (nat_lt k many) (made_of k) (further (k - many))

  all_left : (k : ℕ) → nat_lt k many ≡ true → all_of k ≡ made_of k
  all_left k low = ap (λ b. cond b (made_of k) (further (k - many))) low

  all_further : (k : ℕ) → nat_lt k many ≡ false → all_of k ≡ further (k - many)
  all_further k past = ap (λ b. cond b (made_of k) (further (k - many))) past

  further_is : (j : ℕ) → devices.from j ≡ None → further j ≡ read j
  further_is j none = ap (λ o. unwrap_or (option_map (λ (_ : ℕ). nothing_stored) o) (read j)) none

  left_within : (k j : ℕ) → devices.at k ≡ Some j → k < many
  left_within k j at = let f = devices.again k j at in slice_get_within devices.left k f.disk_left f.at_left

  -- where device j stands
  abbrev pub place : ℕ → ℕ
  place j = unwrap_or (devices.from j) (many + j)

  pub as_placed : (j : ℕ) → all_of (place j) ≡ read j
  as_placed j = by_option (devices.from j)
      (λ none.
      let at : place j ≡ many + j = ap (λ o. unwrap_or o (many + j)) none in
      let past : nat_lt (many + j) many ≡ false = not_below-nat_lt (many + j) many (omega arith) in
      let back : (many + j) - many ≡ j = omega arith in
      ap all_of at ∙ all_further (many + j) past ∙ ap further back ∙ further_is j none)
      (λ k is.
      let at : place j ≡ k = ap (λ o. unwrap_or o (many + j)) is in
      let there = devices.found j k is in
      ap all_of at ∙ all_left k (below-nat_lt k many (left_within k j there)) ∙ at_some k j there)

  -- a superblock is a member's
  of_member : (j : ℕ) (own : Super) → (read j).super ≡ Some own → j < length next.array.members
  of_member j own e = by_member next.array j
      (λ n is. slice_get_within next.array.members j n is)
      (λ past. absurd (none-some own (sym (ap (λ o. (stored_on next.array o (slice_get before j)).super) (slice_get_past next.array.members j past)) ∙ e)))

  pub opens_again : openings.IsOpenedFrom g all_of (super_of next.array.shared) (world_of next none_in_flight)
  opens_again = record {
    opened = opens.opened;
    at = λ j. place (opens.at j);
    super = λ j own e. ap (λ (x : Stored). x.super) (as_placed (opens.at j)) ∙ opens.super j own e;
    all = λ k own e. by_test (nat_lt k many)
        (λ low. by_option (devices.at k)
        (λ gone. absurd (none-some own (sym (ap (λ (x : Stored). x.super) (at_none k gone)) ∙ sym (ap (λ (x : Stored). x.super) (all_left k low)) ∙ e)))
        (λ j is. opens.all j own (sym (ap (λ (x : Stored). x.super) (at_some k j is)) ∙ sym (ap (λ (x : Stored). x.super) (all_left k low)) ∙ e)))
        (λ past. let here = sym (ap (λ (x : Stored). x.super) (all_further k past)) ∙ e in by_option (devices.from (k - many))
        (λ none. opens.all (k - many) own (sym (ap (λ (x : Stored). x.super) (further_is (k - many) none)) ∙ here))
        (λ i is. absurd (none-some own (sym (ap (λ o. (unwrap_or (option_map (λ (_ : ℕ). nothing_stored) o) (read (k - many))).super) is) ∙ here))));
    content = λ j s low in_. opens.content j s low in_ ∙ sym (ap (λ (x : Stored). x.content s) (as_placed (opens.at j)));
    listed = λ j s low in_. opens.listed j s low in_ ∙ sym (ap (λ (x : Stored). x.listed s) (as_placed (opens.at j)));
    bits = λ j s low on. opens.bits j s low on ∙ sym (ap (λ x. is_marked x (chunk_of g s)) (as_placed (opens.at j)));
  }

  -- none of those that were left has a newer one
  greatest : (i : ℕ) (own : Super) → (made_of i).super ≡ Some own → own.events ≤ next.array.shared.events
  greatest i own e = by_option (devices.at i)
      (λ gone. absurd (none-some own (sym (ap (λ (x : Stored). x.super) (at_none i gone)) ∙ e)))
      (λ j there. let x = opens.all j own (sym (ap (λ (x : Stored). x.super) (at_some i j there)) ∙ e) in opens.opened.freshest.greatest x.0 own x.1)

  -- where none is further, the superblock is the freshest of those that were left
  freshest : AreAllLeft t before devices → IsFreshest made_of (super_of next.array.shared)
  freshest all =
      let first = super_of next.array.shared in
      let fresh = opens.opened.freshest in
      let at = opens.at fresh.at in
      let is = opens.super fresh.at first fresh.is in
      let low = of_member at first is in
      let read_many = from_these.array.read.as_many in
      let members_many = from_these.array.remembered.as_many in
      let k = all at (omega arith) in
      record {
        at = k.0;
        is = ap (λ (x : Stored). x.super) (at_some k.0 at (devices.found at k.0 k.1)) ∙ is;
        greatest = greatest;
      }

  -- ---- the further ones are such of the model
  module _ (opened : MirrorView) (same : geometry_of opened.array ≡ g) (small : IsWithinLimits g) (kept : IsKept g (super_of opened.array.shared) (history_of t))
      (others : AreFurther opened t before devices next) (fit : IsFit (super_of opened.array.shared) (super_of next.array.shared) t.failed_at) where
    abbrev was : Super
    was = super_of opened.array.shared

    abbrev first : Super
    first = super_of next.array.shared

    kept_there : IsKept g was (history_of stop)
    kept_there = kept_run g small was left.events (history_of t) (history_of stop) kept (model_run g left.events t stop refl left.run)

    fit_there : IsFit was first stop.failed_at
    fit_there = subst (λ (n : ℕ). IsFit was first n) (sym left.counted) fit

    -- the superblock that is read of a further one
    abbrev read_of : (j : ℕ) (m : MemberView) → IsMember next.array j m → Super
    read_of j m is = as_read before next devices.honest from_these j m is

    is_absent : (j : ℕ) (m : MemberView) (is : IsMember next.array j m) → devices.from j ≡ None → crashes.IsAbsent was stop.away (read_of j m is)
    is_absent j m is none =
        let o = others j m is none in
        record { no_newer = o.no_newer; away = left.away m.superblock.dev_number ∙ o.away }

    -- the superblock that the opening goes by is of a device that was left, or is no newer than the opening before
    freshest_there : crashes.IsFreshestWithAbsent was made_of first
    freshest_there =
        let fresh = opens.opened.freshest in
        let x = own_is before next devices.honest from_these fresh.at first fresh.is in
        record {
          whose = by_option (devices.from fresh.at)
              (λ none. inr (subst (λ (v : Super). v.events ≤ opened.array.shared.events) x.2 (others fresh.at x.0 x.1 none).no_newer))
              (λ k is. inl (k, ap (λ (d : Stored). d.super) (at_some k fresh.at (devices.found fresh.at k is)) ∙ super_was before next devices.honest from_these fresh.at first fresh.is));
          greatest = greatest;
        }

    -- a member in sync that is there was in sync then, and has a superblock
    there_in_sync : (k : ℕ) (o : MemberView) → IsInSync t.mirror.array k o → worlds.IsInSync (history_of stop).now k
    there_in_sync k o on = ap is_in_sync (left.memory.state k) ∙ in_sync_there t.mirror.disks t.mirror.array t.requests k o on

    own_there : (k j : ℕ) → devices.at k ≡ Some j → (own : Super) × ((made_of k).super ≡ Some own)
    own_there k j is =
        let f = devices.again k j is in
        let low = slice_get_within before j f.disk_now f.at_now in
        let read_many = from_these.array.read.as_many in
        let members_many = from_these.array.remembered.as_many in
        let x = opens.opened.members.filled j (omega arith) in
        (x.0, ap (λ (d : Stored). d.super) (at_some k j is) ∙ super_was before next devices.honest from_these j x.0 x.1)

    -- one that is shut out is not in sync by that superblock
    out_beside : crashes.WasTried g (history_of stop) → IsThereInSync t devices.at → (other : Super) → crashes.IsAbsent was stop.away other → is_in_sync (state_by g first other) ≡ false
    out_beside tried beside other absent =
        let own = own_there beside.device beside.place beside.there in
        keeps_out g small was (history_of stop) kept_there tried made_of are_left beside.device own.0 (there_in_sync beside.device beside.member beside.in_sync) own.1 other absent first freshest_there fit_there

    called_out : (j : ℕ) (m : MemberView) (is : IsMember next.array j m) → devices.from j ≡ None → IsCalledOut opened m → is_in_sync (state_by g first (read_of j m is)) ≡ false
    called_out j m is none out =
        let by_super : is_in_sync (state_by g was (read_of j m is)) ≡ false =
        subst (λ x. is_in_sync (state_by x was (read_of j m is)) ≡ false) same
        (sym (ap is_in_sync (same_state opened.array m.superblock)) ∙ same_in_sync (state_of opened.array.shared m.superblock) ∙ out) in
        stays_out g small was (history_of stop) kept_there (read_of j m is) (is_absent j m is none) by_super made_of are_left first freshest_there fit_there

    -- the state by the table is the member's
    state_here : (j : ℕ) (m : MemberView) (is : IsMember next.array j m) → is_in_sync (state_by g first (read_of j m is)) ≡ assembly.is_in_sync m.state
    state_here j m is =
        sym (ap is_in_sync (opens.opened.states.by_table j (read_of j m is) (super_at before next devices.honest from_these j m is)))
        ∙ ap is_in_sync (state_at before next devices.honest from_these j m is) ∙ same_in_sync m.state

    pub out_when_tried : crashes.WasTried g (history_of stop) → IsThereInSync t devices.at → (j : ℕ) (m : MemberView) (is : IsMember next.array j m) → devices.from j ≡ None → assembly.is_in_sync m.state ≡ false
    out_when_tried tried beside j m is none = sym (state_here j m is) ∙ out_beside tried beside (read_of j m is) (is_absent j m is none)

    pub out_when_called : (j : ℕ) (m : MemberView) (is : IsMember next.array j m) → devices.from j ≡ None → IsCalledOut opened m → assembly.is_in_sync m.state ≡ false
    out_when_called j m is none out = sym (state_here j m is) ∙ called_out j m is none out

    -- ---- who is found in sync
    safe_there : crashes.IsSafe g (history_of stop) made_of first
    safe_there = safe_at_crash g small was (history_of stop) kept_there made_of first are_left freshest_there fit_there

    found_there : (k i : ℕ) → devices.from k ≡ Some i → worlds.IsInSync (world_of next none_in_flight) k → IsFound g made_of first i
    found_there k i is on =
        let x = own_of g first (world_of next none_in_flight) opens.opened k on in
        record {
          own = x.0;
          is = ap (λ (d : Stored). d.super) (at_some i k (devices.found k i is)) ∙ super_was before next devices.honest from_these k x.0 x.1;
          in_sync = sym (ap is_in_sync (opens.opened.states.by_table k x.0 x.1)) ∙ on;
        }

    member_then : (k : ℕ) → worlds.IsInSync (history_of stop).now k → (o : MemberView) × IsInSync t.mirror.array k o
    member_then k on = in_sync_is t.mirror.disks t.mirror.array t.requests k (sym (ap is_in_sync (left.memory.state k)) ∙ on)

    pub was_in_sync : (k i : ℕ) (n : MemberView) → IsInSync next.array k n → devices.from k ≡ Some i → (o : MemberView) × IsInSync t.mirror.array i o
    was_in_sync k i n on is = member_then i (safe_there.among i (found_there k i is (in_sync_there next.disks next.array none_in_flight k n on)))

    recorded_there : FoundHaveRecorded t next before devices → (k : ℕ) (own : Super) → worlds.IsInSync (history_of stop).now k → (made_of k).super ≡ Some own
        → (history_of stop).now.events ≤ own.events + 1
    recorded_there all k own on e = by_option (devices.at k)
        (λ gone. absurd (none-some own (sym (ap (λ (d : Stored). d.super) (at_none k gone)) ∙ e)))
        (λ j there.
        let o = member_then k on in
        let x = own_is before next devices.honest from_these j own (super_stays before next devices.honest from_these j own (sym (ap (λ (d : Stored). d.super) (at_some k j there)) ∙ e)) in
        subst (λ (v : Super). (history_of stop).now.events ≤ v.events + 1) x.2 (subst (λ (n : ℕ). n ≤ x.0.superblock.events + 1) (sym left.count) (all k j o.0 o.1 there x.0 x.1)))

    pub is_in_sync_again : FoundHaveRecorded t next before devices → (k j : ℕ) (o : MemberView) → IsInSync t.mirror.array k o → devices.at k ≡ Some j → (n : MemberView) × IsInSync next.array j n
    is_in_sync_again all k j o on there =
        let own = own_there k j there in
        let f = safe_there.all (recorded_there all) k own.0 (there_in_sync k o on) own.1 in
        let e : (read j).super ≡ Some f.own = sym (ap (λ (d : Stored). d.super) (at_some k j there)) ∙ f.is in
        in_sync_is next.disks next.array none_in_flight j
        (ap is_in_sync (opens.opened.states.by_table j f.own (super_stays before next devices.honest from_these j f.own e)) ∙ f.in_sync)

    -- ---- where none of them is in sync
    module _ (all_out : (j : ℕ) (m : MemberView) → IsMember next.array j m → devices.from j ≡ None → assembly.is_in_sync m.state ≡ false) where
      is_further : (j : ℕ) → devices.from j ≡ None → lives.IsFurther g was (history_of stop) first (read j)
      is_further j none =
          let known : (own : Super) → (read j).super ≡ Some own → (m : MemberView) × (is : IsMember next.array j m) × (read_of j m is ≡ own) =
          λ own e. own_is before next devices.honest from_these j own (super_stays before next devices.honest from_these j own e) in
          record {
            absent = λ own e. let x = known own e in subst (crashes.IsAbsent was stop.away) x.2 (is_absent j x.0 x.1 none);
            out = λ own e.
                let x = known own e in
                sym (ap (λ (v : Super). is_in_sync (state_by g first v)) x.2) ∙ state_here j x.0 x.1 ∙ all_out j x.0 x.1 none;
          }

      abbrev Each : ℕ → Type 0
      Each k = (all_of k ≡ made_of k) ⊎ (((made_of k).super ≡ None) × lives.IsFurther g was (history_of stop) first (all_of k))

      nothing_further : (d : Stored) → d.super ≡ None → lives.IsFurther g was (history_of stop) first d
      nothing_further d none = record {
        absent = λ own e. absurd (none-some own (sym none ∙ e));
        out = λ own e. absurd (none-some own (sym none ∙ e));
      }

      each : (k : ℕ) → Each k
      each k = by_test (nat_lt k many)
          (λ low. inl (all_left k low))
          (λ past. inr (
            by_option (devices.at k)
                (λ gone. ap (λ (x : Stored). x.super) (at_none k gone))
                (λ j is. absurd (true≢false (sym (below-nat_lt k many (left_within k j is)) ∙ past))),
            by_option (devices.from (k - many))
                (λ none. subst (lives.IsFurther g was (history_of stop) first) (sym (all_further k past ∙ further_is (k - many) none)) (is_further (k - many) none))
                (λ i is. nothing_further (all_of k) (ap (λ (x : Stored). x.super) (all_further k past) ∙ ap (λ o. (unwrap_or (option_map (λ (_ : ℕ). nothing_stored) o) (read (k - many))).super) is)),
          ))

      pub reopens : Reopens g was (history_of stop) first (world_of next none_in_flight)
      reopens = record {
        left = made_of;
        is_left = are_left;
        made_of = all_of;
        each = each;
        fit = fit_there;
        opens = opens_again;
      }

      -- a member that was left stands where it stood, and is as the crash left it, but for marks
      pub left_there : (j k : ℕ) → devices.from j ≡ Some k
          → (reopens.opens.at j ≡ k) × (reopens.made_of k ≡ reopens.left k) × crashes.IsHalfOpened g (read_in t.mirror.array devices.left k) (reopens.left k)
      unfolding reopens opens_again opens
      left_there j k is =
          let there = devices.found j k is in (
            ap place (opens_in_place.1 j) ∙ ap (λ o. unwrap_or o (many + j)) is,
            all_left k (below-nat_lt k many (left_within k j there)),
            subst (crashes.IsHalfOpened g (read_in t.mirror.array devices.left k)) (sym (at_some k j there)) (read_alike t at_t before next.array devices from_these.array k j there),
          )

      -- a member in sync of it is one that was left, and is found so
      in_sync_from : (k : ℕ) (n : MemberView) → IsInSync next.array k n → (i : ℕ) × (devices.from k ≡ Some i)
      in_sync_from k n on = by_option (devices.from k)
          (λ none. absurd (true≢false (sym on.in_sync ∙ all_out k n on.member none)))
          (λ i is. (i, is))

-- ---- further devices that are shut out
-- the same devices, left within a write of data
within_write : (t : Moment) (before : List Disk) (devices : AreFoundAgain t before) → IsLeftWriting t devices.left → AreFoundAgain t before
within_write t before devices l = record devices { is_left = inr (inr (inl l)) }

module _ (t : Moment) (at_t : IsSoundAt t) (next : MirrorView) (opened : MirrorView) (same : geometry_of opened.array ≡ geometry_of t.mirror.array)
    (small : IsWithinLimits (geometry_of t.mirror.array)) (kept : IsKept (geometry_of t.mirror.array) (super_of opened.array.shared) (history_of t)) where
  shut_out : (before : List Disk) (devices : AreFoundAgain t before) (others : AreFurther opened t before devices next) (from_these : IsOpenedFrom before next)
      → IsFit (super_of opened.array.shared) (super_of next.array.shared) t.failed_at
      → (j : ℕ) (m : MemberView) → IsMember next.array j m → devices.from j ≡ None → IsShutOut opened t before devices m → assembly.is_in_sync m.state ≡ false
  unfolding within_write left
  shut_out before devices others from_these fit j m is none why = elim why [
    | inl beside ↦
        elim beside.0 [
          | inl tried ↦ out_when_tried t at_t next before devices from_these opened same small kept others fit (inl ((left t at_t next before devices from_these).tried ∙ tried)) beside.1 j m is none
          | inr l ↦
              let b = beside.1 in
              out_when_tried t at_t next before (within_write t before devices l) from_these opened same small kept others fit (sorted_writing t at_t devices.left l)
              (record { device = b.device; member = b.member; in_sync = b.in_sync; place = b.place; there = b.there }) j m is none
        ]
    | inr out ↦ out_when_called t at_t next before devices from_these opened same small kept others fit j m is none out
  ]

  -- so none of those of a reopening is in sync
  module _ (again : IsReopened opened t next) where
    all_out : (j : ℕ) (m : MemberView) → IsMember next.array j m → again.devices.from j ≡ None → assembly.is_in_sync m.state ≡ false
    all_out j m is none = elim (again.out j m is none) [
      | inl why ↦ shut_out again.before again.devices again.others again.opens again.fit j m is none why
      | inr off ↦ off
    ]

    abbrev stop_of : Moment
    stop_of = (left t at_t next again.before again.devices again.opens).moment

    pub reopens_there : Reopens (geometry_of t.mirror.array) (super_of opened.array.shared) (history_of stop_of) (super_of next.array.shared) (world_of next none_in_flight)
    reopens_there = reopens t at_t next again.before again.devices again.opens opened same small kept again.others again.fit all_out

    pub as_left : (j k : ℕ) → again.devices.from j ≡ Some k
        → (reopens_there.opens.at j ≡ k) × (reopens_there.made_of k ≡ reopens_there.left k) × crashes.IsHalfOpened (geometry_of t.mirror.array) (read_in t.mirror.array again.devices.left k) (reopens_there.left k)
    unfolding reopens_there
    as_left = left_there t at_t next again.before again.devices again.opens opened same small kept again.others again.fit all_out

    -- what the crash left on its devices
    pub cut_there : reopens_there.is_left.0 ≡ (left t at_t next again.before again.devices again.opens).cut
    unfolding reopens_there reopens are_left
    cut_there = refl

    -- a member in sync of the next mirror is one that was left, and is found so
    from_left : (k : ℕ) (n : MemberView) → IsInSync next.array k n → (i : ℕ) × (again.devices.from k ≡ Some i)
    from_left = in_sync_from t at_t next again.before again.devices again.opens opened same small kept again.others again.fit all_out

-- ---- lives
-- A life of the model, with the same moment at its end: its runs have the event within which a crash came.
module _ (g : Geometry) (small : IsWithinLimits g) where
  again_of_model : (m : MirrorView) (es : List Event) (t : Moment) → geometry_of m.array ≡ g → (at_t : IsSoundAt t) → IsKept g (super_of m.array.shared) (history_of (opened_as m))
      → MirrorRun (opened_as m) es t → (next : MirrorView) (again : IsReopened m t next)
      → Reopens g (super_of m.array.shared) (history_of (left t at_t next again.before again.devices again.opens).moment) (super_of next.array.shared) (world_of next none_in_flight)
      × IsKept g (super_of next.array.shared) (history_of (opened_as next))
  again_of_model m es t same at_t begins r next again =
      let opened = super_of m.array.shared in
      let first = super_of next.array.shared in
      let w = world_of next none_in_flight in
      let s = left t at_t next again.before again.devices again.opens in
      let kept = kept_run g small opened es (history_of (opened_as m)) (history_of t) begins (model_run g es (opened_as m) t same r) in
      let stays = geometry_kept es (opened_as m) t r in
      let here = stays ∙ same in
      let of_model = subst (λ x. Reopens x opened (history_of s.moment) first w) here
      (reopens_there t at_t next m (sym stays) (subst IsWithinLimits (sym here) small) (subst (λ x. IsKept x opened (history_of t)) (sym here) kept) again) in
      let kept_then = kept_run g small opened s.events (history_of t) (history_of s.moment) kept (model_run g s.events t s.moment here s.run) in
      (of_model, kept_opened g first w (start_again g opened (history_of s.moment) first w small kept_then of_model))

  model_life : (m : MirrorView) (es : List Event) (rest : List (List Event)) (final : MirrorView) (last : Moment) → geometry_of m.array ≡ g → IsSoundAt (opened_as m)
      → IsKept g (super_of m.array.shared) (history_of (opened_as m)) → MirrorLife m es rest final last
      → (first : List Event) × (more : List (List Event)) × lives.Life g (super_of m.array.shared) (world_of m none_in_flight) first more (super_of final.array.shared) (history_of last)
  model_life m es [] final last same at_m begins life = (es, [], (ap (λ (x : MirrorView). super_of x.array.shared) life.0, model_run g es (opened_as m) last same life.1))
  model_life m es (more ∷ rest) final last same at_m begins life =
      let t = life.0 in
      let next = life.1 in
      let at_t = run_keeps es (opened_as m) t life.2 at_m in
      let again = life.3 in
      let s = left t at_t next again.before again.devices again.opens in
      let r = run_then es s.events (opened_as m) t s.moment life.2 s.run in
      let stays = geometry_kept es (opened_as m) t life.2 in
      let x = again_of_model m es t same at_t begins life.2 next again in
      let y = model_life next more rest final last (same_geometry t at_t again.before next.array again.devices again.opens.array ∙ stays ∙ same) (sound_when_opened again.before next again.devices.honest again.opens) x.1 life.4 in (
        es ++ s.events,
        y.0 ∷ y.1,
        (
          history_of s.moment,
          super_of next.array.shared,
          world_of next none_in_flight,
          model_run g (es ++ s.events) (opened_as m) s.moment same r,
          x.0,
          y.2,
        ),
      )

-- ---- the array is as it was at the first opening
pub life_geometry : (m : MirrorView) (es : List Event) (rest : List (List Event)) (final : MirrorView) (last : Moment) → IsSoundAt (opened_as m)
    → MirrorLife m es rest final last → geometry_of last.mirror.array ≡ geometry_of m.array
life_geometry m es [] final last at_m life = geometry_kept es (opened_as m) last life.1
life_geometry m es (more ∷ rest) final last at_m life =
    let t = life.0 in
    let next = life.1 in
    let at_t = run_keeps es (opened_as m) t life.2 at_m in
    let again = life.3 in
    life_geometry next more rest final last (sound_when_opened again.before next again.devices.honest again.opens) life.4
    ∙ same_geometry t at_t again.before next.array again.devices again.opens.array
    ∙ geometry_kept es (opened_as m) t life.2

pub keeps_geometry : KeepsGeometry
keeps_geometry before m start es rest final last life = life_geometry m es rest final last (sound_when_opened before m start.honest start.opened) life

-- ---- and when the next superblock is fit
pub fits_when_there : FitsWhenThere
fits_when_there before m start one es t r found next devices all opens late =
    let at_t = run_keeps es (opened_as m) t r (sound_when_opened before m start.honest start.opened) in
    let g = geometry_of m.array in
    let same = geometry_kept es (opened_as m) t r in
    let s = left t at_t next found devices opens in
    let there = made_of t at_t next found devices opens in
    subst (λ (n : ℕ). IsFit (super_of m.array.shared) (super_of next.array.shared) n) s.counted
    (fits.fits_when_there g (super_of m.array.shared) (world_of m none_in_flight) (starts before m start) one (es ++ s.events) (history_of s.moment)
    (model_run g (es ++ s.events) (opened_as m) s.moment refl (run_then es s.events (opened_as m) t s.moment r s.run))
    there (super_of next.array.shared)
    (subst (λ x. crashes.IsLeftByCrash x (history_of s.moment) there) same (are_left t at_t next found devices opens))
    (freshest t at_t next found devices opens all) late (subst (λ (n : ℕ). n ≤ next.array.shared.events) (sym s.counted) (recorded_first t at_t found next.array devices opens.array)))

at_each : (P : Geometry → Super → runs.History → Type 0) → Always P → AtEachMoment P
at_each P always before m start es rest final last life =
    let g = geometry_of m.array in
    let begins = starts before m start in
    let x = model_life g begins.small m es rest final last refl (sound_when_opened before m start.honest start.opened) (kept_opened g (super_of m.array.shared) (world_of m none_in_flight) begins) life in
    always g (super_of m.array.shared) (world_of m none_in_flight) begins x.0 x.1 (super_of final.array.shared) (history_of last) x.2

pub life_covered : AtEachMoment IsCovered
life_covered = at_each IsCovered always_covered

pub life_sound : AtEachMoment IsSound
life_sound = at_each IsSound always_sound

pub life_unstored : AtEachMoment AgreesUnstored
life_unstored = at_each AgreesUnstored always_agrees

pub life_safe : AtEachMoment crashes.IsSafeAtCrash
life_safe = at_each crashes.IsSafeAtCrash always_safe

pub life_keeps_out : AtEachMoment crashes.KeepsOut
life_keeps_out = at_each crashes.KeepsOut always_out

pub life_stays_out : AtEachMoment crashes.StaysOut
life_stays_out = at_each crashes.StaysOut always_stays_out

pub life_kept : AtEachMoment IsKept
life_kept = at_each IsKept (always IsKept (λ g small opened h t. t))

-- ---- what an opening finds
pub final_geometry : (m : MirrorView) (es : List Event) (rest : List (List Event)) (final : MirrorView) (last : Moment) → IsSoundAt (opened_as m)
    → MirrorLife m es rest final last → geometry_of final.array ≡ geometry_of m.array
final_geometry m es [] final last at_m life = ap (λ (x : MirrorView). geometry_of x.array) life.0
final_geometry m es (more ∷ rest) final last at_m life =
    let t = life.0 in
    let next = life.1 in
    let at_t = run_keeps es (opened_as m) t life.2 at_m in
    let again = life.3 in
    final_geometry next more rest final last (sound_when_opened again.before next again.devices.honest again.opens) life.4
    ∙ same_geometry t at_t again.before next.array again.devices again.opens.array
    ∙ geometry_kept es (opened_as m) t life.2

module _ (before : List Disk) (m : MirrorView) (start : IsStart before m) (es : List Event) (rest : List (List Event)) (final : MirrorView) (last : Moment) (life : MirrorLife m es rest final last) where
  at_last : IsSoundAt last
  at_last = life_keeps m es rest final last (sound_when_opened before m start.honest start.opened) life

  here : geometry_of last.mirror.array ≡ geometry_of m.array
  here = keeps_geometry before m start es rest final last life

  same_final : geometry_of final.array ≡ geometry_of last.mirror.array
  same_final = final_geometry m es rest final last (sound_when_opened before m start.honest start.opened) life ∙ sym here

  small_last : IsWithinLimits (geometry_of last.mirror.array)
  small_last = subst IsWithinLimits (sym here) (starts before m start).small

  kept_last : IsKept (geometry_of last.mirror.array) (super_of final.array.shared) (history_of last)
  kept_last = subst (λ x. IsKept x (super_of final.array.shared) (history_of last)) (sym here) (life_kept before m start es rest final last life)

  found_in_sync : (next : MirrorView) (again : IsReopened final last next)
      → (k : ℕ) (n : MemberView) → IsInSync next.array k n → (i : ℕ) × (again.devices.from k ≡ Some i) × (o : MemberView) × IsInSync last.mirror.array i o
  found_in_sync next again k n on =
      let from = from_left last at_last next final same_final small_last kept_last again k n on in
      let was = was_in_sync last at_last next again.before again.devices again.opens final same_final small_last kept_last again.others again.fit k from.0 n on from.1 in
      (from.0, from.1, was.0, was.1)

  found_all : (next : MirrorView) (again : IsReopened final last next) → FoundHaveRecorded last next again.before again.devices
      → (k j : ℕ) (o : MemberView) → IsInSync last.mirror.array k o → again.devices.at k ≡ Some j → (n : MemberView) × IsInSync next.array j n
  found_all next again = is_in_sync_again last at_last next again.before again.devices again.opens final same_final small_last kept_last again.others again.fit

  found_out : (found : List Disk) (next : MirrorView) (devices : AreFoundAgain last found) → AreFurther final last found devices next → IsOpenedFrom found next
      → IsFit (super_of final.array.shared) (super_of next.array.shared) last.failed_at
      → (j : ℕ) (n : MemberView) → IsMember next.array j n → devices.from j ≡ None → IsShutOut final last found devices n → assembly.is_in_sync n.state ≡ false
  found_out found next devices others opens fit = shut_out last at_last next final same_final small_last kept_last found devices others opens fit

pub finds_in_sync : FindsInSync
finds_in_sync = found_in_sync

pub finds_all : FindsAll
finds_all = found_all

pub finds_out : FindsOut
finds_out = found_out
