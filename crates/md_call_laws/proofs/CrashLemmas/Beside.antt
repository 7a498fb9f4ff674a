-- An opening of devices that a crash left, with others beside them that are no newer than the opening before: who of those is not found in sync;
-- and where none is, that another life begins.
use Rattle.std.proofs.Common.{◌≡◌, ◌∙◌, ◌⊎◌, inl, inr, ℕ, ◌+◌, ◌<◌, ◌≤◌, true, false, true≢false, List, Some, None, refl, sym, ap, subst, arith}
use Rattle.std.proofs.lemmas.Option.{none-some, slice_get_within}
use Rattle.md_assembly.specs.States as assembly
use Rattle.md_assembly.specs.States.{state_of}
use Rattle.md_kept_members.specs.View.{MemberView}
use Rattle.md_model.specs.Assembly.{IsFound, state_by}
use Rattle.md_model.specs.Devices.{AgreeAt, Covered, Stored, Super, is_marked}
use Rattle.md_model.specs.Openings as openings
use Rattle.md_model.specs.Openings.{IsWithinLimits}
use Rattle.md_model.specs.Sectors.{Geometry, chunk_of}
use Rattle.md_model.specs.States.{is_in_sync}
use Rattle.md_model.specs.Crashes as crashes
use Rattle.md_model.specs.Crashes.{IsFit}
use Rattle.md_model.specs.Worlds as worlds
use Rattle.md_model.specs.Worlds.{World}
use Rattle.md_model.proofs.Cases.{by_option, by_test}
use Rattle.md_model.proofs.Lives.OpeningCovers.{own_of}
use Rattle.md_model.proofs.Lives.Safe.{keeps_out, safe_at_crash, stays_out}
use Rattle.md_model.proofs.Steps.Keeps.{IsKept, kept_run}
use Rattle.md_model.proofs.Table.{found_says}
use Rattle.md_state.specs.Members.{IsInSync, IsMember}
use Rattle.md_state.specs.View.{Disk, MirrorView, geometry_of}
use Rattle.md_array.specs.Open.Opened.{IsOpenedFrom}
use Rattle.md_array.specs.Worlds.{none_in_flight, super_of, world_of}
use Rattle.md_array.proofs.Worlds.InSync.{in_sync_is, in_sync_there}
use Rattle.md_array.proofs.Worlds.Shown.{as_read, own_is, state_at, super_at}
use Rattle.md_array.proofs.Worlds.States.{same_in_sync, same_state}
use Rattle.md_laws.specs.Left.{IsLeftWriting}
use Rattle.md_laws.specs.Lives.{AreFoundAgain, IsCalledOut, IsThereInSync}
use Rattle.md_laws.specs.Runs.{IsStart, Moment, history_of}
use Rattle.md_laws.proofs.Openings.OpenedFrom.{super_was}
use Rattle.md_laws.proofs.Openings.Reopened.{read_alike, same_geometry}
use Rattle.md_laws.proofs.Runs.MirrorLives.{at_none, at_some, made_of, opens}
use Rattle.md_laws.proofs.Runs.MirrorRuns.{model_run}
use Rattle.md_laws.proofs.Runs.Moments.{IsSoundAt}
use Rattle.md_laws.proofs.Crashes.LeftAtCrashes.{IsSorted, sorted, sorted_writing}
use Rattle.md_laws.proofs.Crashes.LeftContents.{read_in}
use Rattle.md_call_laws.specs.Crashes.Departed.{IsTwoEventsBehind, IsShutOutSince, NoneIsNewer}

module _ (t : Moment) (at_t : IsSoundAt t) (next : MirrorView) (found : List Disk) (devices : AreFoundAgain t found) (from_these : IsOpenedFrom found next) (opened : MirrorView)
    (same : geometry_of opened.array ≡ geometry_of t.mirror.array) (small : IsWithinLimits (geometry_of t.mirror.array))
    (kept : IsKept (geometry_of t.mirror.array) (super_of opened.array.shared) (history_of t)) (others : NoneIsNewer opened t found devices next)
    (fit : IsFit (super_of opened.array.shared) (super_of next.array.shared) t.failed_at) (l : IsSorted t devices.left) where
  abbrev g : Geometry
  g = geometry_of t.mirror.array

  abbrev was : Super
  was = super_of opened.array.shared

  abbrev first : Super
  first = super_of next.array.shared

  abbrev w : World
  w = world_of next none_in_flight

  -- the moment of which the crash leaves devices, or a torn write
  abbrev stop : Moment
  stop = l.moment

  -- those that were left, as the next mirror has them
  abbrev made : ℕ → Stored
  made = made_of t at_t next found devices from_these

  abbrev it : openings.IsOpenedFrom g (read_in next.array found) first w
  it = opens t at_t next found devices from_these

  left_at : (k j : ℕ) → devices.at k ≡ Some j → crashes.IsHalfOpened g (l.cut k) (made k) ⊎ ((made k).super ≡ None)
  left_at k j is =
      let half = subst (crashes.IsHalfOpened g (read_in t.mirror.array devices.left k)) (sym (at_some t at_t next found devices from_these k j is)) (read_alike t at_t found next.array devices from_these.array k j is) in
      elim (l.read k) [
        | inl alike ↦ inl (subst (λ (x : Stored). crashes.IsHalfOpened g x (made k)) alike half)
        | inr none ↦ inr (half.super ∙ none)
      ]

  gone : (k : ℕ) → devices.at k ≡ None → (made k).super ≡ None
  gone k is = ap (λ (x : Stored). x.super) (at_none t at_t next found devices from_these k is)

  is_left : crashes.IsLeftByCrash g (history_of stop) made
  is_left = (
    l.cut,
    l.is_cut,
    λ k. by_option (devices.at k) (λ none. inr (gone k none)) (left_at k),
    λ k spoiled. by_option (devices.at k) (gone k)
        (λ j is. absurd (true≢false (sym spoiled ∙ l.spoiled k (devices.unspoiled k j is)))),
  )

  kept_there : IsKept g was (history_of stop)
  kept_there =
      kept_run g small was l.events (history_of t) (history_of stop) kept (model_run g l.events t stop refl l.run)

  fit_there : IsFit was first stop.failed_at
  fit_there = subst (λ (n : ℕ). IsFit was first n) (sym l.counted) fit

  freshest : crashes.IsFreshestWithAbsent was made first
  freshest =
      let fresh = it.opened.freshest in
      let x = own_is found next devices.honest from_these fresh.at first fresh.is in
      record {
        whose = by_option (devices.from fresh.at)
            (λ none. inr (subst (λ (v : Super). v.events ≤ opened.array.shared.events) x.2 (others fresh.at x.0 x.1 none)))
            (λ k is. inl (
              k,
              ap (λ (d : Stored). d.super) (at_some t at_t next found devices from_these k fresh.at (devices.found fresh.at k is))
                  ∙ super_was found next devices.honest from_these fresh.at first fresh.is,
            ));
        greatest = λ k own e. by_option (devices.at k)
            (λ none. absurd (none-some own (sym (gone k none) ∙ e)))
            (λ j is. let x = it.all j own (sym (ap (λ (d : Stored). d.super) (at_some t at_t next found devices from_these k j is)) ∙ e) in fresh.greatest x.0 own x.1);
      }

  safe : crashes.IsSafe g (history_of stop) made first
  safe = safe_at_crash g small was (history_of stop) kept_there made first is_left freshest fit_there

  -- ---- who is not found in sync
  abbrev read_of : (j : ℕ) (n : MemberView) → IsMember next.array j n → Super
  read_of j n is = as_read found next devices.honest from_these j n is

  -- the state by the table is the member's
  state_here : (j : ℕ) (n : MemberView) (is : IsMember next.array j n) → is_in_sync (state_by g first (read_of j n is)) ≡ assembly.is_in_sync n.state
  state_here j n is =
      sym (ap is_in_sync (it.opened.states.by_table j (read_of j n is) (super_at found next devices.honest from_these j n is)))
      ∙ ap is_in_sync (state_at found next devices.honest from_these j n is) ∙ same_in_sync n.state

  is_absent : (j : ℕ) (n : MemberView) (is : IsMember next.array j n) → devices.from j ≡ None → t.away n.superblock.dev_number ≡ true → crashes.IsAbsent was stop.away (read_of j n is)
  is_absent j n is none away =
      record { no_newer = others j n is none; away = l.away n.superblock.dev_number ∙ away }

  -- by the next superblock, too, of a device that need not be there
  called_out_next : (n : MemberView) → n.superblock.events ≤ opened.array.shared.events → t.away n.superblock.dev_number ≡ true → IsCalledOut opened n
      → is_in_sync (state_by g first (super_of n.superblock)) ≡ false
  called_out_next n no_newer away out =
      let by_super : is_in_sync (state_by g was (super_of n.superblock)) ≡ false =
      subst (λ x. is_in_sync (state_by x was (super_of n.superblock)) ≡ false) same
      (sym (ap is_in_sync (same_state opened.array n.superblock)) ∙ same_in_sync (state_of opened.array.shared n.superblock) ∙ out) in
      stays_out g small was (history_of stop) kept_there (super_of n.superblock) (record { no_newer = no_newer; away = l.away n.superblock.dev_number ∙ away }) by_super made is_left first
      freshest fit_there

  no_less : opened.array.shared.events ≤ next.array.shared.events
  no_less = elim fit.newer [
    | inl newer ↦ let up : opened.array.shared.events < next.array.shared.events = newer in omega (arith, up)
    | inr alike ↦ let up : next.array.shared.events ≡ opened.array.shared.events = alike.0 in omega (arith, up)
  ]

  called_out : (j : ℕ) (n : MemberView) → IsMember next.array j n → devices.from j ≡ None → t.away n.superblock.dev_number ≡ true → IsCalledOut opened n → assembly.is_in_sync n.state ≡ false
  called_out j n is none away out =
      let by_super : is_in_sync (state_by g was (read_of j n is)) ≡ false =
      subst (λ x. is_in_sync (state_by x was (read_of j n is)) ≡ false) same
      (sym (ap is_in_sync (same_state opened.array n.superblock)) ∙ same_in_sync (state_of opened.array.shared n.superblock) ∙ out) in
      sym (state_here j n is)
      ∙ stays_out g small was (history_of stop) kept_there (read_of j n is) (is_absent j n is none away) by_super made is_left first freshest fit_there

  shut_out_beside : crashes.WasTried g (history_of stop) → IsThereInSync t devices.at → (j : ℕ) (n : MemberView) → IsMember next.array j n → devices.from j ≡ None
      → t.away n.superblock.dev_number ≡ true → assembly.is_in_sync n.state ≡ false
  shut_out_beside tried beside j n is none away =
      let f = devices.again beside.device beside.place beside.there in
      let low = slice_get_within found beside.place f.disk_now f.at_now in
      let read_many = from_these.array.read.as_many in
      let members_many = from_these.array.remembered.as_many in
      let x = it.opened.members.filled beside.place (omega arith) in
      let own = ap (λ (d : Stored). d.super) (at_some t at_t next found devices from_these beside.device beside.place beside.there)
      ∙ super_was found next devices.honest from_these beside.place x.0 x.1 in
      let in_then = ap is_in_sync (l.memory.state beside.device)
      ∙ in_sync_there t.mirror.disks t.mirror.array t.requests beside.device beside.member beside.in_sync in
      sym (state_here j n is)
      ∙ keeps_out g small was (history_of stop) kept_there tried made is_left beside.device x.0 in_then own (read_of j n is) (is_absent j n is none away) first freshest fit_there

  behind : (j : ℕ) (n : MemberView) → IsMember next.array j n → IsTwoEventsBehind opened n → assembly.is_in_sync n.state ≡ false
  behind j n is late =
      sym (state_here j n is)
      ∙ by_test (is_in_sync (state_by g first (read_of j n is)))
      (λ on.
      let says : next.array.shared.events ≤ n.superblock.events + 1 = (found_says g first (read_of j n is) on).fresh in
      let up = no_less in
      absurd (omega (arith, says, up, late)))
      (λ off. off)

  -- ---- where none of them is
  module _ (out : (j : ℕ) (n : MemberView) → IsMember next.array j n → devices.from j ≡ None → assembly.is_in_sync n.state ≡ false) where
    from_left : (k : ℕ) (n : MemberView) → IsInSync next.array k n → (i : ℕ) × (devices.from k ≡ Some i)
    from_left k n on = by_option (devices.from k)
        (λ none. absurd (true≢false (sym on.in_sync ∙ out k n on.member none)))
        (λ i is. (i, is))

    came_from : (k : ℕ) → worlds.IsInSync w k → (i : ℕ) × (devices.from k ≡ Some i)
    came_from k on = let x = in_sync_is next.disks next.array none_in_flight k on in from_left k x.0 x.1

    placed : (k i : ℕ) → devices.from k ≡ Some i → made i ≡ read_in next.array found k
    placed k i is = at_some t at_t next found devices from_these i k (devices.found k i is)

    found_there : (k i : ℕ) → devices.from k ≡ Some i → worlds.IsInSync w k → IsFound g made first i
    found_there k i is on =
        let x = own_of g first w it.opened k on in
        record {
          own = x.0;
          is = ap (λ (d : Stored). d.super) (placed k i is) ∙ super_was found next devices.honest from_these k x.0 x.1;
          in_sync = sym (ap is_in_sync (it.opened.states.by_table k x.0 x.1)) ∙ on;
        }

    were_in_sync : (k : ℕ) (n : MemberView) → IsInSync next.array k n → (i : ℕ) × (devices.from k ≡ Some i) × (o : MemberView) × IsInSync t.mirror.array i o
    were_in_sync k n on =
        let from = from_left k n on in
        let was_in = safe.among from.0 (found_there k from.0 from.1 (in_sync_there next.disks next.array none_in_flight k n on)) in
        let o = in_sync_is t.mirror.disks t.mirror.array t.requests from.0 (sym (ap is_in_sync (l.memory.state from.0)) ∙ was_in) in
        (from.0, from.1, o.0, o.1)

    covered_next : Covered g (read_in next.array found) (worlds.IsInSync w)
    covered_next i j k s low a b c off =
        let x = came_from i a in
        let y = came_from j b in
        let z = came_from k c in
        subst (λ (d : Stored). AgreeAt d (read_in next.array found k) s) (placed j y.0 y.1) (subst (λ (d : Stored). AgreeAt (made y.0) d s) (placed k z.0 z.1)
        (safe.covered x.0 y.0 z.0 s low (found_there i x.0 x.1 a) (found_there j y.0 y.1 b) (found_there k z.0 z.1 c)
        (ap (λ (d : Stored). is_marked d (chunk_of g s)) (placed i x.0 x.1) ∙ off)))

    starts : IsStart found next
    starts = record {
      honest = devices.honest;
      opened = from_these;
      covered = subst (λ x. Covered x (read_in next.array found) (worlds.IsInSync w)) (sym (same_geometry t at_t found next.array devices from_these.array)) covered_next;
    }

-- ---- a crash within a write of data
within_write : (t : Moment) (found : List Disk) (devices : AreFoundAgain t found) → IsLeftWriting t devices.left → AreFoundAgain t found
within_write t found devices w = record devices { is_left = inr (inr (inl w)) }

module _ (t : Moment) (at_t : IsSoundAt t) (next : MirrorView) (found : List Disk) (devices : AreFoundAgain t found) (from_these : IsOpenedFrom found next) (opened : MirrorView)
    (same : geometry_of opened.array ≡ geometry_of t.mirror.array) (small : IsWithinLimits (geometry_of t.mirror.array))
    (kept : IsKept (geometry_of t.mirror.array) (super_of opened.array.shared) (history_of t)) (others : NoneIsNewer opened t found devices next)
    (fit : IsFit (super_of opened.array.shared) (super_of next.array.shared) t.failed_at) where
  of_stop : IsSorted t devices.left
  of_stop = sorted t at_t devices.left devices.is_left

  pub shut_out_since : (j : ℕ) (n : MemberView) → IsMember next.array j n → devices.from j ≡ None → IsShutOutSince opened t found devices n → assembly.is_in_sync n.state ≡ false
  unfolding within_write
  shut_out_since j n is none why = elim why [
    | inl (away, inl (inl tried, beside)) ↦ shut_out_beside t at_t next found devices from_these opened same small kept others fit of_stop (inl (of_stop.tried ∙ tried)) beside j n is none away
    | inl (away, inl (inr w, beside)) ↦
        shut_out_beside t at_t next found (within_write t found devices w) from_these opened same small kept others fit (sorted t at_t devices.left (inr (inr (inl w)))) (sorted_writing t at_t devices.left w)
        (record { device = beside.device; member = beside.member; in_sync = beside.in_sync; place = beside.place; there = beside.there }) j n is none away
    | inl (away, inr out) ↦ called_out t at_t next found devices from_these opened same small kept others fit of_stop j n is none away out
    | inr late ↦ behind t at_t next found devices from_these opened same small kept others fit of_stop j n is late
  ]

  pub out_next : (n : MemberView) → n.superblock.events ≤ opened.array.shared.events → t.away n.superblock.dev_number ≡ true → IsCalledOut opened n → IsCalledOut next n
  out_next n no_newer away out =
      let off = called_out_next t at_t next found devices from_these opened same small kept others fit of_stop n no_newer away out in
      let chunks = same_geometry t at_t found next.array devices from_these.array in
      sym (same_in_sync (state_of next.array.shared n.superblock)) ∙ ap is_in_sync (same_state next.array n.superblock)
      ∙ subst (λ x. is_in_sync (state_by x (super_of next.array.shared) (super_of n.superblock)) ≡ false) (sym chunks) off

  pub behind_next : (n : MemberView) → IsTwoEventsBehind opened n → IsTwoEventsBehind next n
  behind_next n late = let up = no_less t at_t next found devices from_these opened same small kept others fit of_stop in omega (arith, up, late)

  module _ (out : (j : ℕ) (n : MemberView) → IsMember next.array j n → devices.from j ≡ None → assembly.is_in_sync n.state ≡ false) where
    pub start : IsStart found next
    start = starts t at_t next found devices from_these opened same small kept others fit of_stop out

    pub among : (k : ℕ) (n : MemberView) → IsInSync next.array k n → (i : ℕ) × (devices.from k ≡ Some i) × (o : MemberView) × IsInSync t.mirror.array i o
    among = were_in_sync t at_t next found devices from_these opened same small kept others fit of_stop out
