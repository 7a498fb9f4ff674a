-- The log of a member that is rebuilt lists what its list in memory has, as long as the log is known, if it was so at the opening.
use Rattle.std.proofs.Common.{◌≡◌, ℕ, inl, inr, Bool, true, false, true≢false, ◌&&◌, ◌||◌, nat_lt, List, [], ◌∷◌, Some, refl, sym, ap, ◌∙◌, subst}
use Rattle.md_model.specs.Sectors.{Geometry, put}
use Rattle.md_model.specs.States.{State, is_in_sync}
use Rattle.md_model.specs.States.State.{InSync, Recovering, Stale, Spare, Faulty}
use Rattle.md_model.specs.Devices.{Stored, Super}
use Rattle.md_model.specs.Worlds.{IsInSync, World}
use Rattle.md_model.specs.Counts.{risen, risen_if}
use Rattle.md_model.specs.Failures.{failed}
use Rattle.md_model.specs.Steps.{marked_device, recorded_device, with_device, written_device}
use Rattle.md_model.specs.Resyncing.{copied_device}
use Rattle.md_model.specs.Membership.{Newcomer, former_member, is_spare, joined, new_member, removed, skip}
use Rattle.md_model.specs.Rebuilding.{as_in_sync, as_recovering, is_target, with_role_taken, taking_device, with_offset}
use Rattle.md_model.specs.Events.{Event, Happens}
use Rattle.md_model.specs.Listing.{noted_bad}
use Rattle.md_model.specs.Crashes as crashes
use Rattle.md_model.proofs.Cases.{by_test, none_some}
use Rattle.md_model.proofs.Puts.{by_same, put-at, put-hit, put-miss}
use Rattle.md_state.specs.View.{Disk, MirrorView, geometry_of}
use Rattle.md_array.specs.Events.{KeepsLists, ListsIn, ListsStill}
use Rattle.md_array.specs.Open.Opened.{IsOpenedFrom}
use Rattle.md_array.specs.Worlds.{AreHonest, none_in_flight, world_of}
use Rattle.md_laws.specs.Left.{IsLeftByCrash, IsStoringOwn}
use Rattle.md_laws.specs.Recovering.{ListsWhereKnown, SaysNoMoreWhereKnown}
use Rattle.md_laws.specs.Runs.{MirrorRun, Moment, history_of, log_unknown_after, opened_as, then_as}
use Rattle.md_laws.proofs.Openings.Opened as opening
use Rattle.md_laws.proofs.Runs.Moments.{IsSoundAt, run_keeps, sound_when_opened}
use Rattle.md_laws.proofs.Runs.Offsets.{offsets_are_kept}
use Rattle.md_laws.proofs.Runs.Rests.{history_rests, rests_does}
use Rattle.md_laws.proofs.Crashes.LeftAtCrashes.{IsSortedBeside, sorted_beside}
use Rattle.md_laws.proofs.Crashes.LeftContents.{read_in}

-- so of each member that is rebuilt and whose log is known
abbrev pub ListsAreIn : (ℕ → Bool) → World → Type 0
ListsAreIn unknown w = (k : ℕ) → unknown k ≡ false → is_target (w.state k) ≡ true → ListsIn w k

not_target : (s : State) → is_in_sync s ≡ true → is_target s ≡ true → ⊥
not_target InSync on target = absurd cc
not_target Recovering on target = absurd cc
not_target Stale on target = absurd cc
not_target Spare on target = absurd cc
not_target Faulty on target = absurd cc

spare_target : (s : State) → is_spare s ≡ true → is_target s ≡ true
spare_target InSync on = absurd cc
spare_target Recovering on = absurd cc
spare_target Stale on = absurd cc
spare_target Spare on = refl
spare_target Faulty on = absurd cc

-- ---- one device changes
module _ (u : ℕ → Bool) (w : World) (t : ListsAreIn u w) (k : ℕ) (d : Stored) where
  -- its log lists what it did
  still : d.listed ≡ (w.stored k).listed → ListsAreIn u (with_device w k d)
  still same j known target s bad = put-at k d w.stored j (λ (x : Stored). x.listed s ≡ true)
      (λ here. ap (λ (f : ℕ → Bool). f s) same ∙ subst (λ (i : ℕ). (w.stored i).listed s ≡ true) here (t j known target s bad))
      (λ apart. t j known target s bad)

  -- it is told
  when_told : ListsStill k w (with_device w k d) → ListsAreIn u (with_device w k d)
  when_told told j known target s bad = by_same j k
      (λ here.
      let on : is_target (w.state k) ≡ true = subst (λ (i : ℕ). is_target (w.state i) ≡ true) here target in
      let was : ListsIn w k = t k (subst (λ (i : ℕ). u i ≡ false) here known) on in
      ap (λ (i : ℕ). (put k d w.stored i).listed s) here ∙ told on was s (subst (λ (i : ℕ). w.bad i s ≡ true) here bad))
      (λ apart. ap (λ (x : Stored). x.listed s) (put-miss k d w.stored j apart) ∙ t j known target s bad)

  -- its member is in sync
  when_in_sync : IsInSync w k → ListsAreIn u (with_device w k d)
  when_in_sync on j known target s bad = by_same j k
      (λ here. absurd (not_target (w.state k) on (subst (λ (i : ℕ). is_target (w.state i) ≡ true) here target)))
      (λ apart. ap (λ (x : Stored). x.listed s) (put-miss k d w.stored j apart) ∙ t j known target s bad)

  -- its log is not known any more
  when_unknown : ListsAreIn (put k true u) (with_device w k d)
  when_unknown j known target s bad = by_same j k
      (λ here. absurd (true≢false (sym (ap (put k true u) here ∙ put-hit k true u) ∙ known)))
      (λ apart. ap (λ (x : Stored). x.listed s) (put-miss k d w.stored j apart) ∙ t j (sym (put-miss k true u j apart) ∙ known) target s bad)

  -- its member fails
  when_failed : (g : Geometry) (full : Bool) → ListsAreIn u (failed g (with_device w k d) k full)
  when_failed g full j known target s bad = by_same j k
      (λ here. absurd (true≢false (sym target ∙ ap is_target (ap (put k Faulty w.state) here ∙ put-hit k Faulty w.state))))
      (λ apart.
      ap (λ (x : Stored). x.listed s) (put-miss k d w.stored j apart)
      ∙ t j known (ap is_target (sym (put-miss k Faulty w.state j apart)) ∙ target) s bad)

-- ---- members come and go
module _ (g : Geometry) (u : ℕ → Bool) (w : World) (t : ListsAreIn u w) where
  when_risen : (rises full : Bool) → ListsAreIn u (risen_if g w rises full)
  when_risen true full = t
  when_risen false full = t

  when_removed : (k : ℕ) (spare full : Bool) → ListsAreIn (λ j. u (skip k j)) (removed g w k spare full)
  when_removed k true full j known = t (skip k j) known
  when_removed k false full j known = t (skip k j) known

  when_joined : (n : Newcomer) → ListsAreIn (put w.members false u) (joined w n)
  when_joined n j known target s bad = by_same j w.members
      (λ here.
      let list : put w.members n.device.listed w.bad j ≡ n.device.listed = ap (put w.members n.device.listed w.bad) here ∙ put-hit w.members n.device.listed w.bad in
      ap (λ (x : Stored). x.listed s) (ap (put w.members n.device w.stored) here ∙ put-hit w.members n.device w.stored)
      ∙ sym (ap (λ (f : ℕ → Bool). f s) list) ∙ bad)
      (λ apart.
      ap (λ (x : Stored). x.listed s) (put-miss w.members n.device w.stored j apart)
      ∙ t j (sym (put-miss w.members false u j apart) ∙ known) (ap is_target (sym (put-miss w.members n.state w.state j apart)) ∙ target) s
      (sym (ap (λ (f : ℕ → Bool). f s) (put-miss w.members n.device.listed w.bad j apart)) ∙ bad))

  -- a member takes a role, and is in sync
  when_enrolled : (k role : ℕ) (listed : ℕ → Bool) → ListsAreIn (put k false u) (with_role_taken w k (as_in_sync w role listed))
  when_enrolled k role listed j known target s bad = by_same j k
      (λ here. absurd (true≢false (sym target ∙ ap is_target (ap (put k InSync w.state) here ∙ put-hit k InSync w.state))))
      (λ apart.
      ap (λ (x : Stored). x.listed s) (put-miss k (taking_device w k (as_in_sync w role listed)) w.stored j apart)
      ∙ t j (sym (put-miss k false u j apart) ∙ known) (ap is_target (sym (put-miss k InSync w.state j apart)) ∙ target) s
      (sym (ap (λ (f : ℕ → Bool). f s) (put-miss k listed w.bad j apart)) ∙ bad))

  -- or is recovering
  when_admitted : (k role : ℕ) (listed : ℕ → Bool) → is_spare (w.state k) ≡ true → ListsStill k w (with_role_taken w k (as_recovering w k role listed))
      → ListsAreIn u (with_role_taken w k (as_recovering w k role listed))
  when_admitted k role listed spare told j known target s bad = by_same j k
      (λ here.
      let on = spare_target (w.state k) spare in
      let was : ListsIn w k = t k (subst (λ (i : ℕ). u i ≡ false) here known) on in
      let there : put k (w.bad k) w.bad k s ≡ true = subst (λ (i : ℕ). put k (w.bad k) w.bad i s ≡ true) here bad in
      ap (λ (i : ℕ). (put k (taking_device w k (as_recovering w k role listed)) w.stored i).listed s) here ∙ told on was s there)
      (λ apart.
      ap (λ (x : Stored). x.listed s) (put-miss k (taking_device w k (as_recovering w k role listed)) w.stored j apart)
      ∙ t j known (ap is_target (sym (put-miss k Recovering w.state j apart)) ∙ target) s
      (sym (ap (λ (f : ℕ → Bool). f s) (put-miss k (w.bad k) w.bad j apart)) ∙ bad))

  -- the list of a member in sync grows
  when_noted : (k : ℕ) (more : ℕ → Bool) → IsInSync w k → ListsAreIn u (noted_bad g w k more)
  when_noted k more on j known target s bad = by_same j k
      (λ here. absurd (not_target (w.state k) on (subst (λ (i : ℕ). is_target (w.state i) ≡ true) here target)))
      (λ apart. t j known target s (sym (ap (λ (f : ℕ → Bool). f s) (put-miss k (λ x. w.bad k x || (nat_lt x g.size && more x)) w.bad j apart)) ∙ bad))

-- ---- an event
list_step : (g : Geometry) (w : World) (u : ℕ → Bool) → ListsAreIn u w → (e : Event) (w' : World) → Happens g w e w' → KeepsLists e w w' → ListsAreIn (log_unknown_after e w u) w'
list_step g w u t (Event.Begin n p) w' h l = subst (ListsAreIn u) (sym h.5) (when_risen g u w t h.0 h.1)
list_step g w u t (Event.Record k) w' h l = subst (ListsAreIn u) (sym h.3) (when_told u w t k (recorded_device w k h.0) (subst (ListsStill k w) h.3 l))
list_step g w u t (Event.StoreMarks k b) w' h l = subst (ListsAreIn u) (sym h.1) (still u w t k (marked_device w k b) refl)
list_step g w u t (Event.WriteMember n k) w' h l = subst (ListsAreIn u) (sym h.2) (still u w t k (written_device w k h.0) refl)
list_step g w u t (Event.Finish n) w' h l = subst (ListsAreIn u) (sym h.2) t
list_step g w u t (Event.ClearIdle c) w' h l = subst (ListsAreIn u) (sym h.1) t
list_step g w u t (Event.Fail k) w' h l = subst (ListsAreIn u) (sym h.1.3) (when_failed u w t k (w.stored k) g h.1.0)
list_step g w u t (Event.WriteFails k part) w' h l = subst (ListsAreIn u) (sym h.2.3) (when_failed u w t k h.0 g h.2.0)
list_step g w u t (Event.Copy from k x) w' h l = subst (ListsAreIn u) (sym h.1) (still u w t k (copied_device w from k x) refl)
list_step g w u t Event.Resynced w' h l = subst (ListsAreIn u) (sym h.1) t
list_step g w u t Event.Unresynced w' h l = subst (ListsAreIn u) (sym h.1) t
list_step g w u t Event.MakeClean w' h l = subst (ListsAreIn u) (sym h.3) t
list_step g w u t (Event.Remove k) w' h l = subst (ListsAreIn (λ j. u (skip k j))) (sym h.3) (when_removed g u w t k (is_spare (w.state k)) h.0)
list_step g w u t (Event.Add d left) w' h l = subst (ListsAreIn (put w.members false u)) (sym h.4) (when_joined g u (risen g w h.0) t (new_member d left))
list_step g w u t (Event.ReAdd own offset device left) w' h l = subst (ListsAreIn (put w.members false u)) (sym h.4) (when_joined g u (risen g w h.0) t (former_member own offset left))
list_step g w u t (Event.LowerOffset k x) w' h l = subst (ListsAreIn u) (sym h.1) t
list_step g w u t (Event.Fill k) w' h l = subst (ListsAreIn u) (sym h.3) (still u w t k h.0 (ap (λ (d : Stored). d.listed) h.2.rest))
list_step g w u t (Event.Prepare k) w' h l = subst (ListsAreIn (put k true u)) (sym h.3) (when_unknown u w t k h.0)
list_step g w u t (Event.RecordTargetFails k) w' h l = subst (ListsAreIn u) (sym h.1.2) (when_told u w t k h.0 (subst (ListsStill k w) h.1.2 l))
list_step g w u t (Event.SpoilTarget k) w' h l = subst (ListsAreIn (put k true u)) (sym h.1.2) (when_unknown u w t k h.0)
list_step g w u t (Event.Enrol k role listed) w' h l = subst (ListsAreIn (put k false u)) (sym h.3) (when_enrolled g u (risen g w h.0) t k role listed)
list_step g w u t (Event.Admit k role listed) w' h l = subst (ListsAreIn u) (sym h.3) (when_admitted g u (risen g w h.0) t k role listed h.1.spare (subst (ListsStill k w) h.3 l))
list_step g w u t (Event.Checkpoint k sure listed) w' h l =
    subst (ListsAreIn u) (sym h.1) (when_told u w t k (recorded_device (with_offset w k sure) k listed) (subst (ListsStill k w) h.1 l))
list_step g w u t (Event.NoteBad k more) w' h l = subst (ListsAreIn u) (sym h.1) (when_noted g u w t k more h.0.in_sync)
list_step g w u t (Event.StoreLog k listed) w' h l = subst (ListsAreIn u) (sym h.2) (when_in_sync u w t k (record (w.stored k) { listed = listed }) h.0)

-- ---- over runs, and at crashes
pub lists_run : (es : List Event) (t last : Moment) → MirrorRun t es last → ListsAreIn t.log_unknown (world_of t.mirror t.requests) → ListsAreIn last.log_unknown (world_of last.mirror last.requests)
lists_run [] t last r kept =
    subst (λ (x : Moment). ListsAreIn x.log_unknown (world_of last.mirror last.requests)) (sym r.is)
    (subst (ListsAreIn t.log_unknown) (sym (ap (λ h. h.now) (history_rests t last r))) kept)
lists_run (e ∷ es) t last r kept =
    let leads = rests_does t.mirror r.0 t.requests r.1 e r.2 in
    lists_run es (then_as t e r.0 r.1) last r.3
    (list_step (geometry_of t.mirror.array) (world_of t.mirror t.requests) t.log_unknown kept e (world_of r.0 r.1) leads.step.1 leads.lists)

-- a crash leaves the logs
cut_listed : (g : Geometry) (w : World) (cut : ℕ → Stored) → crashes.MayStandAtCrash g w cut → (k : ℕ) → (cut k).listed ≡ (w.stored k).listed
cut_listed g w cut is k = elim is [
  | inl whole ↦ ap (λ (f : ℕ → Stored). (f k).listed) whole
  | inr torn ↦ by_same k torn.on
      (λ here. ap (λ (i : ℕ). (cut i).listed) here ∙ ap (λ (d : Stored). d.listed) torn.rest ∙ sym (ap (λ (i : ℕ). (w.stored i).listed) here))
      (λ apart. ap (λ (d : Stored). d.listed) (torn.others k apart))
]

-- What a crash left of a member whose log is known lists what the list in memory has, if its superblock can be read.
pub listed_at_crash : (t : Moment) → IsSoundAt t → ListsAreIn t.log_unknown (world_of t.mirror t.requests) → (left : List Disk) (is : IsLeftByCrash t left)
    → (k : ℕ) → is_target ((world_of t.mirror t.requests).state k) ≡ true → t.log_unknown k ≡ false → (IsStoringOwn t left is k → ⊥)
    → (own : Super) → (read_in t.mirror.array left k).super ≡ Some own
    → (s : ℕ) → (read_in t.mirror.array left k).listed s ≡ false → (world_of t.mirror t.requests).bad k s ≡ false
listed_at_crash t sound kept left is k target known beside own told s off =
    let x : IsSortedBeside (λ j. IsStoringOwn t left is j → ⊥) t left = sorted_beside (λ j. IsStoringOwn t left is j → ⊥) t sound left is (λ j on none. none on) in
    let now : World = (history_of x.moment).now in
    let w : World = world_of t.mirror t.requests in
    elim (x.read k) [
      | inl same ↦ by_test (w.bad k s)
          (λ bad.
          let listed : (now.stored k).listed s ≡ true =
          lists_run x.events t x.moment x.run kept k (x.log_known k beside known) (ap is_target (x.memory.state k) ∙ target) s (x.memory.bad k s ∙ bad) in
          let there : (read_in t.mirror.array left k).listed s ≡ true =
          ap (λ (d : Stored). d.listed s) same ∙ ap (λ (f : ℕ → Bool). f s) (cut_listed (geometry_of t.mirror.array) now x.cut x.is_cut k) ∙ listed in
          absurd (true≢false (sym there ∙ off)))
          (λ clear. clear)
      | inr none ↦ absurd (none_some own (sym none ∙ told))
    ]

-- at an opening the list in memory is what was read
pub lists_when_opened : (before : List Disk) (m : MirrorView) → AreHonest before → IsOpenedFrom before m → ListsAreIn (λ _. false) (world_of m none_in_flight)
lists_when_opened before m honest opens k known target s bad = sym ((opening.opened before m honest opens).states.bad k s) ∙ bad

pub says_no_more_where_known : SaysNoMoreWhereKnown
says_no_more_where_known before m start es t r left is k target low known beside own told =
    let sound = run_keeps es (opened_as m) t r (sound_when_opened before m start.honest start.opened) in
    let kept = lists_run es (opened_as m) t r (lists_when_opened before m start.honest start.opened) in
    inl (record {
      offset = offsets_are_kept before m start es t r left is k low;
      listed = listed_at_crash t sound kept left is k target known beside own told;
    })

pub lists_where_known : ListsWhereKnown
lists_where_known before m start es t r left is k target known beside own told s low below off =
    listed_at_crash t (run_keeps es (opened_as m) t r (sound_when_opened before m start.honest start.opened))
    (lists_run es (opened_as m) t r (lists_when_opened before m start.honest start.opened)) left is k target known beside own told s off
