-- Active members have roles of their own: so while one is recovering, some role has no member in sync.
use Rattle.std.proofs.Common.{◌≡◌, ◌≢◌, ℕ, ◌<◌, Bool, true, false, refl, sym, ap, ◌∙◌, subst, true≢false}
use Rattle.std.specs.Prelude.{nat_lt}
use Rattle.md_model.specs.Sectors.{Geometry, put}
use Rattle.md_model.specs.States.{State, is_active, is_in_sync, is_recorded, is_recovering}
use Rattle.md_model.specs.States.State.{InSync, Recovering, Stale, Spare, Faulty}
use Rattle.md_model.specs.Devices.{Super, Stored}
use Rattle.md_model.specs.Worlds.{Request, World}
use Rattle.md_model.specs.Counts.{risen}
use Rattle.md_model.specs.Steps.{begun, with_device}
use Rattle.md_model.specs.Failures.{failed}
use Rattle.md_model.specs.Membership.{former_member, is_spare, joined, new_member, removed, skip, Newcomer}
use Rattle.md_model.specs.Rebuilding.{as_in_sync, as_recovering, with_role_taken, Taking}
use Rattle.md_model.specs.Events.{Event, Fails, Happens}
use Rattle.md_model.specs.Behind.{IsDegraded}
use Rattle.md_model.specs.Openings.{IsOpened, IsWithinLimits}
use Rattle.md_model.specs.Runs.{History, IsStart}
use Rattle.md_model.proofs.Cases.{by_test, is_below, not_below}
use Rattle.md_model.proofs.Puts.{by_same, put-at, put-hit, put-miss}
use Rattle.md_model.proofs.Table.{says_recovering}
use Rattle.md_model.proofs.Steps.Keeps.{IsKept}
use Rattle.md_model.proofs.Steps.Recorded.{other_entry}
use Rattle.md_model.proofs.Steps.RecordedSteps.{present_keeps}
use Rattle.md_model.proofs.Steps.Membership.{number_absent, skip-injective}
use Rattle.md_model.proofs.Steps.Rebuilding.{recovering_out}

pub in_sync_active : (s : State) → is_in_sync s ≡ true → is_active s ≡ true
in_sync_active InSync e = refl
in_sync_active Recovering e = refl
in_sync_active Stale e = e
in_sync_active Spare e = e
in_sync_active Faulty e = e

pub recovering_active : (s : State) → is_recovering s ≡ true → is_active s ≡ true
recovering_active InSync e = refl
recovering_active Recovering e = refl
recovering_active Stale e = e
recovering_active Spare e = e
recovering_active Faulty e = e

active_recorded : (s : State) → is_active s ≡ true → is_recorded s ≡ true
active_recorded InSync e = refl
active_recorded Recovering e = refl
active_recorded Stale e = e
active_recorded Spare e = refl
active_recorded Faulty e = e

pub record HasRoles (g : Geometry) (w : World) : Type 0 where
  pub below : (k : ℕ) → is_recovering (w.state k) ≡ true → w.role (w.number k) < g.raid_disks
  pub one_each : (j k : ℕ) → is_active (w.state j) ≡ true → is_active (w.state k) ≡ true → w.role (w.number j) ≡ w.role (w.number k) → j ≡ k

-- a role that no active member has is empty
pub degraded_free : (g : Geometry) (w : World) (role : ℕ) → role < g.raid_disks → ((j : ℕ) → is_active (w.state j) ≡ true → w.role (w.number j) ≢ role) → IsDegraded g w
degraded_free g w role low free full = let x = full role low in free x.0 (in_sync_active (w.state x.0) x.1) x.2

pub degraded_recovering : (g : Geometry) (w : World) → HasRoles g w → (k : ℕ) → is_recovering (w.state k) ≡ true → IsDegraded g w
degraded_recovering g w t k on full =
    let x = full (w.role (w.number k)) (t.below k on) in
    let same = t.one_each x.0 k (in_sync_active (w.state x.0) x.1) (recovering_active (w.state k) on) x.2 in
    true≢false (sym x.1 ∙ ap (λ i. is_in_sync (w.state i)) same ∙ recovering_out (w.state k) on)

-- each active member was one, with the same role
record IsNoMore (w w' : World) : Type 0 where
  at : ℕ → ℕ
  once : (j k : ℕ) → at j ≡ at k → j ≡ k
  active : (j : ℕ) → is_active (w'.state j) ≡ true → is_active (w.state (at j)) ≡ true
  recovering : (j : ℕ) → is_recovering (w'.state j) ≡ true → is_recovering (w.state (at j)) ≡ true
  role : (j : ℕ) → is_active (w'.state j) ≡ true → w'.role (w'.number j) ≡ w.role (w.number (at j))

module _ (g : Geometry) where
  no_more : (w w' : World) → IsNoMore w w' → HasRoles g w → HasRoles g w'
  no_more w w' f t = record {
    below = λ k on. subst (λ r. r < g.raid_disks) (sym (f.role k (recovering_active (w'.state k) on))) (t.below (f.at k) (f.recovering k on));
    one_each = λ j k a b e. f.once j k (t.one_each (f.at j) (f.at k) (f.active j a) (f.active k b) (sym (f.role j a) ∙ e ∙ f.role k b));
  }

  -- a further one takes a role that no other has
  one_more : (w w' : World) (k : ℕ) → HasRoles g w → w'.role (w'.number k) < g.raid_disks
      → ((j : ℕ) → j ≢ k → is_active (w'.state j) ≡ true → w'.role (w'.number j) ≢ w'.role (w'.number k))
      → ((j : ℕ) → j ≢ k → is_active (w'.state j) ≡ true → is_active (w.state j) ≡ true)
      → ((j : ℕ) → j ≢ k → is_recovering (w'.state j) ≡ true → is_recovering (w.state j) ≡ true)
      → ((j : ℕ) → j ≢ k → is_active (w'.state j) ≡ true → w'.role (w'.number j) ≡ w.role (w.number j))
      → HasRoles g w'
  one_more w w' k t low free active recovering role = record {
    below = λ j on. by_same j k (λ same. subst (λ i. w'.role (w'.number i) < g.raid_disks) (sym same) low)
        (λ apart. subst (λ r. r < g.raid_disks) (sym (role j apart (recovering_active (w'.state j) on))) (t.below j (recovering j apart on)));
    one_each = λ i j a b e. by_same i k
        (λ at_i. by_same j k (λ at_j. at_i ∙ sym at_j) (λ off_j. absurd (free j off_j b (sym e ∙ ap (λ x. w'.role (w'.number x)) at_i))))
        (λ off_i. by_same j k (λ at_j. absurd (free i off_i a (e ∙ ap (λ x. w'.role (w'.number x)) at_j)))
        (λ off_j. t.one_each i j (active i off_i a) (active j off_j b) (sym (role i off_i a) ∙ e ∙ role j off_j b)));
  }

  as_was : (w w' : World) → w'.state ≡ w.state → w'.role ≡ w.role → w'.number ≡ w.number → HasRoles g w → HasRoles g w'
  as_was w w' state role number = no_more w w' (record {
    at = λ j. j;
    once = λ _ _ e. e;
    active = λ j on. sym (ap (λ (f : ℕ → State). is_active (f j)) state) ∙ on;
    recovering = λ j on. sym (ap (λ (f : ℕ → State). is_recovering (f j)) state) ∙ on;
    role = λ j _. ap (λ (f : ℕ → ℕ). f (w'.number j)) role ∙ ap (λ (f : ℕ → ℕ). w.role (f j)) number;
  })

module _ (g : Geometry) (small : IsWithinLimits g) (opened : Super) (h : History) (kept : IsKept g opened h) (t : HasRoles g h.now) where
  abbrev w : World
  w = h.now

  within : (j : ℕ) → is_active (w.state j) ≡ true → j < w.members
  within j on = kept.recorded.there j (active_recorded (w.state j) on)

  role_risen : (full : Bool) (j : ℕ) → j < w.members → (risen g w full).role (w.number j) ≡ w.role (w.number j)
  role_risen full j low = present_keeps g w (w.number j) small.few (kept.recorded.present j low)

  roles_risen : (full : Bool) → HasRoles g (risen g w full)
  roles_risen full = no_more g w (risen g w full) (record {
    at = λ j. j;
    once = λ _ _ e. e;
    active = λ _ on. on;
    recovering = λ _ on. on;
    role = λ j on. role_risen full j (within j on);
  }) t

  roles_begun : (n : ℕ) (p : Request) (rises full : Bool) → HasRoles g (begun g w n p rises full)
  roles_begun n p true full = as_was g (risen g w full) (begun g w n p true full) refl refl refl (roles_risen full)
  roles_begun n p false full = as_was g w (begun g w n p false full) refl refl refl t

  roles_failed : (k : ℕ) (left : Stored) (w' : World) → Fails g w k left w' → HasRoles g w'
  roles_failed k left w' f = subst (HasRoles g) (sym f.3)
      (no_more g w v (record {
        at = λ j. j;
        once = λ _ _ e. e;
        active = λ j on. (other j is_active refl on).1;
        recovering = λ j on. (other j is_recovering refl on).1;
        role = λ j on. let x = other j is_active refl on in
            other_entry (w.number j) (w.number k) w.entries ((risen g w f.0).role (w.number j)) (numbers j x.0 x.1) ∙ role_risen f.0 j (within j x.1);
      }) t)
    where
      v : World
      v = failed g (with_device w k left) k f.0

      other : (j : ℕ) (is : State → Bool) → is Faulty ≡ false → is (put k Faulty w.state j) ≡ true → (j ≢ k) × (is (w.state j) ≡ true)
      other j is off = put-at k Faulty w.state j (λ s. is s ≡ true → (j ≢ k) × (is (w.state j) ≡ true)) (λ _ on. absurd (true≢false (sym on ∙ off))) (λ apart on. (apart, on))

      numbers : (j : ℕ) → j ≢ k → is_active (w.state j) ≡ true → w.number j ≢ w.number k
      numbers j apart on same = apart (kept.recorded.distinct j k (within j on) (kept.recorded.there k f.1.in_use) same)

  roles_removed : (k : ℕ) → k < w.members → is_active (w.state k) ≡ false → (spare full : Bool) → HasRoles g (removed g w k spare full)
  roles_removed k low out true full = no_more g w (removed g w k true full) (record {
    at = skip k;
    once = skip-injective k;
    active = λ _ on. on;
    recovering = λ _ on. on;
    role = λ j on.
        other_entry (w.number (skip k j)) (w.number k) w.entries ((risen g w full).role (w.number (skip k j)))
        (λ same. true≢false (sym on ∙ ap (λ i. is_active (w.state i)) (kept.recorded.distinct (skip k j) k (within (skip k j) on) low same) ∙ out))
        ∙ role_risen full (skip k j) (within (skip k j) on);
  }) t
  roles_removed k low out false full = no_more g w (removed g w k false full) (record {
    at = skip k;
    once = skip-injective k;
    active = λ _ on. on;
    recovering = λ _ on. on;
    role = λ _ _. refl;
  }) t

  -- ---- a member that comes in
  module _ (n : Newcomer) (full : Bool) (absent : w.present n.number ≡ false) where
    abbrev v : World
    v = joined (risen g w full) n

    old : (j : ℕ) (is : State → Bool) → j ≢ w.members → is (v.state j) ≡ true → is (w.state j) ≡ true
    old j is apart on = sym (ap is (put-miss w.members n.state w.state j apart)) ∙ on

    old_role : (j : ℕ) → j ≢ w.members → is_active (w.state j) ≡ true → v.role (v.number j) ≡ w.role (w.number j)
    old_role j apart on =
        ap v.role (put-miss w.members n.number w.number j apart)
        ∙ put-miss n.number n.role (risen g w full).role (w.number j) (λ same. true≢false (sym (kept.recorded.present j (within j on)) ∙ ap w.present same ∙ absent))
        ∙ role_risen full j (within j on)

    new_role : v.role (v.number w.members) ≡ n.role
    new_role = ap v.role (put-hit w.members n.number w.number) ∙ put-hit n.number n.role (risen g w full).role

    roles_new : is_active n.state ≡ false → HasRoles g v
    roles_new out =
        let other : (j : ℕ) → is_active (v.state j) ≡ true → j ≢ w.members =
        λ j on same. true≢false (sym on ∙ ap (λ i. is_active (v.state i)) same ∙ ap is_active (put-hit w.members n.state w.state) ∙ out) in
        no_more g w v (record {
          at = λ j. j;
          once = λ _ _ e. e;
          active = λ j on. old j is_active (other j on) on;
          recovering = λ j on. old j is_recovering (other j (recovering_active (v.state j) on)) on;
          role = λ j on. let apart = other j on in old_role j apart (old j is_active apart on);
        }) t

    roles_former : n.role < g.raid_disks → ((k : ℕ) → is_active (w.state k) ≡ true → w.role (w.number k) ≢ n.role) → HasRoles g v
    roles_former low free = one_more g w v w.members t (subst (λ r. r < g.raid_disks) (sym new_role) low)
        (λ j apart on e. let on' = old j is_active apart on in free j on' (sym (old_role j apart on') ∙ e ∙ new_role))
        (λ j apart on. old j is_active apart on) (λ j apart on. old j is_recovering apart on)
        (λ j apart on. old_role j apart (old j is_active apart on))

  -- ---- a member that takes a role
  module _ (k : ℕ) (n : Taking) (full : Bool) (low : k < w.members) where
    abbrev u : World
    u = with_role_taken (risen g w full) k n

    was : (j : ℕ) (is : State → Bool) → j ≢ k → is (u.state j) ≡ true → is (w.state j) ≡ true
    was j is apart on = sym (ap is (put-miss k n.state w.state j apart)) ∙ on

    was_role : (j : ℕ) → j ≢ k → is_active (w.state j) ≡ true → u.role (w.number j) ≡ w.role (w.number j)
    was_role j apart on =
        put-miss (w.number k) n.role (risen g w full).role (w.number j) (λ same. apart (kept.recorded.distinct j k (within j on) low same))
        ∙ role_risen full j (within j on)

    now_role : u.role (w.number k) ≡ n.role
    now_role = put-hit (w.number k) n.role (risen g w full).role

    roles_taking : n.role < g.raid_disks → ((j : ℕ) → j ≢ k → is_active (w.state j) ≡ true → w.role (w.number j) ≢ n.role) → HasRoles g u
    roles_taking below free = one_more g w u k t (subst (λ r. r < g.raid_disks) (sym now_role) below)
        (λ j apart on e. let on' = was j is_active apart on in free j apart on' (sym (was_role j apart on') ∙ e ∙ now_role))
        (λ j apart on. was j is_active apart on) (λ j apart on. was j is_recovering apart on)
        (λ j apart on. was_role j apart (was j is_active apart on))

  target_there : (k : ℕ) → is_recovering (w.state k) ≡ true → k < w.members
  target_there k on = within k (recovering_active (w.state k) on)

  spare_recorded : (s : State) → is_spare s ≡ true → is_recorded s ≡ true
  spare_recorded InSync e = refl
  spare_recorded Recovering e = refl
  spare_recorded Stale e = e
  spare_recorded Spare e = refl
  spare_recorded Faulty e = e

  pub roles_step : (e : Event) (w' : World) → Happens g w e w' → HasRoles g w'
  roles_step (Event.Begin n p) w' s = subst (HasRoles g) (sym s.5) (roles_begun n p s.0 s.1)
  roles_step (Event.Record k) w' s = subst (HasRoles g) (sym s.3) (as_was g w _ refl refl refl t)
  roles_step (Event.StoreMarks k b) w' s = subst (HasRoles g) (sym s.1) (as_was g w _ refl refl refl t)
  roles_step (Event.WriteMember n k) w' s = subst (HasRoles g) (sym s.2) (as_was g w _ refl refl refl t)
  roles_step (Event.Finish n) w' s = subst (HasRoles g) (sym s.2) (as_was g w _ refl refl refl t)
  roles_step (Event.ClearIdle c) w' s = subst (HasRoles g) (sym s.1) (as_was g w _ refl refl refl t)
  roles_step (Event.Fail k) w' s = roles_failed k (w.stored k) w' s.1
  roles_step (Event.WriteFails k part) w' s = roles_failed k s.0 w' s.2
  roles_step (Event.Copy from k x) w' s = subst (HasRoles g) (sym s.1) (as_was g w _ refl refl refl t)
  roles_step Event.Resynced w' s = subst (HasRoles g) (sym s.1) (as_was g w _ refl refl refl t)
  roles_step Event.Unresynced w' s = subst (HasRoles g) (sym s.1) (as_was g w _ refl refl refl t)
  roles_step Event.MakeClean w' s = subst (HasRoles g) (sym s.3) (as_was g (risen g w s.0) _ refl refl refl (roles_risen s.0))
  roles_step (Event.Remove k) w' s = subst (HasRoles g) (sym s.3) (roles_removed k s.1.there s.1.out (is_spare (w.state k)) s.0)
  roles_step (Event.Add d left) w' s = subst (HasRoles g) (sym s.4) (roles_new (new_member d left) s.0 (number_absent g w d s.1.number) refl)
  roles_step (Event.ReAdd own offset device left) w' s = subst (HasRoles g) (sym s.4) (roles_former (former_member own offset left) s.0 s.1.absent s.1.has_role s.1.free)
  roles_step (Event.LowerOffset k x) w' s = subst (HasRoles g) (sym s.1) (as_was g w _ refl refl refl t)
  roles_step (Event.Fill k) w' s = subst (HasRoles g) (sym s.3) (as_was g w _ refl refl refl t)
  roles_step (Event.Prepare k) w' s = subst (HasRoles g) (sym s.3) (as_was g w _ refl refl refl t)
  roles_step (Event.RecordTargetFails k) w' s = subst (HasRoles g) (sym s.1.2) (as_was g w _ refl refl refl t)
  roles_step (Event.SpoilTarget k) w' s = subst (HasRoles g) (sym s.1.2) (as_was g w _ refl refl refl t)
  roles_step (Event.Enrol k role listed) w' s = subst (HasRoles g) (sym s.3) (roles_taking k (as_in_sync (risen g w s.0) role listed) s.0 (target_there k s.1.recovering) s.1.below s.1.free)
  roles_step (Event.Admit k role listed) w' s = subst (HasRoles g) (sym s.3)
      (roles_taking k (as_recovering w k role listed) s.0 (kept.recorded.there k (spare_recorded (w.state k) s.1.spare)) s.1.below (λ j _ on. s.1.free j on))
  roles_step (Event.Checkpoint k offset listed) w' s = subst (HasRoles g) (sym s.1) (as_was g w _ refl refl refl t)
  roles_step (Event.NoteBad k more) w' s = subst (HasRoles g) (sym s.1) (as_was g w _ refl refl refl t)
  roles_step (Event.StoreLog k listed) w' s = subst (HasRoles g) (sym s.2) (as_was g w _ refl refl refl t)

-- an opening finds them so
pub roles_opened : (g : Geometry) (first : Super) (w : World) → IsStart g first w → HasRoles g w
roles_opened g first w start = record {
  below = λ k on.
      let o = start.opening in
      let low : k < w.members = slot g first w o k on in
      let x = o.members.filled k low in
      let says = says_recovering g first x.0 (sym (ap is_recovering (o.states.by_table k x.0 x.1)) ∙ on) in
      subst (λ d. w.role d < g.raid_disks) (o.members.number k x.0 x.1) (subst (λ (f : ℕ → ℕ). f x.0.number < g.raid_disks) (sym o.role) says.role);
  one_each = start.opening.states.one_each;
}
  where
    slot : (g : Geometry) (first : Super) (w : World) (o : IsOpened g first w) (k : ℕ) → is_recovering (w.state k) ≡ true → k < w.members
    slot g first w o k on = by_test (nat_lt k w.members) (is_below k w.members)
        (λ past. absurd (true≢false (sym on ∙ ap is_recovering (o.states.past k (not_below k w.members past)))))
