-- The states of assembly are those of the model.
use Rattle.std.proofs.Common.{◌≡◌, ℕ, ◌+◌, ◌≤◌, Bool, true, false, cond, not, ◌==◌, ◌<◌, eqb, nat_le, nat_lt, refl, ap, subst, ◌∙◌, arith, eq-eqb, eqb-true}
use Rattle.std.proofs.lemmas.Bool.Decides.{nat_tests}
use Rattle.md_super.specs.declared.superblock.Superblock.{Superblock}
use Rattle.md_assembly.specs.declared.state.MemberState.{MemberState}
use Rattle.md_assembly.specs.declared.state.MemberState.TheVariants.{InSync, Recovering, Stale, Spare, Faulty}
use Rattle.md_assembly.specs.States.{bears, has_recovery_offset, is_in_sync, is_recorded, is_up_to_date, role_in, state_of, takes_role, is_active, is_recovering}
use Rattle.md_model.specs.States as model
use Rattle.md_model.specs.Assembly as model_assembly
use Rattle.md_state.specs.View.{ArrayView, geometry_of}
use Rattle.md_array.specs.Worlds.{kind_of, super_of}

pub same_in_sync : (s : MemberState) → model.is_in_sync (kind_of s) ≡ is_in_sync s
same_in_sync (InSync role) = refl
same_in_sync (Recovering role) = refl
same_in_sync (Stale role) = refl
same_in_sync Spare = refl
same_in_sync Faulty = refl

pub same_recovering : (s : MemberState) → model.is_recovering (kind_of s) ≡ is_recovering s
same_recovering (InSync role) = refl
same_recovering (Recovering role) = refl
same_recovering (Stale role) = refl
same_recovering Spare = refl
same_recovering Faulty = refl

pub same_recorded : (s : MemberState) → model.is_recorded (kind_of s) ≡ is_recorded s
same_recorded (InSync role) = refl
same_recorded (Recovering role) = refl
same_recorded (Stale role) = refl
same_recorded Spare = refl
same_recorded Faulty = refl

pub same_active : (s : MemberState) → model.is_active (kind_of s) ≡ is_active s
same_active (InSync role) = refl
same_active (Recovering role) = refl
same_active (Stale role) = refl
same_active Spare = refl
same_active Faulty = refl

-- a member in sync is kept up to date
pub in_sync_recorded : (s : MemberState) → is_in_sync s ≡ true → is_recorded s ≡ true
in_sync_recorded (InSync role) e = refl
in_sync_recorded (Recovering role) e = absurd cc
in_sync_recorded (Stale role) e = absurd cc
in_sync_recorded Spare e = absurd cc
in_sync_recorded Faulty e = absurd cc

-- the state by the answers of the five tests, in their order
by_tests : Bool → Bool → Bool → Bool → Bool → ℕ → MemberState
by_tests failed without behind other recovering role =
    cond failed Faulty (cond without Spare (cond behind (Stale role) (cond other (Stale role) (cond recovering (Recovering role) (InSync role)))))

kind_by_tests : (a b c o d : Bool) (role : ℕ) → kind_of (by_tests a b c o d role)
    ≡ cond a model.State.Faulty (cond b model.State.Spare (cond c model.State.Stale (cond o model.State.Stale (cond d model.State.Recovering model.State.InSync))))
unfolding by_tests
kind_by_tests true b c o d role = refl
kind_by_tests false true c o d role = refl
kind_by_tests false false true o d role = refl
kind_by_tests false false false true d role = refl
kind_by_tests false false false false true role = refl
kind_by_tests false false false false false role = refl

in_sync_by_tests : (a b c o d : Bool) (role : ℕ) → is_in_sync (by_tests a b c o d role) ≡ true → c ≡ false
unfolding by_tests
in_sync_by_tests true b c o d role e = absurd cc
in_sync_by_tests false true c o d role e = absurd cc
in_sync_by_tests false false true o d role e = absurd cc
in_sync_by_tests false false false o d role e = refl

takes_by_tests : (a b c o d : Bool) (role : ℕ) → model.is_active (kind_of (by_tests a b c o d role)) ≡ true → takes_role role (by_tests a b c o d role) ≡ true
unfolding by_tests
takes_by_tests true b c o d role e = absurd cc
takes_by_tests false true c o d role e = absurd cc
takes_by_tests false false true o d role e = absurd cc
takes_by_tests false false false true d role e = absurd cc
takes_by_tests false false false false true role e = eq-eqb role role refl
takes_by_tests false false false false false role e = eq-eqb role role refl

-- a member takes the role that its number has, one below raid_disks
role_by_tests : (a b c o d : Bool) (own role : ℕ) → takes_role role (by_tests a b c o d own) ≡ true → (b ≡ false) × (own ≡ role)
unfolding by_tests
role_by_tests true b c o d own role e = absurd cc
role_by_tests false true c o d own role e = absurd cc
role_by_tests false false true o d own role e = absurd cc
role_by_tests false false false true d own role e = absurd cc
role_by_tests false false false false true own role e = (refl, eqb-true own role e)
role_by_tests false false false false false own role e = (refl, eqb-true own role e)

is_behind : (a b : ℕ) → not (nat_le a b) ≡ nat_lt b a
is_behind a b = grind (arith, nat_tests)

pub same_state : (a : ArrayView) (own : Superblock) → kind_of (state_of a.shared own) ≡ model_assembly.state_by (geometry_of a) (super_of a.shared) (super_of own)
unfolding state_of by_tests
same_state a own =
    let role = role_in a.shared own.dev_number in
    kind_by_tests (role == 0xfffe) (nat_le a.shared.raid_disks role) (not (is_up_to_date a.shared own)) (not (bears own role)) (has_recovery_offset own) role
    ∙ ap (λ b. cond (eqb role 65534) model.State.Faulty (cond (nat_le a.shared.raid_disks role) model.State.Spare (cond b model.State.Stale
    (cond (not (bears own role)) model.State.Stale (cond (has_recovery_offset own) model.State.Recovering model.State.InSync)))))
    (is_behind a.shared.events (own.events + 1))

-- a member in sync is up to date
pub in_sync_up_to_date : (first own : Superblock) → is_in_sync (state_of first own) ≡ true → first.events ≤ own.events + 1
unfolding state_of by_tests
in_sync_up_to_date first own e =
    let role = role_in first own.dev_number in
    let fresh = in_sync_by_tests (role == 0xfffe) (nat_le first.raid_disks role) (not (is_up_to_date first own)) (not (bears own role)) (has_recovery_offset own) role e in
    grind (arith, nat_tests)

-- an active member takes its role
pub active_takes_role : (first own : Superblock) → model.is_active (kind_of (state_of first own)) ≡ true → takes_role (role_in first own.dev_number) (state_of first own) ≡ true
unfolding state_of by_tests
active_takes_role first own e =
    let role = role_in first own.dev_number in
    takes_by_tests (role == 0xfffe) (nat_le first.raid_disks role) (not (is_up_to_date first own)) (not (bears own role)) (has_recovery_offset own) role e

pub role_taken : (first own : Superblock) (role : ℕ) → takes_role role (state_of first own) ≡ true → (role_in first own.dev_number ≡ role) × (role < first.raid_disks)
unfolding state_of by_tests
role_taken first own role e =
    let given = role_in first own.dev_number in
    let x = role_by_tests (given == 0xfffe) (nat_le first.raid_disks given) (not (is_up_to_date first own)) (not (bears own given)) (has_recovery_offset own) given role e in
    let low : given < first.raid_disks = grind (arith, nat_tests) in
    (x.1, subst (λ (n : ℕ). n < first.raid_disks) x.1 low)
