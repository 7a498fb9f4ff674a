-- Which roles are taken, counted member by member.
use Rattle.std.proofs.Common.{◌≡◌, ℕ, ◌+◌, ◌<◌, ◌≤◌, Bool, true, false, cond, ◌||◌, List, [], ◌∷◌, map, refl, ap, sym, ◌∙◌, arith, inl, inr}
use Rattle.std.specs.Prelude.{◌==◌, nat_le, not}
use Rattle.std.specs.List.{count_by, list_any}
use Rattle.std.proofs.lemmas.Bool.{cases_lt, eqb-true, leb-false}
use Rattle.std.proofs.lemmas.List.Sums.{sum_by-cons}
use Rattle.std.proofs.lemmas.Simd.{map-map}
use Rattle.md_super.specs.declared.superblock.Superblock.{Superblock}
use Rattle.md_members.specs.declared.info.MemberInfo.{MemberInfo}
use Rattle.md_assembly.specs.declared.state.MemberState.TheVariants.{InSync, Recovering, Stale, Spare, Faulty}
use Rattle.md_assembly.specs.Assembled.{DecidesRoles, superblocks}
use Rattle.md_assembly.specs.Faults.{IsDoubleRole, AssembleFaultStands}
use Rattle.md_assembly.specs.declared.fault.AssembleFault.TheVariants.{NotEnough}
use Rattle.md_assembly.specs.States.{bears, has_recovery_offset, is_in_sync, is_up_to_date, role_in, state_of, states_by, takes_role}
use Rattle.md_assembly.proofs.Freshness.{by_this, by_freshest}

pub states_of_members : (v : Superblock) (members : List MemberInfo) → map (λ m. state_of v m.superblock) members ≡ states_by v (superblocks members)
states_of_members v members = sym (map-map (state_of v) (λ (m : MemberInfo). m.superblock) members)

count_of_states : (v : Superblock) (role : ℕ) (members : List MemberInfo) → count_by (takes_role role) (states_by v (superblocks members)) ≡ count_by (λ m. takes_role role (state_of v m.superblock)) members
count_of_states v role [] = refl
count_of_states v role (m ∷ rest) =
    sum_by-cons (λ s. cond (takes_role role s) 1 0) (state_of v m.superblock) (states_by v (superblocks rest))
    ∙ ap (λ n. cond (takes_role role (state_of v m.superblock)) 1 0 + n) (count_of_states v role rest)
    ∙ sym (sum_by-cons (λ (x : MemberInfo). cond (takes_role role (state_of v x.superblock)) 1 0) m rest)

any_of_states : (v : Superblock) (members : List MemberInfo) → list_any is_in_sync (states_by v (superblocks members)) ≡ list_any (λ m. is_in_sync (state_of v m.superblock)) members
any_of_states v [] = refl
any_of_states v (m ∷ rest) = ap (λ b. is_in_sync (state_of v m.superblock) || b) (any_of_states v rest)

pub not_double : (members : List MemberInfo) (i : ℕ) (v : Superblock) (role count : ℕ) → DecidesRoles (superblocks members) i v → count ≡ count_by (λ m. takes_role role (state_of v m.superblock)) members → count ≤ 1 → IsDoubleRole members role → ⊥
not_double members i v role count f e few double =
    let more = by_this (λ states. 1 < count_by (takes_role role) states) (superblocks members) i v f double in
    let same = count_of_states v role members in
    omega arith

pub is_double : (members : List MemberInfo) (i : ℕ) (v : Superblock) (role count : ℕ) → DecidesRoles (superblocks members) i v → count ≡ count_by (λ m. takes_role role (state_of v m.superblock)) members → 1 < count → IsDoubleRole members role
is_double members i v role count f e more =
    let same = count_of_states v role members in
    by_freshest (λ states. 1 < count_by (takes_role role) states) (superblocks members) i v f (omega arith)

-- a role that is taken is below the raid disks
below_disks : (faulty spare stale other recovering : Bool) (role wanted disks : ℕ) → (spare ≡ false → role < disks)
    → takes_role wanted (cond faulty Faulty (cond spare Spare (cond stale (Stale role) (cond other (Stale role) (cond recovering (Recovering role) (InSync role)))))) ≡ true → wanted < disks
below_disks true spare stale other recovering role wanted disks low e = absurd cc
below_disks false true stale other recovering role wanted disks low e = absurd cc
below_disks false false true other recovering role wanted disks low e = absurd cc
below_disks false false false true recovering role wanted disks low e = absurd cc
below_disks false false false false true role wanted disks low e = let same = eqb-true role wanted e in let under = low refl in omega arith
below_disks false false false false false role wanted disks low e = let same = eqb-true role wanted e in let under = low refl in omega arith

taken_below : (v w : Superblock) (role : ℕ) → takes_role role (state_of v w) ≡ true → role < v.raid_disks
unfolding state_of
taken_below v w role e =
    let given = role_in v w.dev_number in
    below_disks (given == 0xfffe) (nat_le v.raid_disks given) (not (is_up_to_date v w)) (not (bears w given)) (has_recovery_offset w) given role v.raid_disks (λ s. leb-false _ _ s) e

none_taken : (v : Superblock) (role : ℕ) (members : List MemberInfo) → v.raid_disks ≤ role → count_by (λ m. takes_role role (state_of v m.superblock)) members ≡ 0
none_taken v role [] past = refl
none_taken v role (m ∷ rest) past =
    let rest_none = none_taken v role rest past in
    let first = sum_by-cons (λ (x : MemberInfo). cond (takes_role role (state_of v x.superblock)) 1 0) m rest in
    let P : Bool → Type 0 = λ b. takes_role role (state_of v m.superblock) ≡ b → cond b 1 0 + count_by (λ m. takes_role role (state_of v m.superblock)) rest ≡ 0 in
    let both : (b : Bool) → P b = λ b. elim b as P [
      | true ↦ λ e. let below = taken_below v m.superblock role e in absurd (omega arith)
      | false ↦ λ e. omega arith
    ] in
    first ∙ both (takes_role role (state_of v m.superblock)) refl

-- no role is double where none below the raid disks is
pub none_double : (members : List MemberInfo) (i : ℕ) (v : Superblock) → DecidesRoles (superblocks members) i v → ((role : ℕ) → role < v.raid_disks → IsDoubleRole members role → ⊥) → (role : ℕ) → IsDoubleRole members role → ⊥
none_double members i v f none role = elim (cases_lt role v.raid_disks) [
  | inl below ↦ none role below
  | inr past ↦ let zero = none_taken v role members past in not_double members i v role 0 f (sym zero) (omega arith)
]

pub not_lacking : (members : List MemberInfo) (i : ℕ) (v : Superblock) (found : Bool) → DecidesRoles (superblocks members) i v → found ≡ list_any (λ m. is_in_sync (state_of v m.superblock)) members → found ≡ true → AssembleFaultStands members NotEnough → ⊥
not_lacking members i v found f e some lacking =
    let none = by_this (λ states. list_any is_in_sync states ≡ false) (superblocks members) i v f lacking in
    let same = any_of_states v members in
    absurd cc

pub lacking : (members : List MemberInfo) (i : ℕ) (v : Superblock) (found : Bool) → DecidesRoles (superblocks members) i v → found ≡ list_any (λ m. is_in_sync (state_of v m.superblock)) members → found ≡ false → AssembleFaultStands members NotEnough
lacking members i v found f e none = by_freshest (λ states. list_any is_in_sync states ≡ false) (superblocks members) i v f (any_of_states v members ∙ sym e ∙ none)
