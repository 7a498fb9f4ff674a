-- What is read of the members one by one, and what it makes of all of them.
use Rattle.std.proofs.Common.{◌≡◌, ℕ, zero, suc, ◌+◌, ◌<◌, ◌==◌, ◌≢◌, inl, inr, set, subst, eq-eqb, Bool, true, false, ◌&&◌, ◌||◌, List, [], ◌∷◌, length, get_or, take, Some, refl, ap, sym, ◌∙◌, arith}
use Rattle.std.specs.List.{count_by, list_all, slice_get}
use Rattle.std.specs.Option.{option_map}
use Rattle.std.proofs.lemmas.Bool.{ne_eqb}
use Rattle.std.proofs.lemmas.List.{get_or-set_other, get_or-set_same}
use Rattle.std.proofs.lemmas.Option.{get_or_from_slice_get, same_Some}
use Rattle.std.proofs.lemmas.List.Sums.{count_by_more_yes, count_by_more_no}
use Rattle.std.proofs.lemmas.List.Folds.{list_all_more, list_all_at, list_any_more, list_any_at}
use Rattle.md_super.specs.declared.superblock.Superblock.{Superblock}
use Rattle.md_assembly.specs.declared.state.MemberState.{MemberState}
use Rattle.md_assembly.specs.States.{is_in_sync}
use Rattle.md_kept_members.proofs.Members.Indices.{cases_more}
use Rattle.md_kept_members.specs.View.{MemberView}
use Rattle.md_notices.specs.Parting.{is_left_by}
use Rattle.md_notices.specs.Unnamed.{is_member}

pub there : (ms : List MemberView) (k : ℕ) → k < length ms → (m : MemberView) × (slice_get ms k ≡ Some m)
there [] k lt = absurd (omega arith)
there (m ∷ ms) zero lt = (m, refl)
there (m ∷ ms) (suc k) lt = there ms k (omega arith)

-- the member with this superblock
pub record HasOwn (ms : List MemberView) (k : ℕ) (v : Superblock) : Type 0 where
  pub member : MemberView
  pub listed : slice_get ms k ≡ Some member
  pub is : get_or ms k member ≡ member
  pub own : member.superblock ≡ v

pub has_own : (ms : List MemberView) (k : ℕ) (v : Superblock) → k < length ms → option_map (λ (m : MemberView). m.superblock) (slice_get ms k) ≡ Some v → HasOwn ms k v
has_own ms k v lt e =
    let found = there ms k lt in
    record {
      member = found.0;
      listed = found.1;
      is = get_or_from_slice_get ms k found.0 found.0 found.1;
      own = same_Some found.0.superblock v (sym (ap (option_map (λ (m : MemberView). m.superblock)) found.1) ∙ e);
    }

pub has_state : (ms : List MemberView) (k : ℕ) (m : MemberView) (state : MemberState) → slice_get ms k ≡ Some m → option_map (λ (m : MemberView). m.state) (slice_get ms k) ≡ Some state → m.state ≡ state
has_state ms k m state listed e = same_Some m.state state (sym (ap (option_map (λ x. x.state)) listed) ∙ e)

-- a device number that was read, and whether it is one
pub named_there : (number : ℕ) (ms : List MemberView) (k : ℕ) (v : Superblock) → k < length ms → option_map (λ (m : MemberView). m.superblock) (slice_get ms k) ≡ Some v → v.dev_number ≡ number → is_member ms number ≡ true
named_there number ms k v lt own e =
    let has = has_own ms k v lt own in
    list_any_at (λ m. m.superblock.dev_number == number) ms k has.member lt
    (ap (λ (m : MemberView). m.superblock.dev_number == number) has.is ∙ ap (λ (w : Superblock). w.dev_number == number) has.own ∙ eq-eqb v.dev_number number e)

pub named_no_more : (number : ℕ) (ms : List MemberView) (k : ℕ) (v : Superblock) → k < length ms → option_map (λ (m : MemberView). m.superblock) (slice_get ms k) ≡ Some v → v.dev_number ≢ number → is_member (take k ms) number ≡ false → is_member (take (k + 1) ms) number ≡ false
named_no_more number ms k v lt own other before =
    let has = has_own ms k v lt own in
    list_any_more (λ m. m.superblock.dev_number == number) ms k has.member lt
    ∙ ap (λ (b : Bool). b || ((get_or ms k has.member).superblock.dev_number == number)) before
    ∙ ap (λ (m : MemberView). m.superblock.dev_number == number) has.is
    ∙ ap (λ (w : Superblock). w.dev_number == number) has.own
    ∙ ne_eqb v.dev_number number other

-- what is asked of the member that was read
left_there : (by : Superblock) (ms : List MemberView) (k : ℕ) (v : Superblock) (state : MemberState) (answer : Bool) (has : HasOwn ms k v) → option_map (λ (m : MemberView). m.state) (slice_get ms k) ≡ Some state → answer ≡ is_left_by by v.dev_number state → is_left_by by (get_or ms k has.member).superblock.dev_number (get_or ms k has.member).state ≡ answer
left_there by ms k v state answer has its e =
    ap (λ (m : MemberView). is_left_by by m.superblock.dev_number m.state) has.is
    ∙ ap (λ (w : Superblock). is_left_by by w.dev_number has.member.state) has.own
    ∙ ap (is_left_by by v.dev_number) (has_state ms k has.member state has.listed its)
    ∙ sym e

pub left_more : (by : Superblock) (ms : List MemberView) (k : ℕ) (v : Superblock) (state : MemberState) (answer : Bool) → k < length ms → option_map (λ (m : MemberView). m.superblock) (slice_get ms k) ≡ Some v → option_map (λ (m : MemberView). m.state) (slice_get ms k) ≡ Some state → answer ≡ is_left_by by v.dev_number state → answer ≡ true
    → list_all (λ m. is_left_by by m.superblock.dev_number m.state) (take k ms) ≡ true → list_all (λ m. is_left_by by m.superblock.dev_number m.state) (take (k + 1) ms) ≡ true
left_more by ms k v state answer lt own its e is before =
    let has = has_own ms k v lt own in
    list_all_more (λ m. is_left_by by m.superblock.dev_number m.state) ms k has.member lt
    ∙ ap (λ (b : Bool). b && is_left_by by (get_or ms k has.member).superblock.dev_number (get_or ms k has.member).state) before
    ∙ left_there by ms k v state answer has its e
    ∙ is

pub left_not : (by : Superblock) (ms : List MemberView) (k : ℕ) (v : Superblock) (state : MemberState) (answer : Bool) → k < length ms → option_map (λ (m : MemberView). m.superblock) (slice_get ms k) ≡ Some v → option_map (λ (m : MemberView). m.state) (slice_get ms k) ≡ Some state → answer ≡ is_left_by by v.dev_number state → answer ≡ false
    → list_all (λ m. is_left_by by m.superblock.dev_number m.state) ms ≡ false
left_not by ms k v state answer lt own its e not =
    let has = has_own ms k v lt own in
    list_all_at (λ m. is_left_by by m.superblock.dev_number m.state) ms k has.member lt (left_there by ms k v state answer has its e ∙ not)

-- how many of the first k members are in sync
abbrev pub in_sync_first : List MemberView → ℕ → ℕ
in_sync_first ms k = count_by (λ m. is_in_sync m.state) (take k ms)

state_there : (ms : List MemberView) (k : ℕ) (m : MemberView) (state : MemberState) → slice_get ms k ≡ Some m → option_map (λ (m : MemberView). m.state) (slice_get ms k) ≡ Some state → (get_or ms k m).state ≡ state
state_there ms k m state at e = ap (λ (x : MemberView). x.state) (get_or_from_slice_get ms k m m at) ∙ has_state ms k m state at e

pub one_more : (ms : List MemberView) (k : ℕ) (state : MemberState) → k < length ms → option_map (λ (m : MemberView). m.state) (slice_get ms k) ≡ Some state → is_in_sync state ≡ true → in_sync_first ms (k + 1) ≡ in_sync_first ms k + 1
one_more ms k state lt e is =
    let found = there ms k lt in
    count_by_more_yes (λ m. is_in_sync m.state) ms k found.0 lt (ap is_in_sync (state_there ms k found.0 state found.1 e) ∙ is)

pub no_more : (ms : List MemberView) (k : ℕ) (state : MemberState) → k < length ms → option_map (λ (m : MemberView). m.state) (slice_get ms k) ≡ Some state → is_in_sync state ≡ false → in_sync_first ms (k + 1) ≡ in_sync_first ms k
no_more ms k state lt e is =
    let found = there ms k lt in
    count_by_more_no (λ m. is_in_sync m.state) ms k found.0 lt (ap is_in_sync (state_there ms k found.0 state found.1 e) ∙ is)

-- what is so of each of the first elements, and of one more that is set
pub so_more : {X : Type 0} (P : ℕ → X → Type 0) (xs : List X) (k : ℕ) (y d : X) → k < length xs → ((i : ℕ) → i < k → P i (get_or xs i d)) → P k y → (i : ℕ) → i < k + 1 → P i (get_or (set xs k y) i d)
so_more P xs k y d lt before here i less =
    elim (cases_more i k less) [
      | inl low ↦ subst (P i) (sym (get_or-set_other xs k i y d (λ same. omega (arith, same, low)))) (before i low)
      | inr is ↦ subst (λ j. P j (get_or (set xs k y) j d)) (sym is) (subst (P k) (sym (get_or-set_same xs k y d lt)) here)
    ]
