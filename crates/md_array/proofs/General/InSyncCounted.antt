-- Some role has no member in sync exactly where fewer members are in sync than there are raid disks: their roles differ and are below.
use Rattle.std.proofs.Common.{◌≡◌, ◌↔◌, ℕ, zero, suc, ◌+◌, ◌<◌, ◌≤◌, ◌==◌, Bool, true, false, cond, not, ◌||◌, eqb, eq-eqb, true≢false, List, [], ◌∷◌, length, slice_get, Some, count_by, refl, sym, ap, ◌∙◌, arith, IsTrue, subst}
use Rattle.std.specs.List.{list_any, range_with_len, IsDistinct, AllByRecursion}
use Rattle.std.proofs.lemmas.Bool.{eqb-true}
use Rattle.std.proofs.lemmas.List.Sums.{sum_by-cons}
use Rattle.std.proofs.lemmas.Map.Steps.{le-length_from_below, length-le_from_distinct_below}
use Rattle.md_model.proofs.Cases.{by_test}
use Rattle.md_assembly.specs.declared.state.MemberState.{MemberState}
use Rattle.md_assembly.specs.declared.state.MemberState.TheVariants.{InSync, Recovering, Stale, Spare, Faulty}
use Rattle.md_assembly.specs.States.{is_in_sync, is_in_sync_as, takes_role}
use Rattle.md_kept_members.specs.View.{MemberView}
use Rattle.md_state.specs.InMemory.{HasRoles}
use Rattle.md_state.specs.Members.{is_degraded, is_filled}
use Rattle.md_state.specs.View.{ArrayView}
use Rattle.md_array.specs.InSyncCount.{count_in_sync}
use Rattle.md_array.proofs.General.Indices.{any_at, at_any, got_in_range, in_range}
use Rattle.md_array.proofs.General.Tests.{true_unless_false}

-- ---- the roles of the members in sync
abbrev role_then : MemberState → List ℕ → List ℕ
role_then (InSync role) roles = role ∷ roles
role_then (Recovering role) roles = roles
role_then (Stale role) roles = roles
role_then Spare roles = roles
role_then Faulty roles = roles

abbrev roles_of : List MemberView → List ℕ
roles_of [] = []
roles_of (m ∷ ms) = role_then m.state (roles_of ms)

length_then : (s : MemberState) (roles : List ℕ) → length (role_then s roles) ≡ cond (is_in_sync s) 1 0 + length roles
length_then (InSync role) roles = omega arith
length_then (Recovering role) roles = omega arith
length_then (Stale role) roles = omega arith
length_then Spare roles = omega arith
length_then Faulty roles = omega arith

-- as many as there are such members
as_many : (ms : List MemberView) → length (roles_of ms) ≡ count_by (λ m. is_in_sync m.state) ms
as_many [] = refl
as_many (m ∷ ms) = omega (arith, length_then m.state (roles_of ms), sum_by-cons (λ (x : MemberView). cond (is_in_sync x.state) 1 0) m ms, as_many ms)

same_test : (a b : ℕ) → (a == b) ≡ (b == a)
same_test a b = by_test (a == b) (λ is. is ∙ sym (eq-eqb b a (sym (eqb-true a b is)))) (λ is. by_test (b == a) (λ e. absurd (true≢false (sym (eq-eqb a b (sym (eqb-true b a e))) ∙ is))) (λ e. is ∙ sym e))

any_then : (q : ℕ) (s : MemberState) (roles : List ℕ) → list_any (eqb q) (role_then s roles) ≡ (is_in_sync_as q s || list_any (eqb q) roles)
any_then q (InSync role) roles = ap (λ b. b || list_any (eqb q) roles) (same_test q role)
any_then q (Recovering role) roles = refl
any_then q (Stale role) roles = refl
any_then q Spare roles = refl
any_then q Faulty roles = refl

-- one of them is there where a member is in sync in it
as_filled : (q : ℕ) (ms : List MemberView) → list_any (eqb q) (roles_of ms) ≡ list_any (λ m. is_in_sync_as q m.state) ms
as_filled q [] = refl
as_filled q (m ∷ ms) = any_then q m.state (roles_of ms) ∙ ap (λ b. is_in_sync_as q m.state || b) (as_filled q ms)

-- ---- no two are the same
abbrev AreApart : List MemberView → Type 0
AreApart ms = (j k role : ℕ) (m n : MemberView) → slice_get ms j ≡ Some m → slice_get ms k ≡ Some n → is_in_sync_as role m.state ≡ true → is_in_sync_as role n.state ≡ true → j ≡ k

none_else : (q : ℕ) (roles : List ℕ) → list_any (eqb q) roles ≡ false → AllByRecursion (λ y. eqb q y ≡ false) roles
none_else q [] e = tt
none_else q (role ∷ roles) e =
    by_test (eqb q role) (λ is. absurd (true≢false (sym (ap (λ b. b || list_any (eqb q) roles) is) ∙ e)))
    (λ isnt. (isnt, none_else q roles (sym (ap (λ b. b || list_any (eqb q) roles) isnt) ∙ e)))

distinct_then : (s : MemberState) (roles : List ℕ) → ((q : ℕ) → is_in_sync_as q s ≡ true → list_any (eqb q) roles ≡ false) → IsDistinct eqb roles → IsDistinct eqb (role_then s roles)
unfolding IsDistinct
distinct_then (InSync role) roles apart rest = (none_else role roles (apart role (eq-eqb role role refl)), rest)
distinct_then (Recovering role) roles apart rest = rest
distinct_then (Stale role) roles apart rest = rest
distinct_then Spare roles apart rest = rest
distinct_then Faulty roles apart rest = rest

suc_same : (j k : ℕ) → suc j ≡ suc k → j ≡ k
suc_same j k e = omega (arith, e)

zero_apart : (k : ℕ) → zero ≡ suc k → ⊥
zero_apart k e = absurd (omega (arith, e))

are_distinct : (ms : List MemberView) → AreApart ms → IsDistinct eqb (roles_of ms)
unfolding IsDistinct
are_distinct [] apart = tt
are_distinct (m ∷ ms) apart = distinct_then m.state (roles_of ms)
    (λ q here. true_unless_false (list_any (eqb q) (roles_of ms)) (λ some.
    let x = at_any (λ (n : MemberView). is_in_sync_as q n.state) ms (sym (as_filled q ms) ∙ some) in
    zero_apart x.0 (apart zero (suc x.0) q m x.1 refl x.2 here x.3)))
    (are_distinct ms (λ j k role x y at_j at_k takes_x takes_y. suc_same j k (apart (suc j) (suc k) role x y at_j at_k takes_x takes_y)))

takes : (role : ℕ) (s : MemberState) → is_in_sync_as role s ≡ true → takes_role role s ≡ true
takes role (InSync own) is = is
takes role (Recovering own) is = absurd cc
takes role (Stale own) is = absurd cc
takes role Spare is = absurd cc
takes role Faulty is = absurd cc

module _ (a : ArrayView) (r : HasRoles a) where
  abbrev roles : List ℕ
  roles = roles_of a.members

  apart : AreApart a.members
  apart j k role m n at_j at_k is_m is_n = r.one_each j k role m n at_j at_k (takes role m.state is_m) (takes role n.state is_n)

  filled_below : (q : ℕ) → is_filled a q ≡ true → q < a.shared.raid_disks
  filled_below q filled =
      let x = at_any (λ (n : MemberView). is_in_sync_as q n.state) a.members filled in
      r.below x.0 q x.1 x.2 (takes q x.1.state x.3)

  all_filled : is_degraded a ≡ false → (q : ℕ) → q < a.shared.raid_disks → is_filled a q ≡ true
  all_filled none q low = by_test (is_filled a q) (λ is. is)
      (λ empty. absurd (true≢false (sym (any_at (λ n. not (is_filled a n)) (range_with_len 0 a.shared.raid_disks) q q (got_in_range a.shared.raid_disks q low) (ap not empty)) ∙ none)))

  -- no role is empty: there are as many roles as raid disks, or more
  enough : is_degraded a ≡ false → a.shared.raid_disks ≤ count_in_sync a
  enough none = omega (arith, as_many a.members, le-length_from_below roles a.shared.raid_disks (λ q low. as_filled q a.members ∙ all_filled none q low))

  below_with : (empty q : ℕ) → empty < a.shared.raid_disks → (q == empty || list_any (eqb q) roles) ≡ true → q < a.shared.raid_disks
  below_with empty q low has = by_test (q == empty)
      (λ is. let same = eqb-true q empty is in omega (arith, low, same))
      (λ isnt. filled_below q (sym (as_filled q a.members) ∙ sym (ap (λ b. b || list_any (eqb q) roles) isnt) ∙ has))

  -- one is: with it the roles are distinct and below
  few_with : (empty : ℕ) → empty < a.shared.raid_disks → is_filled a empty ≡ false → count_in_sync a < a.shared.raid_disks
  unfolding IsDistinct
  few_with empty low lacks = omega (
    arith,
    as_many a.members,
    length-le_from_distinct_below (empty ∷ roles) a.shared.raid_disks
        (none_else empty roles (as_filled empty a.members ∙ lacks), are_distinct a.members apart) (λ q has. below_with empty q low has),
  )

  few : is_degraded a ≡ true → count_in_sync a < a.shared.raid_disks
  few some =
      let x = at_any (λ n. not (is_filled a n)) (range_with_len 0 a.shared.raid_disks) some in
      few_with x.1 (in_range a.shared.raid_disks x.0 x.1 x.2) (true_unless_false (is_filled a x.1) (λ is. true≢false (sym x.3 ∙ ap not is)))

  pub degraded_when_few : (is_degraded a ≡ true) ↔ (count_in_sync a < a.shared.raid_disks)
  degraded_when_few = (few, λ less. by_test (is_degraded a) (λ is. is) (λ isnt. absurd (let more = enough isnt in omega (arith, less, more))))

pub counted : (a : ArrayView) → HasRoles a → (answer : Bool) → answer ≡ is_degraded a → IsTrue answer ↔ (count_in_sync a < a.shared.raid_disks)
counted a r answer is = subst (λ b. IsTrue b ↔ (count_in_sync a < a.shared.raid_disks)) (sym is) (degraded_when_few a r)
