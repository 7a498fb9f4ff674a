-- What the members of an array have in common, where no fault stands in them.
use Rattle.std.proofs.Common.{◌≡◌, ◌≢◌, ℕ, ◌<◌, ◌≤◌, inl, inr, true, false, true≢false, List, length, slice_get, count_by, Some, sym, ap, ◌∙◌, subst, arith}
use Rattle.std.specs.List.{list_any}
use Rattle.std.specs.Str.{bytes_eq}
use Rattle.std.proofs.lemmas.Bool.{cases_lt}
use Rattle.std.proofs.lemmas.List.{length-map}
use Rattle.std.proofs.lemmas.Option.{slice_get_within}
use Rattle.std.proofs.lemmas.Slice.Eq.{bytes_eq-Decides}
use Rattle.md_format.proofs.Order.{same_unless_other}
use Rattle.md_super.specs.declared.superblock.Superblock.{Superblock}
use Rattle.md_members.specs.declared.info.MemberInfo.{MemberInfo}
use Rattle.md_assembly.specs.declared.state.MemberState.{MemberState}
use Rattle.md_assembly.specs.declared.assembling.Assembly.{Assembly}
use Rattle.md_assembly.specs.declared.fault.AssembleFault.TheVariants.{Stranger, DoubleNumber, Geometry, DoubleRole, NotEnough}
use Rattle.md_assembly.specs.Assembled.{ByFreshest, IsAssembled, DecidesRoles, superblocks}
use Rattle.md_assembly.specs.Faults.{NoAssembleFault, IsStranger, HasOtherGeometry, HasSameNumber, RepeatsNumber, IsDoubleRole}
use Rattle.md_assembly.specs.Listed.{PairAt}
use Rattle.md_assembly.specs.States.{state_of, states_by, is_in_sync, takes_role}
use Rattle.md_assembly.proofs.Indices.{got_within, got_same}
use Rattle.md_assembly.proofs.Places.{pair_at}
use Rattle.md_kept_members.specs.View.{MemberView}
use Rattle.md_kept_members.specs.Kept.{IsKept}
use Rattle.md_state.specs.View.{ArrayView}
use Rattle.md_state.specs.Remembered.{IsRemembered}
use Rattle.md_state.specs.Members.{IsMember}
use Rattle.md_state.proofs.Kept.Geometry.{none_by_least}
use Rattle.md_array.proofs.General.Indices.{got_in_map, at_any, two_counted}
use Rattle.md_model.proofs.Cases.{by_test}

pub same_bytes_unless_other : (xs ys : List ℕ) → (xs ≢ ys → ⊥) → xs ≡ ys
same_bytes_unless_other xs ys h =
    let d = bytes_eq-Decides xs ys in
    by_test (bytes_eq xs ys) d.0 (λ other. absurd (h (λ e. true≢false (sym (d.1 e) ∙ other))))

module _ (infos : List MemberInfo) (sound : NoAssembleFault infos) where
  no_stranger : (k : ℕ) → PairAt IsStranger infos 0 k → ⊥
  no_stranger k = none_by_least (PairAt IsStranger infos 0) (λ n least. sound (Stranger n) (omega arith) least) k

  no_other_geometry : (k : ℕ) → PairAt HasOtherGeometry infos 0 k → ⊥
  no_other_geometry k = none_by_least (PairAt HasOtherGeometry infos 0) (λ n least. sound (Geometry n) (omega arith) least) k

  no_double_number : (k : ℕ) → RepeatsNumber infos k → ⊥
  no_double_number k =
      none_by_least (RepeatsNumber infos)
      (λ n least. let p = least.holds in sound (DoubleNumber p.0 n) (omega arith) (p.1, p.2, least)) k

  no_double_role : (role : ℕ) → IsDoubleRole infos role → ⊥
  no_double_role role = none_by_least (IsDoubleRole infos) (λ n least. sound (DoubleRole n) (omega arith) least) role

  -- all have the uuid, the size and the raid disks of the first
  same_uuid : (k : ℕ) (first info : MemberInfo) → slice_get infos 0 ≡ Some first → slice_get infos k ≡ Some info → info.superblock.set_uuid ≡ first.superblock.set_uuid
  same_uuid k first info e f = same_bytes_unless_other _ _ (λ other. no_stranger k (pair_at IsStranger infos 0 k first info e f other))

  same_size : (k : ℕ) (first info : MemberInfo) → slice_get infos 0 ≡ Some first → slice_get infos k ≡ Some info → info.superblock.size ≡ first.superblock.size
  same_size k first info e f = same_unless_other _ _ (λ other. no_other_geometry k (pair_at HasOtherGeometry infos 0 k first info e f (inl other)))

  same_disks : (k : ℕ) (first info : MemberInfo) → slice_get infos 0 ≡ Some first → slice_get infos k ≡ Some info → info.superblock.raid_disks ≡ first.superblock.raid_disks
  same_disks k first info e f = same_unless_other _ _ (λ other. no_other_geometry k (pair_at HasOtherGeometry infos 0 k first info e f (inr (inl other))))

  first_of : (k : ℕ) (info : MemberInfo) → slice_get infos k ≡ Some info → (first : MemberInfo) × (slice_get infos 0 ≡ Some first)
  first_of k info e = got_within infos 0 (some infos k info e)
    where
      some : (xs : List MemberInfo) (i : ℕ) (x : MemberInfo) → slice_get xs i ≡ Some x → 0 < length xs
      some xs i x there = omega (arith, slice_get_within xs i x there)

  -- any two have the same
  pub uuids_same : (j k : ℕ) (x y : MemberInfo) → slice_get infos j ≡ Some x → slice_get infos k ≡ Some y → x.superblock.set_uuid ≡ y.superblock.set_uuid
  uuids_same j k x y e f = let first = first_of j x e in same_uuid j first.0 x first.1 e ∙ sym (same_uuid k first.0 y first.1 f)

  pub sizes_same : (j k : ℕ) (x y : MemberInfo) → slice_get infos j ≡ Some x → slice_get infos k ≡ Some y → x.superblock.size ≡ y.superblock.size
  sizes_same j k x y e f = let first = first_of j x e in same_size j first.0 x first.1 e ∙ sym (same_size k first.0 y first.1 f)

  pub disks_same : (j k : ℕ) (x y : MemberInfo) → slice_get infos j ≡ Some x → slice_get infos k ≡ Some y → x.superblock.raid_disks ≡ y.superblock.raid_disks
  disks_same j k x y e f = let first = first_of j x e in same_disks j first.0 x first.1 e ∙ sym (same_disks k first.0 y first.1 f)

  -- their numbers are distinct
  pub numbers_distinct : (j k : ℕ) (x y : MemberInfo) → slice_get infos j ≡ Some x → slice_get infos k ≡ Some y → x.superblock.dev_number ≡ y.superblock.dev_number → j ≡ k
  numbers_distinct j k x y e f same =
      elim (cases_lt j k) [
        | inl less ↦ absurd (no_double_number k (j, less, pair_at HasSameNumber infos j k x y e f same))
        | inr more ↦ elim (cases_lt k j) [
          | inl less ↦ absurd (no_double_number j (k, less, pair_at HasSameNumber infos k j y x f e (sym same)))
          | inr equal ↦ omega arith
        ]
      ]

-- the array that was assembled, by its superblock
module _ (infos : List MemberInfo) (assembly : Assembly) (a : ArrayView) (assembled : IsAssembled infos assembly) (sound : NoAssembleFault infos) (remembered : IsRemembered infos assembly a) where
  by_shared : assembled.superblock ≡ a.shared
  by_shared = got_same (superblocks infos) assembly.freshest _ _ assembled.freshest.listed remembered.shared

  pub freshest : DecidesRoles (superblocks infos) assembly.freshest a.shared
  freshest = subst (DecidesRoles (superblocks infos) assembly.freshest) by_shared assembled.freshest

  states_are : assembly.states.items ≡ states_by a.shared (superblocks infos)
  states_are = assembled.states ∙ ap (λ v. states_by v (superblocks infos)) by_shared

  state_in : (k : ℕ) (info : MemberInfo) → slice_get infos k ≡ Some info → slice_get (states_by a.shared (superblocks infos)) k ≡ Some (state_of a.shared info.superblock)
  state_in k info e = got_in_map (state_of a.shared) (superblocks infos) k info.superblock (got_in_map (λ m. m.superblock) infos k info e)

  pub kept_at : (k : ℕ) (info : MemberInfo) (m : MemberView) → slice_get infos k ≡ Some info → IsMember a k m → IsKept a.shared.events a.events_cleared info (state_of a.shared info.superblock) m
  kept_at k info m e is =
      remembered.each k info (state_of a.shared info.superblock) m e (ap (λ xs. slice_get xs k) states_are ∙ state_in k info e) is

  pub not_fresher : (k : ℕ) (info : MemberInfo) → slice_get infos k ≡ Some info → info.superblock.events ≤ a.shared.events
  not_fresher k info e = freshest.greatest k info.superblock (got_in_map (λ m. m.superblock) infos k info e)

  -- the member whose superblock it is
  pub freshest_at : (info : MemberInfo) × (slice_get infos assembly.freshest ≡ Some info) × (info.superblock ≡ a.shared)
  freshest_at =
      let there = got_within infos assembly.freshest (within infos assembly.freshest a.shared remembered.shared) in
      (there.0, there.1, got_same (superblocks infos) assembly.freshest _ _ (got_in_map (λ m. m.superblock) infos assembly.freshest there.0 there.1) remembered.shared)
    where
      within : (xs : List MemberInfo) (i : ℕ) (v : Superblock) → slice_get (superblocks xs) i ≡ Some v → i < length xs
      within xs i v e = omega (arith, slice_get_within (superblocks xs) i v e, length-map xs (λ (m : MemberInfo). m.superblock))

  pub uuid_shared : (k : ℕ) (info : MemberInfo) → slice_get infos k ≡ Some info → info.superblock.set_uuid ≡ a.shared.set_uuid
  uuid_shared k info e = let f = freshest_at in uuids_same infos sound k assembly.freshest info f.0 e f.1 ∙ ap (λ (v : Superblock). v.set_uuid) f.2

  pub size_shared : (k : ℕ) (info : MemberInfo) → slice_get infos k ≡ Some info → info.superblock.size ≡ a.shared.size
  size_shared k info e = let f = freshest_at in sizes_same infos sound k assembly.freshest info f.0 e f.1 ∙ ap (λ (v : Superblock). v.size) f.2

  pub disks_shared : (k : ℕ) (info : MemberInfo) → slice_get infos k ≡ Some info → info.superblock.raid_disks ≡ a.shared.raid_disks
  disks_shared k info e = let f = freshest_at in disks_same infos sound k assembly.freshest info f.0 e f.1 ∙ ap (λ (v : Superblock). v.raid_disks) f.2

  by_freshest : (Fact : List MemberState → Type 0) → Fact (states_by a.shared (superblocks infos)) → ByFreshest Fact (superblocks infos)
  by_freshest Fact holds = record { index = assembly.freshest; superblock = a.shared; freshest = freshest; holds = holds }

  -- no two are active in one role
  pub roles_distinct : (j k role : ℕ) (x y : MemberInfo) → slice_get infos j ≡ Some x → slice_get infos k ≡ Some y
      → takes_role role (state_of a.shared x.superblock) ≡ true → takes_role role (state_of a.shared y.superblock) ≡ true → j ≡ k
  roles_distinct j k role x y e f s t =
      elim (cases_lt j k) [
        | inl less ↦ absurd (twice j k x y less e f s t)
        | inr more ↦ elim (cases_lt k j) [ inl less ↦ absurd (twice k j y x less f e t s) | inr equal ↦ omega arith ]
      ]
    where
      twice : (j k : ℕ) (x y : MemberInfo) → j < k → slice_get infos j ≡ Some x → slice_get infos k ≡ Some y
          → takes_role role (state_of a.shared x.superblock) ≡ true → takes_role role (state_of a.shared y.superblock) ≡ true → ⊥
      twice j k x y less e f s t =
          no_double_role infos sound role
          (by_freshest (λ states. 1 < count_by (takes_role role) states)
          (two_counted (takes_role role) (states_by a.shared (superblocks infos)) j k _ _ less (state_in j x e) (state_in k y f) s t))

  -- some member is in sync
  pub some_in_sync : (k : ℕ) × (info : MemberInfo) × (slice_get infos k ≡ Some info) × (is_in_sync (state_of a.shared info.superblock) ≡ true)
  some_in_sync =
      let states = states_by a.shared (superblocks infos) in
      let some : list_any is_in_sync states ≡ true = by_test (list_any is_in_sync states) (λ e. e)
      (λ none. absurd (sound NotEnough (omega arith) (by_freshest (λ l. list_any is_in_sync l ≡ false) none))) in
      let at = at_any is_in_sync states some in
      let there = got_within infos at.0 (within infos at.0 at.1 at.2) in
      let same = got_same states at.0 _ _ (state_in at.0 there.0 there.1) at.2 in
      (at.0, there.0, there.1, ap is_in_sync same ∙ at.3)
    where
      within : (xs : List MemberInfo) (i : ℕ) (s : MemberState) → slice_get (states_by a.shared (superblocks xs)) i ≡ Some s → i < length xs
      within xs i s e =
          omega (arith, slice_get_within (states_by a.shared (superblocks xs)) i s e, length-map (superblocks xs) (state_of a.shared), length-map xs (λ (m : MemberInfo). m.superblock))
