-- The members are in sync as they were.
use Rattle.std.proofs.Common.{◌≡◌, ℕ, zero, suc, ◌+◌, ◌<◌, Bool, true, false, not, cond, ◌==◌, nat_le, List, [], ◌∷◌, length, get_or, if◌then◌else◌, refl, sym, ap, ◌∙◌, subst, arith, inl, inr}
use Rattle.std.specs.Prelude.{slice_get, Some, None}
use Rattle.std.specs.List.{position, position_or_len}
use Rattle.std.proofs.lemmas.Bool.{cases_lt, cond-true, lt-ltb}
use Rattle.std.proofs.lemmas.Nat.{and_or_apart}
use Rattle.std.proofs.lemmas.Option.{slice_get_within, get_or_from_slice_get}
use Rattle.md_super.specs.declared.superblock.Superblock.{Superblock}
use Rattle.md_super.specs.Merge.{merged}
use Rattle.md_members.specs.declared.info.MemberInfo.{MemberInfo}
use Rattle.md_assembly.specs.Assembled.{IsAssembled, superblocks}
use Rattle.md_assembly.specs.States.{bears, has_recovery_offset, is_in_sync, is_up_to_date, role_in, state_of, states_by}
use Rattle.md_assembly.specs.declared.assembling.Assembly.{Assembly}
use Rattle.md_assembly.specs.declared.state.MemberState.{MemberState}
use Rattle.md_assembly.specs.declared.state.MemberState.TheVariants.{Faulty, InSync, Recovering, Spare, Stale}
use Rattle.md_assembly.proofs.Indices.{got_within}
use Rattle.md_array.proofs.General.Indices.{at_map, got_in_map}
use Rattle.md_metadata.specs.declared.bitmap_grow.growth.Growth.{Growth}
use Rattle.md_metadata.specs.Grow.AsItWas.{AreReadGrown, StaysInSync, own_of}
use Rattle.md_metadata.specs.Grow.Growth.{IsGrowth, events_after, has_header, with_bitmap, with_place}
use Rattle.std.specs.List.{list_any}

-- ---- where none passes, no element does
module _ {X : Type 0} (p : X → Bool) where
  before_first : (xs : List X) (k : ℕ) (d : X) → k < position_or_len p xs → p (get_or xs k d) ≡ false
  before_first [] k d early = absurd (omega arith)
  before_first (x ∷ xs) zero d early = by (p x) early
    where
      by : (b : Bool) → zero < cond (not b) (1 + position_or_len p xs) 0 → b ≡ false
      by true early = absurd (omega arith)
      by false early = refl
  before_first (x ∷ xs) (suc k) d early = by (p x) early (before_first xs k d)
    where
      by : (b : Bool) → suc k < cond (not b) (1 + position_or_len p xs) 0 → (k < position_or_len p xs → p (get_or xs k d) ≡ false) → p (get_or xs k d) ≡ false
      by true early rest = absurd (omega arith)
      by false early rest = rest (omega arith)

  none_passes : (xs : List X) (k : ℕ) (x : X) → position p xs ≡ None → slice_get xs k ≡ Some x → p x ≡ false
  none_passes xs k x none at =
      elim (cases_lt (position_or_len p xs) (length xs)) [
        | inl found ↦
            let some : position p xs ≡ Some (position_or_len p xs) = cond-true _ _ _ (lt-ltb (position_or_len p xs) (length xs) found) in
            absurd cc
        | inr past ↦
            let within = slice_get_within xs k x at in
            subst (λ (y : X). p y ≡ false) (get_or_from_slice_get xs k x x at) (before_first xs k x (omega arith))
      ]

-- ---- the rule for a state, by its tests
abbrev by_tests : Bool → Bool → Bool → Bool → Bool → ℕ → MemberState
by_tests faulty spare old other recovering role =
    if faulty then Faulty else
    if spare then Spare else
    if old then Stale role else
    if other then Stale role else
    if recovering then Recovering role else InSync role

tests_same : (a b c d e f g : Bool) (role : ℕ) → f ≡ false → g ≡ false → is_in_sync (by_tests a b c d e role) ≡ true → by_tests a b f g e role ≡ by_tests a b c d e role
tests_same true b c d e f g role none nor in_sync = absurd cc
tests_same false true c d e f g role none nor in_sync = absurd cc
tests_same false false true d e f g role none nor in_sync = absurd cc
tests_same false false false true e f g role none nor in_sync = absurd cc
tests_same false false false false e f g role none nor in_sync = rw (none, nor) refl

not_newer : (events : ℕ) → not (nat_le events (events + 1)) ≡ false
not_newer events = grind arith

same_role : (role : ℕ) → not (role == role) ≡ false
same_role role = grind arith

-- with one superblock's fields on all members, and their events, one that is in sync by it stays so
stays : (v own other : Superblock) (events sum own_sum : ℕ) → is_in_sync (state_of v own) ≡ true
    → state_of (record (merged (record v { events = events }) other) { sb_csum = sum }) (record (merged (record v { events = events }) own) { sb_csum = own_sum }) ≡ state_of v own
unfolding state_of
stays v own other events sum own_sum in_sync =
    let role = role_in v own.dev_number in
    tests_same (role == 0xfffe) (nat_le v.raid_disks role) (not (is_up_to_date v own)) (not (bears own role)) (has_recovery_offset own)
    (not (nat_le events (events + 1))) (not (role == role)) role (not_newer events) (same_role role) in_sync

-- the bitmap's fields are no matter of it
place_same : (v own : Superblock) (start : ℕ) → state_of v (with_place start own) ≡ state_of v own
unfolding state_of
place_same v own start = rw (ap (λ n. not (n == 0)) (and_or_apart 2 own.feature_map 1 refl)) refl

not_not : (b : Bool) → not b ≡ false → b ≡ true
not_not true e = refl
not_not false e = absurd cc

module _ (infos reads : List MemberInfo) (chunk_bytes : ℕ) (g : Growth) (assembly : Assembly) (growth : IsGrowth infos chunk_bytes g)
    (grown : AreReadGrown g infos reads) (assembled : IsAssembled reads assembly) (k : ℕ) (was read : MemberInfo)
    (at : slice_get infos k ≡ Some was) (here : slice_get reads k ≡ Some read) where
  abbrev v : Superblock
  v = growth.freshest

  in_sync_placed : is_in_sync (state_of v (own_of g was)) ≡ true
  in_sync_placed =
      let member : slice_get g.members.items k ≡ Some (with_bitmap growth.first_header g.start was) =
      subst (λ (ms : List MemberInfo). slice_get ms k ≡ Some (with_bitmap growth.first_header g.start was)) (sym growth.are)
      (got_in_map (with_bitmap growth.first_header g.start) infos k was at) in
      let own : slice_get (superblocks g.members.items) k ≡ Some (own_of g was) =
      got_in_map (λ (m : MemberInfo). m.superblock) g.members.items k (with_bitmap growth.first_header g.start was) member in
      let state = got_in_map (state_of v) (superblocks g.members.items) k (own_of g was) own in
      not_not _ (none_passes (λ s. not (is_in_sync s)) (states_by v (superblocks g.members.items)) k (state_of v (own_of g was)) growth.array.in_sync state)

  pub still_in_sync : StaysInSync v assembled.superblock was read
  still_in_sync =
      let found = at_map (λ (m : MemberInfo). m.superblock) reads assembly.freshest assembled.superblock assembled.freshest.listed in
      let within = slice_get_within reads assembly.freshest found.0 found.1 in
      let first = got_within infos assembly.freshest (omega (arith, within, grown.as_many)) in
      let one = grown.each assembly.freshest first.0 found.0 first.1 found.1 in
      let own = grown.each k was read at here in
      let events = events_after (list_any has_header infos) g.members.items v.events in
      let shared = growth.made.shared_is in
      let by : assembled.superblock ≡ record (merged (record v { events = events }) (own_of g first.0)) { sb_csum = one.sum } =
      found.2 ∙ one.superblock ∙ ap (λ (s : Superblock). record (merged s (own_of g first.0)) { sb_csum = one.sum }) shared in
      let reads_as : read.superblock ≡ record (merged (record v { events = events }) (own_of g was)) { sb_csum = own.sum } =
      own.superblock ∙ ap (λ (s : Superblock). record (merged s (own_of g was)) { sb_csum = own.sum }) shared in
      record {
        in_sync = sym (ap is_in_sync (place_same v was.superblock g.start)) ∙ in_sync_placed;
        same =
            ap (λ (s : Superblock). state_of s read.superblock) by
            ∙ ap (state_of (record (merged (record v { events = events }) (own_of g first.0)) { sb_csum = one.sum })) reads_as
            ∙ stays v (own_of g was) (own_of g first.0) events one.sum own.sum in_sync_placed
            ∙ place_same v was.superblock g.start;
      }
