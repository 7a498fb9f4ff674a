-- The first member in sync that lacks something, found by a test of each.
use Rattle.std.proofs.Common.{◌≡◌, ◌∙◌, ℕ, zero, suc, ◌+◌, ◌<◌, ◌≤◌, ◌&&◌, Bool, true, false, not, cond, List, [], ◌∷◌, length, get_or, Some, None, refl, sym, ap, subst, arith, inl, inr}
use Rattle.std.specs.List.{position, position_or_len, slice_get}
use Rattle.std.proofs.lemmas.Bool.{and_parts, and_from, cond-true, cond-false, le-ltb, lt-ltb, cases_lt, false_from_ne_true}
use Rattle.std.proofs.lemmas.Option.{slice_get_within, get_or_from_slice_get, same_Some, slice_get_cases}
use Rattle.std.proofs.lemmas.List.Quantifiers.{position-Some}
use Rattle.md_assembly.specs.States.{is_in_sync}
use Rattle.md_inflight.specs.Requests.Pending.{PendingView, has_written}
use Rattle.md_kept_members.specs.View.{MemberView}
use Rattle.md_state.specs.View.{ArrayView}
use Rattle.md_state.specs.Members.{AllInSync, IsFirstInSyncWithout, IsMember}
use Rattle.md_state.specs.Requests.{lacks}
use Rattle.md_state.specs.Steps.Finish.{HasBytesOf}
use Rattle.md_kept_members.specs.TakingBack.{member_says_of}
use Rattle.md_state.specs.Steps.Begin.{first_sector}
use Rattle.md_state.specs.Steps.WriteMember.{IsFirstToSay, IsNotDue, IsUnsaid}

not_false : (b : Bool) → not b ≡ false → b ≡ true
not_false true e = refl
not_false false e = absurd cc

not_both : (b : Bool) → not b ≡ true → b ≡ true → ⊥
not_both true e f = cc
not_both false e f = cc

module _ {X : Type 0} (p : X → Bool) where
  -- an element before the first that passes does not pass
  before_first : (xs : List X) (k : ℕ) (d : X) → k < position_or_len p xs → p (get_or xs k d) ≡ false
  before_first [] k d early = absurd (omega arith)
  before_first (x ∷ xs) zero d early = by (p x) early
    where
      by : (b : Bool) → zero < cond (not b) (1 + position_or_len p xs) 0 → b ≡ false
      by true early = absurd (omega arith)
      by false early = refl
  before_first (x ∷ xs) (suc k) d early = by (p x) early (before_first xs k d)
    where
      by : (b : Bool) → suc k < cond (not b) (1 + position_or_len p xs) 0 → (k < position_or_len p xs → p (get_or xs k d) ≡ false) → p (get_or xs k d) ≡ false
      by true early rest = absurd (omega arith)
      by false early rest = rest (omega arith)

  some_place : (xs : List X) → position_or_len p xs < length xs → position p xs ≡ Some (position_or_len p xs)
  some_place xs found = cond-true _ _ _ (lt-ltb (position_or_len p xs) (length xs) found)

  no_place : (xs : List X) → length xs ≤ position_or_len p xs → position p xs ≡ None
  no_place xs past = cond-false _ _ _ (le-ltb (position_or_len p xs) (length xs) past)

  found_within : (xs : List X) (j : ℕ) → position p xs ≡ Some j → j < length xs
  found_within xs j found =
      elim (cases_lt (position_or_len p xs) (length xs)) [
        | inl within ↦ let at : position_or_len p xs ≡ j = same_Some _ _ (sym (some_place xs within) ∙ found) in omega arith
        | inr past ↦ let none = no_place xs past in absurd cc
      ]

  -- where none passes, no element does
  none_passes : (xs : List X) (k : ℕ) (x : X) → position p xs ≡ None → slice_get xs k ≡ Some x → p x ≡ false
  none_passes xs k x none at =
      elim (cases_lt (position_or_len p xs) (length xs)) [
        | inl found ↦
            let some = some_place xs found in
            absurd cc
        | inr past ↦
            let within = slice_get_within xs k x at in
            subst (λ (y : X). p y ≡ false) (get_or_from_slice_get xs k x x at) (before_first xs k x (omega arith))
      ]

module _ (a : ArrayView) (lacks : MemberView → Bool) (Holds : MemberView → Type 0) (holds : (m : MemberView) → is_in_sync m.state ≡ true → lacks m ≡ false → Holds m) where
  abbrev test : MemberView → Bool
  test m = is_in_sync m.state && lacks m

  passed : (m : MemberView) → is_in_sync m.state ≡ true → test m ≡ false → Holds m
  passed m in_sync fails = holds m in_sync (false_from_ne_true _ (λ yes. let both = and_from _ _ in_sync yes in absurd cc))

  pub none_lacks : position test a.members ≡ None → AllInSync a Holds
  none_lacks none i m at = passed m at.in_sync (none_passes test a.members i m none at.member)

  pub first_lacks : ((m : MemberView) → lacks m ≡ true → Holds m → ⊥) → (j : ℕ) → position test a.members ≡ Some j → IsFirstInSyncWithout a Holds j
  first_lacks lacking j found = elim (slice_get_cases a.members j).1 [
    | inl (m, within, at, is) ↦
        let first = position-Some test a.members j m found in
        let here = and_parts _ _ (ap test (sym is) ∙ first.1) in
        record {
          member = m;
          in_sync = record { member = at; in_sync = here.0 };
          lacks = lacking m here.1;
          earlier = λ i n early there. passed n there.in_sync (ap test (sym (get_or_from_slice_get a.members i n m there.member)) ∙ first.2 i early);
        }
    | inr (past, nothing) ↦ let within = found_within test a.members j found in absurd (omega arith)
  ]

-- a superblock that has to be stored
pub all_recorded : (a : ArrayView) → position (λ m. is_in_sync m.state && m.due) a.members ≡ None → AllInSync a IsNotDue
all_recorded a = none_lacks a (λ m. m.due) IsNotDue (λ m _ kept. kept)

pub first_to_record : (a : ArrayView) (j : ℕ) → position (λ m. is_in_sync m.state && m.due) a.members ≡ Some j → IsFirstInSyncWithout a IsNotDue j
first_to_record a j found = first_lacks a (λ m. m.due) IsNotDue (λ m _ kept. kept) (λ m due kept. cc) j found

-- a request's bytes
pub all_reached : (a : ArrayView) (p : PendingView) → position (lacks p) a.members ≡ None → AllInSync a (HasBytesOf p)
all_reached a p = none_lacks a (λ m. not (has_written p m.superblock.dev_number)) (HasBytesOf p) (λ m _ has. not_false _ has)

pub first_to_reach : (a : ArrayView) (p : PendingView) (j : ℕ) → position (lacks p) a.members ≡ Some j → IsFirstInSyncWithout a (HasBytesOf p) j
first_to_reach a p j found =
    first_lacks a (λ m. not (has_written p m.superblock.dev_number)) (HasBytesOf p) (λ m _ has. not_false _ has) (λ m lacks has. not_both _ lacks has) j found

-- what a recovering member's superblock says that it has
module _ (a : ArrayView) (p : PendingView) (start : ℕ) (start_is : start ≡ first_sector a p.sector) where
  as_said : (m : MemberView) (b : Bool) → member_says_of start m ≡ b → member_says_of (first_sector a p.sector) m ≡ b
  as_said m b told = ap (λ s. member_says_of s m) (sym start_is) ∙ told

  pub none_says : position (member_says_of start) a.members ≡ None → (i : ℕ) (m : MemberView) → IsMember a i m → IsUnsaid a p m
  none_says none i m at = as_said m false (none_passes (member_says_of start) a.members i m none at)

  pub first_to_say : (j : ℕ) → position (member_says_of start) a.members ≡ Some j → IsFirstToSay a p j
  first_to_say j found = elim (slice_get_cases a.members j).1 [
    | inl (m, within, at, is) ↦
        let first = position-Some (member_says_of start) a.members j m found in
        record {
          member = m;
          at = at;
          says = as_said m true (ap (member_says_of start) (sym is) ∙ first.1);
          earlier = λ i n early there. as_said n false (ap (member_says_of start) (sym (get_or_from_slice_get a.members i n m there)) ∙ first.2 i early);
        }
    | inr (past, nothing) ↦ let within = found_within (member_says_of start) a.members j found in absurd (omega arith)
  ]
