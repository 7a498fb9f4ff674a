-- The lost sectors of an array, stretch by stretch, and member by member.
use Rattle.std.proofs.Common.{◌≡◌, ◌∙◌, ℕ, zero, suc, ◌+◌, ◌-◌, ◌<◌, ◌≤◌, Bool, true, false, ◌&&◌, ◌||◌, not, cond, List, [], ◌∷◌, ◌++◌, Option, Some, None, append-nil, arith, refl, sym, ap, length, length-append, slice_get, take, get_or}
use Rattle.std.specs.List.{filter, list_all, range_with_len}
use Rattle.std.specs.Option.{option_map, option_or}
use Rattle.std.proofs.lemmas.List.Elements.{filter-append}
use Rattle.std.proofs.lemmas.List.Folds.{list_all_more}
use Rattle.std.proofs.lemmas.List.FromFn.{length-range_with_len}
use Rattle.std.proofs.lemmas.Option.{get_or_from_slice_get, same_Some}
use Rattle.md_assembly.specs.declared.state.MemberState.{MemberState}
use Rattle.md_assembly.specs.States.{is_in_sync}
use Rattle.md_badblocks.specs.declared.run.Run.{Run}
use Rattle.md_kept_members.specs.SectorLists.{in_runs}
use Rattle.md_kept_members.specs.View.{MemberView}
use Rattle.md_super.specs.declared.superblock.Superblock.{Superblock}
use Rattle.md_notices.specs.LostSectors.{lists_if_in_sync, is_lost, lost_below}
use Rattle.md_notices.proofs.Members.{has_own, has_state, there}

-- ---- numbers one after another
range_split : (a m n : ℕ) → range_with_len a (m + n) ≡ range_with_len a m ++ range_with_len (a + m) n
range_split a zero n =
    let e : a + 0 ≡ a = omega arith in
    let z : 0 + n ≡ n = omega arith in
    rw z (rw e refl)
range_split a (suc m) n =
    let e : a + 1 + m ≡ a + suc m = omega arith in
    let z : suc m + n ≡ suc (m + n) = omega arith in
    rw z (ap (λ (xs : List ℕ). a ∷ xs) (rw e at (range_split (a + 1) m n)))

all_kept : (p : ℕ → Bool) (a n : ℕ) → ((s : ℕ) → a ≤ s → s < a + n → p s ≡ true) → filter p (range_with_len a n) ≡ range_with_len a n
all_kept p a zero h = refl
all_kept p a (suc n) h =
    let rest = filter p (range_with_len (a + 1) n) in
    ap (λ (b : Bool). cond b (a ∷ rest) rest) (h a (omega arith) (omega arith))
    ∙ ap (λ (xs : List ℕ). a ∷ xs) (all_kept p (a + 1) n (λ s low high. h s (omega (arith, low)) (omega (arith, high))))

none_kept : (p : ℕ → Bool) (a n : ℕ) → ((s : ℕ) → a ≤ s → s < a + n → p s ≡ false) → filter p (range_with_len a n) ≡ []
none_kept p a zero h = refl
none_kept p a (suc n) h =
    let rest = filter p (range_with_len (a + 1) n) in
    ap (λ (b : Bool). cond b (a ∷ rest) rest) (h a (omega arith) (omega arith))
    ∙ none_kept p (a + 1) n (λ s low high. h s (omega (arith, low)) (omega (arith, high)))

-- ---- one stretch more
stretched : (members : List MemberView) (at n : ℕ) (kept : List ℕ) → filter (is_lost members) (range_with_len at n) ≡ kept → lost_below members (at + n) ≡ lost_below members at ++ kept
stretched members at n kept e =
    let z : 0 + at ≡ at = omega arith in
    ap (filter (is_lost members)) (rw z at (range_split 0 at n))
    ∙ filter-append (is_lost members) (range_with_len 0 at) (range_with_len at n)
    ∙ ap (λ (xs : List ℕ). lost_below members at ++ xs) e

front : (xs : List ℕ) (at n : ℕ) → option_or (slice_get xs 0) (Some at) ≡ slice_get (xs ++ range_with_len at (suc n)) 0
front [] at n = refl
front (x ∷ xs) at n = refl

more : (members : List MemberView) (at n count : ℕ) (first : Option ℕ) → ((s : ℕ) → at ≤ s → s < at + suc n → is_lost members s ≡ true)
    → count ≡ length (lost_below members at) → first ≡ slice_get (lost_below members at) 0
    → (count + suc n ≡ length (lost_below members (at + suc n))) × (option_or first (Some at) ≡ slice_get (lost_below members (at + suc n)) 0)
more members at n count first lost many is =
    let kept = range_with_len at (suc n) in
    let e = stretched members at (suc n) kept (all_kept (is_lost members) at (suc n) lost) in
    let sum = length-append (lost_below members at) kept in
    let size = length-range_with_len at (suc n) in
    let whole = ap length e in (
      omega (arith, many, whole, sum, size),
      ap (λ (o : Option ℕ). option_or o (Some at)) is ∙ front (lost_below members at) at n ∙ sym (ap (λ (ys : List ℕ). slice_get ys 0) e),
    )

-- all of these sectors are lost
pub lost_more : (members : List MemberView) (at end count : ℕ) (first : Option ℕ) → at < end → ((s : ℕ) → at ≤ s → s < end → is_lost members s ≡ true)
    → count ≡ length (lost_below members at) → first ≡ slice_get (lost_below members at) 0
    → (count + (end - at) ≡ length (lost_below members end)) × (option_or first (Some at) ≡ slice_get (lost_below members end) 0)
lost_more members at end count first some lost many is =
    let n = end - at - 1 in
    let span : suc n ≡ end - at = omega (arith, some) in
    let whole : at + suc n ≡ end = omega (arith, some) in
    let told = more members at n count first (λ s low high. lost s low (omega (arith, high, some))) many is in
    rw span at (rw whole at told)

-- none of them is
pub lost_same : (members : List MemberView) (at end count : ℕ) (first : Option ℕ) → at < end → ((s : ℕ) → at ≤ s → s < end → is_lost members s ≡ false)
    → count ≡ length (lost_below members at) → first ≡ slice_get (lost_below members at) 0
    → (count ≡ length (lost_below members end)) × (first ≡ slice_get (lost_below members end) 0)
lost_same members at end count first some given many is =
    let whole : at + (end - at) ≡ end = omega (arith, some) in
    let e = stretched members at (end - at) [] (none_kept (is_lost members) at (end - at) (λ s low high. given s low (omega (arith, high, some)))) ∙ append-nil (lost_below members at) in
    let same : lost_below members end ≡ lost_below members at = rw whole at e in
    (many ∙ sym (ap length same), is ∙ sym (ap (λ (ys : List ℕ). slice_get ys 0) same))

-- ---- one member more
and_yes : (b : Bool) → (b && true) ≡ b
and_yes true = refl
and_yes false = refl

-- one in sync that lists these runs
pub in_sync_more : (ms : List MemberView) (k : ℕ) (state : MemberState) (own : Superblock) (bad : List Run) → k < length ms
    → option_map (λ (m : MemberView). m.state) (slice_get ms k) ≡ Some state → option_map (λ (m : MemberView). m.superblock) (slice_get ms k) ≡ Some own
    → option_map (λ (m : MemberView). m.bad) (slice_get ms k) ≡ Some bad → is_in_sync state ≡ true
    → (s : ℕ) → list_all (lists_if_in_sync s) (take (k + 1) ms) ≡ (list_all (lists_if_in_sync s) (take k ms) && in_runs bad (own.data_offset + s))
in_sync_more ms k state own bad lt its_state its_own its_bad in_sync s =
    let has = has_own ms k own lt its_own in
    let bad_is = same_Some has.member.bad bad (sym (ap (option_map (λ (m : MemberView). m.bad)) has.listed) ∙ its_bad) in
    list_all_more (lists_if_in_sync s) ms k has.member lt
    ∙ ap (λ (m : MemberView). list_all (lists_if_in_sync s) (take k ms) && lists_if_in_sync s m) has.is
    ∙ ap (λ (b : Bool). list_all (lists_if_in_sync s) (take k ms) && (not b || in_runs has.member.bad (has.member.superblock.data_offset + s)))
    (ap is_in_sync (has_state ms k has.member state has.listed its_state) ∙ in_sync)
    ∙ ap (λ (runs : List Run). list_all (lists_if_in_sync s) (take k ms) && in_runs runs (has.member.superblock.data_offset + s)) bad_is
    ∙ ap (λ (v : Superblock). list_all (lists_if_in_sync s) (take k ms) && in_runs bad (v.data_offset + s)) has.own

-- one that is not in sync
pub out_of_sync_more : (ms : List MemberView) (k : ℕ) (state : MemberState) → k < length ms
    → option_map (λ (m : MemberView). m.state) (slice_get ms k) ≡ Some state → is_in_sync state ≡ false
    → (s : ℕ) → list_all (lists_if_in_sync s) (take (k + 1) ms) ≡ list_all (lists_if_in_sync s) (take k ms)
out_of_sync_more ms k state lt its out s =
    let found = there ms k lt in
    let is = get_or_from_slice_get ms k found.0 found.0 found.1 in
    list_all_more (lists_if_in_sync s) ms k found.0 lt
    ∙ ap (λ (m : MemberView). list_all (lists_if_in_sync s) (take k ms) && lists_if_in_sync s m) is
    ∙ ap (λ (b : Bool). list_all (lists_if_in_sync s) (take k ms) && (not b || in_runs found.0.bad (found.0.superblock.data_offset + s)))
    (ap is_in_sync (has_state ms k found.0 state found.1 its) ∙ out)
    ∙ and_yes (list_all (lists_if_in_sync s) (take k ms))
