-- All of a run of sectors is listed: the runs of a list are maximal, so that one of them has it.
use Rattle.std.proofs.Common.{◌≡◌, ◌↔◌, ℕ, ◌+◌, ◌-◌, ◌^◌, ◌<◌, ◌≤◌, true, false, List, [], ◌∷◌, subst, arith, inl, inr}
use Rattle.std.specs.List.{list_any}
use Rattle.std.proofs.lemmas.Bool.{cases_lt, or_left, or_right}
use Rattle.std.proofs.lemmas.Bool.Decides.{nat_tests}
use Rattle.md_badblocks.specs.declared.run.Run.{Run}
use Rattle.md_badblocks.specs.Runs.{IsBad, RisesFrom}
use Rattle.md_kept_members.specs.View.{MemberView}
use Rattle.md_kept_members.proofs.Members.Roles.{bad_below}
use Rattle.md_state.specs.Steps.CopyData.{Lists}
use Rattle.md_array.proofs.General.Tests.{one_is}
use Rattle.md_read.specs.Reading.{has_all}
use Rattle.md_read.proofs.InRoles.{ListsAll, ListsSome}

abbrev pub AllBad : ℕ → ℕ → List Run → Type 0
AllBad start len runs = (x : ℕ) → start ≤ x → x < start + len → IsBad runs x

bad_from : (low x : ℕ) (runs : List Run) → RisesFrom low runs → IsBad runs x → low ≤ x
bad_from low x [] rises bad = absurd bad
bad_from low x (run ∷ rest) rises bad = elim bad [
  | inl here ↦ let from = here.0 in let start = rises.0 in omega arith
  | inr later ↦ let start = rises.0 in let after = bad_from (run.start + run.len + 1) x rest rises.3 later in omega arith
]

has_them : (start len : ℕ) (run : Run) → run.start ≤ start → start + len ≤ run.start + run.len → has_all start len run ≡ true
has_them start len run from fits = grind (arith, nat_tests)

within : (start len : ℕ) (run : Run) (x : ℕ) → has_all start len run ≡ true → start ≤ x → x < start + len → (run.start ≤ x) × (x < run.start + run.len)
within start len run x has from below = (grind (arith, nat_tests), grind (arith, nat_tests))

pub has_bad : (start len : ℕ) (runs : List Run) → list_any (has_all start len) runs ≡ true → AllBad start len runs
has_bad start len [] none x from below = absurd cc
has_bad start len (run ∷ rest) some x from below = elim (one_is (has_all start len run) (list_any (has_all start len) rest) some) [
  | inl here ↦ inl (within start len run x here from below)
  | inr later ↦ inr (has_bad start len rest later x from below)
]

pub one_has_all : (low start len : ℕ) (runs : List Run) → RisesFrom low runs → 0 < len → AllBad start len runs → list_any (has_all start len) runs ≡ true
one_has_all low start len [] rises some all = absurd (all start (omega arith) (omega arith))
one_has_all low start len (run ∷ rest) rises some all =
    let end : ℕ = run.start + run.len in
    let more : list_any (has_all start len) rest ≡ true → list_any (has_all start len) (run ∷ rest) ≡ true = or_right (has_all start len run) (list_any (has_all start len) rest) in
    elim (all start (omega arith) (omega arith)) [
      | inr later ↦
          let after = bad_from (end + 1) start rest rises.3 later in
          more (one_has_all (end + 1) start len rest rises.3 some (λ x from below. elim (all x from below) [ inl here ↦ let low_end = here.1 in absurd (omega arith) | inr there ↦ there ]))
      | inl here ↦ elim (cases_lt end (start + len)) [
        | inl short ↦
            let inside = here.1 in
            elim (all end (omega arith) short) [
              | inl it ↦ let past = it.1 in absurd (omega arith)
              | inr later ↦ let after = bad_from (end + 1) end rest rises.3 later in absurd (omega arith)
            ]
        | inr fits ↦ or_left (has_all start len run) (list_any (has_all start len) rest) (has_them start len run here.0 fits)
      ]
    ]

-- ---- of a member
pub past_not_all : (m : MemberView) (sector sectors low : ℕ) → RisesFrom low m.bad → 0 < sectors → 2 ^ 64 ≤ m.superblock.data_offset + sector → (false ≡ true) ↔ ListsAll m sector sectors
past_not_all m sector sectors low rises some past = (
  λ e. absurd cc,
  λ all. let below = bad_below low _ m.bad rises (all sector (omega arith) (omega arith)) in absurd (omega arith),
)

pub has_all_lists : (m : MemberView) (sector sectors first low : ℕ) → RisesFrom low m.bad → 0 < sectors → first ≡ m.superblock.data_offset + sector
    → (list_any (has_all first sectors) m.bad ≡ true) ↔ ListsAll m sector sectors
has_all_lists m sector sectors first low rises some at = (
  λ has s from below. has_bad first sectors m.bad has (m.superblock.data_offset + s) (omega arith) (omega arith),
  λ all. one_has_all low first sectors m.bad rises some (λ x from below.
      let s : ℕ = x - m.superblock.data_offset in
      let same : m.superblock.data_offset + s ≡ x = omega arith in
      subst (IsBad m.bad) same (all s (omega arith) (omega arith))),
)

pub lists_more : (m : MemberView) (sector sectors : ℕ) → 0 < sectors → ListsSome m sector sectors → (ListsAll m sector sectors → ⊥) → 1 < sectors
lists_more m sector sectors some lists not_all = elim (cases_lt 1 sectors) [
  | inl more ↦ more
  | inr one ↦
      let low = lists.2 in
      let high = lists.3 in
      absurd (not_all (λ s from below. subst (Lists m) (let there : lists.0 ≡ s = omega arith in there) lists.1))
]
