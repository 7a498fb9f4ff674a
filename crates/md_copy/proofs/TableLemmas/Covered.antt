-- Marks of the chunks with a sector in some run.
use Rattle.std.proofs.Common.{◌≡◌, ◌⊎◌, ◌∙◌, ℕ, ◌+◌, ◌-◌, ◌/◌, ◌^◌, ◌<◌, ◌≤◌, ◌||◌, ◌==◌, zero, suc, true, List, [], ◌∷◌, length, min, Some, refl, subst, arith, inl, inr}
use Rattle.std.specs.List.{slice_get}
use Rattle.std.proofs.lemmas.Bool.{cases_eq, cases_lt, eq-eqb, or_left, or_right}
use Rattle.std.proofs.lemmas.Nat.{div_below, le-div}
use Rattle.std.proofs.lemmas.Option.{slice_get_within}
use Rattle.md_badblocks.specs.declared.run.Run.{Run}
use Rattle.md_badblocks.specs.Runs.{IsBad, LiesIn, RisesFrom}
use Rattle.md_bitmap.specs.Chunks.{InChunk}
use Rattle.md_bitmap.specs.Marks.{Bitmap, is_set}
use Rattle.md_kept_members.specs.View.{MemberView}
use Rattle.md_kept_members.specs.Permitting.{ListsAny}
use Rattle.md_state.specs.View.{ArrayView}
use Rattle.md_state.specs.Members.{IsInSync}
use Rattle.md_copy.specs.Table.Sources.{KeepsMarks}

-- the run that has a bad sector
pub run_of : (runs : List Run) (sector : ℕ) → IsBad runs sector → (j : ℕ) × (run : Run) × (slice_get runs j ≡ Some run) × LiesIn sector run
run_of [] sector bad = absurd bad
run_of (run ∷ rest) sector bad = elim bad [
  | inl here ↦ (0, run, refl, here)
  | inr later ↦ let found = run_of rest sector later in (suc found.0, found.1, found.2, found.3)
]

pub run_short : (runs : List Run) (low j : ℕ) (run : Run) → RisesFrom low runs → slice_get runs j ≡ Some run → run.start + run.len ≤ 2 ^ 54
run_short [] low j run rises at = absurd cc
run_short (first ∷ rest) low zero run rises at = let same : first ≡ run = cc in subst (λ (r : Run). r.start + r.len ≤ 2 ^ 54) same rises.2
run_short (first ∷ rest) low (suc j) run rises at = run_short rest (first.start + first.len + 1) j run rises.3 at

-- marks before and after one more
pub kept_none : (marks : Bitmap) → KeepsMarks marks marks
kept_none marks = record { chunks = refl; marked = λ c set. set }

pub kept_more : (a b c : Bitmap) → KeepsMarks a b → KeepsMarks b c → KeepsMarks a c
kept_more a b c first second = record { chunks = second.chunks ∙ first.chunks; marked = λ k set. second.marked k (first.marked k set) }

pub kept_mark : (old new : Bitmap) (chunk : ℕ) → new.chunks ≡ old.chunks → ((i : ℕ) → is_set new.bytes i ≡ (i == chunk || is_set old.bytes i)) → KeepsMarks old new
kept_mark old new chunk chunks bits = record { chunks = chunks; marked = λ c set. bits c ∙ or_right (c == chunk) (is_set old.bytes c) set }

-- the chunks from `first` on and below n are marked
abbrev pub AreMarked : Bitmap → ℕ → ℕ → Type 0
AreMarked marks first n = (c : ℕ) → first ≤ c → c < n → is_set marks.bytes c ≡ true

pub marked_mark : (old new : Bitmap) (first chunk : ℕ) → KeepsMarks old new → ((i : ℕ) → is_set new.bytes i ≡ (i == chunk || is_set old.bytes i)) → AreMarked old first chunk → AreMarked new first (chunk + 1)
marked_mark old new first chunk kept bits marked c from below = elim (cases_eq c chunk) [
  | inl same ↦ bits c ∙ or_left (c == chunk) (is_set old.bytes c) (eq-eqb c chunk same)
  | inr other ↦ kept.marked c (marked c from (omega arith))
]

-- each chunk with a sector of the run is marked; sectors of the array begin at `offset`
abbrev pub HasRun : Bitmap → ℕ → ℕ → ℕ → Run → Type 0
HasRun marks width size offset run = (c s : ℕ) → InChunk width size c s → LiesIn (offset + s) run → is_set marks.bytes c ≡ true

-- the chunks from the one of the first sector to the one of the last have them all
pub has_run : (marks : Bitmap) (width size offset first end : ℕ) (run : Run) → 0 < width → first ≡ run.start - offset → (run.start + run.len) - offset ≤ end ⊎ (size ≤ end) → first < end → AreMarked marks (first / width) ((end - 1) / width + 1) → HasRun marks width size offset run
has_run marks width size offset first end run some starts ends any marked c s inside lies =
    let from = inside.from in
    let below = inside.below in
    let within = inside.within in
    let start = lies.0 in
    let stop = lies.1 in
    let early : first ≤ s = omega arith in
    let late : s < end = elim ends [ inl by_run ↦ omega arith | inr by_size ↦ omega arith ] in
    let low : first / width < c + 1 = div_below first width (c + 1) some (omega arith) in
    let high : c ≤ (end - 1) / width = le-div c (end - 1) width some (omega arith) in
    marked c (omega (arith, low)) (omega (arith, high))

-- where the array's sectors of a run end
pub ends_at : (stop offset size end top low : ℕ) → stop ≤ 2 ^ 54 → top ≡ min stop (2 ^ 64 - 1) → low ≡ top - offset → end ≡ min low size → (stop - offset ≤ end) ⊎ (size ≤ end)
ends_at stop offset size end top low short top_is low_is end_is = elim (cases_lt size low) [ inl by_size ↦ inr (omega arith) | inr by_run ↦ inl (omega arith) ]

-- nothing of the run lies in the array
pub has_none : (marks : Bitmap) (width size offset first end : ℕ) (run : Run) → first ≡ run.start - offset → (run.start + run.len) - offset ≤ end ⊎ (size ≤ end) → end ≤ first → HasRun marks width size offset run
has_none marks width size offset first end run starts ends none c s inside lies =
    let within = inside.within in
    let start = lies.0 in
    let stop = lies.1 in
    absurd (elim ends [ inl by_run ↦ omega arith | inr by_size ↦ omega arith ])

-- so are the chunks of the first i runs
abbrev pub HasRuns : Bitmap → ℕ → ℕ → ℕ → List Run → ℕ → Type 0
HasRuns marks width size offset runs i = (j : ℕ) (run : Run) → j < i → slice_get runs j ≡ Some run → HasRun marks width size offset run

pub runs_more : (old new : Bitmap) (width size offset i : ℕ) (runs : List Run) (run : Run) → KeepsMarks old new → slice_get runs i ≡ Some run → HasRun new width size offset run → HasRuns old width size offset runs i → HasRuns new width size offset runs (i + 1)
runs_more old new width size offset i runs run kept at this before j other early there = elim (cases_eq j i) [
  | inl same ↦ (let here = subst (λ (k : ℕ). slice_get runs k ≡ Some other) same there in let is : run ≡ other = cc in subst (HasRun new width size offset) is this)
  | inr apart ↦ λ c s inside lies. kept.marked c (before j other (omega arith) there c s inside lies)
]

pub runs_all : (marks : Bitmap) (width size offset i : ℕ) (runs : List Run) → length runs ≤ i → HasRuns marks width size offset runs i → (c s : ℕ) → InChunk width size c s → IsBad runs (offset + s) → is_set marks.bytes c ≡ true
runs_all marks width size offset i runs all each c s inside bad =
    let found = run_of runs (offset + s) bad in
    let within = slice_get_within runs found.0 found.1 found.2 in
    each found.0 found.1 (omega arith) found.2 c s inside found.3

-- the chunks in which one of the first n members lists a sector, if it is in sync, are marked
abbrev pub HasListed : Bitmap → ArrayView → ℕ → Type 0
HasListed marks a n = (k : ℕ) (m : MemberView) (c : ℕ) → k < n → IsInSync a k m → ListsAny a.chunks c m → is_set marks.bytes c ≡ true

pub listed_more : (old new : Bitmap) (a : ArrayView) (n : ℕ) → KeepsMarks old new → ((m : MemberView) (c : ℕ) → IsInSync a n m → ListsAny a.chunks c m → is_set new.bytes c ≡ true) → HasListed old a n → HasListed new a (n + 1)
listed_more old new a n kept this before k m c early in_sync lists = elim (cases_eq k n) [
  | inl same ↦ this m c (subst (λ (i : ℕ). IsInSync a i m) same in_sync) lists
  | inr apart ↦ kept.marked c (before k m c (omega arith) in_sync lists)
]
