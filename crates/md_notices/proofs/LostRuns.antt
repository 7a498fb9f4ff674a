-- Runs of bad sectors, past those that end before a sector.
use Rattle.std.proofs.Common.{◌≡◌, ◌∙◌, ℕ, zero, suc, ◌+◌, ◌<◌, ◌≤◌, ◌^◌, Bool, true, false, inl, inr, List, [], ◌∷◌, get_or, length, take, drop, arith, refl, sym, subst}
use Rattle.std.specs.List.{AllByRecursion}
use Rattle.md_badblocks.specs.declared.run.Run.{Run}
use Rattle.md_badblocks.specs.Runs.{IsBad, LiesIn, RisesFrom}
use Rattle.md_kept_members.specs.SectorLists.{in_runs}
use Rattle.md_kept_members.proofs.SectorSets.{bad_in}

-- what is no bad sector is none by the test
by_answer : (runs : List Run) (s : ℕ) (b : Bool) → in_runs runs s ≡ b → (IsBad runs s → ⊥) → b ≡ false
by_answer runs s false e not = refl
by_answer runs s true e not = absurd (not (bad_in runs s e))

pub none_in : (runs : List Run) (s : ℕ) → (IsBad runs s → ⊥) → in_runs runs s ≡ false
none_in runs s not = by_answer runs s (in_runs runs s) refl not

-- runs that rise from past a sector don't have it
later_none : (runs : List Run) (low s : ℕ) → RisesFrom low runs → s < low → IsBad runs s → ⊥
later_none [] low s rise lt bad = bad
later_none (run ∷ runs) low s rise lt (inl here) = absurd (omega (arith, rise.0, here.0, lt))
later_none (run ∷ runs) low s rise lt (inr later) = later_none runs (run.start + run.len + 1) s rise.3 (omega (arith, rise.0, lt)) later

-- All runs end before a sector: so a later one lies in none of them.
pub past_all : (runs : List Run) (place limit s : ℕ) → length runs ≤ place → AllByRecursion (λ run. run.start + run.len < limit) (take place runs) → limit ≤ s + 1 → IsBad runs s → ⊥
past_all [] place limit s le before past bad = bad
past_all (run ∷ runs) zero limit s le before past bad = absurd (omega (arith, le))
past_all (run ∷ runs) (suc place) limit s le before past (inl here) = absurd (omega (arith, before.0, here.1, past))
past_all (run ∷ runs) (suc place) limit s le before past (inr later) = past_all runs place limit s (omega (arith, le)) before.1 past later

-- The run in a place has its sectors.
pub bad_there : (runs : List Run) (place s : ℕ) (run : Run) → place < length runs → run ≡ get_or runs place run → LiesIn s run → IsBad runs s
bad_there [] place s run lt at here = absurd (omega (arith, lt))
bad_there (r ∷ runs) zero s run lt at here = inl (subst (LiesIn s) at here)
bad_there (r ∷ runs) (suc place) s run lt at here = inr (bad_there runs place s run (omega (arith, lt)) at here)

-- The runs before it end before a sector: so a later one, before this run, lies in none.
pub between : (runs : List Run) (low place limit s : ℕ) (run : Run) → RisesFrom low runs → place < length runs → run ≡ get_or runs place run
    → AllByRecursion (λ r. r.start + r.len < limit) (take place runs) → limit ≤ s + 1 → s < run.start → IsBad runs s → ⊥
between [] low place limit s run rise lt at before past out bad = bad
between (r ∷ runs) low zero limit s run rise lt at before past out (inl here) =
    let start = subst (λ (q : Run). s < q.start) at out in
    absurd (omega (arith, here.0, start))
between (r ∷ runs) low zero limit s run rise lt at before past out (inr later) =
    let start = subst (λ (q : Run). s < q.start) at out in
    later_none runs (r.start + r.len + 1) s rise.3 (omega (arith, start)) later
between (r ∷ runs) low (suc place) limit s run rise lt at before past out (inl here) = absurd (omega (arith, before.0, here.1, past))
between (r ∷ runs) low (suc place) limit s run rise lt at before past out (inr later) =
    between runs (r.start + r.len + 1) place limit s run rise.3 (omega (arith, lt)) at before.1 past out later

-- It ends at a sector or past it, as those after it do, and by sector 2^54.
pub ends_there : (runs : List Run) (place limit : ℕ) (run : Run) → place < length runs → run ≡ get_or runs place run
    → AllByRecursion (λ r. limit ≤ r.start + r.len) (drop place runs) → limit ≤ run.start + run.len
ends_there [] place limit run lt at after = absurd (omega (arith, lt))
ends_there (r ∷ runs) zero limit run lt at after = subst (λ (q : Run). limit ≤ q.start + q.len) (sym at) after.0
ends_there (r ∷ runs) (suc place) limit run lt at after = ends_there runs place limit run (omega (arith, lt)) at after

pub fits_there : (runs : List Run) (low place : ℕ) (run : Run) → RisesFrom low runs → place < length runs → run ≡ get_or runs place run → run.start + run.len ≤ 2 ^ 54
fits_there [] low place run rise lt at = absurd (omega (arith, lt))
fits_there (r ∷ runs) low zero run rise lt at = subst (λ (q : Run). q.start + q.len ≤ 2 ^ 54) (sym at) rise.2
fits_there (r ∷ runs) low (suc place) run rise lt at = fits_there runs (r.start + r.len + 1) place run rise.3 (omega (arith, lt)) at

-- a test that is known either way
pub by_flag : (b : Bool) (x : Bool) → (b ≡ true → x ≡ true) → (b ≡ false → x ≡ false) → x ≡ b
by_flag true x when_true when_false = when_true refl
by_flag false x when_true when_false = when_false refl
