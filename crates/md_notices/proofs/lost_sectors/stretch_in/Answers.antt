use Rattle.std.proofs.Common.{◌≡◌, ◌+◌, ◌<◌, ◌≤◌, Bool, false, List, length, arith, sym, subst}
use Rattle.std.proofs.lemmas.Bool.{ltb-true, ltb-false}
use Rattle.md_badblocks.specs.declared.run.Run.{Run}
use Rattle.md_kept_members.specs.SectorLists.{in_runs}
use Rattle.md_kept_members.proofs.SectorSets.{in_bad}
use Rattle.md_badblocks.specs.Runs.{IsCanonical}
use Rattle.md_notices.proofs.LostRuns.{bad_there, between, by_flag, ends_there, fits_there, none_in, past_all}
use Rattle.md_notices.proofs.lost_sectors.stretch_in.Goals as goal

pub returns-in-None-clause-alike : goal.returns-in-None-clause-alike
returns-in-None-clause-alike c s low high =
    let runs = c.runs-runs.result.now in
    let place = c.first_ending_at-place.result in
    let limit = c.saturating_add.result in
    let over : length runs ≤ place = ltb-false _ _ (sym (c.in-None.ensures.lookup.0)) in
    let past : limit ≤ c.args.offset + s + 1 = omega (arith, low, c.saturating_add.ensures, c.saturating_add-sector.ensures) in
    subst (λ (xs : List Run). in_runs xs (c.args.offset + s) ≡ false) c.runs-runs.ensures.runs
    (none_in runs (c.args.offset + s) (past_all runs place limit (c.args.offset + s) over c.first_ending_at-place.ensures.before past))

pub stretch_by-requires-clause-ends : goal.stretch_by-requires-clause-ends
stretch_by-requires-clause-ends c =
    let runs = c.runs-runs.result.now in
    let place = c.first_ending_at-place.result in
    let there : place < length runs = ltb-true _ _ (sym (c.in-Some.ensures.lookup.0)) in
    let canonical = subst IsCanonical (sym c.runs-runs.ensures.runs) c.runs-runs.ensures.canonical in
    let ends = ends_there runs place c.saturating_add.result c.in-Some.run'.now there c.in-Some.ensures.lookup.1 c.first_ending_at-place.ensures.after in
    let fits = fits_there runs 0 place c.in-Some.run'.now canonical there c.in-Some.ensures.lookup.1 in
    omega (arith, ends, fits, c.saturating_add.ensures, c.saturating_add-sector.ensures)

pub stretch_by-requires-clause-fits : goal.stretch_by-requires-clause-fits
stretch_by-requires-clause-fits c =
    let runs = c.runs-runs.result.now in
    let place = c.first_ending_at-place.result in
    let there : place < length runs = ltb-true _ _ (sym (c.in-Some.ensures.lookup.0)) in
    let canonical = subst IsCanonical (sym c.runs-runs.ensures.runs) c.runs-runs.ensures.canonical in
    fits_there runs 0 place c.in-Some.run'.now canonical there c.in-Some.ensures.lookup.1

pub returns-in-Some-clause-alike : goal.returns-in-Some-clause-alike
returns-in-Some-clause-alike c s low high =
    let runs = c.runs-runs.result.now in
    let place = c.first_ending_at-place.result in
    let limit = c.saturating_add.result in
    let run = c.in-Some.run'.now in
    let at = c.args.offset + s in
    let there : place < length runs = ltb-true _ _ (sym (c.in-Some.ensures.lookup.0)) in
    let canonical = subst IsCanonical (sym c.runs-runs.ensures.runs) c.runs-runs.ensures.canonical in
    let past : limit ≤ at + 1 = omega (arith, low, c.saturating_add.ensures, c.saturating_add-sector.ensures) in
    subst (λ (xs : List Run). in_runs xs at ≡ c.stretch_by.result.0) c.runs-runs.ensures.runs
    (by_flag c.stretch_by.result.0 (in_runs runs at)
    (λ is. let inside = c.stretch_by.ensures.inside is in in_bad runs at (bad_there runs place at run there c.in-Some.ensures.lookup.1 (omega (arith, inside.0, low), omega (arith, inside.1, high))))
    (λ is. let outside = c.stretch_by.ensures.outside is in none_in runs at (between runs 0 place limit at run canonical there c.in-Some.ensures.lookup.1 c.first_ending_at-place.ensures.before past (omega (arith, outside, high)))))
