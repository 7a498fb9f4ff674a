-- The chunks that only some sources may give are a short set.
use Rattle.std.proofs.Common.{◌≡◌, ◌≢◌, ◌∙◌, ℕ, ◌+◌, ◌-◌, ◌*◌, ◌<◌, ◌≤◌, Bool, true, not, eqb, List, [], length, get_or, filter, sym, ap, subst, arith, inl, inr}
use Rattle.std.specs.List.{All, AllPairs}
use Rattle.std.proofs.lemmas.Bool.{and_parts, eqb-false, not-true, cases_eq}
use Rattle.std.proofs.lemmas.List.{get_or-map, length-map}
use Rattle.std.proofs.lemmas.List.Elements.{All-filter, All-map, filter_passes}
use Rattle.std.proofs.lemmas.List.Folds.{Any-from_list_any}
use Rattle.std.proofs.lemmas.List.Kept.{AllPairs-filter}
use Rattle.std.proofs.lemmas.List.Sums.{length-filter}
use Rattle.std.proofs.Math.Nat.{mul-le-mul_left}
use Rattle.md_cert.specs.declared.table.Row.{Row}
use Rattle.md_cert.specs.declared.plan.Plan.{Plan}
use Rattle.md_cert.specs.declared.plan.Certificate.{Certificate}
use Rattle.md_cert.specs.Sources.{has, count_below, count_sources}
use Rattle.md_cert.specs.Tables.{mask_of_chunk, chunks_of_rows}
use Rattle.md_cert.specs.Assignments.{IsShort, gives_any}
use Rattle.md_cert.specs.Plans.{Certifies}
use Rattle.md_cert.proofs.Counting.{sources_are}
use Rattle.md_cert.proofs.Masks.{Rises, mask_hit}
use Rattle.md_plan.specs.declared.cell.Cell.{Cell}
use Rattle.md_plan.specs.declared.bound.Bound.{Bound}
use Rattle.md_plan.specs.Cells.{count_with}
use Rattle.md_plan.specs.Classes.{count_rows}
use Rattle.md_plan.specs.Bounds.{IsShown, is_within}
use Rattle.md_plan.specs.Certificates.{chunks_within}
use Rattle.md_plan.proofs.SourceSums.{within_has}
use Rattle.md_plan.proofs.RowCounts.{passes}
use Rattle.md_plan.proofs.ReachSteps.{below_weaker}

-- the chunks of rising rows rise
chunks_rise : (rows : List Row) → Rises rows → AllPairs (λ a b. a < b) (chunks_of_rows rows)
chunks_rise rows rises i j d less within =
    let r : Row = record { chunk = 0; mask = 0 } in
    let long = length-map rows (λ (x : Row). x.chunk) in
    let a = get_or-map (λ (x : Row). x.chunk) rows i r d (omega arith) in
    let b = get_or-map (λ (x : Row). x.chunk) rows j r d (omega arith) in
    let up = rises i j r less (omega arith) in
    omega (arith, a, b, up)

-- what is known of each chunk that only these sources may give
chunks_are : (sources : ℕ) (rows : List Row) → Rises rows → All (λ chunk. (mask_of_chunk rows chunk ≢ 0) × (is_within sources (mask_of_chunk rows chunk) ≡ true)) (chunks_within sources rows)
chunks_are sources rows rises =
    let p : Row → Bool = passes (is_within sources) in
    let own : All (λ (r : Row). mask_of_chunk rows r.chunk ≡ r.mask) rows = λ k d lt. mask_hit rows rises k d lt in
    let kept = All-filter p (λ (r : Row). mask_of_chunk rows r.chunk ≡ r.mask) rows own in
    let pass = filter_passes p rows in
    All-map (λ chunk. (mask_of_chunk rows chunk ≢ 0) × (is_within sources (mask_of_chunk rows chunk) ≡ true)) (λ (r : Row). r.chunk) (filter p rows)
    (λ k d lt.
    let r : Row = get_or (filter p rows) k d in
    let both = and_parts (not (eqb r.mask 0)) (is_within sources r.mask) (pass k d lt) in
    let is = kept k d lt in (
      λ none. eqb-false r.mask 0 (not-true (eqb r.mask 0) both.0) (sym is ∙ none),
      ap (is_within sources) is ∙ both.1,
    ))

pub shown_short : (rows : List Row) → Rises rows → (cells : List Cell) (bound : Bound) → ((q : ℕ → Bool) → count_with q cells ≡ count_rows q rows) → (n : ℕ) → bound.rounds ≡ n + 1 → IsShown cells bound → IsShort rows (chunks_within bound.sources rows) n
shown_short rows rises cells bound same n rounds shown =
    let sources = bound.sources in
    let p : Row → Bool = passes (is_within sources) in
    let chunks = chunks_within sources rows in
    let are = chunks_are sources rows rises in
    let long : length chunks ≡ count_rows (is_within sources) rows = length-map (filter p rows) (λ (x : Row). x.chunk) ∙ length-filter p rows in
    let fewer : count_below (gives_any rows chunks) 32 ≤ count_below (has sources) 32 =
    below_weaker (has sources) (gives_any rows chunks) 32 (λ s lt it.
    let some = Any-from_list_any (λ chunk. has (mask_of_chunk rows chunk) s) chunks it in
    let at : has (mask_of_chunk rows some.1) s ≡ true = some.4 in
    let known = are some.0 some.1 some.2 in
    within_has sources (mask_of_chunk rows some.1) s (ap (λ c. is_within sources (mask_of_chunk rows c)) (sym some.3) ∙ known.1) at) in
    let few : count_sources (gives_any rows chunks) ≤ count_sources (has sources) = let a = sources_are (gives_any rows chunks) in let b = sources_are (has sources) in omega (arith, fewer, a, b) in
    let times : n * count_sources (gives_any rows chunks) ≤ n * count_sources (has sources) = mul-le-mul_left n few in
    let less : (bound.rounds - 1) * count_sources (has sources) < count_with (is_within sources) cells = elim shown [
      | inl none ↦ absurd (omega (arith, none, rounds))
      | inr it ↦ it
    ] in
    let m : bound.rounds - 1 ≡ n = omega (arith, rounds) in
    let less' : n * count_sources (has sources) < count_with (is_within sources) cells = subst (λ k. k * count_sources (has sources) < count_with (is_within sources) cells) m less in
    let s = same (is_within sources) in
    record {
      rising = chunks_rise (filter p rows) (AllPairs-filter (λ (a b : Row). a.chunk < b.chunk) p rows rises);
      given = λ k d lt. (are k d lt).0;
      more = omega (arith, times, less', s, long);
    }

pub certifies : (rows : List Row) → Rises rows → (cells : List Cell) (bound : Bound) (plan : Plan) (certificate : Certificate) → ((q : ℕ → Bool) → count_with q cells ≡ count_rows q rows) → IsShown cells bound
    → plan.rounds ≡ bound.rounds → certificate.rounds ≡ bound.rounds - 1 → (bound.rounds ≡ 0 → certificate.chunks ≡ []) → (bound.rounds ≢ 0 → certificate.chunks ≡ chunks_within bound.sources rows) → Certifies rows plan certificate
certifies rows rises cells bound plan certificate same shown plan_is rounds_is none_is chunks_is =
    elim (cases_eq bound.rounds 0) [
      | inl zero_rounds ↦ inl (omega (arith, plan_is, zero_rounds), omega (arith, rounds_is, zero_rounds), none_is zero_rounds)
      | inr some ↦
          let next : bound.rounds ≡ certificate.rounds + 1 = omega (arith, rounds_is, some) in
          inr (
            plan_is ∙ next,
            subst (λ xs. IsShort rows xs certificate.rounds) (sym (chunks_is some)) (shown_short rows rises cells bound same certificate.rounds next shown),
          )
    ]
