use Rattle.std.proofs.Common.{◌∙◌, ◌≡◌, ◌+◌, ◌^◌, ◌<◌, ◌≤◌, ap, arith, eqb-true, inl, inr, length, sym}
use Rattle.std.proofs.lemmas.Bool.{cases_lt}
use Rattle.md_notices.specs.UngivenChunks.{lists_between}
use Rattle.md_notices.proofs.UngivenLists.{between_is, none_of_none, none_so_high}
use Rattle.md_notices.proofs.ungiven_chunks.lists_between.Goals as goal

pub returns-then-is_empty : goal.returns-then-is_empty
returns-then-is_empty c =
    let none = ap length (sym c.runs.ensures.runs) ∙ eqb-true _ _ (sym c.if-is_empty.ensures) in
    none_of_none c.args.bad.now (c.args.offset + c.args.start) (c.args.offset + (c.args.start + c.args.sectors)) none

pub returns-in-Some : goal.returns-in-Some
returns-in-Some c =
    let from : c.in-Some.first ≡ c.args.offset + c.args.start = c.in-Some.ensures.1 in
    let to : c.in-Some.first + c.args.sectors ≡ c.args.offset + (c.args.start + c.args.sectors) = omega (arith, from) in
    let wide : c.in-Some.first < c.in-Some.first + c.args.sectors = omega (arith, c.requires) in
    let told = between_is c.args.bad.now c.in-Some.first (c.in-Some.first + c.args.sectors) c.meets.result c.runs.ensures.canonical wide c.meets.ensures in
    told ∙ ap (λ x. lists_between c.args.bad.now x (c.in-Some.first + c.args.sectors)) from ∙ ap (lists_between c.args.bad.now (c.args.offset + c.args.start)) to

pub returns-in-None : goal.returns-in-None
returns-in-None c =
    let past : 2 ^ 64 ≤ c.args.offset + c.args.start = elim (cases_lt (c.args.offset + c.args.start) (2 ^ 64)) [ inl fits ↦ absurd (c.in-None.ensures fits) | inr past ↦ past ] in
    none_so_high c.args.bad.now (c.args.offset + c.args.start) (c.args.offset + (c.args.start + c.args.sectors)) c.runs.ensures.canonical (omega (arith, past))
