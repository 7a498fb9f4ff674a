use Rattle.std.proofs.Common.{◌≡◌, ◌∙◌, ◌++◌, ℕ, List, length, take, get_or, ap, sym, refl, subst, arith, rules}
use Rattle.std.specs.List.{flat_map}
use Rattle.std.proofs.lemmas.List.{take_all}
use Rattle.std.proofs.lemmas.Option.{get_or_from_slice_get, slice_get_read}
use Rattle.md_raw_reports.specs.declared.super_fields.Found.{Found}
use Rattle.md_streams.specs.Sink.{Puts}
use Rattle.md_raw_reports.specs.SuperFields.{found_text}
use Rattle.md_streams.proofs.Puts.{puts_then, puts_nothing, flat_map_at}
use Rattle.md_raw_reports.proofs.super_fields.found_lines.Goals as goal

pub loop-it-init : goal.loop-it-init
loop-it-init g c = puts_nothing g.S.Sink.contents g.S.Sink.failed c.args.out.now

pub loop-it-preserved : goal.loop-it-preserved
loop-it-preserved g c =
    let P : List ℕ → Type 0 = λ t. Puts g.S.Sink.contents g.S.Sink.failed c.args.out.now c.found_line.new.out t in
    let all = c.args.found.now in
    let i = c.loop-it.it-index in
    let it = c.it-item.result in
    let here : get_or all i it ≡ it = get_or_from_slice_get all i it it (slice_get_read all (length all) i it refl c.loop-it-test.true c.it-item.is) in
    subst P (ap (λ (f : Found). flat_map found_text (take i all) ++ found_text f) (sym here) ∙ flat_map_at found_text all i it c.loop-it-test.true)
    (puts_then g.S.Sink.contents g.S.Sink.failed c.loop-it.invariant c.in_ok-found_line.ensures)

pub returns : goal.returns
returns g c =
    let P : List ℕ → Type 0 = λ t. Puts g.S.Sink.contents g.S.Sink.failed c.args.out.now c.loop-it.out t in
    subst P (ap (flat_map (found_text)) (take_all c.loop-it.it-index c.args.found.now (search (rules, arith)))) c.loop-it.invariant
