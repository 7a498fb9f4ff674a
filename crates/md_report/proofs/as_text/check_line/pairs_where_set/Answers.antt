use Rattle.std.proofs.Common.{◌≡◌, ◌∙◌, ◌++◌, ℕ, List, ap, get_or, length, refl, subst, sym, take, arith, rules}
use Rattle.std.specs.List.{flat_map}
use Rattle.std.proofs.lemmas.List.{take_all}
use Rattle.std.proofs.lemmas.Option.{get_or_from_slice_get, slice_get_read}
use Rattle.md_collect.specs.declared.found.Pair.{Pair}
use Rattle.md_streams.specs.Sink.{Puts}
use Rattle.md_report.specs.AsText.CheckReport.{pair_in}
use Rattle.md_streams.proofs.Puts.{puts_then, puts_nothing, flat_map_at}
use Rattle.md_report.proofs.as_text.check_line.pairs_where_set.Goals as goal

pub loop-pair-init : goal.loop-pair-init
loop-pair-init g c = puts_nothing g.S.Sink.contents g.S.Sink.failed c.args.out.now

pub loop-pair-preserved : goal.loop-pair-preserved
loop-pair-preserved g c =
    let all = c.args.pairs.now in
    let i = c.loop-pair.pair-index in
    let it = c.pair-item.result in
    let f = pair_in c.args.c in
    let P : List ℕ → Type 0 = λ t. Puts g.S.Sink.contents g.S.Sink.failed c.args.out.now c.pair_where_set.new.out t in
    let here : get_or all i it ≡ it = get_or_from_slice_get all i it it (slice_get_read all (length all) i it refl c.loop-pair-test.true c.pair-item.is) in
    subst P (ap (λ (pair : Pair). flat_map f (take i all) ++ f pair) (sym here) ∙ flat_map_at f all i it c.loop-pair-test.true)
    (puts_then g.S.Sink.contents g.S.Sink.failed c.loop-pair.invariant c.in_ok-pair_where_set.ensures)

pub returns : goal.returns
returns g c =
    let P : List ℕ → Type 0 = λ t. Puts g.S.Sink.contents g.S.Sink.failed c.args.out.now c.loop-pair.out t in
    subst P (ap (flat_map (pair_in c.args.c)) (take_all c.loop-pair.pair-index c.args.pairs.now (search (rules, arith)))) c.loop-pair.invariant
