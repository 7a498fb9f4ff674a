use Rattle.std.proofs.Common.{◌≡◌, ◌∙◌, ◌++◌, ℕ, List, length, take, get_or, ap, sym, refl, subst, arith, rules}
use Rattle.std.specs.List.{flat_map}
use Rattle.std.proofs.lemmas.List.{take_all}
use Rattle.std.proofs.lemmas.Option.{get_or_from_slice_get, slice_get_read}
use Rattle.md_examine_commands.specs.declared.scan.seen.Seen.{Seen}
use Rattle.md_streams.specs.Sink.{Puts}
use Rattle.md_streams.proofs.Puts.{puts_then, puts_nothing, flat_map_at}
use Rattle.md_examine_commands.specs.ScanText.{other_comment}
use Rattle.md_examine_commands.proofs.scan.member_comments.put_others.Goals as goal

pub loop-seen-init : goal.loop-seen-init
loop-seen-init g c = puts_nothing g.S.Sink.contents g.S.Sink.failed c.args.out.now

pub loop-seen-preserved : goal.loop-seen-preserved
loop-seen-preserved g c =
    let P : List ℕ → Type 0 = λ t. Puts g.S.Sink.contents g.S.Sink.failed c.args.out.now c.put_other.new.out t in
    let all = c.args.all.now in
    let i = c.loop-seen.seen-index in
    let it = c.seen-item.result in
    let here : get_or all i it ≡ it = get_or_from_slice_get all i it it (slice_get_read all (length all) i it refl c.loop-seen-test.true c.seen-item.is) in
    subst P (ap (λ (s : Seen). flat_map (other_comment c.args.v.now) (take i all) ++ (other_comment c.args.v.now) s) (sym here) ∙ flat_map_at (other_comment c.args.v.now) all i it c.loop-seen-test.true)
    (puts_then g.S.Sink.contents g.S.Sink.failed c.loop-seen.invariant c.in_ok-put_other.ensures)

pub returns : goal.returns
returns g c =
    let P : List ℕ → Type 0 = λ t. Puts g.S.Sink.contents g.S.Sink.failed c.args.out.now c.loop-seen.out t in
    subst P (ap (flat_map (other_comment c.args.v.now)) (take_all c.loop-seen.seen-index c.args.all.now (search (rules, arith)))) c.loop-seen.invariant
