use Rattle.std.proofs.Common.{◌≡◌, ◌∙◌, ap, sym, arith, rules, length, take, get_or, refl}
use Rattle.std.specs.List.{fold}
use Rattle.std.proofs.lemmas.List.{take_all}
use Rattle.std.proofs.lemmas.List.Sums.{fold_more}
use Rattle.std.proofs.lemmas.Option.{get_or_from_slice_get, slice_get_read}
use Rattle.md_super.specs.declared.superblock.Superblock.{Superblock}
use Rattle.md_examine_commands.specs.ScanText.{fresher}
use Rattle.md_examine_commands.specs.declared.scan.seen.Seen.{Seen}
use Rattle.md_examine_commands.proofs.scan.seen.freshest.Goals as goal

pub loop-seen-preserved : goal.loop-seen-preserved
loop-seen-preserved c =
    let all = c.args.rest.now in
    let i = c.loop-seen.seen-index in
    let it = c.seen-item.result in
    let here : get_or all i it ≡ it = get_or_from_slice_get all i it it (slice_get_read all (length all) i it refl c.loop-seen-test.true c.seen-item.is) in
    c.fresher-best.ensures
    ∙ ap (λ (b : Superblock). fresher b it) c.loop-seen.invariant
    ∙ ap (λ (s : Seen). fresher (fold fresher c.args.first.now (take i all)) s) (sym here)
    ∙ sym (fold_more fresher c.args.first.now all i it c.loop-seen-test.true)

pub returns : goal.returns
returns c = c.loop-seen.invariant ∙ ap (fold fresher c.args.first.now) (take_all c.loop-seen.seen-index c.args.rest.now (search (rules, arith)))
