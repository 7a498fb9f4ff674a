use Rattle.std.proofs.Common.{◌≡◌, ◌+◌, Err, List, ap, arith, drop, length, rules, subst}
use Rattle.std.proofs.lemmas.List.{drop_more}
use Rattle.md_badblocks.specs.declared.run.Run.{Run}
use Rattle.md_read_commands.proofs.Noted.{IsJoinedTo, joined_in_part, joined_more, kept_more, some_bad}
use Rattle.md_read_commands.proofs.noting.add_all.Goals as goal

pub loop-run-preserved : goal.loop-run-preserved
loop-run-preserved c =
    let runs = c.args.more.now in
    let i = c.loop-run.run-index in
    let here = drop_more runs i _ c.loop-run-test.true in
    let added = c.in_ok-add.ensures.ok in
    record {
      joined = joined_more c.args.set.now runs (drop (i + 1) runs) c.loop-run.set c.add.new.self _ (c.requires.fit i _ c.loop-run-test.true).1 (subst (λ rest. IsJoinedTo c.args.set.now runs rest c.loop-run.set) here c.loop-run.invariant.joined) added;
      kept = kept_more c.args.set.now c.loop-run.set c.add.new.self _ _ c.loop-run.invariant.kept added;
    }

pub returns-in_err-add : goal.returns-in_err-add
returns-in_err-add c =
    let fault = c.in_err-add.field-0.0 in
    let passed : c.from_residual.result ≡ Err fault = search rules in
    let runs = c.args.more.now in
    let below = c.loop-run-test.true in
    rw passed (
      joined_in_part c.args.set.now runs (drop c.loop-run.run-index runs) c.loop-run.set c.add.new.self c.in_err-add.ensures.err c.loop-run.invariant.kept c.loop-run.invariant.joined,
      some_bad runs c.requires.fit (λ none. let long = ap (λ (xs : List Run). length xs) none in absurd (omega arith)),
    )
