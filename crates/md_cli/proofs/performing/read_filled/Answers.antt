use Rattle.std.proofs.Common.{◌≡◌, Option, rules, subst}
use Rattle.md_streams.specs.declared.gaps.Gaps.{Gaps}
use Rattle.md_cli.specs.Performing.{JoinsEarlier}
use Rattle.md_cli.proofs.ReadOn.{flushed_on}
use Rattle.md_cli.proofs.performing.read_filled.Goals as goal

pub returns-clause-reads : goal.returns-clause-reads
returns-clause-reads g c =
    let call = c.read_array_filled-gaps in
    let all = c.with_earlier-gaps in
    let was : c.take.result ≡ c.args.session.now.gaps = search rules in
    record {
      told = call.result.0;
      part = call.result.1;
      reads = call.ensures.gives;
      goes_on = subst (λ (w : Option Gaps). JoinsEarlier w call.result.0 call.result.1 all.result.0 all.result.1) was all.ensures;
    }

pub returns-clause-flushed : goal.returns-clause-flushed
returns-clause-flushed g c =
    let call = c.read_array_filled-gaps in
    let all = c.with_earlier-gaps in
    flushed_on g.S.Sink c.args.readonly c.args.sector c.args.count c.args.opened.now.mirror call.new.mirror c.args.session.now.out call.new.out c.take.result call.result.0 call.result.1 all.result.0 all.result.1 call.ensures.gives all.ensures
