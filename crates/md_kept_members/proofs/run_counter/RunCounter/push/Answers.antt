use Rattle.std.proofs.Common.{refl}
use Rattle.md_kept_members.proofs.EntryCounts.{pushed_anew, pushed_on}
use Rattle.md_kept_members.proofs.run_counter.RunCounter.push.Goals as goal

pub returns-then-self-start-clause-counts : goal.returns-then-self-start-clause-counts
returns-then-self-start-clause-counts c =
    λ list h all before. pushed_anew c.args.start c.args.end list c.args.self _ h c.requires.ordered c.if-self-start.true c.total.ensures refl refl all before

pub returns-clause-counts : goal.returns-clause-counts
returns-clause-counts c =
    λ list h all before. pushed_on c.args.start c.args.end list c.args.self _ h c.requires.ordered c.if-self-start.false refl refl refl c.args.self.ordered all before
