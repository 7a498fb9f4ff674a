use Rattle.std.proofs.Common.{Bool, ltb, rules}
use Rattle.std.proofs.lemmas.List.Sorted.{IsPartitionPoint-from_clause}
use Rattle.md_badblocks.specs.declared.run.Run.{Run}
use Rattle.md_badblocks.proofs.Searches.{capped_end, ends_are_parted, ends_before, ends_after}
use Rattle.md_notices.proofs.lost_sectors.first_ending_at.Goals as goal

pub returns-clause-before : goal.returns-clause-before
returns-clause-before c =
    let p : Run → Bool = λ r. ltb (capped_end r) c.args.sector in
    let at = IsPartitionPoint-from_clause p c.args.runs.now _ c.partition_point.ensures.partitioned (ends_are_parted c.args.runs.now c.args.sector c.requires) (λ a r f' k. search rules) in
    ends_before c.args.runs.now c.args.sector _ c.requires c.partition_point.ensures.bound at

pub returns-clause-after : goal.returns-clause-after
returns-clause-after c =
    let p : Run → Bool = λ r. ltb (capped_end r) c.args.sector in
    let at = IsPartitionPoint-from_clause p c.args.runs.now _ c.partition_point.ensures.partitioned (ends_are_parted c.args.runs.now c.args.sector c.requires) (λ a r f' k. search rules) in
    ends_after c.args.runs.now c.args.sector _ c.requires at
