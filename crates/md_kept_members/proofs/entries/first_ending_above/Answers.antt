use Rattle.std.proofs.Common.{Bool, ◌+◌, ltb, rules}
use Rattle.std.proofs.lemmas.List.Sorted.{IsPartitionPoint-from_clause}
use Rattle.md_badblocks.specs.declared.run.Run.{Run}
use Rattle.md_badblocks.proofs.Searches.{capped_end, ends_are_parted, ends_before, ends_after}
use Rattle.md_kept_members.proofs.entries.first_ending_above.Goals as goal

pub returns-clause-before : goal.returns-clause-before
returns-clause-before c =
    let runs = c.args.runs.now in
    let limit = c.args.sector + 1 in
    let p : Run → Bool = λ r. ltb (capped_end r) limit in
    let at = IsPartitionPoint-from_clause p runs _ c.partition_point.ensures.partitioned (ends_are_parted runs limit c.requires.canonical) (λ a r f' k. search rules) in
    ends_before runs limit _ c.requires.canonical c.partition_point.ensures.bound at

pub returns-clause-after : goal.returns-clause-after
returns-clause-after c =
    let runs = c.args.runs.now in
    let limit = c.args.sector + 1 in
    let p : Run → Bool = λ r. ltb (capped_end r) limit in
    let at = IsPartitionPoint-from_clause p runs _ c.partition_point.ensures.partitioned (ends_are_parted runs limit c.requires.canonical) (λ a r f' k. search rules) in
    ends_after runs limit _ c.requires.canonical at
